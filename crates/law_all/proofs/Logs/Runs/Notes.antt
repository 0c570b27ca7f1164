-- What the notes of a call say of rows, by what the record counts of the call: a row given, rows that went back, and a row retired.
use Rattle.std.proofs.Common.{Bool, None, [], ap, arith, false, length, length-append, refl, sym, true, ℕ, ◌+◌, ◌∙◌, ◌∷◌, ◌≡◌}
use Rattle.std.proofs.lemmas.Bool.Decides.{nat_tests}
use Rattle.std.specs.Prelude.{if◌then◌else◌, is_some, nat_lt, ◌==◌}
use Rattle.law_all.specs.inv.model.defs.declared.event.Event.TheVariants as events
use Rattle.law_all.specs.inv.model.defs.declared.event.Event.{Event}
use Rattle.law_all.specs.inv.history.Record.Past.{Start, Then}
use Rattle.law_all.specs.inv.history.Record.{Past, begins, own, told_since}
use Rattle.law_all.proofs.letter.Each.{counted_by, times_seen}
use Rattle.law_all.specs.Logs.Ledgers.{Ledger, ledger_by, no_ledger, notes_of}
use Rattle.law_all.specs.laws.StateAt.{has_told, is_back, is_give, retires_by, retires_of, seen, times}

-- what two folds of a seat's events come to stays related where each event keeps it so
pub both_seen : {X Y : Type 0} (R : X → Y → Type 0) (next : Event → X → X) (first : X) (other : Event → Y → Y) (start : Y) → R first start
    → ((event : Event) (x : X) (y : Y) → R x y → R (next event x) (other event y))
    → (k : ℕ) (p : Past) → R (seen next first k p) (seen other start k p)
both_seen R next first other start s f k Start = s
both_seen R next first other start s f k (Then p i event) = by (k == i) (both_seen R next first other start s f k p)
  where
    by : (same : Bool) → R (seen next first k p) (seen other start k p)
        → R (if same then next event (seen next first k p) else seen next first k p) (if same then other event (seen other start k p) else seen other start k p)
    by true h = f event (seen next first k p) (seen other start k p) h
    by false h = h

-- a row is noted only where one was given
abbrev Given : Ledger → ℕ → Type 0
Given x n = n ≡ 0 → x.notes.given ≡ None

given_by : (event : Event) (x : Ledger) (n : ℕ) → Given x n → Given (ledger_by event x) (counted_by is_give event n)
given_by (events.Begin call) x n h e = refl
given_by (events.Give slot birth) x n h e = absurd (omega (arith, e))
given_by event x n h e = h e

none_told : (n : ℕ) → nat_lt 0 n ≡ false → n ≡ 0
none_told n h = grind (arith, nat_tests)

pub none_given : (k : ℕ) (p : Past) → has_told k is_give p ≡ false → (notes_of k p).given ≡ None
none_given k p h =
    both_seen Given ledger_by no_ledger (counted_by is_give) 0 (λ e. refl) given_by k p
    (sym (times_seen is_give k p) ∙ none_told (told_since (begins k) (own k is_give) p) h)

-- so many slots are noted as rows went back
abbrev Backs : Ledger → ℕ → Type 0
Backs x n = n ≡ length x.notes.back

backs_by : (event : Event) (x : Ledger) (n : ℕ) → Backs x n → Backs (ledger_by event x) (counted_by is_back event n)
backs_by (events.Begin call) x n h = refl
backs_by (events.Back slot) x n h = ap (λ (m : ℕ). m + 1) h ∙ sym (length-append x.notes.back (slot ∷ []))
backs_by event x n h = h

pub backs_noted : (k : ℕ) (p : Past) → times k is_back p ≡ length (notes_of k p).back
backs_noted k p = times_seen is_back k p ∙ both_seen Backs ledger_by no_ledger (counted_by is_back) 0 refl backs_by k p

-- a life is noted just where a row was retired
abbrev Retired : Ledger → ℕ → Type 0
Retired x n = is_some x.notes.retired ≡ nat_lt 0 n

one_retired : (n : ℕ) → true ≡ nat_lt 0 (n + 1)
one_retired n = grind (arith, nat_tests)

retired_by_one : (event : Event) (x : Ledger) (n : ℕ) → Retired x n → Retired (ledger_by event x) (retires_by event n)
retired_by_one (events.Begin call) x n h = refl
retired_by_one (events.Retire slot birth retire) x n h = one_retired n
retired_by_one event x n h = h

pub retired_noted : (k : ℕ) (p : Past) → is_some (notes_of k p).retired ≡ nat_lt 0 (retires_of k p)
retired_noted k p = both_seen Retired ledger_by no_ledger retires_by 0 refl retired_by_one k p
