-- Rows: the notes of calls tell each Give, Unused and Back, and a row is taken as often as it was given, less as often as it was given up
-- or went back.
use Rattle.std.proofs.Common.{ℕ, ◌≡◌, ◌+◌, Bool, true, false, List, refl, sym, ap, ◌∙◌, subst, arith}
use Rattle.std.proofs.lemmas.List.Sums.{sum_by_push}
use Rattle.std.specs.Prelude.{count_by, if◌then◌else◌, ◌&&◌, ◌==◌}
use Rattle.law_all.proofs.inv.model.Facts.{false_of_not, first_of, number_is}
use Rattle.law_all.specs.inv.model.Desks.{Notes, no_notes, noted}
use Rattle.law_all.specs.inv.model.Locals.{Group}
use Rattle.law_all.specs.inv.model.defs.declared.event.Event.{Event}
use Rattle.law_all.specs.inv.model.defs.declared.event.Event.TheVariants as events
use Rattle.law_all.specs.inv.model.defs.declared.event.Root.TheVariants as roots
use Rattle.law_all.specs.inv.model.words.declared.config.Config.{Config}
use Rattle.law_all.specs.inv.model.words.declared.layout.Layout.{Layout}
use Rattle.law_all.proofs.laws.Tells.{seen_other, seen_own}
use Rattle.law_all.specs.laws.HistoryRows.{is_in_hand, is_without, once_ok, places_right, placing_ok}
use Rattle.law_all.specs.laws.StateAt.Given.{InHand, Placed, Without}
use Rattle.law_all.specs.laws.Lists.{has_slot, list_of}
use Rattle.law_all.specs.laws.StateAt.{Given, given_by, given_of, one, taken_at, told}
use Rattle.law_all.specs.Logs.Ledgers.{Ledger, ledger_by, ledger_of, no_ledger, notes_of}
use Rattle.law_all.specs.inv.history.History.{Item, record_of}
use Rattle.law_all.specs.inv.history.Record.{Each, Past}
use Rattle.law_all.specs.inv.history.Record.Past.{Start, Then}
use Rattle.law_all.specs.RunLaw.{backs_in, gives, is_slot_of, total, unuseds}
use Rattle.law_all.specs.Runs.{AtRest, logs_of}
use Rattle.law_all.proofs.Runs.Kept.{Kept, histories_keep}
use Rattle.law_all.proofs.Runs.Numbers.{differs_either, one_counts, same_either}
use Rattle.law_all.proofs.Runs.Rests.{totals_fit}
use Rattle.law_all.proofs.Runs.Weights.{IsInner, Measure, Rises, Weighs}

-- the events of row s
abbrev is_give_of : ℕ → Event → Bool
is_give_of s (events.Give slot birth) = slot == s
is_give_of s event = false

abbrev is_unused_of : ℕ → Event → Bool
is_unused_of s (events.Unused slot) = slot == s
is_unused_of s event = false

abbrev is_back_of : ℕ → Event → Bool
is_back_of s (events.Back slot) = slot == s
is_back_of s event = false

-- what notes say of it
abbrev given_in : ℕ → Notes → ℕ
given_in s notes = one (is_slot_of s notes.given)

abbrev unused_in : ℕ → Notes → ℕ
unused_in s notes = one (notes.unused && is_slot_of s notes.given)

abbrev back_in : ℕ → Notes → ℕ
back_in s notes = count_by (λ (other : ℕ). other == s) notes.back

-- of seat k, with one entry more
notes_own : (k : ℕ) (p : Past) (event : Event) → notes_of k (Then p k event) ≡ (ledger_by event (ledger_of k p)).notes
notes_own k p event = ap (λ (x : Ledger). x.notes) (seen_own ledger_by no_ledger k p event)

notes_other : (k i : ℕ) (p : Past) (event : Event) → (k == i) ≡ false → notes_of k (Then p i event) ≡ notes_of k p
notes_other k i p event e = ap (λ (x : Ledger). x.notes) (seen_other ledger_by no_ledger k i p event e)

-- what the notes of a call say of row s, by what it has done of rows
record Noted (s : ℕ) (row : Bool) (notes : Notes) : Type 0 where
  given : is_slot_of s notes.given ≡ row
  kept : notes.unused ≡ false

abbrev InNotes : ℕ → Given → Notes → Type 0
InNotes s Without notes = Noted s false notes
InNotes s (InHand slot) notes = Noted s (slot == s) notes
InNotes s Placed notes = Unit {0}

given_none : (s : ℕ) (given : Given) (notes : Notes) → is_without given ≡ true → InNotes s given notes → Noted s false notes
given_none s Without notes h g = g
given_none s (InHand slot) notes h g = absurd (cc)
given_none s Placed notes h g = absurd (cc)

given_this : (s slot : ℕ) (given : Given) (notes : Notes) → is_in_hand slot given ≡ true → InNotes s given notes → Noted s (slot == s) notes
given_this s slot Without notes h g = absurd (cc)
given_this s slot (InHand other) notes h g = subst (λ (x : ℕ). Noted s (x == s) notes) (number_is other slot h) g
given_this s slot Placed notes h g = absurd (cc)

noted_same :
    (s : ℕ) (given : Given) (notes other : Notes)
    → other.given ≡ notes.given
    → other.unused ≡ notes.unused
    → InNotes s given notes
    → InNotes s given other
noted_same s Without notes other e f g = record { given = ap (is_slot_of s) e ∙ g.given; kept = f ∙ g.kept }
noted_same s (InHand slot) notes other e f g = record { given = ap (is_slot_of s) e ∙ g.given; kept = f ∙ g.kept }
noted_same s Placed notes other e f g = tt

noted_by :
    (s : ℕ) (event : Event) (x : Ledger) (given : Given)
    → places_right event given ≡ true
    → InNotes s given x.notes
    → InNotes s (given_by event given) (ledger_by event x).notes
noted_by s (events.Begin call) x given h g = record { given = refl; kept = refl }
noted_by s (events.Give slot birth) x given h g = record { given = refl; kept = (given_none s given x.notes h g).kept }
noted_by s (events.Unused slot) x given h g = tt
noted_by s (events.Link (roots.Bucket bucket) slot) x given h g = tt
noted_by s (events.Link (roots.Next parent) slot) x given h g = tt
noted_by s (events.Link roots.Head slot) x given h g = g
noted_by s (events.Link roots.Tail slot) x given h g = g
noted_by s event x given h g = noted_same s given x.notes (ledger_by event x).notes refl refl g

-- of seat k
abbrev NotedAt : ℕ → ℕ → Past → Type 0
NotedAt s k p = InNotes s (given_of k p) (notes_of k p)

noted_own : (s k : ℕ) (p : Past) (event : Event) → placing_ok p k event ≡ true → NotedAt s k p → NotedAt s k (Then p k event)
noted_own s k p event h g =
    subst (λ (x : Given). InNotes s x (notes_of k (Then p k event))) (sym (seen_own given_by Without k p event))
    (subst (λ (x : Notes). InNotes s (given_by event (given_of k p)) x) (sym (notes_own k p event)) (noted_by s event (ledger_of k p) (given_of k p) h g))

noted_entry :
    (s k i : ℕ) (p : Past) (event : Event) (same : Bool)
    → (k == i) ≡ same
    → placing_ok p i event ≡ true
    → NotedAt s k p
    → NotedAt s k (Then p i event)
noted_entry s k i p event true e h g =
    let here : k ≡ i = number_is k i e in
    subst (λ (j : ℕ). NotedAt s k (Then p j event)) here (noted_own s k p event (subst (λ (j : ℕ). placing_ok p j event ≡ true) (sym here) h) g)
noted_entry s k i p event false e h g =
    subst (λ (x : Given). InNotes s x (notes_of k (Then p i event))) (sym (seen_other given_by Without k i p event e))
    (subst (λ (x : Notes). InNotes s (given_of k p) x) (sym (notes_other k i p event e)) g)

noted_at : (s k : ℕ) (p : Past) → Each placing_ok p → NotedAt s k p
noted_at s k Start h = record { given = refl; kept = refl }
noted_at s k (Then p i event) h = noted_entry s k i p event (k == i) refl h.0 (noted_at s k p h.1)

-- what notes say of events rises with each of them
abbrev Grows : Config → (Notes → ℕ) → (Event → Bool) → Type 0
Grows c w kind = (k : ℕ) (p : Past) (event : Event) → Kept c (Then p k event) → w (noted (notes_of k p) event) ≡ w (notes_of k p) + one (kind event)

gives_grow : (c : Config) (s : ℕ) → Grows c (given_in s) (is_give_of s)
gives_grow c s k p (events.Give slot birth) l =
    let e = given_none s (given_of k p) (notes_of k p) l.placing.0 (noted_at s k p l.placing.1) in
    let none : given_in s (notes_of k p) ≡ 0 = rw e.given refl in
    omega arith
gives_grow c s k p event l = omega arith

unuseds_grow : (c : Config) (s : ℕ) → Grows c (unused_in s) (is_unused_of s)
unuseds_grow c s k p (events.Give slot birth) l =
    let e = given_none s (given_of k p) (notes_of k p) l.placing.0 (noted_at s k p l.placing.1) in
    let now : unused_in s (noted (notes_of k p) (events.Give slot birth)) ≡ 0 = rw e.kept refl in
    let none : unused_in s (notes_of k p) ≡ 0 = rw e.kept refl in
    omega arith
unuseds_grow c s k p (events.Unused slot) l =
    let e = given_this s slot (given_of k p) (notes_of k p) l.placing.0 (noted_at s k p l.placing.1) in
    let now : unused_in s (noted (notes_of k p) (events.Unused slot)) ≡ one (slot == s) = ap one e.given in
    let none : unused_in s (notes_of k p) ≡ 0 = rw e.kept refl in
    omega arith
unuseds_grow c s k p event l = omega arith

backs_grow : (c : Config) (s : ℕ) → Grows c (back_in s) (is_back_of s)
backs_grow c s k p (events.Back slot) l =
    let notes : Notes = notes_of k p in
    sum_by_push (λ (other : ℕ). if other == s then 1 else 0) notes.back slot ∙ ap (λ (x : ℕ). back_in s notes + x) (one_counts (slot == s))
backs_grow c s k p event l = omega arith

-- kinds of events within a call
give_inner : (s : ℕ) → IsInner (is_give_of s)
give_inner s = record { begins = λ call. refl; ends = λ steps answer. refl }

unused_inner : (s : ℕ) → IsInner (is_unused_of s)
unused_inner s = record { begins = λ call. refl; ends = λ steps answer. refl }

back_inner : (s : ℕ) → IsInner (is_back_of s)
back_inner s = record { begins = λ call. refl; ends = λ steps answer. refl }

-- so groups weigh what their notes say
abbrev by_notes : (Notes → ℕ) → (Event → Bool) → Measure
by_notes w kind = record { exact = true; weight = λ (group : Group). w group.notes; kind = kind; so_far = λ (k : ℕ) (p : Past). w (notes_of k p) }

notes_weigh :
    (c : Config) (w : Notes → ℕ) (kind : Event → Bool)
    → IsInner kind
    → w no_notes ≡ 0
    → ((notes : Notes) (steps : ℕ) → w (record notes { steps = steps }) ≡ w notes)
    → Grows c w kind
    → Weighs c (by_notes w kind)
notes_weigh c w kind inner none ended grows = record { inner = inner; stays = λ k i p event e. ap w (notes_other k i p event e); rises = rises }
  where
    rises : (k : ℕ) (p : Past) (event : Event) → Kept c (Then p k event) → Rises (by_notes w kind) k p event
    rises k p (events.Begin call) l = ap w (notes_own k p (events.Begin call)) ∙ none
    rises k p (events.End steps answer) l = λ call b. ended (notes_of k p) steps
    rises k p event l = ap w (notes_own k p event) ∙ grows k p event l

gives_weigh : (c : Config) (s : ℕ) → Weighs c (by_notes (given_in s) (is_give_of s))
gives_weigh c s = notes_weigh c (given_in s) (is_give_of s) (give_inner s) refl (λ notes steps. refl) (gives_grow c s)

unuseds_weigh : (c : Config) (s : ℕ) → Weighs c (by_notes (unused_in s) (is_unused_of s))
unuseds_weigh c s = notes_weigh c (unused_in s) (is_unused_of s) (unused_inner s) refl (λ notes steps. refl) (unuseds_grow c s)

backs_weigh : (c : Config) (s : ℕ) → Weighs c (by_notes (back_in s) (is_back_of s))
backs_weigh c s = notes_weigh c (back_in s) (is_back_of s) (back_inner s) refl (λ notes steps. refl) (backs_grow c s)

-- a row that was free is taken, and one that was taken is free
taken_one :
    (taken : ℕ → Bool) (s slot : ℕ) (same : Bool)
    → (s == slot) ≡ same
    → taken slot ≡ false
    → one (if s == slot then true else taken s) ≡ one (taken s) + one (slot == s)
taken_one taken s slot true e h =
    let t : (slot == s) ≡ true = same_either s slot e in
    let u : taken s ≡ false = ap taken (number_is s slot e) ∙ h in
    rw (e, t, u) refl
taken_one taken s slot false e h = let t : (slot == s) ≡ false = differs_either s slot e in rw (e, t) (omega arith)

freed_one :
    (taken : ℕ → Bool) (s slot : ℕ) (same : Bool)
    → (s == slot) ≡ same
    → taken slot ≡ true
    → one (if s == slot then false else taken s) + one (slot == s) ≡ one (taken s)
freed_one taken s slot true e h =
    let t : (slot == s) ≡ true = same_either s slot e in
    let u : taken s ≡ true = ap taken (number_is s slot e) ∙ h in
    rw (e, t, u) refl
freed_one taken s slot false e h = let t : (slot == s) ≡ false = differs_either s slot e in rw (e, t) (omega arith)

-- the record's own balance
abbrev Balanced : ℕ → ℕ → Past → Type 0
Balanced slots s p = told (is_give_of s) p + one (s == slots) ≡ told (is_unused_of s) p + told (is_back_of s) p + one (taken_at slots s p)

balance_entry : (slots s i : ℕ) (p : Past) (event : Event) → once_ok slots p i event ≡ true → Balanced slots s p → Balanced slots s (Then p i event)
balance_entry slots s i p (events.Give slot birth) h g =
    let e = taken_one (λ x. taken_at slots x p) s slot (s == slot) refl (false_of_not (taken_at slots slot p) h) in
    omega arith
balance_entry slots s i p (events.Unused slot) h g =
    let e = freed_one (λ x. taken_at slots x p) s slot (s == slot) refl h in
    omega arith
balance_entry slots s i p (events.Back slot) h g =
    let e = freed_one (λ x. taken_at slots x p) s slot (s == slot) refl (first_of (taken_at slots slot p) (has_slot slot (list_of i p)) h) in
    omega arith
balance_entry slots s i p event h g = omega arith

balance : (slots s : ℕ) (p : Past) → Each (once_ok slots) p → Balanced slots s p
balance slots s Start h = omega arith
balance slots s (Then p i event) h = balance_entry slots s i p event h.0 (balance slots s p h.1)

-- and the logs'
pub rows_add_up :
    (layout : Layout) (items : List Item) (s : ℕ)
    → AtRest layout items
    → total (gives s) (logs_of layout items) + one (s == layout.config.slots)
    ≡ total (unuseds s) (logs_of layout items) + total (backs_in s) (logs_of layout items) + one (taken_at layout.config.slots s (record_of layout items))
rows_add_up layout items s a =
    let c : Config = layout.config in
    let r : Past = record_of layout items in
    let logs : List (List Group) = logs_of layout items in
    let x : total (gives s) logs ≡ told (is_give_of s) r = totals_fit layout items (by_notes (given_in s) (is_give_of s)) (gives_weigh c s) a in
    let y : total (unuseds s) logs ≡ told (is_unused_of s) r = totals_fit layout items (by_notes (unused_in s) (is_unused_of s)) (unuseds_weigh c s) a in
    let z : total (backs_in s) logs ≡ told (is_back_of s) r = totals_fit layout items (by_notes (back_in s) (is_back_of s)) (backs_weigh c s) a in
    let b : Balanced c.slots s r = balance c.slots s r (histories_keep layout items a.valid).once in
    rw (x, y, z) b
