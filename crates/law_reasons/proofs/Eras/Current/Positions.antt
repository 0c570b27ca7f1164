-- Which eras were the clock since an entry: those between the clock there and the present one.
use Rattle.std.proofs.Common.{ℕ, ◌≡◌, ◌≤◌, ◌+◌, Bool, true, false, List, [], ◌∷◌, refl, ◌∙◌, arith}
use Rattle.std.proofs.lemmas.Bool.Decides.{nat_tests}
use Rattle.std.specs.Prelude.{◌==◌, ◌&&◌, ◌||◌, not, nat_le, if◌then◌else◌}
use Rattle.law_scans.specs.laws.defs.declared.event.Event.{Event}
use Rattle.law_scans.specs.laws.defs.declared.event.Event.TheVariants as events
use Rattle.law_scans.proofs.laws.records.defs.Facts.{first_of, rest_of, both_below}
use Rattle.law_scans.specs.laws.records.Record.{Past, Test, tells_of, value_since, begins, own}
use Rattle.law_scans.specs.laws.records.Record.Past.{Start, Then}
use Rattle.law_scans.proofs.reuse.history.AllOf.{all_of}
use Rattle.law_scans.proofs.inv.Machines.{is_within}
use Rattle.law_scans.specs.laws.StateAt.{ticked_by, clock_of, was_clock, cuts}
use Rattle.law_reasons.specs.Eras.Current.{ClockBetween}

-- the clock of a record only rises
pub ticked_rises : (event : Event) (clock : ℕ) → clock ≤ ticked_by event clock
ticked_rises (events.Era era) clock = omega arith
ticked_rises event clock = omega arith

ticked_one : (event : Event) (clock : ℕ) → ticked_by event clock ≤ clock + 1
ticked_one (events.Era era) clock = omega arith
ticked_one event clock = omega arith

pub since_low : (test : Test) (p : Past) → value_since test clock_of p ≤ clock_of p
since_low test Start = omega arith
since_low test (Then p k event) =
    let h = since_low test p in
    let r = ticked_rises event (clock_of p) in
    both_below (test p k event) (ticked_by event (clock_of p)) (value_since test clock_of p) (ticked_by event (clock_of p)) (omega arith) (omega (h, r, arith))

first_between : (era : ℕ) → (1 == era) ≡ (nat_le 1 era && nat_le era 1)
first_between era = grind (arith, nat_tests)

next_between : (passes was : Bool) (from before now era : ℕ) → from ≤ before → before ≤ now → now ≤ before + 1 → was ≡ (nat_le from era && nat_le era before)
    → (now == era || (not passes && was)) ≡ (nat_le (if passes then now else from) era && nat_le era now)
next_between true was from before now era a b c h = grind (arith, nat_tests)
next_between false was from before now era a b c h = grind (arith, nat_tests)

pub clock_between : ClockBetween
clock_between test era Start = first_between era
clock_between test era (Then p k event) =
    next_between (test p k event) (was_clock test era p) (value_since test clock_of p) (clock_of p) (ticked_by event (clock_of p)) era (since_low test p) (ticked_rises event (clock_of p)) (ticked_one event (clock_of p)) (clock_between test era p)

both_le : (from era now : ℕ) → from ≤ era → era ≤ now → (nat_le from era && nat_le era now) ≡ true
both_le from era now a b = grind (arith, nat_tests)

-- an era between
pub was_between : (test : Test) (era : ℕ) (p : Past) → value_since test clock_of p ≤ era → era ≤ clock_of p → was_clock test era p ≡ true
was_between test era p a b = clock_between test era p ∙ both_le (value_since test clock_of p) era (clock_of p) a b

-- the clock where a seat's call began, and where it told the cut of a row
abbrev pub begun_at : ℕ → Past → ℕ
begun_at k p = value_since (begins k) clock_of p

abbrev pub cut_at : ℕ → Past → ℕ → ℕ
cut_at k p s = value_since (own k (cuts s)) clock_of p

one_within : (k i : ℕ) (event : Event) (p : Past) → is_within event ≡ true → begun_at k (Then p i event) ≡ begun_at k p
one_within k i (events.Begin call) p h = absurd (cc)
one_within k i event p h = refl

-- no step begins a call
pub begun_stays : (k i : ℕ) (told : List Event) (p : Past) → all_of is_within told ≡ true → begun_at k (tells_of p i told) ≡ begun_at k p
begun_stays k i [] p h = refl
begun_stays k i (event ∷ told) p h = begun_stays k i told (Then p i event) (rest_of (is_within event) (all_of is_within told) h) ∙ one_within k i event p (first_of (is_within event) (all_of is_within told) h)

-- a call of another seat leaves it
pub begun_other : (k i : ℕ) (event : Event) (p : Past) → (k == i) ≡ false → begun_at k (Then p i event) ≡ begun_at k p
begun_other k i (events.Begin call) p h = rw h refl
begun_other k i event p h = refl

no_cut : (cut : Bool) (a b : ℕ) → (if cut && false then a else b) ≡ b
no_cut true a b = refl
no_cut false a b = refl

-- another seat's entries are no cuts of this one
pub cut_stays : (k i : ℕ) (told : List Event) (p : Past) (s : ℕ) → (k == i) ≡ false → cut_at k (tells_of p i told) s ≡ cut_at k p s
cut_stays k i [] p s h = refl
cut_stays k i (event ∷ told) p s h = cut_stays k i told (Then p i event) s h ∙ rw h (no_cut (cuts s event) (clock_of (Then p i event)) (cut_at k p s))
