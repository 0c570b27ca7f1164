-- A row that is taken was taken, or sought by the call that was given it, at a position of each era from its birth on.
use Rattle.std.proofs.Common.{ℕ, ◌≡◌, ◌≤◌, ◌<◌, ◌+◌, Bool, true, false, List, [], ◌∷◌, ◌++◌, refl, sym, ap, ◌∙◌, subst, arith, append_assoc}
use Rattle.std.proofs.lemmas.Bool.Decides.{nat_tests}
use Rattle.std.specs.Prelude.{◌==◌, ◌&&◌, nat_le, if◌then◌else◌}
use Rattle.law_all.proofs.inv.model.Facts.{first_of, le_of_test, no_truth, number_is}
use Rattle.law_all.specs.inv.history.Record.{Each, Past, begins, tells, value_since}
use Rattle.law_all.specs.inv.history.Record.Past.{Start, Then}
use Rattle.law_all.specs.inv.model.defs.Entry.{Entry}
use Rattle.law_all.specs.inv.model.defs.declared.event.Event.{Event}
use Rattle.law_all.specs.inv.model.defs.declared.event.Event.TheVariants as events
use Rattle.law_all.specs.laws.EraLaw.{birth_ok}
use Rattle.law_all.specs.laws.Standing.{open_ok}
use Rattle.law_all.specs.laws.StateAt.{birth_of, born_by, clock_of, is_open, taken_at, taken_by, ticked_by, was_clock}
use Rattle.law_reasons.proofs.Eras.Current.Positions.{clock_between, was_between}
use Rattle.law_bounds.specs.Eras.{IsGiven}
use Rattle.law_bounds.proofs.Eras.Since.{Since, cut_last, since}

-- a position at which the clock was this era
pub record There (slots s era : ℕ) (p : Past) : Type 0 where
  pub at : Past
  pub later : List Entry
  pub cut : p ≡ tells at later
  pub clock : clock_of at ≡ era
  pub there : taken_at slots s at ≡ false → IsGiven s at later

abbrev last_entry : ℕ → Event → Entry
last_entry i event = record { seat = i; event = event }

given_more : (s : ℕ) (at : Past) (later : List Entry) (x : Entry) → IsGiven s at later → IsGiven s at (later ++ x ∷ [])
given_more s at later x g = record {
  seat = g.seat;
  birth = g.birth;
  first = g.first;
  last = g.last ++ x ∷ [];
  cut = ap (λ (xs : List Entry). xs ++ x ∷ []) g.cut ∙ append_assoc g.first (last_entry g.seat (events.Give s g.birth) ∷ g.last) (x ∷ []);
  under_way = g.under_way;
  same = g.same;
}

there_more : (slots s era i : ℕ) (p : Past) (event : Event) → There slots s era p → There slots s era (Then p i event)
there_more slots s era i p event t = record {
  at = t.at;
  later = t.later ++ last_entry i event ∷ [];
  cut = cut_last p t.at t.later i event t.cut;
  clock = t.clock;
  there = λ f. given_more s t.at t.later (last_entry i event) (t.there f);
}

there_now : (slots s era : ℕ) (p : Past) → taken_at slots s p ≡ true → clock_of p ≡ era → There slots s era p
there_now slots s era p t e = record { at = p; later = []; cut = refl; clock = e; there = λ f. absurd (no_truth (sym f ∙ t)) }

-- the call that is given a row
give_there : (slots s era i birth : ℕ) (p : Past) → was_clock (begins i) birth p ≡ true → is_open i p ≡ true → birth ≤ era → era ≤ clock_of p → There slots s era (Then p i (events.Give s birth))
give_there slots s era i birth p w o low high =
    let from : (nat_le (value_since (begins i) clock_of p) birth && nat_le birth (clock_of p)) ≡ true = sym (clock_between (begins i) birth p) ∙ w in
    let begun : value_since (begins i) clock_of p ≤ birth = le_of_test (value_since (begins i) clock_of p) birth (first_of (nat_le (value_since (begins i) clock_of p) birth) (nat_le birth (clock_of p)) from) in
    let then_clock : was_clock (begins i) era p ≡ true = was_between (begins i) era p (omega (arith, begun, low)) high in
    let x : Since i (λ (q : Past). clock_of q == era) p = since i (λ (q : Past). clock_of q == era) p then_clock o in
    record {
      at = x.at;
      later = x.later ++ last_entry i (events.Give s birth) ∷ [];
      cut = cut_last p x.at x.later i (events.Give s birth) x.cut;
      clock = number_is (clock_of x.at) era x.holds;
      there = λ f. record { seat = i; birth = birth; first = x.later; last = []; cut = refl; under_way = x.under_way; same = x.none };
    }

-- another entry
abbrev is_give_of : ℕ → Event → Bool
is_give_of s (events.Give slot birth) = s == slot
is_give_of s event = false

keep_taken : (same x : Bool) → (if same then false else x) ≡ true → x ≡ true
keep_taken true x h = absurd (no_truth h)
keep_taken false x h = h

taken_before : (s : ℕ) (event : Event) (x : Bool) → is_give_of s event ≡ false → taken_by s event x ≡ true → x ≡ true
taken_before s (events.Give slot birth) x n h = rw n at h
taken_before s (events.Unused slot) x n h = keep_taken (s == slot) x h
taken_before s (events.Back slot) x n h = keep_taken (s == slot) x h
taken_before s event x n h = h

born_before : (s : ℕ) (event : Event) (x : ℕ) → is_give_of s event ≡ false → born_by s event x ≡ x
born_before s (events.Give slot birth) x n = rw n refl
born_before s event x n = refl

one_tick : (event : Event) (clock : ℕ) → ticked_by event clock ≤ clock + 1
one_tick (events.Era era) clock = omega arith
one_tick event clock = omega arith

other_there : (slots s era i : ℕ) (p : Past) (event : Event) → is_give_of s event ≡ false → taken_at slots s (Then p i event) ≡ true → birth_of s (Then p i event) ≤ era → era ≤ clock_of (Then p i event)
    → (taken_at slots s p ≡ true → birth_of s p ≤ era → era ≤ clock_of p → There slots s era p) → There slots s era (Then p i event)
other_there slots s era i p event n t low high f = by (nat_le era (clock_of p)) refl
  where
    by : (before : Bool) → nat_le era (clock_of p) ≡ before → There slots s era (Then p i event)
    by true e =
        let born : born_by s event (birth_of s p) ≡ birth_of s p = born_before s event (birth_of s p) n in
        there_more slots s era i p event (f (taken_before s event (taken_at slots s p) n t) (omega (arith, born, low)) (le_of_test era (clock_of p) e))
    by false e =
        let tick = one_tick event (clock_of p) in
        let past : clock_of p < era = grind (arith, nat_tests, e) in
        there_now slots s era (Then p i event) t (omega (arith, tick, past, high))

give_entry : (slots s era i : ℕ) (p : Past) (event : Event) → is_give_of s event ≡ true → birth_ok p i event ≡ true → open_ok p i event ≡ true → birth_of s (Then p i event) ≤ era → era ≤ clock_of (Then p i event) → There slots s era (Then p i event)
give_entry slots s era i p (events.Give slot birth) g b o low high =
    let same : s ≡ slot = number_is s slot g in
    let born : (if s == slot then birth else birth_of s p) ≡ birth = rw g refl in
    subst (λ (x : ℕ). There slots s era (Then p i (events.Give x birth))) same (give_there slots s era i birth p b o (omega (arith, born, low)) high)
give_entry slots s era i p event g b o low high = absurd (no_truth g)

pub there_at : (slots s era : ℕ) (p : Past) → Each birth_ok p → Each open_ok p → taken_at slots s p ≡ true → birth_of s p ≤ era → era ≤ clock_of p → There slots s era p
there_at slots s era Start b o t low high = there_now slots s era Start t (omega (arith, low, high))
there_at slots s era (Then p i event) b o t low high = by (is_give_of s event) refl (there_at slots s era p b.1 o.1)
  where
    by : (mine : Bool) → is_give_of s event ≡ mine → (taken_at slots s p ≡ true → birth_of s p ≤ era → era ≤ clock_of p → There slots s era p) → There slots s era (Then p i event)
    by true e f = give_entry slots s era i p event e b.0 o.0 low high
    by false e f = other_there slots s era i p event e t low high f
