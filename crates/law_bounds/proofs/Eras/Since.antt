-- A position since a call began, and the entries after it.
use Rattle.std.proofs.Common.{ℕ, ◌≡◌, Bool, true, false, List, [], ◌∷◌, ◌++◌, refl, sym, ap, ◌∙◌}
use Rattle.std.specs.Prelude.{◌==◌, ◌&&◌, ◌||◌, not, if◌then◌else◌}
use Rattle.law_all.proofs.inv.model.Facts.{both, first_of, no_truth, rest_of}
use Rattle.law_all.specs.inv.history.Record.{Past, begins, held_since, tells}
use Rattle.law_all.specs.inv.history.Record.Past.{Start, Then}
use Rattle.law_all.specs.inv.model.defs.Entry.{Entry}
use Rattle.law_all.specs.inv.model.defs.declared.event.Event.{Event}
use Rattle.law_all.specs.inv.model.defs.declared.event.Event.TheVariants as events
use Rattle.law_all.specs.laws.StateAt.{is_open, opened_by}
use Rattle.law_bounds.specs.Eras.{begins_none}

-- one entry more comes last
pub tells_last : (p : Past) (xs : List Entry) (i : ℕ) (event : Event) → tells p (xs ++ record { seat = i; event = event } ∷ []) ≡ Then (tells p xs) i event
tells_last p [] i event = refl
tells_last p (x ∷ xs) i event = tells_last (Then p x.seat x.event) xs i event

pub cut_last : (r p : Past) (xs : List Entry) (i : ℕ) (event : Event) → r ≡ tells p xs → Then r i event ≡ tells p (xs ++ record { seat = i; event = event } ∷ [])
cut_last r p xs i event e = ap (λ (q : Past). Then q i event) e ∙ sym (tells_last p xs i event)

none_last : (k : ℕ) (xs : List Entry) (x : Entry) → begins_none k xs ≡ true → not (begins k Start x.seat x.event) ≡ true → begins_none k (xs ++ x ∷ []) ≡ true
none_last k [] x h n = both (not (begins k Start x.seat x.event)) true n refl
none_last k (first ∷ xs) x h n =
    both (not (begins k Start first.seat first.event)) (begins_none k (xs ++ x ∷ []))
    (first_of (not (begins k Start first.seat first.event)) (begins_none k xs) h)
    (none_last k xs x (rest_of (not (begins k Start first.seat first.event)) (begins_none k xs) h) n)

begins_same : (i k : ℕ) (p : Past) (event : Event) → begins i p k event ≡ begins i Start k event
begins_same i k p (events.Begin call) = refl
begins_same i k p event = refl

-- a call that is under way, and did not begin with the last entry, was under way before it
open_own : (i k : ℕ) (p : Past) (event : Event) → (i == k) ≡ true → not (begins i p k event) ≡ true → opened_by event (is_open i p) ≡ true → is_open i p ≡ true
open_own i k p (events.Begin call) e n o = absurd (no_truth (sym (ap not e) ∙ n))
open_own i k p (events.End steps answer) e n o = absurd (no_truth o)
open_own i k p event e n o = o

open_before : (i k : ℕ) (p : Past) (event : Event) → not (begins i p k event) ≡ true → is_open i (Then p k event) ≡ true → is_open i p ≡ true
open_before i k p event n o = by (i == k) refl o
  where
    by : (same : Bool) → (i == k) ≡ same → (if same then opened_by event (is_open i p) else is_open i p) ≡ true → is_open i p ≡ true
    by true e o = open_own i k p event e n o
    by false e o = o

pub record Since (i : ℕ) (f : Past → Bool) (p : Past) : Type 0 where
  pub at : Past
  pub later : List Entry
  pub cut : p ≡ tells at later
  pub holds : f at ≡ true
  pub none : begins_none i later ≡ true
  pub under_way : is_open i at ≡ true

since_last : (i k : ℕ) (f : Past → Bool) (p : Past) (event : Event) → not (begins i p k event) ≡ true → Since i f p → Since i f (Then p k event)
since_last i k f p event n s = record {
  at = s.at;
  later = s.later ++ record { seat = k; event = event } ∷ [];
  cut = cut_last p s.at s.later k event s.cut;
  holds = s.holds;
  none = none_last i s.later (record { seat = k; event = event }) s.none (ap not (sym (begins_same i k p event)) ∙ n);
  under_way = s.under_way;
}

pub since : (i : ℕ) (f : Past → Bool) (p : Past) → held_since (begins i) f p ≡ true → is_open i p ≡ true → Since i f p
since i f Start h o = record { at = Start; later = []; cut = refl; holds = h; none = refl; under_way = o }
since i f (Then p k event) h o = by (f (Then p k event)) refl h (since i f p)
  where
    by : (here : Bool) → f (Then p k event) ≡ here → (here || (not (begins i p k event) && held_since (begins i) f p)) ≡ true → (held_since (begins i) f p ≡ true → is_open i p ≡ true → Since i f p) → Since i f (Then p k event)
    by true e h g = record { at = Then p k event; later = []; cut = refl; holds = e; none = refl; under_way = o }
    by false e h g =
        let n : not (begins i p k event) ≡ true = first_of (not (begins i p k event)) (held_since (begins i) f p) h in
        since_last i k f p event n (g (rest_of (not (begins i p k event)) (held_since (begins i) f p) h) (open_before i k p event n o))
