-- Each history keeps the law: as far as the record tells, the seats that are in a call are those that are busy.
use Rattle.std.proofs.Common.{ℕ, ◌≡◌, ◌+◌, Bool, true, false, List, [], ◌∷◌, refl, sym, ap, ◌∙◌, subst, arith}
use Rattle.std.proofs.lemmas.Bool.Decides.{nat_tests}
use Rattle.std.specs.Prelude.{◌==◌, ◌&&◌, not, if◌then◌else◌}
use Rattle.inv_all.specs.model.defs.declared.event.Event.{Event}
use Rattle.inv_all.specs.model.defs.declared.event.Event.TheVariants as events
use Rattle.inv_all.proofs.model.Facts.{both, first_of, rest_of}
use Rattle.inv_all.specs.history.History.{record_of}
use Rattle.inv_all.specs.history.Record.{Past, Each, Test, tells_of}
use Rattle.inv_all.specs.history.Record.Past.{Start, Then}
use Rattle.inv_all.specs.history.Turns as schedule
use Rattle.inv_all.specs.history.Turns.History.{Blank, Starts, Turns}
use Rattle.inv_all.proofs.history.Entries.{entries_of_each}
use Rattle.inv_all.specs.history.Heard.{heard_of}
use Rattle.law_reuse.proofs.Turns.Counted.{histories_count}
use Rattle.laws.specs.Lists.{has_left}
use Rattle.laws.specs.StateAt.{is_open, opened_by}
use Rattle.laws.specs.Standing.{open_ok}
use Rattle.law_reuse.proofs.Leaving.Records.{records_stay, stays_ok}
use Rattle.law_reuse.specs.Answers.{RecordsOpenCalls}

-- a call begins where its seat is in none, and all else is told in one
abbrev begun_ok : Test
begun_ok p i (events.Begin call) = not (is_open i p)
begun_ok p i event = is_open i p

-- a seat tells an event of its own
own_entry : (p : Past) (i : ℕ) (e : Event) → is_open i (Then p i e) ≡ opened_by e (is_open i p)
own_entry p i e = same (i == i) (grind (arith, nat_tests))
  where
    same : (b : Bool) → b ≡ true → (if b then opened_by e (is_open i p) else is_open i p) ≡ opened_by e (is_open i p)
    same true h = refl
    same false h = absurd (cc)

-- the events of a turn are told in the call, and after them it is open unless they told its end
turn_open : (n i : ℕ) (p : Past) (told : List Event) → schedule.begins_none told ≡ true → schedule.ends_with n told ≡ true → is_open i p ≡ true → Each begun_ok p
    → Each begun_ok (tells_of p i told) × (is_open i (tells_of p i told) ≡ not (schedule.tells_end told))
turn_open n i p [] b e o h = (h, o)
turn_open n i p (events.Begin call ∷ told) b e o h = absurd (cc)
turn_open n i p (events.End steps answer ∷ []) b e o h = ((o, h), own_entry p i (events.End steps answer))
turn_open n i p (events.End steps answer ∷ event ∷ told) b e o h = absurd (cc)
turn_open n i p (event ∷ told) b e o h = turn_open n i (Then p i event) told b e (own_entry p i event ∙ o) (o, h)

-- another seat's events leave it as it is
others_open : (k i : ℕ) (p : Past) (told : List Event) → (k == i) ≡ false → is_open k (tells_of p i told) ≡ is_open k p
others_open k i p [] d = refl
others_open k i p (e ∷ told) d = others_open k i (Then p i e) told d ∙ other (k == i) d
  where
    other : (b : Bool) → b ≡ false → (if b then opened_by e (is_open k p) else is_open k p) ≡ is_open k p
    other true h = absurd (cc)
    other false h = refl

record Opens (h : schedule.History) : Type 0 where
  each : Each begun_ok (schedule.record_of h)
  busy : (k : ℕ) → is_open k (schedule.record_of h) ≡ schedule.is_busy k h

began_busy : (h : schedule.History) (i : ℕ) (k : ℕ) (same : Bool) → (k == i) ≡ same → is_open k (schedule.record_of h) ≡ schedule.is_busy k h
    → (if same then true else is_open k (schedule.record_of h)) ≡ (if same then true else schedule.is_busy k h)
began_busy h i k true e g = refl
began_busy h i k false e g = g

turn_busy : (n : ℕ) (h : schedule.History) (i : ℕ) (told : List Event) (k : ℕ) (same : Bool) → (k == i) ≡ same → schedule.is_busy i h ≡ true
    → is_open i (tells_of (schedule.record_of h) i told) ≡ not (schedule.tells_end told) → is_open k (schedule.record_of h) ≡ schedule.is_busy k h
    → is_open k (tells_of (schedule.record_of h) i told) ≡ (if same then not (schedule.tells_end told) && schedule.is_busy k h else schedule.is_busy k h)
turn_busy n h i told k true e y o g =
    let one : k ≡ i = grind (arith, nat_tests) in
    subst (λ (m : ℕ). is_open m (tells_of (schedule.record_of h) i told) ≡ (not (schedule.tells_end told) && schedule.is_busy m h)) (sym one)
    (o ∙ sym (with_true (not (schedule.tells_end told)) (schedule.is_busy i h) y))
  where
    with_true : (x b : Bool) → b ≡ true → (x && b) ≡ x
    with_true true b h = h
    with_true false b h = refl
turn_busy n h i told k false e y o g = others_open k i (schedule.record_of h) told e ∙ g

opens : (h : schedule.History) → schedule.CountsTurns h → Opens h
opens Blank c = record { each = tt; busy = λ k. refl }
opens (Starts h i call) c =
    let g : Opens h = opens h c.1 in
    record {
      each = (ap not (g.busy i ∙ c.0), g.each);
      busy = λ k. began_busy h i k (k == i) refl (g.busy k);
    }
opens (Turns h i told) c =
    let g : Opens h = opens h c.1 in
    let y : schedule.is_busy i h ≡ true = first_of (schedule.is_busy i h) (schedule.begins_none told && schedule.ends_with (schedule.turns_of i h + 1) told) c.0 in
    let q = rest_of (schedule.is_busy i h) (schedule.begins_none told && schedule.ends_with (schedule.turns_of i h + 1) told) c.0 in
    let t = turn_open (schedule.turns_of i h + 1) i (schedule.record_of h) told (first_of (schedule.begins_none told) (schedule.ends_with (schedule.turns_of i h + 1) told) q) (rest_of (schedule.begins_none told) (schedule.ends_with (schedule.turns_of i h + 1) told) q) (g.busy i ∙ y) g.each in
    record {
      each = t.0;
      busy = λ k. turn_busy (schedule.turns_of i h + 1) h i told k (k == i) refl y t.1 (g.busy k);
    }

open_one : (p : Past) (i : ℕ) (event : Event) → begun_ok p i event ≡ true → stays_ok p i event ≡ true → open_ok p i event ≡ true
open_one p i (events.Begin call) a b = both (not (is_open i p)) (not (has_left i p)) a b
open_one p i event a b = a

open_each : (p : Past) → Each begun_ok p → Each stays_ok p → Each open_ok p
open_each Start a b = tt
open_each (Then p i event) a b = (open_one p i event a.0 b.0, open_each p a.1 b.1)

pub records_open_calls : RecordsOpenCalls
records_open_calls layout items valid =
    let c = histories_count layout items valid in
    entries_of_each open_ok (record_of layout items) (open_each (record_of layout items) (subst (Each begun_ok) c.tells (opens (heard_of layout items) c.counts).each) (records_stay layout items valid))
