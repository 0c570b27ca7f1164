-- A record whose answers have their reasons, and at whose end no seat is in a call, has points; and so has each first part of it.
use Rattle.std.proofs.Common.{ℕ, ◌≡◌, Bool, true, false, refl, sym, ap, ◌∙◌, subst, List, [], ◌∷◌, ◌++◌, Some, ◌⊎◌, inl, inr}
use Rattle.std.specs.Prelude.{◌==◌, not}
use Rattle.laws.proofs.records.defs.Facts.{false_of_not, first_of, number_is, same_number}
use Rattle.laws.specs.Lists.{has_left}
use Rattle.laws.specs.Standing.{open_ok}
use Rattle.laws.specs.StateAt.{began_of, is_open, told_of}
use Rattle.laws.specs.defs.Entry.{Entry}
use Rattle.laws.specs.defs.declared.call.Answer.TheVariants as answers
use Rattle.laws.specs.defs.declared.call.Answer.{Answer}
use Rattle.laws.specs.defs.declared.call.Call.{Call}
use Rattle.laws.specs.defs.declared.call.ClockMove.TheVariants as moves
use Rattle.laws.specs.defs.declared.event.Event.TheVariants as events
use Rattle.laws.specs.defs.declared.event.Event.{Event}
use Rattle.laws.specs.records.Record.Past.{Start, Then}
use Rattle.laws.specs.records.Record.{Past, tells}
use Rattle.laws.specs.words.declared.config.Config.{Config}
use Rattle.law_linear.specs.Hands.{hand_of}
use Rattle.law_linear.specs.LinearLaw.{tells_ok}
use Rattle.law_linear.specs.Object.{Hand, keeps}
use Rattle.law_linear.specs.Points.Marked.{Blank}
use Rattle.law_linear.specs.Points.Stage.{Answered, Called}
use Rattle.law_linear.specs.Points.{IsLinearizable, Stage, comes_at, object_at, stage_by, timeless}
use Rattle.law_linear.specs.Records.{Reasons, ReasonsLinearize}
use Rattle.law_linear.proofs.Ending.{AtEnd, Owed, at_end, owed}
use Rattle.law_linear.proofs.Ends.{Ends, HandAfter, HasTold, ends}
use Rattle.law_linear.proofs.Marking.{Marking, changed, reads, restated, told, with_answer, with_event, with_hand}
use Rattle.law_linear.proofs.Ordered.{points_order}
use Rattle.law_linear.proofs.Setting.{IsQuiet}
use Rattle.law_linear.proofs.Stages.{first_more, own_stage, stage_at, stage_from, stages_after}
use Rattle.law_linear.proofs.Telling.{Changes, Could, Tells, few_taken, telling, tells_first}

abbrev At : Config → Past → Type 0
At c p = Marking c p (λ k. stage_at k p) (λ k. hand_of c k p)

-- an entry that leaves all as it is, but for the stage of its seat
plain : (c : Config) (i : ℕ) (event : Event) (p : Past) → object_at (Then p i event) ≡ object_at p → comes_at event (stage_at i p) → stage_by event (stage_at i p) ≡ own_stage i p event
    → ((k : ℕ) → hand_of c k p ≡ hand_of c k (Then p i event)) → At c p → At c (Then p i event)
plain c i event p same comes own hands m =
    restated c (Then p i event) (with_event i event (λ k. stage_at k p)) (λ k. stage_at k (Then p i event)) (λ k. hand_of c k p) (λ k. hand_of c k (Then p i event))
    (stages_after i event p (with_event i event (λ k. stage_at k p)) (rw (same_number i) own) (λ k e. rw e refl)) hands
    (told c i event p (λ k. stage_at k p) (λ k. hand_of c k p) same comes m)

-- after a point of seat i its hand is the new one
hands_with : (i : ℕ) (new : Hand) (hand next : ℕ → Hand) → new ≡ next i → ((k : ℕ) → (k == i) ≡ false → hand k ≡ next k) → (k : ℕ) → with_hand i new hand k ≡ next k
hands_with i new hand next own others k = by (k == i) refl
  where
    by : (same : Bool) → (k == i) ≡ same → with_hand i new hand k ≡ next k
    by true e = rw e (subst (λ (x : ℕ). new ≡ next x) (sym (number_is k i e)) own)
    by false e = rw e (others k e)

-- a call could answer so since it began, and then comes an entry
reads_then : (c : Config) (i : ℕ) (event : Event) (call : Call) (answer : Answer) (new : Hand) (p : Past) → stage_at i p ≡ Called call → Could c p i call answer new
    → object_at (Then p i event) ≡ object_at p → comes_at event (Answered answer) → stage_by event (Answered answer) ≡ own_stage i p event
    → new ≡ hand_of c i (Then p i event) → ((k : ℕ) → (k == i) ≡ false → hand_of c k p ≡ hand_of c k (Then p i event)) → At c p → At c (Then p i event)
reads_then c i event call answer new p called x same comes own mine others m =
    let stage : ℕ → Stage = with_answer i answer (λ k. stage_at k p) in
    let hand : ℕ → Hand = with_hand i (keeps c x.now (hand_of c i p) call answer) (λ k. hand_of c k p) in
    restated c (Then p i event) (with_event i event stage) (λ k. stage_at k (Then p i event)) hand (λ k. hand_of c k (Then p i event))
    (stages_after i event p (with_event i event stage) (rw (same_number i) own) (λ k e. rw e refl))
    (hands_with i (keeps c x.now (hand_of c i p) call answer) (λ k. hand_of c k p) (λ k. hand_of c k (Then p i event)) (x.keeping ∙ mine) others)
    (told c i event p stage hand same (rw (same_number i) comes) (reads c i call answer x.now p (λ k. stage_at k p) (λ k. hand_of c k p) x.stays called x.may x.was m))

quiet : (event : Event) → ((x : Stage) → stage_by event x ≡ x) → ((x : Stage) → comes_at event x) → IsQuiet event
quiet event stays free = record { stays = stays; free = free }

-- an entry at which a call tells its answer
tells_entry : (c : Config) (i : ℕ) (event : Event) (answer : Answer) (p : Past) → IsQuiet event → ((call : Call) → is_open i p ≡ true → began_of i p ≡ Some call → told_of i p ≡ []
    → Answered answer ≡ own_stage i p event) → ((k : ℕ) → hand_of c k p ≡ hand_of c k (Then p i event)) → Tells c p i event answer → At c p → At c (Then p i event)
tells_entry c i event answer p q own hands t m = by t.takes
  where
    called : stage_at i p ≡ Called t.call
    called = rw (t.inside, t.began, t.none) refl

    mine : Answered answer ≡ own_stage i p event
    mine = own t.call t.inside t.began t.none

    by : Changes c p i event t.call answer ⊎ ((object_at (Then p i event) ≡ object_at p) × Could c p i t.call answer (hand_of c i p)) → At c (Then p i event)
    by (inl x) =
        restated c (Then p i event) (with_answer i answer (λ k. stage_at k p)) (λ k. stage_at k (Then p i event)) (λ k. hand_of c k p) (λ k. hand_of c k (Then p i event))
        (stages_after i event p (with_answer i answer (λ k. stage_at k p)) (rw (same_number i) mine) (λ k e. rw e refl)) hands
        (changed c i t.call answer event p (λ k. stage_at k p) (λ k. hand_of c k p) q called x.may x.new x.keeping m)
    by (inr x) = reads_then c i event t.call answer (hand_of c i p) p called x.1 x.0 (q.free (Answered answer)) (q.stays (Answered answer) ∙ mine) (hands i) (λ k e. hands k) m

-- what a seat keeps after an End
own_hand : (c : Config) (p : Past) (i steps : ℕ) (call : Call) (answer : Answer) → began_of i p ≡ Some call → HandAfter c p i call answer ≡ hand_of c i (Then p i (events.End steps answer))
own_hand c p i steps call answer b = rw (same_number i, b) refl

end_entry : (c : Config) (p : Past) (i steps : ℕ) (answer : Answer) → is_open i p ≡ true → (e : AtEnd c i p answer) → At c p → At c (Then p i (events.End steps answer))
end_entry c p i steps answer o e m = by (ends c p i answer e)
  where
    kept : HasTold c p i e.call answer → (k : ℕ) (same : Bool) → (k == i) ≡ same → hand_of c k p ≡ hand_of c k (Then p i (events.End steps answer))
    kept x k true s =
        subst (λ (y : ℕ). hand_of c y p ≡ hand_of c y (Then p i (events.End steps answer))) (sym (number_is k i s))
        (sym x.keeping ∙ own_hand c p i steps e.call answer e.began)
    kept x k false s = rw s refl

    by : Ends c p i e.call answer → At c (Then p i (events.End steps answer))
    by (inl x) =
        let acted : stage_at i p ≡ Answered (timeless answer) = rw (o, e.began, x.told) refl in
        let hands : (k : ℕ) → hand_of c k p ≡ hand_of c k (Then p i (events.End steps answer)) = λ k. kept x k (k == i) refl in
        plain c i (events.End steps answer) p refl acted refl hands m
    by (inr x) =
        let called : stage_at i p ≡ Called e.call = rw (o, e.began, x.none) refl in
        reads_then c i (events.End steps answer) e.call (timeless answer) (HandAfter c p i e.call answer) p called x.could refl refl refl
        (own_hand c p i steps e.call answer e.began) (λ k s. rw s refl) m

record Whole (c : Config) (r : Past) : Type 0 where
  why : Reasons c r
  rests : (i : ℕ) → is_open i r ≡ false

-- an entry of a call tells what its End owes
owes_there : (c : Config) (r : Past) → Whole c r → (p : Past) (i : ℕ) (event : Event) (later : List Entry) → r ≡ tells (Then p i event) later → open_ok p i event ≡ is_open i p
    → (is_open i p ≡ true → is_open i (Then p i event) ≡ true) → told_of i (Then p i event) ≡ told_of i p ++ event ∷ [] → began_of i (Then p i event) ≡ began_of i p → Owed c p i event
owes_there c r w p i event later cut o f t b =
    let inside : is_open i p ≡ true = sym o ∙ w.why.calls p i event later cut in
    owed c r w.why i (w.rests i) p event later cut inside (f inside) t b

entry : (c : Config) (r : Past) → Whole c r → (p : Past) (i : ℕ) (event : Event) (later : List Entry) → r ≡ tells (Then p i event) later → At c p → At c (Then p i event)
entry c r w p i (events.Begin call) later cut m =
    let out : is_open i p ≡ false = false_of_not (is_open i p) (first_of (not (is_open i p)) (not (has_left i p)) (w.why.calls p i (events.Begin call) later cut)) in
    plain c i (events.Begin call) p refl (rw out refl) refl (λ k. refl) m
entry c r w p i (events.End steps answer) later cut m = end_entry c p i steps answer (w.why.calls p i (events.End steps answer) later cut) (at_end c r w.why p i steps answer later cut) m
entry c r w p i (events.Got bucket version key value) later cut m =
    let own : (i == i) ≡ true = same_number i in
    let o : Owed c p i (events.Got bucket version key value) = owes_there c r w p i (events.Got bucket version key value) later cut refl (λ h. rw own h) (rw own refl) (rw own refl) in
    tells_entry c i (events.Got bucket version key value) (answers.Got version value) p (quiet (events.Got bucket version key value) (λ x. refl) (λ x. tt)) (λ call a b d. rw (a, b, d) refl) (λ k. refl)
    (telling c p i (events.Got bucket version key value) o (few_taken r w.why.values p (record { seat = i; event = events.Got bucket version key value } ∷ later) cut) (w.why.map p i (events.Got bucket version key value) later cut) (w.why.values p i (events.Got bucket version key value) later cut)) m
entry c r w p i (events.Put bucket version key value) later cut m =
    let own : (i == i) ≡ true = same_number i in
    let o : Owed c p i (events.Put bucket version key value) = owes_there c r w p i (events.Put bucket version key value) later cut refl (λ h. rw own h) (rw own refl) (rw own refl) in
    tells_entry c i (events.Put bucket version key value) (answers.Done version moves.Still) p (quiet (events.Put bucket version key value) (λ x. refl) (λ x. tt)) (λ call a b d. rw (a, b, d) refl) (λ k. refl)
    (telling c p i (events.Put bucket version key value) o (few_taken r w.why.values p (record { seat = i; event = events.Put bucket version key value } ∷ later) cut) (w.why.map p i (events.Put bucket version key value) later cut) (w.why.values p i (events.Put bucket version key value) later cut)) m
entry c r w p i (events.Removed bucket version key) later cut m =
    let own : (i == i) ≡ true = same_number i in
    let o : Owed c p i (events.Removed bucket version key) = owes_there c r w p i (events.Removed bucket version key) later cut refl (λ h. rw own h) (rw own refl) (rw own refl) in
    tells_entry c i (events.Removed bucket version key) (answers.Done version moves.Still) p (quiet (events.Removed bucket version key) (λ x. refl) (λ x. tt)) (λ call a b d. rw (a, b, d) refl) (λ k. refl)
    (telling c p i (events.Removed bucket version key) o (few_taken r w.why.values p (record { seat = i; event = events.Removed bucket version key } ∷ later) cut) (w.why.map p i (events.Removed bucket version key) later cut) (w.why.values p i (events.Removed bucket version key) later cut)) m
entry c r w p i (events.Queued number value) later cut m =
    let own : (i == i) ≡ true = same_number i in
    let o : Owed c p i (events.Queued number value) = owes_there c r w p i (events.Queued number value) later cut refl (λ h. rw own h) (rw own refl) (rw own refl) in
    tells_entry c i (events.Queued number value) (answers.Queued number) p (quiet (events.Queued number value) (λ x. refl) (λ x. tt)) (λ call a b d. rw (a, b, d) refl) (λ k. refl)
    (telling c p i (events.Queued number value) o (few_taken r w.why.values p (record { seat = i; event = events.Queued number value } ∷ later) cut) (w.why.map p i (events.Queued number value) later cut) (w.why.values p i (events.Queued number value) later cut)) m
entry c r w p i (events.Taken number value) later cut m =
    let own : (i == i) ≡ true = same_number i in
    let o : Owed c p i (events.Taken number value) = owes_there c r w p i (events.Taken number value) later cut refl (λ h. rw own h) (rw own refl) (rw own refl) in
    tells_entry c i (events.Taken number value) (answers.Taken number value moves.Still) p (quiet (events.Taken number value) (λ x. refl) (λ x. tt)) (λ call a b d. rw (a, b, d) refl) (λ k. refl)
    (telling c p i (events.Taken number value) o (few_taken r w.why.values p (record { seat = i; event = events.Taken number value } ∷ later) cut) (w.why.map p i (events.Taken number value) later cut) (w.why.values p i (events.Taken number value) later cut)) m
entry c r w p i (events.Copied from index slot) later cut m =
    plain c i (events.Copied from index slot) p refl tt (ap (stage_from (is_open i p) (began_of i p)) (sym (first_more (told_of i p) (events.Copied from index slot) refl))) (λ k. refl) m
entry c r w p i (events.Left count) later cut m =
    plain c i (events.Left count) p refl tt (ap (stage_from (is_open i p) (began_of i p)) (sym (first_more (told_of i p) (events.Left count) refl))) (λ k. refl) m
entry c r w p i (events.Adopted place count) later cut m =
    plain c i (events.Adopted place count) p refl tt (ap (stage_from (is_open i p) (began_of i p)) (sym (first_more (told_of i p) (events.Adopted place count) refl))) (λ k. refl) m
entry c r w p i event later cut m = plain c i event p refl tt refl (λ k. refl) m

marked : (c : Config) (r : Past) → Whole c r → (p : Past) (later : List Entry) → r ≡ tells p later → At c p
marked c r w Start later cut = record { marked = Blank; tells = refl; right = tt; object = refl; stages = λ k. refl; hands = λ k. refl; was = λ j now x. x }
marked c r w (Then p i event) later cut = entry c r w p i event later cut (marked c r w p (record { seat = i; event = event } ∷ later) cut)

linear : (c : Config) (r : Past) → Whole c r → (p : Past) (later : List Entry) → r ≡ tells p later → IsLinearizable c p
linear c r w p later cut = let m = marked c r w p later cut in record { marked = m.marked; tells = m.tells; right = m.right; leaves = m.object }

-- what is told was asked for
told_first : (c : Config) (r : Past) → Whole c r → (p : Past) (i : ℕ) (event : Event) (later : List Entry) → r ≡ tells (Then p i event) later → tells_ok c.buckets p i event ≡ true
told_first c r w p i (events.Got bucket version key value) later cut =
    let own : (i == i) ≡ true = same_number i in
    tells_first c p i (events.Got bucket version key value) (owes_there c r w p i (events.Got bucket version key value) later cut refl (λ h. rw own h) (rw own refl) (rw own refl))
told_first c r w p i (events.Put bucket version key value) later cut =
    let own : (i == i) ≡ true = same_number i in
    tells_first c p i (events.Put bucket version key value) (owes_there c r w p i (events.Put bucket version key value) later cut refl (λ h. rw own h) (rw own refl) (rw own refl))
told_first c r w p i (events.Removed bucket version key) later cut =
    let own : (i == i) ≡ true = same_number i in
    tells_first c p i (events.Removed bucket version key) (owes_there c r w p i (events.Removed bucket version key) later cut refl (λ h. rw own h) (rw own refl) (rw own refl))
told_first c r w p i (events.Queued number value) later cut =
    let own : (i == i) ≡ true = same_number i in
    tells_first c p i (events.Queued number value) (owes_there c r w p i (events.Queued number value) later cut refl (λ h. rw own h) (rw own refl) (rw own refl))
told_first c r w p i (events.Taken number value) later cut =
    let own : (i == i) ≡ true = same_number i in
    tells_first c p i (events.Taken number value) (owes_there c r w p i (events.Taken number value) later cut refl (λ h. rw own h) (rw own refl) (rw own refl))
told_first c r w p i event later cut = refl

-- the entries of a first part are entries of the whole
longer : (p : Past) (first later : List Entry) → tells (tells p first) later ≡ tells p (first ++ later)
longer p [] later = refl
longer p (x ∷ first) later = longer (Then p x.seat x.event) first later

pub reasons_linearize : ReasonsLinearize
reasons_linearize config r p later why rests cut =
    let whole : Whole config r = record { why = why; rests = rests } in
    let points : IsLinearizable config p = linear config r whole p later cut in
    record {
      told = λ before i event first e. told_first config r whole before i event (first ++ later) (cut ∙ ap (λ (x : Past). tells x later) e ∙ longer (Then before i event) first later);
      points = points;
      order = points_order config p points;
    }
