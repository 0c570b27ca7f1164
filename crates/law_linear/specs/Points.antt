-- A record with points put in, one for each call: there the call takes effect, all at once.
use Rattle.std.specs.Prelude.{drop, if◌then◌else◌, length, true, ℕ, ◌==◌, ◌≡◌}
use Rattle.laws.specs.StructuresAt.{changes_of, count_of, queued_of, taken_of}
use Rattle.laws.specs.defs.Pairs.{pairs_after}
use Rattle.laws.specs.defs.declared.call.Answer.TheVariants as answers
use Rattle.laws.specs.defs.declared.call.Answer.{Answer}
use Rattle.laws.specs.defs.declared.call.Call.{Call}
use Rattle.laws.specs.defs.declared.call.ClockMove.TheVariants as moves
use Rattle.laws.specs.defs.declared.event.Event.TheVariants as events
use Rattle.laws.specs.defs.declared.event.Event.{Event}
use Rattle.laws.specs.records.Record.Past.{Start, Then}
use Rattle.laws.specs.records.Record.{Past}
use Rattle.laws.specs.words.declared.config.Config.{Config}
use Rattle.law_linear.specs.Object.{Hand, Object, after, empty, empty_hand, keeps, may_answer}

-- an answer with nothing in it of the clock
abbrev pub timeless : Answer → Answer
timeless (answers.Done version clock) = answers.Done version moves.Still
timeless (answers.Taken number value clock) = answers.Taken number value moves.Still
timeless (answers.Clock clock) = answers.Clock moves.Still
timeless answer = answer

-- `Entry m i event`: after m, seat i tells the event. `Point m i call answer`: after m, its call takes effect, with this answer.
pub data Marked : Type 0 where
  Blank : Marked
  Entry : Marked → (seat : ℕ) → Event → Marked
  Point : Marked → (seat : ℕ) → Call → Answer → Marked

-- the record that it is without its points
abbrev pub told_in : Marked → Past
told_in Marked.Blank = Start
told_in (Marked.Entry m i event) = Then (told_in m) i event
told_in (Marked.Point m i call answer) = told_in m

-- what the points make of the object, one after another
abbrev pub object_in : Config → Marked → Object
object_in c Marked.Blank = empty
object_in c (Marked.Entry m i event) = object_in c m
object_in c (Marked.Point m i call answer) = after c (object_in c m) call answer

-- what seat k keeps by its points
abbrev pub hand_in : Config → ℕ → Marked → Hand
hand_in c k Marked.Blank = empty_hand
hand_in c k (Marked.Entry m i event) = hand_in c k m
hand_in c k (Marked.Point m i call answer) = if k == i then keeps c (object_in c m) (hand_in c k m) call answer else hand_in c k m

-- a seat is in no call, in one that has had no point, or in one that has had its point, with this answer
pub data Stage : Type 0 where
  Outside : Stage
  Called : Call → Stage
  Answered : Answer → Stage

abbrev pub stage_by : Event → Stage → Stage
stage_by (events.Begin call) before = Stage.Called call
stage_by (events.End steps answer) before = Stage.Outside
stage_by event before = before

abbrev pub stage_in : ℕ → Marked → Stage
stage_in k Marked.Blank = Stage.Outside
stage_in k (Marked.Entry m i event) = if k == i then stage_by event (stage_in k m) else stage_in k m
stage_in k (Marked.Point m i call answer) = if k == i then Stage.Answered answer else stage_in k m

-- a call begins where its seat is in none, and ends after its point, with the answer of that
abbrev pub comes_at : Event → Stage → Type 0
comes_at (events.Begin call) before = before ≡ Stage.Outside
comes_at (events.End steps answer) before = before ≡ Stage.Answered (timeless answer)
comes_at event before = Unit {0}

-- each point is in its call, which has had none before, and there the object may answer so
abbrev pub AreRight : Config → Marked → Type 0
AreRight c Marked.Blank = Unit {0}
AreRight c (Marked.Entry m i event) = comes_at event (stage_in i m) × AreRight c m
AreRight c (Marked.Point m i call answer) =
    (stage_in i m ≡ Stage.Called call) × (may_answer c (object_in c m) (hand_in c i m) call answer ≡ true) × AreRight c m

-- map and queue at a position of a record, by the changes told before
abbrev pub object_at : Past → Object
object_at p =
    record {
      bucket = λ b. record { version = count_of b p; pairs = pairs_after (changes_of b p) };
      waiting = drop (taken_of p) (queued_of p);
      queued = length (queued_of p);
      taken = taken_of p;
    }

-- A record is linearizable where right points can be put in. A call that is under way at its end has a point or none.
pub record IsLinearizable (c : Config) (r : Past) : Type 0 where
  pub marked : Marked
  pub tells : told_in marked ≡ r
  pub right : AreRight c marked
  -- and what they leave of map and queue is what the record's changes say
  pub leaves : object_in c marked ≡ object_at r
