-- A call that was made on a seat of a shared table, and the answers that its caller is given.
use Rattle.std.specs.Prelude.{List, None, Option, Some, false, ℕ, [], ◌∷◌, ◌++◌, ◌≡◌, ◌≢◌}
use Rattle.wfe_core.specs.Locals.{Group}
use Rattle.wfe_core.specs.declared.op.Op.{Op}
use Rattle.wfe_core.specs.defs.declared.call.Answer.{Answer}
use Rattle.wfe_core.specs.defs.declared.call.Answer.TheVariants as answers
use Rattle.wfe_core.specs.defs.declared.call.Call.{Call}
use Rattle.wfe_core.specs.defs.declared.call.Call.TheVariants as calls
use Rattle.wfe_core.specs.Keep.{not_taken}
use Rattle.wfe_core.specs.words.declared.layout.Layout.{Layout}
use Rattle.wfe_drive_rule.specs.history.History.{Item, record_of}
use Rattle.law_bounds.specs.all.Logs.Answered.{Says}
use Rattle.law_bounds.specs.all.Logs.Records.{IsAnswered}
use Rattle.law_bounds.specs.all.Logs.Reports.{IsReported}
use Rattle.law_bounds.specs.all.Logs.Versions.{counts_of}
use Rattle.law_bounds.specs.all.Whole.{IsLawful}
use Rattle.law_bounds.specs.Waits.{WaitsFew, came_after, came_in}
use Rattle.law_bounds.specs.Whole.{IsBounded}
use Rattle.law_bounds.specs.Paces.{IsPaced}
use Rattle.laws.specs.Standing.{is_leave}
use Rattle.wfe_drive_call.specs.drive_words.Called.{Ends}
use Rattle.wfe_drive_rule.specs.Handles.{IsTracked}
use Rattle.wfe_drive_rule.specs.Views.{seat_of}
use Rattle.wfe_table.specs.Public.{SeatNow}
use Rattle.wfe_table_end.specs.declared.answers.Looked.{Looked}
use Rattle.wfe_table_end.specs.declared.refusals.PutIfRefusal.{PutIfRefusal}
use Rattle.wfe_table_end.specs.declared.refusals.PutIfRefusal.TheVariants as put_ifs
use Rattle.wfe_table_end.specs.declared.refusals.PutRefusal.{PutRefusal}
use Rattle.wfe_table_end.specs.declared.refusals.PutRefusal.TheVariants as puts
use Rattle.wfe_table_end.specs.declared.refusals.RemoveRefusal.{RemoveRefusal}
use Rattle.wfe_table_end.specs.declared.refusals.RemoveRefusal.TheVariants as removes
use Rattle.wfe_table_end.specs.declared.refusals.EnqueueRefusal.{EnqueueRefusal}
use Rattle.wfe_table_end.specs.declared.refusals.EnqueueRefusal.TheVariants as enqueues

-- the call, its answer and its notes
abbrev pub group_of : Call → Answer → SeatNow → Group
group_of call answer seat = record { call = call; answer = answer; notes = seat.track.local.desk.notes }

-- the history keeps all laws. (It unfolds where it is named, so that a search among a call's clauses need not go through all laws.)
unfoldable pub IsLawfulPast : Layout → List Item → Type 0
IsLawfulPast layout past = IsLawful layout past

-- its record keeps all bounds of reclamation
unfoldable pub IsBoundedPast : Layout → List Item → Type 0
IsBoundedPast layout past = IsBounded layout.config (record_of layout past)

-- its record keeps the bounds of steps by what others did
unfoldable pub IsPacedPast : Layout → List Item → Type 0
IsPacedPast layout past = IsPaced layout.config (record_of layout past)

-- the seat made this call, and was answered so
pub record IsMade (layout : Layout) (old new : SeatNow) (call : Call) (answer : Answer) : Type 0 where
  -- its operations, each with what it found, are the machine's, each a step of the seat in a World to which a history comes; the
  -- last one answers; the log has this group more, and the steps are as many as the operations
  pub ops : List (Op × ℕ)
  pub ends : Ends call answer ops old.track.local new.track.local
  -- the history up to the seat's last step has grown, and comes to its state
  pub more : List Item
  pub grows : new.track.past ≡ old.track.past ++ more
  pub tracked : IsTracked layout new.track
  -- the answer says what is so by the record of that history: see the texts of `law_logs`
  pub answered : IsAnswered layout.config (seat_of new.track) (record_of layout new.track.past) old.track.local.log (group_of call answer new)
  -- the same by the counts of the seat's past as it was before the call: no version and no number that it tells is older than these, and
  -- none that any call had told whose past that one begins with
  pub known : Says layout.config (counts_of (record_of layout old.track.past)) (record_of layout new.track.past) call answer
  -- that history keeps all laws, of its record and of its turns, with what histories keep beyond them. So a call that is refused leaves
  -- map and queue as they were without it, a call that answers Full lacked nothing but a row, and one that holds nothing found a bucket
  -- that was never changed
  pub lawful : IsLawfulPast layout new.track.past
  -- by its record the report shows the guards that the seat's last block read, how many rows went back after it, and how many stayed
  pub reported : IsReported layout (seat_of new.track) (record_of layout new.track.past) new.track.local.desk.report
  -- its record keeps the bounds: how many rows are taken wherever seats have stopped, what scans leave, and what guards keep
  pub bounded : IsBoundedPast layout new.track.past
  -- and of steps: where a get, a hold or a change ends, it has taken no more than moves of the clock and changes of its bucket, or of the queue,
  -- during the call allow
  pub paced : IsPacedPast layout new.track.past
  -- So many rows wait on the list of a seat that stays: those that something keeps which its last scan read, and those that came since, fewer
  -- than `every` by retirements. Under hazard pointers that is at most one for each guard and `every` but one: Michael's bound. Both leave out
  -- what came with lists that the seat has taken over since its last scan, since an adopt scans nothing; its calls have answered how many.
  pub waits :
      is_leave (Some call) ≡ false
      → WaitsFew layout.config (seat_of new.track) (record_of layout new.track.past) new.track.local.log new.track.local.desk.list
  -- how many that is: this answer counts on from those before it
  pub came : came_in new.track.local.log ≡ came_after answer (came_in old.track.local.log)

-- the seat took over no list, since the exchange of its place word, its one operation, found this word
pub record IsMissed (layout : Layout) (old new : SeatNow) (place found : ℕ) : Type 0 where
  pub made : IsMade layout old new (calls.Adopt place) (not_taken found)
  pub exchange : Op
  pub word : made.ops ≡ (exchange, found) ∷ []
  pub apart : found ≢ 1

-- refusals as answers
abbrev pub put_answer : PutRefusal → Answer
put_answer puts.Full = answers.Full
put_answer (puts.BucketFull version) = answers.BucketFull version
put_answer (puts.Spent number) = answers.Spent number

abbrev pub put_if_answer : PutIfRefusal → Answer
put_if_answer (put_ifs.Stale version) = answers.Stale version
put_if_answer (put_ifs.Spent number) = answers.Spent number
put_if_answer (put_ifs.BucketFull version) = answers.BucketFull version
put_if_answer put_ifs.Full = answers.Full

abbrev pub remove_answer : RemoveRefusal → Answer
remove_answer (removes.Absent version) = answers.Absent version
remove_answer (removes.Spent number) = answers.Spent number
remove_answer removes.Full = answers.Full

abbrev pub enqueue_answer : EnqueueRefusal → Answer
enqueue_answer (enqueues.Spent number) = answers.Spent number
enqueue_answer enqueues.Full = answers.Full

-- a hold holds a row, or has found none
abbrev pub hold_answer : Option ℕ → Answer
hold_answer None = answers.Nothing
hold_answer (Some slot) = answers.Holding slot

-- a copy protects a row at another index, and a look reads one; or nothing stands there
abbrev pub copy_answer : Option ℕ → Answer
copy_answer None = answers.Nothing
copy_answer (Some slot) = answers.Copied slot

abbrev pub look_answer : Option Looked → Answer
look_answer None = answers.Nothing
look_answer (Some looked) = answers.Looked looked.slot looked.version looked.value
