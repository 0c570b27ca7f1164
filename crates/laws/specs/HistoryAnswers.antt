-- What calls answer, and why.
use Rattle.std.specs.Prelude.{Bool, List, None, Option, Some, [], false, if◌then◌else◌, is_none, length, nat_le, nat_lt, not, true, ℕ, ◌%◌, ◌&&◌, ◌+◌, ◌-◌, ◌==◌, ◌||◌, ◌∷◌, ◌≤◌, suc, zero}
use Rattle.model_record.specs.Record.{EachEntry, Past, Test}
use Rattle.model_record.specs.defs.Events.{is_held, is_null}
use Rattle.model_record.specs.defs.declared.call.Answer.TheVariants as answers
use Rattle.model_record.specs.defs.declared.call.Answer.{Answer}
use Rattle.model_record.specs.defs.declared.call.Call.TheVariants as calls
use Rattle.model_record.specs.defs.declared.call.Call.{Call}
use Rattle.model_record.specs.defs.declared.call.ClockMove.TheVariants as moves
use Rattle.model_record.specs.defs.declared.call.ClockMove.{ClockMove}
use Rattle.model_record.specs.defs.declared.event.Event.TheVariants as events
use Rattle.model_record.specs.defs.declared.event.Event.{Event}
use Rattle.wfe_words.specs.Schemes.{moves as moves_clock}
use Rattle.wfe_words.specs.declared.config.Config.{Config}
use Rattle.laws.specs.AnswerLaw.{adopt_reason, enqueue_reason, from_of, is_advance, is_still, lacks_ok, moves_before, moves_of, retires_for, same_event, suits, shows_value, tells_none}
use Rattle.laws.specs.HistoryScans.{Search, search_of}
use Rattle.laws.specs.ScanLaw.{guards}
use Rattle.laws.specs.StateAt.{began_of, changed_of, clock_of, finds_of, has_told, is_row, retires_of, seen, stood_at, taken_since, told, told_of}
use Rattle.laws.specs.StructuresAt.{begun_at, bucket_of, count_of, had_version, is_there, pairs_at, was_current, was_empty, shows_of}

abbrev pub counts_right : Event → ℕ → Bool
counts_right (events.End steps answer) before = before == retires_for answer
counts_right event before = true

abbrev pub retires_ok : Test
retires_ok p i event = counts_right event (retires_of i p)

-- where a call ends, it has retired as many rows as its answer says
abbrev pub RetireCounts : Past → Type 0
RetireCounts r = EachEntry retires_ok r

-- the answers of a call that has changed something; refusals are among the others
abbrev pub is_change : Answer → Bool
is_change (answers.Done version clock) = true
is_change (answers.Queued number) = true
is_change (answers.Taken number value clock) = true
is_change answer = false

abbrev pub refuses_right : Event → Bool → Bool
refuses_right (events.End steps answer) before = not before || is_change answer
refuses_right event before = true

abbrev pub refusing_ok : Test
refusing_ok p i event = refuses_right event (changed_of i p)

-- only a call that answers Done, Queued or Taken has told a change or a link that is not to the tail: a refused call has not
abbrev pub RefusalLaw : Past → Type 0
RefusalLaw r = EachEntry refusing_ok r

-- what a seat's entries come to: how many rows it has retired in all its calls; whether its call has to move the clock, since it is
-- an Advance, or since that number became a multiple of `every` in it; and the era that it has told since it began, or since it retired
-- a row
pub record ClockTally : Type 0 where
  pub retired : ℕ
  pub due : Bool
  pub moved : Option ℕ

abbrev pub plain_clock_by : (every : ℕ) → Event → ClockTally → ClockTally
plain_clock_by every (events.Begin call) before = record { retired = before.retired; due = is_advance call; moved = None }
plain_clock_by every (events.Retire slot birth retire) before = record { retired = before.retired + 1; due = (before.retired + 1) % every == 0; moved = None }
plain_clock_by every (events.Era era) before = record { retired = before.retired; due = before.due; moved = Some era }
plain_clock_by every event before = before

abbrev pub no_clock : ClockTally
no_clock = record { retired = 0; due = false; moved = None }

abbrev pub plain_clock : (every : ℕ) → ℕ → Past → ClockTally
plain_clock every i p = seen (plain_clock_by every) no_clock i p

abbrev pub is_era : ℕ → Option ℕ → Bool
is_era era None = false
is_era era (Some told) = told == era

-- Still, just where no move was due; an era that the call moved the clock to, just where it told that era; that the clock stands at
-- its last era, or that another moved it, only where it told none
abbrev pub outcome_fits : (last : ℕ) → ClockTally → ClockMove → Bool
outcome_fits last t moves.Still = not t.due
outcome_fits last t (moves.Moved era) = t.due && is_era era t.moved
outcome_fits last t (moves.Other seen) = t.due && is_none t.moved
outcome_fits last t (moves.EraSpent era) = t.due && (is_none t.moved && era == last)

-- what a change answers: where retirements do not move the clock, always Still
abbrev pub change_fits : (by_retires : Bool) → (last : ℕ) → ClockTally → ClockMove → Bool
change_fits by_retires last t clock = if by_retires then outcome_fits last t clock else is_still clock

abbrev pub answer_fits : (by_retires : Bool) → (last : ℕ) → ClockTally → Answer → Bool
answer_fits by_retires last t (answers.Done version clock) = change_fits by_retires last t clock
answer_fits by_retires last t (answers.Taken number value clock) = change_fits by_retires last t clock
answer_fits by_retires last t (answers.Clock clock) = outcome_fits last t clock
answer_fits by_retires last t answer = true

abbrev pub clock_right : (by_retires : Bool) → (last : ℕ) → Event → ClockTally → Bool
clock_right by_retires last (events.End steps answer) before = answer_fits by_retires last before answer
clock_right by_retires last event before = true

-- a call answers that the clock is still just where it is no Advance and that number did not become such a multiple in it, or where
-- retirements do not move the clock
abbrev pub plain_clocks_ok : Config → Test
plain_clocks_ok config p i event = clock_right (moves_clock config.scheme) config.last_era event (plain_clock config.every i p)

abbrev pub PlainOutcomes : Config → Past → Type 0
PlainOutcomes config r = EachEntry (plain_clocks_ok config) r

-- what a call with this answer has told, in a table with so many buckets
abbrev pub owes : ℕ → Call → Answer → List Event
owes n (calls.Get key) (answers.Got version value) = events.Got (key % n) version key value ∷ []
owes n (calls.Put key value) (answers.Done version clock) = events.Put (key % n) version key value ∷ []
owes n (calls.Remove key) (answers.Done version clock) = events.Removed (key % n) version key ∷ []
owes n (calls.Enqueue value) (answers.Queued number) = events.Queued number value ∷ []
owes n calls.Dequeue (answers.Taken number value clock) = events.Taken number value ∷ []
owes n (calls.Copy from index) (answers.Copied slot) = events.Copied from index slot ∷ []
owes n (calls.PutIf key value wanted) (answers.Done version clock) = events.Put (key % n) version key value ∷ []
owes n calls.Leave (answers.Left count) = events.Left count ∷ []
owes n (calls.Adopt place) (answers.Adopted count) = events.Adopted place count ∷ []
owes n call answer = []

abbrev pub same_told : List Event → List Event → Bool
same_told [] [] = true
same_told (event ∷ told) (other ∷ others) = same_event event other && same_told told others
same_told [] (other ∷ others) = false
same_told (event ∷ told) [] = false

abbrev pub answer_right : ℕ → Option Call → List Event → Answer → Bool
answer_right n None told answer = false
answer_right n (Some call) told answer = suits call answer && same_told told (owes n call answer)

-- where a call ends, its answer suits it, and it has told just the event that the answer says, or none
abbrev pub answers_ok : ℕ → Test
answers_ok n p i (events.End steps answer) = answer_right n (began_of i p) (told_of i p) answer
answers_ok n p i event = true

abbrev pub AnswersLaw : ℕ → Past → Type 0
AnswersLaw n r = EachEntry (answers_ok n) r

-- a put of a key of bucket b
abbrev pub put_reason : Config → ℕ → ℕ → ℕ → Past → Answer → Bool
-- done: the version is allowed, and at the one before it the key was there, or a row had room for one pair more
put_reason c i b key p (answers.Done version clock) =
    nat_le version c.last_version && (had_version b (version - 1) p && (is_there b (version - 1) key p || nat_lt (length (pairs_at b (version - 1) p)) c.pairs))
-- spent: the bucket has the last version that is allowed
put_reason c i b key p (answers.Spent version) = version == c.last_version && version == count_of b p
-- full: at a version current during the call, which was not the last, the row had no room, and the key was not there
put_reason c i b key p (answers.BucketFull version) =
    was_current i b version p && (nat_lt version c.last_version && (length (pairs_at b version p) == c.pairs && not (is_there b version key p)))
put_reason c i b key p answer = true

-- a remove of a key of bucket b
abbrev pub remove_reason : Config → ℕ → ℕ → ℕ → Past → Answer → Bool
-- done: the version is allowed, and at the one before it the key was there
remove_reason c i b key p (answers.Done version clock) = nat_le version c.last_version && (had_version b (version - 1) p && is_there b (version - 1) key p)
-- absent: at a version current during the call the key was not there
remove_reason c i b key p (answers.Absent version) = was_current i b version p && not (is_there b version key p)
-- spent: the bucket has the last version that is allowed, and the key is there
remove_reason c i b key p (answers.Spent version) = version == c.last_version && (version == count_of b p && is_there b version key p)
remove_reason c i b key p answer = true

abbrev pub dequeue_reason : ℕ → Past → Answer → Bool
-- empty: at a position of the call all that was queued was taken, and the call told Null at index 1
dequeue_reason i p answers.Empty = was_empty i p && has_told i (is_null 1) p
dequeue_reason i p answer = true

-- a hold of a key of bucket b
abbrev pub hold_reason : ℕ → ℕ → Past → Answer → Bool
-- holding: the call told the row to stand at index 2, and it stands there
hold_reason i b p (answers.Holding slot) = has_told i (is_held 2 slot) p && is_row slot (stood_at i 2 p)
-- nothing: the call told Null at index 2, and when it began the bucket had not been changed
hold_reason i b p answers.Nothing = has_told i (is_null 2) p && begun_at i b p == 0
hold_reason i b p answer = true

abbrev pub release_reason : ℕ → Past → Answer → Bool
-- released: nothing stands at index 2
release_reason i p answers.Released = is_none (stood_at i 2 p)
release_reason i p answer = true

-- a copy: the call told it once, and the row stands at both indexes; or nothing stands where it copies from, and the call told nothing
abbrev pub copy_reason : (i from index : ℕ) → Past → Answer → Bool
copy_reason i from index p (answers.Copied slot) = is_row slot (stood_at i from p) && is_row slot (stood_at i index p)
copy_reason i from index p answers.Nothing = is_none (stood_at i from p) && tells_none i p
copy_reason i from index p answer = true

-- a drop: nothing stands at the index
abbrev pub drop_reason : (i index : ℕ) → Past → Answer → Bool
drop_reason i index p answers.Dropped = is_none (stood_at i index p)
drop_reason i index p answer = true

-- a look: the row stands at the index, and shows the version and the key's value; or nothing stands there
abbrev pub look_reason : (i index key : ℕ) → Past → Answer → Bool
look_reason i index key p (answers.Looked slot version value) = is_row slot (stood_at i index p) && shows_value version key value p (shows_of slot p)
look_reason i index key p answers.Nothing = is_none (stood_at i index p)
look_reason i index key p answer = true

-- a put that names a version, by that version: it is done or refused as a put where the bucket is at it, and stale where the bucket was
-- at another
abbrev pub put_if_reason : Config → (i b key wanted : ℕ) → Past → Answer → Bool
put_if_reason c i b key wanted p (answers.Done version clock) = version == wanted + 1 && put_reason c i b key p (answers.Done version clock)
put_if_reason c i b key wanted p (answers.Stale version) = was_current i b version p && not (version == wanted)
put_if_reason c i b key wanted p (answers.Spent version) = version == wanted && put_reason c i b key p (answers.Spent version)
put_if_reason c i b key wanted p (answers.BucketFull version) = version == wanted && put_reason c i b key p (answers.BucketFull version)
put_if_reason c i b key wanted p answer = true

-- nothing stands at any of so many indexes of the seat
abbrev pub is_bare_below : (indexes : ℕ) → ℕ → Past → Bool
is_bare_below zero i p = true
is_bare_below (suc j) i p = is_none (stood_at i j p) && is_bare_below j i p

-- a call by which the seat leaves: nothing stands at the seat
abbrev pub leave_reason : (indexes i : ℕ) → Past → Answer → Bool
leave_reason n i p (answers.Left count) = is_bare_below n i p
leave_reason n i p answer = true

-- by the call of seat i that gives the answer
abbrev pub reason : Config → ℕ → Past → Option Call → Answer → Bool
reason c i p (Some (calls.Put key value)) answer = put_reason c i (bucket_of c.buckets key) key p answer
reason c i p (Some (calls.Remove key)) answer = remove_reason c i (bucket_of c.buckets key) key p answer
reason c i p (Some (calls.Enqueue value)) answer = enqueue_reason c p answer
reason c i p (Some calls.Dequeue) answer = dequeue_reason i p answer
reason c i p (Some (calls.Hold key)) answer = hold_reason i (bucket_of c.buckets key) p answer
reason c i p (Some calls.Release) answer = release_reason i p answer
reason c i p (Some (calls.Copy from index)) answer = copy_reason i from index p answer
reason c i p (Some (calls.DropIndex index)) answer = drop_reason i index p answer
reason c i p (Some (calls.Look index key)) answer = look_reason i index key p answer
reason c i p (Some (calls.PutIf key value wanted)) answer = put_if_reason c i (bucket_of c.buckets key) key wanted p answer
reason c i p (Some calls.Leave) answer = leave_reason c.indexes i p answer
reason c i p (Some (calls.Adopt place)) answer = adopt_reason i place p answer
reason c i p call answer = true

-- where a call ends, its answer has its reason
abbrev pub reasons_ok : Config → Test
reasons_ok c p i (events.End steps answer) = reason c i p (began_of i p) answer
reasons_ok c p i event = true

abbrev pub ReasonLaw : Config → Past → Type 0
ReasonLaw c r = EachEntry (reasons_ok c) r

-- A call that answers Full was given no row, and has read each guard once. Since the last row that went back then, or since the last
-- guard that it read, the row was taken at a position.
abbrev pub full_ok : Config → (s : ℕ) → Test
full_ok config s p i (events.End steps answers.Full) = let x : Search = search_of i p in x.seeks && (x.reads == guards config && taken_since config.slots i s p)
full_ok config s p i event = true

-- so it is with each row
abbrev pub FullLaw : Config → Past → Type 0
FullLaw config r = (s : ℕ) → s ≤ config.slots → EachEntry (full_ok config s) r

abbrev pub LackLaw : Config → Past → Type 0
LackLaw c r = EachEntry (lacks_ok c) r

-- an era that another moved the clock to is later than that clock, and at most the present one; a last era is the present one
abbrev pub time_fits : (from now : ℕ) → ClockMove → Bool
time_fits from now (moves.Other seen) = nat_lt from seen && nat_le seen now
time_fits from now (moves.EraSpent era) = era == now
time_fits from now clock = true

abbrev pub answer_time : (from now : ℕ) → Answer → Bool
answer_time from now (answers.Done version clock) = time_fits from now clock
answer_time from now (answers.Taken number value clock) = time_fits from now clock
answer_time from now (answers.Clock clock) = time_fits from now clock
answer_time from now answer = true

-- so where a call ends
abbrev pub times_ok : Test
times_ok p i (events.End steps answer) = answer_time (from_of i p) (clock_of p) answer
times_ok p i event = true

abbrev pub ClockTimes : Past → Type 0
ClockTimes r = EachEntry times_ok r

-- one where the call has read each guard, and none else
abbrev pub whole_scan : (all : ℕ) → Search → ℕ
whole_scan all search = if nat_le all search.reads then 1 else 0

-- the call has found its root once, and once more for each of these since it began, and for a scan
abbrev pub finds_few : Config → ℕ → Past → Bool
finds_few c i p = nat_le (finds_of i p) (1 + (moves_of c (began_of i p) p - moves_before c i p) + whole_scan (guards c) (search_of i p))

-- so where a call ends
abbrev pub repeats_ok : Config → Test
repeats_ok c p i (events.End steps answer) = finds_few c i p
repeats_ok c p i event = true

abbrev pub RepeatLaw : Config → Past → Type 0
RepeatLaw c r = EachEntry (repeats_ok c) r

-- Each answer with its cause.
pub record HistoryAnswers (config : Config) (r : Past) : Type 0 where
  -- a call's answer is of a kind that it may have, and the call told once what it answers of map and queue, or nothing
  pub told : AnswersLaw config.buckets r
  -- a change is done or refused by its bucket's pairs at a version of its call, and so are an enqueue, a dequeue and a hold by what the
  -- queue and the bucket had; what a hold answers stands, and after a release nothing does
  pub reasons : ReasonLaw config r
  -- a call that answers Full was given no row and has read each guard once, and since then each row was taken at a position
  pub full : FullLaw config r
  -- at a version or a position of such a call nothing but a row was lacking
  pub lacks : LackLaw config r
  -- by its end a call has retired one row if it took a value or changed a bucket after its first version, else none
  pub retires : RetireCounts r
  -- only a call that answers Done, Queued or Taken has told a change, or a link that is not to the tail
  pub refusals : RefusalLaw r
  -- what a call answers of the clock is what it has told of it
  pub clock : PlainOutcomes config r
  -- an era that another seat moved the clock to came after the call had to move it, and a last era is the clock
  pub times : ClockTimes r
  -- a call finds its root once, and once more for each change of its bucket or move of the queue since it began, and a scan
  pub repeats : RepeatLaw config r
