-- What calls answer, and why.
use Rattle.std.specs.Prelude.{nat_lt, ℕ, if◌then◌else◌, Bool, true, ◌==◌, false, not, ◌||◌, None, ◌+◌, ◌%◌, List, [], ◌∷◌, ◌&&◌, Option, Some, length, nat_le, ◌-◌, ◌≤◌, suc, zero}
use Rattle.model_record.specs.Record.{Test, EachEntry, Past, begins, held_since, value_since}
use Rattle.model_record.specs.Record.Past.{Start, Then}
use Rattle.model_record.specs.defs.Events.{is_null, is_held}
use Rattle.model_record.specs.defs.declared.call.Answer.{Answer}
use Rattle.model_record.specs.defs.declared.call.Answer.TheVariants as answers
use Rattle.model_record.specs.defs.declared.call.Call.{Call}
use Rattle.model_record.specs.defs.declared.call.Call.TheVariants as calls
use Rattle.model_record.specs.defs.declared.call.ClockMove.{ClockMove}
use Rattle.model_record.specs.defs.declared.call.ClockMove.TheVariants as moves
use Rattle.model_record.specs.defs.declared.event.Event.{Event}
use Rattle.model_record.specs.defs.declared.event.Event.TheVariants as events
use Rattle.wfe_words.specs.Schemes.{moves as moves_clock}
use Rattle.wfe_words.specs.declared.config.Config.{Config}
use Rattle.laws.specs.ScanLaw.{guards, blocks_of}
use Rattle.laws.specs.Lists.{adopts, has_left, is_adopted, list_of}
use Rattle.laws.specs.StateAt.{retires_of, changed_of, seen, began_of, has_told, is_bare, stands, taken_since, clock_of, tails_of, finds_of, times, is_read, is_back, is_give, is_among}
use Rattle.laws.specs.StructuresAt.{ShowsVersion, same_value, count_of, is_there, pairs_at, was_current, queued_of, begun_at, bucket_of, taken_of, RowShows, shows_of, value_at}

-- the answers that a call may have
abbrev pub suits : Call → Answer → Bool
suits (calls.Get key) (answers.Got version value) = true
suits (calls.Put key value) (answers.Done version clock) = true
suits (calls.Put key value) answers.Full = true
suits (calls.Put key value) (answers.BucketFull version) = true
suits (calls.Put key value) (answers.Spent number) = true
suits (calls.Remove key) (answers.Done version clock) = true
suits (calls.Remove key) answers.Full = true
suits (calls.Remove key) (answers.Absent version) = true
suits (calls.Remove key) (answers.Spent number) = true
suits (calls.Enqueue value) (answers.Queued number) = true
suits (calls.Enqueue value) answers.Full = true
suits (calls.Enqueue value) (answers.Spent number) = true
suits calls.Dequeue (answers.Taken number value clock) = true
suits calls.Dequeue answers.Empty = true
suits (calls.Hold key) (answers.Holding slot) = true
suits (calls.Hold key) answers.Nothing = true
suits calls.Release answers.Released = true
suits calls.Advance (answers.Clock clock) = true
suits calls.Scan (answers.Scanned kept back) = true
suits (calls.Copy from index) (answers.Copied slot) = true
suits (calls.Copy from index) answers.Nothing = true
suits (calls.DropIndex index) answers.Dropped = true
suits (calls.Look index key) (answers.Looked slot version value) = true
suits (calls.Look index key) answers.Nothing = true
suits (calls.PutIf key value wanted) (answers.Done version clock) = true
suits (calls.PutIf key value wanted) (answers.Stale version) = true
suits (calls.PutIf key value wanted) answers.Full = true
suits (calls.PutIf key value wanted) (answers.BucketFull version) = true
suits (calls.PutIf key value wanted) (answers.Spent number) = true
suits calls.Leave (answers.Left count) = true
suits (calls.Adopt place) (answers.Adopted count) = true
suits (calls.Adopt place) answers.NotLeft = true
suits (calls.Adopt place) answers.AdoptedBefore = true
suits call answer = false

-- what a call with this answer has told of the map, of the queue, of a copy or of a list, in a table with so many buckets
abbrev pub owes : ℕ → Call → Answer → Option Event
owes n (calls.Get key) (answers.Got version value) = Some (events.Got (key % n) version key value)
owes n (calls.Put key value) (answers.Done version clock) = Some (events.Put (key % n) version key value)
owes n (calls.Remove key) (answers.Done version clock) = Some (events.Removed (key % n) version key)
owes n (calls.Enqueue value) (answers.Queued number) = Some (events.Queued number value)
owes n calls.Dequeue (answers.Taken number value clock) = Some (events.Taken number value)
owes n (calls.Copy from index) (answers.Copied slot) = Some (events.Copied from index slot)
owes n (calls.PutIf key value wanted) (answers.Done version clock) = Some (events.Put (key % n) version key value)
owes n calls.Leave (answers.Left count) = Some (events.Left count)
owes n (calls.Adopt place) (answers.Adopted count) = Some (events.Adopted place count)
owes n call answer = None

abbrev pub same_event : Event → Event → Bool
same_event (events.Got b version key value) (events.Got b' version' key' value') = (b == b' && version == version') && (key == key' && same_value value value')
same_event (events.Put b version key value) (events.Put b' version' key' value') = (b == b' && version == version') && (key == key' && value == value')
same_event (events.Removed b version key) (events.Removed b' version' key') = (b == b' && version == version') && key == key'
same_event (events.Queued number value) (events.Queued number' value') = number == number' && value == value'
same_event (events.Taken number value) (events.Taken number' value') = number == number' && value == value'
same_event (events.Copied from index slot) (events.Copied from' index' slot') = from == from' && (index == index' && slot == slot')
same_event (events.Left count) (events.Left count') = count == count'
same_event (events.Adopted place count) (events.Adopted place' count') = place == place' && count == count'
same_event event other = false

-- the call of seat i told the event once
abbrev pub told_once : ℕ → Past → Option Event → Bool
told_once i p None = true
told_once i p (Some event) = times i (λ (other : Event). same_event other event) p == 1

abbrev pub answer_right : ℕ → ℕ → Past → Option Call → Answer → Bool
answer_right n i p None answer = false
answer_right n i p (Some call) answer = suits call answer && told_once i p (owes n call answer)

-- where a call ends, its answer suits it, and it has told once what the answer says
abbrev pub answers_ok : (buckets : ℕ) → Test
answers_ok n p i (events.End steps answer) = answer_right n i p (began_of i p) answer
answers_ok n p i event = true

-- a put of a key of bucket b
abbrev pub put_reason : Config → ℕ → ℕ → ℕ → Past → Answer → Bool
-- done: the version is allowed, and at the one before it the key was there, or a row had room for one pair more
put_reason c i b key p (answers.Done version clock) =
    nat_le version c.last_version && (is_there b (version - 1) key p || nat_lt (length (pairs_at b (version - 1) p)) c.pairs)
-- spent: the bucket has the last version that is allowed
put_reason c i b key p (answers.Spent version) = version == c.last_version && version == count_of b p
-- full: at a version current during the call, which was not the last, the row had no room, and the key was not there
put_reason c i b key p (answers.BucketFull version) =
    was_current i b version p && (nat_lt version c.last_version && (length (pairs_at b version p) == c.pairs && not (is_there b version key p)))
put_reason c i b key p answer = true

-- a remove of a key of bucket b
abbrev pub remove_reason : Config → ℕ → ℕ → ℕ → Past → Answer → Bool
-- done: the version is allowed, and at the one before it the key was there
remove_reason c i b key p (answers.Done version clock) = nat_le version c.last_version && is_there b (version - 1) key p
-- absent: at a version current during the call the key was not there
remove_reason c i b key p (answers.Absent version) = was_current i b version p && not (is_there b version key p)
-- spent: the bucket has the last version that is allowed, and the key is there
remove_reason c i b key p (answers.Spent version) = version == c.last_version && (version == count_of b p && is_there b version key p)
remove_reason c i b key p answer = true

abbrev pub enqueue_reason : Config → Past → Answer → Bool
-- queued: the number is allowed
enqueue_reason c p (answers.Queued number) = nat_le number c.last_version
-- spent: as many values were queued as there are numbers
enqueue_reason c p (answers.Spent number) = number == c.last_version && number == length (queued_of p)
enqueue_reason c p answer = true

abbrev pub dequeue_reason : ℕ → Past → Answer → Bool
-- empty: the call told that there is none at index 1
dequeue_reason i p answers.Empty = has_told i (is_null 1) p
dequeue_reason i p answer = true

-- a hold of a key of bucket b
abbrev pub hold_reason : ℕ → ℕ → Past → Answer → Bool
-- holding: the call told the row to stand at index 2, and it stands there
hold_reason i b p (answers.Holding slot) = has_told i (is_held 2 slot) p && stands i 2 slot p
-- nothing: the call told that there is none at index 2, and when it began the bucket had not been changed
hold_reason i b p answers.Nothing = has_told i (is_null 2) p && begun_at i b p == 0
hold_reason i b p answer = true

abbrev pub release_reason : ℕ → Past → Answer → Bool
-- released: nothing stands at index 2
release_reason i p answers.Released = is_bare i 2 p
release_reason i p answer = true

abbrev pub scan_reason : ℕ → Past → Answer → Bool
-- scanned: so many lives are left on the seat's list, and so many rows went back in the call
scan_reason i p (answers.Scanned kept back) = kept == length (list_of i p) && back == times i is_back p
scan_reason i p answer = true

-- the call of seat i has told nothing since it began
abbrev pub tells_none : ℕ → Past → Bool
tells_none i p = times i (λ (event : Event). true) p == 0

-- a copy: the call told it once, and the row stands at both indexes; or nothing stands where it copies from, and the call told nothing
abbrev pub copy_reason : (i from index : ℕ) → Past → Answer → Bool
copy_reason i from index p (answers.Copied slot) = stands i from slot p && stands i index slot p
copy_reason i from index p answers.Nothing = is_bare i from p && tells_none i p
copy_reason i from index p answer = true

-- a drop: nothing stands at the index
abbrev pub drop_reason : (i index : ℕ) → Past → Answer → Bool
drop_reason i index p answers.Dropped = is_bare i index p
drop_reason i index p answer = true

-- the row shows this version of its bucket, and the key has this value there
abbrev pub shows_value : (version key : ℕ) → (value : Option ℕ) → Past → RowShows → Bool
shows_value version key value p (ShowsVersion bucket shown) = version == shown && same_value value (value_at bucket shown key p)
shows_value version key value p shows = false

-- a look: the row stands at the index, and shows the version and the key's value; or nothing stands there
abbrev pub look_reason : (i index key : ℕ) → Past → Answer → Bool
look_reason i index key p (answers.Looked slot version value) = stands i index slot p && shows_value version key value p (shows_of slot p)
look_reason i index key p answers.Nothing = is_bare i index p
look_reason i index key p answer = true

-- a put that names a version, by that version: it is done or refused as a put where the bucket is at it, and stale where the bucket was
-- at another
abbrev pub put_if_reason : Config → (i b key wanted : ℕ) → Past → Answer → Bool
put_if_reason c i b key wanted p (answers.Done version clock) = version == wanted + 1 && put_reason c i b key p (answers.Done version clock)
put_if_reason c i b key wanted p (answers.Stale version) = was_current i b version p && not (version == wanted)
put_if_reason c i b key wanted p (answers.Spent version) = version == wanted && put_reason c i b key p (answers.Spent version)
put_if_reason c i b key wanted p (answers.BucketFull version) = version == wanted && put_reason c i b key p (answers.BucketFull version)
put_if_reason c i b key wanted p answer = true

-- nothing stands at any of so many indexes of the seat
abbrev pub is_bare_below : (indexes : ℕ) → ℕ → Past → Bool
is_bare_below zero i p = true
is_bare_below (suc j) i p = is_bare i j p && is_bare_below j i p

-- a call by which the seat leaves: nothing stands at the seat
abbrev pub leave_reason : (indexes i : ℕ) → Past → Answer → Bool
leave_reason n i p (answers.Left count) = is_bare_below n i p
leave_reason n i p answer = true

-- the seat had left at a position
abbrev pub stayed : ℕ → Past → Bool
stayed place p = not (has_left place p)

-- another call than the present one of seat i has taken the list over
abbrev pub adopted_else : (i place : ℕ) → Past → Bool
adopted_else i place Start = false
adopted_else i place (Then p k event) = if begins i p k event then is_adopted place p else (not (i == k) && adopts place event) || adopted_else i place p

-- a call that takes a list over: at a position of the call its seat had not left, or another call had taken it over
abbrev pub adopt_reason : (i place : ℕ) → Past → Answer → Bool
adopt_reason i place p answers.NotLeft = held_since (begins i) (stayed place) p
adopt_reason i place p answers.AdoptedBefore = adopted_else i place p
adopt_reason i place p answer = true

-- by the call of seat i that gives the answer
abbrev pub reason : Config → ℕ → Past → Option Call → Answer → Bool
reason c i p (Some (calls.Put key value)) answer = put_reason c i (bucket_of c.buckets key) key p answer
reason c i p (Some (calls.Remove key)) answer = remove_reason c i (bucket_of c.buckets key) key p answer
reason c i p (Some (calls.Enqueue value)) answer = enqueue_reason c p answer
reason c i p (Some calls.Dequeue) answer = dequeue_reason i p answer
reason c i p (Some (calls.Hold key)) answer = hold_reason i (bucket_of c.buckets key) p answer
reason c i p (Some calls.Release) answer = release_reason i p answer
reason c i p (Some (calls.Copy from index)) answer = copy_reason i from index p answer
reason c i p (Some (calls.DropIndex index)) answer = drop_reason i index p answer
reason c i p (Some (calls.Look index key)) answer = look_reason i index key p answer
reason c i p (Some (calls.PutIf key value wanted)) answer = put_if_reason c i (bucket_of c.buckets key) key wanted p answer
reason c i p (Some calls.Scan) answer = scan_reason i p answer
reason c i p (Some calls.Leave) answer = leave_reason c.indexes i p answer
reason c i p (Some (calls.Adopt place)) answer = adopt_reason i place p answer
reason c i p call answer = true

-- where a call ends, its answer has its reason
abbrev pub reasons_ok : Config → Test
reasons_ok c p i (events.End steps answer) = reason c i p (began_of i p) answer
reasons_ok c p i event = true

-- A call that answers Full was given no row, and had one block. Since the last row that went back then, or since the last guard that it
-- read, the row was taken at a position.
abbrev pub full_ok : Config → (s : ℕ) → Test
full_ok config s p i (events.End steps answers.Full) =
    not (has_told i is_give p) && (times i is_read p == guards config && taken_since config.slots i s p)
full_ok config s p i event = true

-- some number up to n passes
abbrev pub any_up_to : (ℕ → Bool) → ℕ → Bool
any_up_to test zero = test zero
any_up_to test (suc n) = test (suc n) || any_up_to test n

-- the version was current at a position of the call and was not the last, and there the key was there, or a row had room for one more
abbrev pub put_at : Config → (i b key : ℕ) → Past → (version : ℕ) → Bool
put_at c i b key p version = was_current i b version p && (nat_lt version c.last_version && (is_there b version key p || nat_lt (length (pairs_at b version p)) c.pairs))

-- the version was current at a position of the call and was not the last, and there the key was there
abbrev pub remove_at : Config → (i b key : ℕ) → Past → (version : ℕ) → Bool
remove_at c i b key p version = was_current i b version p && (nat_lt version c.last_version && is_there b version key p)

-- a number is left for a value
abbrev pub has_number : Config → Past → Bool
has_number c p = nat_lt (length (queued_of p)) c.last_version

-- by the call of seat i: at a version or a position of it nothing but a row was lacking
abbrev pub lacks_row : Config → ℕ → Past → Option Call → Bool
lacks_row c i p (Some (calls.Put key value)) = any_up_to (put_at c i (bucket_of c.buckets key) key p) (count_of (bucket_of c.buckets key) p)
lacks_row c i p (Some (calls.PutIf key value wanted)) =
    any_up_to (λ (version : ℕ). version == wanted && put_at c i (bucket_of c.buckets key) key p version) (count_of (bucket_of c.buckets key) p)
lacks_row c i p (Some (calls.Remove key)) = any_up_to (remove_at c i (bucket_of c.buckets key) key p) (count_of (bucket_of c.buckets key) p)
lacks_row c i p (Some (calls.Enqueue value)) = held_since (begins i) (has_number c) p
lacks_row c i p call = false

-- so it is with a call that answers Full
abbrev pub lacks_ok : Config → Test
lacks_ok c p i (events.End steps answers.Full) = lacks_row c i p (began_of i p)
lacks_ok c p i event = true

-- a change of a bucket that was changed before, and a dequeue that took a value, retire one row; all other calls retire none
abbrev pub retires_for : Answer → ℕ
retires_for (answers.Done version clock) = if nat_lt 1 version then 1 else 0
retires_for (answers.Taken number value clock) = 1
retires_for answer = 0

-- where a call ends, it has retired as many rows as its answer says
abbrev pub retires_ok : Test
retires_ok p i (events.End steps answer) = retires_of i p == retires_for answer
retires_ok p i event = true

-- the answers of a call that was refused
abbrev pub is_refusal : Answer → Bool
is_refusal answers.Full = true
is_refusal (answers.BucketFull version) = true
is_refusal (answers.Absent version) = true
is_refusal (answers.Spent number) = true
is_refusal (answers.Stale version) = true
is_refusal answers.Empty = true
is_refusal answer = false

-- a refused call has told no change of the map or of the queue, and no link but to the tail
abbrev pub refuses_ok : Test
refuses_ok p i (events.End steps answer) = not (is_refusal answer && changed_of i p)
refuses_ok p i event = true

-- What a seat's entries come to for what it answers of the clock. `retired`: the rows that it has retired in all its calls. `due`: its
-- call has to move the clock, since it is an Advance, or since its last Retire came to a multiple of `every`. Since it began, or since
-- that Retire: `eras` are those that it told before it read a guard, `told` says whether it told any, and `reads` whether it read one
pub record ClockTally : Type 0 where
  pub retired : ℕ
  pub due : Bool
  pub eras : List ℕ
  pub told : Bool
  pub reads : Bool

abbrev pub no_clock : ClockTally
no_clock = record { retired = 0; due = false; eras = []; told = false; reads = false }

abbrev pub is_advance : Call → Bool
is_advance calls.Advance = true
is_advance call = false

-- a guard is read
abbrev pub read_clock : ClockTally → ClockTally
read_clock before = record { retired = before.retired; due = before.due; eras = before.eras; told = before.told; reads = true }

abbrev pub clock_by : (every : ℕ) → Event → ClockTally → ClockTally
clock_by every (events.Begin call) before = record { retired = before.retired; due = is_advance call; eras = []; told = false; reads = false }
clock_by every (events.Retire slot birth retire) before =
    record { retired = before.retired + 1; due = (before.retired + 1) % every == 0; eras = []; told = false; reads = false }
clock_by every (events.Era era) before =
    record { retired = before.retired; due = before.due; eras = if before.reads then before.eras else era ∷ before.eras; told = true; reads = before.reads }
clock_by every (events.Read guard span) before = read_clock before
clock_by every (events.Saw guard slot) before = read_clock before
clock_by every event before = before

abbrev pub clock_tally : (every : ℕ) → ℕ → Past → ClockTally
clock_tally every i p = seen (clock_by every) no_clock i p

-- the clock where a seat began its call, or where it has retired a row since
abbrev pub from_by : (clock : ℕ) → Event → ℕ → ℕ
from_by clock (events.Begin call) before = clock
from_by clock (events.Retire slot birth retire) before = clock
from_by clock event before = before

abbrev pub from_of : ℕ → Past → ℕ
from_of i Start = 1
from_of i (Then p k event) = if i == k then from_by (clock_of p) event (from_of i p) else from_of i p

-- Still, just where no move was due; an era that the call moved the clock to, just where it told that era before it read a guard; that
-- another moved it, to a later era up to the present one, or that it has come to its last era, only where the call told none
abbrev pub outcome_fits : (last from now : ℕ) → ClockTally → ClockMove → Bool
outcome_fits last from now t moves.Still = not t.due
outcome_fits last from now t (moves.Moved era) = t.due && is_among era t.eras
outcome_fits last from now t (moves.Other seen) = t.due && (not t.told && (nat_lt from seen && nat_le seen now))
outcome_fits last from now t (moves.EraSpent era) = t.due && (not t.told && (era == last && era == now))

abbrev pub is_still : ClockMove → Bool
is_still moves.Still = true
is_still clock = false

-- what a change answers: where retirements do not move the clock, always Still
abbrev pub change_fits : (by_retires : Bool) → (last from now : ℕ) → ClockTally → ClockMove → Bool
change_fits by_retires last from now t clock = if by_retires then outcome_fits last from now t clock else is_still clock

abbrev pub answer_fits : (by_retires : Bool) → (last from now : ℕ) → ClockTally → Answer → Bool
answer_fits by_retires last from now t (answers.Done version clock) = change_fits by_retires last from now t clock
answer_fits by_retires last from now t (answers.Taken number value clock) = change_fits by_retires last from now t clock
answer_fits by_retires last from now t (answers.Clock clock) = outcome_fits last from now t clock
answer_fits by_retires last from now t answer = true

-- what a call answers of the clock is what it has told of it
abbrev pub clocks_ok : Config → Test
clocks_ok config p i (events.End steps answer) =
    answer_fits (moves_clock config.scheme) config.last_era (from_of i p) (clock_of p) (clock_tally config.every i p) answer
clocks_ok config p i event = true

-- what makes a call begin anew: changes of the bucket of a put or a remove; values queued and links to the tail for an enqueue, values
-- taken and links to the tail for a dequeue; nothing for any other call
abbrev pub moves_of : Config → Option Call → Past → ℕ
moves_of c (Some (calls.Put key value)) p = count_of (bucket_of c.buckets key) p
moves_of c (Some (calls.Remove key)) p = count_of (bucket_of c.buckets key) p
moves_of c (Some (calls.PutIf key value version)) p = count_of (bucket_of c.buckets key) p
moves_of c (Some (calls.Enqueue value)) p = length (queued_of p) + tails_of p
moves_of c (Some calls.Dequeue) p = taken_of p + tails_of p
moves_of c call p = 0

-- how much of it there was when the call of seat i began
abbrev pub moves_before : Config → ℕ → Past → ℕ
moves_before c i p = value_since (begins i) (moves_of c (began_of i p)) p

-- the call has found its root once, and once more for each of these since it began, and for each of its blocks
abbrev pub finds_few : Config → ℕ → Past → Bool
finds_few c i p = let begun : ℕ = (blocks_of c i p).begun in nat_le (finds_of i p) (1 + (moves_of c (began_of i p) p - moves_before c i p) + begun)

-- so where a call ends
abbrev pub repeats_ok : Config → Test
repeats_ok c p i (events.End steps answer) = finds_few c i p
repeats_ok c p i event = true

-- Each answer with its cause.
pub record AnswerLaw (config : Config) (r : Past) : Type 0 where
  -- a call's answer is of a kind that it may have, and the call told once what it answers of map and queue
  pub told : EachEntry (answers_ok config.buckets) r
  -- a change is done or refused by its bucket's pairs at a version of its call, and so are an enqueue, a dequeue and a hold by what the
  -- queue and the bucket had; what a hold or a copy answers stands, and after a release or a drop nothing does; a look answers what the
  -- row shows that stands; a scan counts what it kept and gave back; nothing stands at a seat that left; a list that was not taken over
  -- had not been left, or another call had taken it over
  pub reasons : EachEntry (reasons_ok config) r
  -- a call that answers Full was given no row and had one block, and since then each row was taken at a position
  pub full : (s : ℕ) → s ≤ config.slots → EachEntry (full_ok config s) r
  -- at a version or a position of such a call nothing but a row was lacking
  pub lacks : EachEntry (lacks_ok config) r
  -- by its end a call has retired one row if it took a value or changed a bucket after its first version, else none
  pub retires : EachEntry retires_ok r
  -- a refused call has told no change of the map or of the queue, and no link but to the tail
  pub refusals : EachEntry refuses_ok r
  -- what a call answers of the clock is what it has told of it, or what other seats made of it
  pub clock : EachEntry (clocks_ok config) r
  -- a call finds its root once, and once more for each change of its bucket or move of the queue since it began, and each block
  pub repeats : EachEntry (repeats_ok config) r
