-- What threads leave that made calls on one table at once: the calls of each seat, in their order, and the table that was closed after
-- them. No order between calls of two seats is in it.
use Rattle.std.specs.Prelude.{Bool, List, None, Option, Some, [], count_by, drop, false, filter, if◌then◌else◌, is_some, length, map, nat_le, nat_lt, slice_get, slice_index_or, suc, sum_by, take, true, zero, ℕ, ◌%◌, ◌&&◌, ◌++◌, ◌+◌, ◌-◌, ◌<◌, ◌==◌, ◌∷◌, ◌≡◌, ◌≤◌}
use Rattle.std.specs.List.{range_with_len}
use Rattle.law_all.specs.inv.model.Desks.{Notes}
use Rattle.law_all.specs.inv.model.Locals.{Group}
use Rattle.law_all.specs.inv.model.defs.Pairs.{Pair, pairs_after, value_in}
use Rattle.law_all.specs.inv.model.defs.declared.call.Answer.{Answer}
use Rattle.law_all.specs.inv.model.defs.declared.call.Answer.TheVariants as answers
use Rattle.law_all.specs.inv.model.defs.declared.call.Call.{Call}
use Rattle.law_all.specs.inv.model.defs.declared.call.Call.TheVariants as calls
use Rattle.law_all.specs.inv.model.defs.declared.call.ClockMove.{ClockMove}
use Rattle.law_all.specs.inv.model.defs.declared.call.ClockMove.TheVariants as moves
use Rattle.law_all.specs.inv.model.defs.declared.event.Event.{Event}
use Rattle.law_all.specs.inv.model.defs.declared.event.Event.TheVariants as events
use Rattle.law_all.specs.inv.model.defs.declared.fold.Change.{Change}
use Rattle.law_all.specs.inv.model.defs.declared.fold.Change.TheVariants as changes
use Rattle.law_all.specs.inv.model.defs.declared.lifetime.Lifetime.{Lifetime}
use Rattle.law_all.specs.inv.model.words.Schemes.{moves as moves_clock}
use Rattle.law_all.specs.inv.model.words.declared.config.Config.{Config}
use Rattle.law_all.specs.laws.AnswerLaw.{is_advance, owes, retires_for, suits}
pub use Rattle.law_all.specs.laws.AnswerLaw.{is_still}
use Rattle.law_all.specs.laws.StateAt.{is_among, one, without_one}
use Rattle.law_all.specs.laws.StructuresAt.{Filling, bucket_of, numbered_from}
use Rattle.law_all.specs.Kept.{Keeping, kept_in, looked_in}
use Rattle.law_all.specs.Logs.Versions.{number_queued, number_taken, seen_in, version_told}

-- The table as it was closed: the clock, each bucket with its version and its pairs, the items of the queue with their numbers, and the
-- rows that are taken.

pub record AtClose : Type 0 where
  pub clock : ℕ
  pub buckets : List Filling
  pub queue : List (ℕ × ℕ)
  pub used : List ℕ

abbrev pub no_bucket : Filling
no_bucket = record { version = 0; pairs = [] }

-- bucket b of it
abbrev pub bucket_in : ℕ → AtClose → Filling
bucket_in b closed = slice_index_or closed.buckets b no_bucket

-- Calls as events: what the text of a run prints of them.

abbrev pub backs : List ℕ → List Event
backs [] = []
backs (slot ∷ slots) = events.Back slot ∷ backs slots

-- the slots that went back before a row was given, and the others
abbrev pub early_backs : Notes → List ℕ
early_backs notes = take notes.early notes.back

abbrev pub late_backs : Notes → List ℕ
late_backs notes = drop notes.early notes.back

abbrev pub give_told : Option (ℕ × ℕ) → List Event
give_told None = []
give_told (Some row) = events.Give row.0 row.1 ∷ []

abbrev pub one_told : Option Event → List Event
one_told None = []
one_told (Some event) = event ∷ []

abbrev pub unused_told : Bool → Option (ℕ × ℕ) → List Event
unused_told false given = []
unused_told true None = []
unused_told true (Some row) = events.Unused row.0 ∷ []

abbrev pub retire_told : Option Lifetime → List Event
retire_told None = []
retire_told (Some life) = events.Retire life.slot life.birth life.retire ∷ []

-- what a call tells of the map, of the queue or of a list; that a copy was made stands in its answer
abbrev pub change_told : (buckets : ℕ) → Call → Answer → Option Event
change_told n (calls.Copy from index) answer = None
change_told n call answer = owes n call answer

-- one call, in a table with so many buckets: it begins; what went back early, the row that it was given, what it did of the map, of
-- the queue or of a list, the row that it gave up, the row that it retired, and what went back later; and it ends
abbrev pub events_of : (buckets : ℕ) → Group → List Event
events_of n group =
    events.Begin group.call
    ∷ (backs (early_backs group.notes)
    ++ (give_told group.notes.given
    ++ (one_told (change_told n group.call group.answer)
    ++ (unused_told group.notes.unused group.notes.given
    ++ (retire_told group.notes.retired
    ++ (backs (late_backs group.notes)
    ++ events.End group.notes.steps group.answer ∷ []))))))

-- all calls of a seat
abbrev pub events_of_all : (buckets : ℕ) → List Group → List Event
events_of_all n [] = []
events_of_all n (group ∷ log) = events_of n group ++ events_of_all n log

abbrev pub call_made : Group → Call
call_made group = group.call

-- Sums over the calls of all seats.

abbrev pub total : (Group → ℕ) → List (List Group) → ℕ
total weight logs = sum_by (λ log. sum_by weight log) logs

abbrev pub total_of : (Group → Bool) → List (List Group) → ℕ
total_of test logs = sum_by (λ log. count_by test log) logs

-- one of these logs
pub record IsLog (logs : List (List Group)) (log : List Group) : Type 0 where
  pub seat : ℕ
  pub at : slice_get logs seat ≡ Some log

-- a call of one of the seats, and the calls of that seat before it
pub record IsCall (logs : List (List Group)) (before : List Group) (group : Group) : Type 0 where
  pub later : List Group
  pub log : IsLog logs (before ++ group ∷ later)

-- two calls of one seat, the first before the second
pub record InOrder (logs : List (List Group)) (one two : Group) : Type 0 where
  pub before : List Group
  pub between : List Group
  pub later : List Group
  pub log : IsLog logs (before ++ one ∷ (between ++ two ∷ later))

-- Answers, as far as a call's own events show them.

-- versions and numbers are at most the greatest; a bucket is full at an earlier version; what is spent has the greatest
abbrev pub is_allowed : (last : ℕ) → Answer → Bool
is_allowed last (answers.Done version clock) = nat_le version last
is_allowed last (answers.BucketFull version) = nat_lt version last
is_allowed last (answers.Spent number) = number == last
is_allowed last (answers.Queued number) = nat_le number last
is_allowed last answer = true

-- a row was retired
abbrev pub retired_in : Group → ℕ
retired_in group = one (is_some group.notes.retired)

-- how many rows these calls have retired
abbrev pub retired_by : List Group → ℕ
retired_by log = sum_by retired_in log

-- the clock has to be moved: by an advance; and where retirements move it, by a call with whose retirement its seat has retired a multiple
-- of `every` rows
abbrev pub is_due : (by_retires : Bool) → (every : ℕ) → (before : List Group) → Group → Bool
is_due by_retires every before group =
    if is_advance group.call then true else by_retires && (is_some group.notes.retired && (retired_by before + 1) % every == 0)

-- what an answer says of the clock
abbrev pub clock_told : Answer → Option ClockMove
clock_told (answers.Done version clock) = Some clock
clock_told (answers.Taken number value clock) = Some clock
clock_told (answers.Clock clock) = Some clock
clock_told answer = None

-- a copy, a drop and a look, which print no more than that they begin and end, and calls by which a seat leaves or takes a list over
abbrev pub is_bare : Call → Bool
is_bare (calls.Copy from index) = true
is_bare (calls.DropIndex index) = true
is_bare (calls.Look index key) = true
is_bare calls.Leave = true
is_bare (calls.Adopt place) = true
is_bare call = false

-- no row was given, and none went back
abbrev pub NoRow : Notes → Type 0
NoRow notes = (notes.given ≡ None) × (notes.back ≡ [])

-- A call and its answer.
pub record IsRight (c : Config) (before : List Group) (group : Group) : Type 0 where
  -- the answer is one that the call may have
  pub suits : suits group.call group.answer ≡ true
  -- its version or number is in range
  pub allowed : is_allowed c.last_version group.answer ≡ true
  -- where no row was to be had, none was given
  pub full : group.answer ≡ answers.Full → group.notes.given ≡ None
  -- it retired as many rows as the answer says
  pub retires : retired_in group ≡ retires_for group.answer
  -- the clock stood still exactly where it had not to be moved
  pub clock :
      (move : ClockMove)
      → clock_told group.answer ≡ Some move
      → is_still move ≡ (if is_due (moves_clock c.scheme) c.every before group then false else true)
  -- a scan counts what went back
  pub back : (kept back : ℕ) → group.answer ≡ answers.Scanned kept back → back ≡ length group.notes.back
  -- such a call is given no row, and none goes back in it
  pub bare : is_bare group.call ≡ true → NoRow group.notes

-- Each answer is right, as far as its call's own events and the calls of the seat before it show.
pub record AnswersLaw (c : Config) (logs : List (List Group)) : Type 0 where
  pub seats : length logs ≡ c.seats
  pub right : (before : List Group) (group : Group) → IsCall logs before group → IsRight c before group

-- Versions of buckets.

-- the change that a call has made
abbrev pub change_made : Call → Answer → Option Change
change_made (calls.Put key value) (answers.Done version clock) = Some (changes.Put key value)
change_made (calls.PutIf key value wanted) (answers.Done version clock) = Some (changes.Put key value)
change_made (calls.Remove key) (answers.Done version clock) = Some (changes.Removed key)
change_made call answer = None

abbrev pub is_change : Group → Bool
is_change group = is_some (change_made group.call group.answer)

-- what is told is this version of the bucket
abbrev pub is_version : (buckets b version : ℕ) → Option (ℕ × ℕ) → Bool
is_version n b version None = false
is_version n b version (Some told) = bucket_of n told.0 == b && told.1 == version

-- the call made the change of the bucket with this version
abbrev pub is_change_of : (buckets b version : ℕ) → Group → Bool
is_change_of n b version group = is_change group && is_version n b version (version_told group.call group.answer)

-- the numbers from 1 to the greatest, each once
abbrev pub once_up_to : (greatest number : ℕ) → ℕ
once_up_to greatest number = if nat_le 1 number && nat_le number greatest then 1 else 0

-- the pairs at a version
abbrev pub pairs_by : List Change → ℕ → List Pair
pairs_by cs version = pairs_after (take version cs)

-- the key is not there at a version that the bucket had
pub record IsAway (cs : List Change) (key version : ℕ) : Type 0 where
  pub had : version ≤ length cs
  pub away : value_in (pairs_by cs version) key ≡ None

-- the key is there
pub record IsThere (cs : List Change) (key version : ℕ) : Type 0 where
  pub had : version ≤ length cs
  pub there : is_some (value_in (pairs_by cs version) key) ≡ true

-- a change of the bucket that is done is that of its version, and at the version before it could be made
pub record IsMade (cs : List Change) (change : Change) (version : ℕ) (could : Bool) : Type 0 where
  pub some : 1 ≤ version
  pub is : slice_get cs (version - 1) ≡ Some change
  pub could_be : could ≡ true

-- the key was there, or the row had room
abbrev pub could_put : (room : ℕ) → List Pair → (key : ℕ) → Bool
could_put room pairs key = if is_some (value_in pairs key) then true else nat_lt (length pairs) room

-- what an answer says of its key's bucket, by the changes of the buckets
abbrev pub ReadsRight : Config → (ℕ → List Change) → Call → Answer → Type 0
ReadsRight c made (calls.Get key) (answers.Got version value) =
    (version ≤ length (made (bucket_of c.buckets key))) × (value ≡ value_in (pairs_by (made (bucket_of c.buckets key)) version) key)
ReadsRight c made (calls.Put key value) (answers.Done version clock) =
    IsMade (made (bucket_of c.buckets key)) (changes.Put key value) version
    (could_put c.pairs (pairs_by (made (bucket_of c.buckets key)) (version - 1)) key)
ReadsRight c made (calls.Put key value) (answers.BucketFull version) =
    IsAway (made (bucket_of c.buckets key)) key version × (length (pairs_by (made (bucket_of c.buckets key)) version) ≡ c.pairs)
ReadsRight c made (calls.Put key value) (answers.Spent version) = version ≡ length (made (bucket_of c.buckets key))
ReadsRight c made (calls.PutIf key value wanted) (answers.Done version clock) =
    IsMade (made (bucket_of c.buckets key)) (changes.Put key value) version
    (could_put c.pairs (pairs_by (made (bucket_of c.buckets key)) (version - 1)) key)
    × (version ≡ wanted + 1)
ReadsRight c made (calls.PutIf key value wanted) (answers.BucketFull version) =
    (IsAway (made (bucket_of c.buckets key)) key version × (length (pairs_by (made (bucket_of c.buckets key)) version) ≡ c.pairs))
    × (version ≡ wanted)
ReadsRight c made (calls.PutIf key value wanted) (answers.Spent version) = (version ≡ length (made (bucket_of c.buckets key))) × (version ≡ wanted)
ReadsRight c made (calls.PutIf key value wanted) (answers.Stale version) =
    (version ≤ length (made (bucket_of c.buckets key))) × ((version == wanted) ≡ false)
ReadsRight c made (calls.Remove key) (answers.Done version clock) =
    IsMade (made (bucket_of c.buckets key)) (changes.Removed key) version
    (is_some (value_in (pairs_by (made (bucket_of c.buckets key)) (version - 1)) key))
ReadsRight c made (calls.Remove key) (answers.Absent version) = IsAway (made (bucket_of c.buckets key)) key version
ReadsRight c made (calls.Remove key) (answers.Spent version) =
    IsThere (made (bucket_of c.buckets key)) key version × (version ≡ length (made (bucket_of c.buckets key)))
ReadsRight c made call answer = Unit {0}

-- The changes of each bucket have the versions from 1 to the one at which it was closed, each once; in their order they leave the pairs
-- at which it was closed; and each answer is right by the pairs at its version.
pub record VersionsLaw (c : Config) (logs : List (List Group)) (closed : AtClose) (made : ℕ → List Change) : Type 0 where
  pub buckets : length closed.buckets ≡ c.buckets
  pub version : (b : ℕ) → b < c.buckets → (bucket_in b closed).version ≡ length (made b)
  pub once : (b version : ℕ) → b < c.buckets → total_of (is_change_of c.buckets b version) logs ≡ once_up_to (length (made b)) version
  pub pairs : (b : ℕ) → b < c.buckets → (bucket_in b closed).pairs ≡ pairs_after (made b)
  pub reads : (before : List Group) (group : Group) → IsCall logs before group → ReadsRight c made group.call group.answer

-- A seat's versions of a bucket, but those of its looks, never fall, and a change has a greater one than all that it told before; its looks before
-- have told none that is later than the one before the change. A hold finds nothing only in a bucket of which its seat has told no version.
pub record RisesLaw (c : Config) (logs : List (List Group)) : Type 0 where
  pub never_fall :
      (one two : Group) (b low high : ℕ)
      → InOrder logs one two
      → is_version c.buckets b low (version_told one.call one.answer) ≡ true
      → is_version c.buckets b high (version_told two.call two.answer) ≡ true
      → low ≤ high
  pub changes_rise :
      (one two : Group) (b low high : ℕ)
      → InOrder logs one two
      → is_version c.buckets b low (version_told one.call one.answer) ≡ true
      → is_change_of c.buckets b high two ≡ true
      → low < high
  pub after_looks :
      (before : List Group) (group : Group) (b version : ℕ)
      → IsCall logs before group
      → is_change_of c.buckets b version group ≡ true
      → looked_in c.buckets b before ≤ version - 1
  pub unseen :
      (before : List Group) (group : Group) (key : ℕ)
      → IsCall logs before group
      → group.call ≡ calls.Hold key
      → group.answer ≡ answers.Nothing
      → seen_in c.buckets (bucket_of c.buckets key) before ≡ 0

-- What is kept at indexes from 2 on.

-- the bucket of the hold that a row came from
abbrev pub bucket_kept : Config → Keeping → ℕ
bucket_kept c kept = bucket_of c.buckets kept.key

-- the row is kept at the index after these calls
pub record IsKept (before : List Group) (index slot : ℕ) : Type 0 where
  pub kept : Keeping
  pub at : kept_in index before ≡ Some kept
  pub slot_is : kept.slot ≡ slot

-- A look shows the row that is kept at its index, and its key's value in a version of the bucket of the hold that the row came from. That is
-- no earlier than what the seat told of the bucket before that hold, by its looks or by other calls.
pub record IsLook (c : Config) (made : ℕ → List Change) (before : List Group) (index key slot version : ℕ) (value : Option ℕ) : Type 0 where
  pub row : IsKept before index slot
  pub some : 1 ≤ version
  pub had : version ≤ length (made (bucket_kept c row.kept))
  pub value_is : value ≡ value_in (pairs_by (made (bucket_kept c row.kept)) version) key
  pub since : seen_in c.buckets (bucket_kept c row.kept) row.kept.before ≤ version
  pub since_looks : looked_in c.buckets (bucket_kept c row.kept) row.kept.before ≤ version

-- What a copy and a look answer is what the calls of their seat before them left at the index. A copy and a look that answer Nothing find
-- nothing there.
abbrev pub KeptRight : Config → (ℕ → List Change) → List Group → Call → Answer → Type 0
KeptRight c made before (calls.Copy from index) (answers.Copied slot) = IsKept before from slot
KeptRight c made before (calls.Copy from index) answers.Nothing = kept_in from before ≡ None
KeptRight c made before (calls.Look index key) (answers.Looked slot version value) = IsLook c made before index key slot version value
KeptRight c made before (calls.Look index key) answers.Nothing = kept_in index before ≡ None
KeptRight c made before call answer = Unit {0}

-- the index of a look that has found a row, and the version that the row shows
abbrev pub look_made : Call → Answer → Option (ℕ × ℕ)
look_made (calls.Look index key) (answers.Looked slot version value) = Some (index, version)
look_made call answer = None

-- Copies and looks are right by what the seat keeps, and looks at a row that came from one hold show one version.
pub record KeepsLaw (c : Config) (logs : List (List Group)) (made : ℕ → List Change) : Type 0 where
  pub right : (before : List Group) (group : Group) → IsCall logs before group → KeptRight c made before group.call group.answer
  pub same :
      (one two : Group) (kept : Keeping) (first second : ℕ × ℕ)
      → (h : InOrder logs one two)
      → look_made one.call one.answer ≡ Some first
      → look_made two.call two.answer ≡ Some second
      → kept_in first.0 h.before ≡ Some kept
      → kept_in second.0 (h.before ++ one ∷ h.between) ≡ Some kept
      → first.1 ≡ second.1

-- The queue.

abbrev pub has_number : (number : ℕ) → Option ℕ → Bool
has_number number None = false
has_number number (Some other) = other == number

abbrev pub is_queued_as : (number : ℕ) → Group → Bool
is_queued_as number group = has_number number (number_queued group.call group.answer)

abbrev pub is_taken_as : (number : ℕ) → Group → Bool
is_taken_as number group = has_number number (number_taken group.call group.answer)

-- what an answer says of the queue, by the values queued
abbrev pub QueuesRight : Config → List ℕ → Call → Answer → Type 0
QueuesRight c queued (calls.Enqueue value) (answers.Queued number) = slice_get queued (number - 1) ≡ Some value
QueuesRight c queued (calls.Enqueue value) (answers.Spent number) = length queued ≡ c.last_version
QueuesRight c queued calls.Dequeue (answers.Taken number value clock) = slice_get queued (number - 1) ≡ Some value
QueuesRight c queued call answer = Unit {0}

-- Values are queued under the numbers from 1 on, each once, and taken under the numbers from 1 on, each once and with the value that was
-- queued; both rise within a seat, and what it queues has a greater number than all that it has taken. What is left has the other numbers,
-- in order. A seat finds the queue empty only where what it has queued was taken.
pub record QueueLaw (c : Config) (logs : List (List Group)) (closed : AtClose) (queued : List ℕ) (taken : ℕ) : Type 0 where
  pub most : taken ≤ length queued
  pub once_queued : (number : ℕ) → total_of (is_queued_as number) logs ≡ once_up_to (length queued) number
  pub once_taken : (number : ℕ) → total_of (is_taken_as number) logs ≡ once_up_to taken number
  pub right : (before : List Group) (group : Group) → IsCall logs before group → QueuesRight c queued group.call group.answer
  pub queued_rise : (one two : Group) (low high : ℕ) → InOrder logs one two → is_queued_as low one ≡ true → is_queued_as high two ≡ true → low < high
  pub taken_rise : (one two : Group) (low high : ℕ) → InOrder logs one two → is_taken_as low one ≡ true → is_taken_as high two ≡ true → low < high
  pub taken_first : (one two : Group) (low high : ℕ) → InOrder logs one two → is_taken_as low one ≡ true → is_queued_as high two ≡ true → low < high
  pub left : closed.queue ≡ numbered_from taken (drop taken queued)
  pub empty : (one two : Group) (number : ℕ) → InOrder logs one two → is_queued_as number one ≡ true → two.answer ≡ answers.Empty → number ≤ taken

-- Rows.

abbrev pub is_slot_of : ℕ → Option (ℕ × ℕ) → Bool
is_slot_of slot None = false
is_slot_of slot (Some row) = row.0 == slot

abbrev pub gives : ℕ → Group → ℕ
gives slot group = one (is_slot_of slot group.notes.given)

abbrev pub unuseds : ℕ → Group → ℕ
unuseds slot group = one (group.notes.unused && is_slot_of slot group.notes.given)

abbrev pub backs_in : ℕ → Group → ℕ
backs_in slot group = count_by (λ other. other == slot) group.notes.back

-- Each row was given as often as it was given up or went back, and once more where it is still taken; the dummy of the queue, whose
-- number is the number of slots, was taken at the start. Rows that are taken are told in the order of their numbers.
pub record RowsLaw (c : Config) (logs : List (List Group)) (closed : AtClose) : Type 0 where
  pub used : closed.used ≡ filter (λ slot. is_among slot closed.used) (range_with_len 0 (c.slots + 1))
  pub balance :
      (slot : ℕ)
      → slot ≤ c.slots
      → total (gives slot) logs + one (slot == c.slots) ≡ total (unuseds slot) logs + total (backs_in slot) logs + one (is_among slot closed.used)

-- Retire lists.

-- the list without each of these
abbrev pub without_all : List ℕ → List ℕ → List ℕ
without_all [] list = list
without_all (slot ∷ slots) list = without_all slots (without_one slot list)

-- some of a list, in its order
abbrev pub is_part_of : List ℕ → List ℕ → Bool
is_part_of [] list = true
is_part_of (slot ∷ slots) [] = false
is_part_of (slot ∷ slots) (other ∷ list) = if slot == other then is_part_of slots list else is_part_of (slot ∷ slots) list

abbrev pub slot_retired : Option Lifetime → List ℕ
slot_retired None = []
slot_retired (Some life) = life.slot ∷ []

-- the seat whose list a call has taken over
abbrev pub taken_over : Call → Answer → Option ℕ
taken_over (calls.Adopt place) (answers.Adopted count) = Some place
taken_over call answer = None

-- the slots of that list; `left`: the list that each seat has left
abbrev pub slots_gained : (left : ℕ → List ℕ) → Option ℕ → List ℕ
slots_gained left None = []
slots_gained left (Some place) = left place

-- a seat's list once a call's early backs are gone, and what it has retired or taken over is on it
abbrev pub list_between : (left : ℕ → List ℕ) → List ℕ → Group → List ℕ
list_between left list group =
    (without_all (early_backs group.notes) list ++ slot_retired group.notes.retired) ++ slots_gained left (taken_over group.call group.answer)

-- and after the call
abbrev pub list_after : (left : ℕ → List ℕ) → List ℕ → Group → List ℕ
list_after left list group = without_all (late_backs group.notes) (list_between left list group)

-- after these calls
abbrev pub list_from : (left : ℕ → List ℕ) → List ℕ → List Group → List ℕ
list_from left list [] = list
list_from left list (group ∷ log) = list_from left (list_after left list group) log

-- a call by which its seat has left
abbrev pub is_parting : Call → Answer → Bool
is_parting calls.Leave (answers.Left count) = true
is_parting call answer = false

abbrev pub leaves : Group → Bool
leaves group = is_parting group.call group.answer

-- the calls of the seat with this number
abbrev pub log_in : List (List Group) → (seat : ℕ) → List Group
log_in logs seat = slice_index_or logs seat []

-- the list that a seat has after its calls, where each list that it took over was handed on so many times at most
abbrev pub left_after : (times : ℕ) → List (List Group) → (seat : ℕ) → List ℕ
left_after zero logs seat = list_from (λ place. []) [] (log_in logs seat)
left_after (suc times) logs seat = list_from (left_after times logs) [] (log_in logs seat)

-- the list that each seat has after its calls, and leaves where it leaves: no list is handed on more often than seats have left
abbrev pub left_in : List (List Group) → (seat : ℕ) → List ℕ
left_in logs seat = left_after (total_of leaves logs) logs seat

-- a seat's list after these calls, the first of all that it made
abbrev pub list_in : List (List Group) → List Group → List ℕ
list_in logs before = list_from (left_in logs) [] before

-- a call has taken the list of this seat over
abbrev pub takes_over : (place : ℕ) → Group → Bool
takes_over place group = has_number place (taken_over group.call group.answer)

-- the seat whose list a call found to be taken over before
abbrev pub found_taken : Call → Answer → Option ℕ
found_taken (calls.Adopt place) answers.AdoptedBefore = Some place
found_taken call answer = None

-- What goes back is on the seat's own list, which has what it took over, in the list's order within one scan, of which a call that is given
-- no row makes one at most; and a scan counts what it keeps, a seat that leaves what it leaves, and one that takes a list over what was left.
pub record ListsRight (logs : List (List Group)) (before : List Group) (group : Group) : Type 0 where
  pub plain : group.notes.given ≡ None → group.notes.early ≡ 0
  pub early : is_part_of (early_backs group.notes) (list_in logs before) ≡ true
  pub late : is_part_of (late_backs group.notes) (list_between (left_in logs) (list_in logs before) group) ≡ true
  pub kept : (kept back : ℕ) → group.answer ≡ answers.Scanned kept back → kept ≡ length (list_after (left_in logs) (list_in logs before) group)
  pub left : (count : ℕ) → group.answer ≡ answers.Left count → count ≡ length (list_after (left_in logs) (list_in logs before) group)
  pub taken : (place count : ℕ) → taken_over group.call group.answer ≡ Some place → group.answer ≡ answers.Adopted count → count ≡ length (left_in logs place)

-- The list that a seat leaves is what its calls and the lists that it took over make. Once it has left it makes no call. Only a list that was
-- left is taken over, by one call at most; and a call finds that a list was taken over before only where one has.
pub record ListsLaw (logs : List (List Group)) : Type 0 where
  pub right : (before : List Group) (group : Group) → IsCall logs before group → ListsRight logs before group
  pub whole : (seat : ℕ) → list_in logs (log_in logs seat) ≡ left_in logs seat
  pub last : (one two : Group) → InOrder logs one two → leaves one ≡ false
  pub gone : (before : List Group) (group : Group) (place : ℕ) → IsCall logs before group → taken_over group.call group.answer ≡ Some place
      → 1 ≤ count_by leaves (log_in logs place)
  pub once : (place : ℕ) → total_of (takes_over place) logs ≤ 1
  pub found : (before : List Group) (group : Group) (place : ℕ) → IsCall logs before group → found_taken group.call group.answer ≡ Some place
      → 1 ≤ total_of (takes_over place) logs

-- Eras.

-- the era to which a call says that it has moved the clock
abbrev pub era_moved : Option ClockMove → Option ℕ
era_moved (Some (moves.Moved era)) = Some era
era_moved move = None

-- the era to which it says that it or another has
abbrev pub era_told : Option ClockMove → Option ℕ
era_told (Some (moves.Moved era)) = Some era
era_told (Some (moves.Other era)) = Some era
era_told move = None

-- the last era, where it says that there is no later one
abbrev pub era_spent : Option ClockMove → Option ℕ
era_spent (Some (moves.EraSpent era)) = Some era
era_spent move = None

abbrev pub is_moved_to : (era : ℕ) → Group → Bool
is_moved_to era group = has_number era (era_moved (clock_told group.answer))

-- Each era has one mover at most, is later than the first, and is at most the clock at which the table was closed; within a seat eras rise.
-- No era is left only where the clock is at the last one, and after that the seat sees no other.
pub record ErasLaw (c : Config) (logs : List (List Group)) (closed : AtClose) : Type 0 where
  pub most : closed.clock ≤ c.last_era
  pub once : (era : ℕ) → total_of (is_moved_to era) logs ≤ 1
  pub later : (before : List Group) (group : Group) (era : ℕ) → IsCall logs before group → era_told (clock_told group.answer) ≡ Some era → 2 ≤ era
  pub seen : (before : List Group) (group : Group) (era : ℕ) → IsCall logs before group → era_told (clock_told group.answer) ≡ Some era → era ≤ closed.clock
  pub rise :
      (one two : Group) (low high : ℕ)
      → InOrder logs one two
      → era_told (clock_told one.answer) ≡ Some low
      → era_told (clock_told two.answer) ≡ Some high
      → low < high
  pub spent :
      (before : List Group) (group : Group) (era : ℕ)
      → IsCall logs before group
      → era_spent (clock_told group.answer) ≡ Some era
      → (era ≡ c.last_era) × (closed.clock ≡ c.last_era)
  pub final :
      (one two : Group) (era : ℕ)
      → InOrder logs one two
      → era_spent (clock_told one.answer) ≡ Some era
      → era_told (clock_told two.answer) ≡ None

-- The calls of each seat, each with its answer and its notes, and the table that they left.
pub record RunLaw (c : Config) (logs : List (List Group)) (closed : AtClose) : Type 0 where
  -- the changes of each bucket and the values queued, in the order of their versions and numbers; and how many values were taken
  pub made : ℕ → List Change
  pub queued : List ℕ
  pub taken : ℕ
  pub answered : AnswersLaw c logs
  pub versions : VersionsLaw c logs closed made
  pub rises : RisesLaw c logs
  pub keeps : KeepsLaw c logs made
  pub queue : QueueLaw c logs closed queued taken
  pub rows : RowsLaw c logs closed
  pub lists : ListsLaw logs
  pub eras : ErasLaw c logs closed

-- The lists of the seats are the events of calls that meet the law, and those are the calls of their scripts in their order.
pub record IsRun (c : Config) (scripts : List (List Call)) (seats : List (List Event)) (closed : AtClose) : Type 0 where
  pub logs : List (List Group)
  pub texts : seats ≡ map (events_of_all c.buckets) logs
  pub scripts_are : map (λ log. map call_made log) logs ≡ scripts
  pub law : RunLaw c logs closed
