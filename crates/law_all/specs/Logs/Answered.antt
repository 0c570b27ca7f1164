-- What a call's answer says of the map, of the queue and of lists that are left, by the counts where the call began and a record that has
-- its end; and what it says of rows and of the seat's own list, at its end.
use Rattle.std.specs.Prelude.{ℕ, ◌≡◌, ◌≤◌, ◌<◌, ◌+◌, ◌-◌, ◌==◌, List, [], ◌++◌, length, slice_index_or, Option, None, Some, true, false}
use Rattle.law_scans.specs.laws.defs.Entry.{Entry}
use Rattle.law_scans.specs.laws.defs.Events.{is_held}
use Rattle.law_scans.specs.laws.defs.Pairs.{changed}
use Rattle.law_scans.specs.laws.defs.declared.call.Answer.{Answer}
use Rattle.law_scans.specs.laws.defs.declared.call.Answer.TheVariants as answers
use Rattle.law_scans.specs.laws.defs.declared.call.Call.{Call}
use Rattle.law_scans.specs.laws.defs.declared.call.Call.TheVariants as calls
use Rattle.law_scans.specs.laws.defs.declared.fold.Change.{Change}
use Rattle.law_scans.specs.laws.defs.declared.fold.Change.TheVariants as changes
use Rattle.law_scans.specs.laws.words.declared.config.Config.{Config}
use Rattle.law_scans.specs.laws.defs.declared.event.Event.TheVariants as events
use Rattle.law_scans.specs.laws.AnswerLaw.{adopted_else, stayed}
use Rattle.law_scans.specs.laws.ScanLaw.{guards}
use Rattle.law_scans.specs.laws.Lists.{has_left, is_adopted, list_of}
use Rattle.law_scans.specs.laws.StateAt.{has_told, is_give, is_read, stood_at, taken_since, times}
use Rattle.law_scans.specs.laws.StructuresAt.{bucket_of, count_of, is_there, pairs_at, queued_of, row_at, shows_of, taken_of, value_at}
use Rattle.law_scans.specs.laws.StructuresAt.RowShows.{ShowsVersion}
use Rattle.law_scans.specs.laws.records.Record.{Past, begins, held_since, tells}
use Rattle.law_scans.specs.laws.records.Record.Past.{Then}
use Rattle.law_all.specs.Logs.Versions.{AtMost, Counts, counts_of}

-- a version that bucket b had at a position from the beginning on
pub record IsMet (from : Counts) (last : Past) (b version : ℕ) : Type 0 where
  pub since : from.versions b ≤ version
  pub until : version ≤ count_of b last

-- what a get tells is its key's value at such a version
pub record IsGot (from : Counts) (last : Past) (b key version : ℕ) (value : Option ℕ) : Type 0 where
  pub met : IsMet from last b version
  pub value_is : value ≡ value_at b version key last

-- the value that a change leaves its key
abbrev pub value_left : Change → Option ℕ
value_left (changes.Put key value) = Some value
value_left (changes.Removed key) = None

-- a change that is done made the pairs of this version from those of the version before
pub record IsDone (c : Config) (from : Counts) (last : Past) (b key : ℕ) (change : Change) (version : ℕ) : Type 0 where
  pub met : IsMet from last b version
  pub later : from.versions b < version
  pub most : version ≤ c.last_version
  pub pairs : pairs_at b version last ≡ changed (pairs_at b (version - 1) last) change
  pub value_is : value_at b version key last ≡ value_left change

-- at such a version, which was not the last, the row had no room and the key was not there
pub record IsFull (c : Config) (from : Counts) (last : Past) (b key version : ℕ) : Type 0 where
  pub met : IsMet from last b version
  pub early : version < c.last_version
  pub room : length (pairs_at b version last) ≡ c.pairs
  pub value_is : value_at b version key last ≡ None

-- at such a version the key was not there
pub record IsAbsent (from : Counts) (last : Past) (b key version : ℕ) : Type 0 where
  pub met : IsMet from last b version
  pub value_is : value_at b version key last ≡ None

-- the bucket had the last version that is allowed
pub record IsSpent (c : Config) (from : Counts) (last : Past) (b version : ℕ) : Type 0 where
  pub met : IsMet from last b version
  pub final : version ≡ c.last_version

-- and there the key was
pub record IsKept (c : Config) (from : Counts) (last : Past) (b key version : ℕ) : Type 0 where
  pub spent : IsSpent c from last b version
  pub there : is_there b version key last ≡ true

-- the change was wanted at the version before
pub record IsDoneAt (c : Config) (from : Counts) (last : Past) (b key : ℕ) (change : Change) (wanted version : ℕ) : Type 0 where
  pub done : IsDone c from last b key change version
  pub next : version ≡ wanted + 1

-- the bucket is full at the version that was wanted
pub record IsFullAt (c : Config) (from : Counts) (last : Past) (b key wanted version : ℕ) : Type 0 where
  pub full : IsFull c from last b key version
  pub same : version ≡ wanted

-- the version that was wanted is the last one allowed
pub record IsSpentAt (c : Config) (from : Counts) (last : Past) (b wanted version : ℕ) : Type 0 where
  pub spent : IsSpent c from last b version
  pub same : version ≡ wanted

-- the bucket had another version than was wanted
pub record IsStale (from : Counts) (last : Past) (b wanted version : ℕ) : Type 0 where
  pub met : IsMet from last b version
  pub other : (version == wanted) ≡ false

-- the slot is that of some bucket's row at this version, which need not have been current since the beginning, and the key has this value
-- there
pub record IsLooked (last : Past) (key slot version : ℕ) (value : Option ℕ) : Type 0 where
  pub bucket : ℕ
  pub some : 1 ≤ version
  pub had : version ≤ count_of bucket last
  pub row_is : row_at bucket version last ≡ Some slot
  pub value_is : value ≡ value_at bucket version key last

-- the value was queued under this number since the beginning
pub record IsQueued (c : Config) (from : Counts) (last : Past) (value number : ℕ) : Type 0 where
  pub since : from.queued < number
  pub until : number ≤ length (queued_of last)
  pub most : number ≤ c.last_version
  pub value_is : value ≡ slice_index_or (queued_of last) (number - 1) 0

-- as many values were queued as there are numbers
pub record IsLast (c : Config) (from : Counts) (last : Past) (number : ℕ) : Type 0 where
  pub since : from.queued ≤ number
  pub until : number ≤ length (queued_of last)
  pub final : number ≡ c.last_version

-- the value that was queued under this number was taken since the beginning
pub record IsTaken (from : Counts) (last : Past) (number value : ℕ) : Type 0 where
  pub since : from.taken < number
  pub until : number ≤ taken_of last
  pub queued : number ≤ length (queued_of last)
  pub value_is : value ≡ slice_index_or (queued_of last) (number - 1) 0

-- at a position since the beginning all that was queued was taken
pub record IsEmpty (from : Counts) (last : Past) : Type 0 where
  pub at : Past
  pub later : List Entry
  pub cut : last ≡ tells at later
  pub since : AtMost from (counts_of at)
  pub all : taken_of at ≡ length (queued_of at)

-- the slot is that of the bucket's row at a version that it had since the beginning
pub record IsRow (from : Counts) (last : Past) (b slot : ℕ) : Type 0 where
  pub version : ℕ
  pub met : IsMet from last b version
  pub row_is : row_at b version last ≡ Some slot

-- the list of this seat was left, and another seat has it
pub record IsHanded (place : ℕ) (last : Past) : Type 0 where
  pub left : has_left place last ≡ true
  pub adopted : is_adopted place last ≡ true

-- at a position since the beginning this seat had not left
pub record IsStaying (from : Counts) (last : Past) (place : ℕ) : Type 0 where
  pub at : Past
  pub later : List Entry
  pub cut : last ≡ tells at later
  pub since : AtMost from (counts_of at)
  pub stays : has_left place at ≡ false

-- by call and answer
abbrev pub Says : Config → Counts → Past → Call → Answer → Type 0
Says c from last (calls.Get key) (answers.Got version value) = IsGot from last (bucket_of c.buckets key) key version value
Says c from last (calls.Put key value) (answers.Done version clock) = IsDone c from last (bucket_of c.buckets key) key (changes.Put key value) version
Says c from last (calls.Put key value) (answers.BucketFull version) = IsFull c from last (bucket_of c.buckets key) key version
Says c from last (calls.Put key value) (answers.Spent version) = IsSpent c from last (bucket_of c.buckets key) version
Says c from last (calls.PutIf key value wanted) (answers.Done version clock) =
    IsDoneAt c from last (bucket_of c.buckets key) key (changes.Put key value) wanted version
Says c from last (calls.PutIf key value wanted) (answers.BucketFull version) = IsFullAt c from last (bucket_of c.buckets key) key wanted version
Says c from last (calls.PutIf key value wanted) (answers.Spent version) = IsSpentAt c from last (bucket_of c.buckets key) wanted version
Says c from last (calls.PutIf key value wanted) (answers.Stale version) = IsStale from last (bucket_of c.buckets key) wanted version
Says c from last (calls.Look index key) (answers.Looked slot version value) = IsLooked last key slot version value
Says c from last (calls.Remove key) (answers.Done version clock) = IsDone c from last (bucket_of c.buckets key) key (changes.Removed key) version
Says c from last (calls.Remove key) (answers.Absent version) = IsAbsent from last (bucket_of c.buckets key) key version
Says c from last (calls.Remove key) (answers.Spent version) = IsKept c from last (bucket_of c.buckets key) key version
Says c from last (calls.Enqueue value) (answers.Queued number) = IsQueued c from last value number
Says c from last (calls.Enqueue value) (answers.Spent number) = IsLast c from last number
Says c from last calls.Dequeue (answers.Taken number value clock) = IsTaken from last number value
Says c from last calls.Dequeue answers.Empty = IsEmpty from last
Says c from last (calls.Hold key) (answers.Holding slot) = IsRow from last (bucket_of c.buckets key) slot
-- a hold that finds nothing found a bucket that had not been changed
Says c from last (calls.Hold key) answers.Nothing = from.versions (bucket_of c.buckets key) ≡ 0
Says c from last (calls.Adopt place) (answers.Adopted count) = IsHanded place last
-- the list that is not taken over had not been left, or another call has taken it over
Says c from last (calls.Adopt place) answers.NotLeft = IsStaying from last place
Says c from last (calls.Adopt place) answers.AdoptedBefore = is_adopted place last ≡ true
Says c from last call answer = Unit {0}

-- the call told that the row stands at index 2 of its seat, and it stands there
pub record IsStanding (k : ℕ) (at : Past) (slot : ℕ) : Type 0 where
  pub told : has_told k (is_held 2 slot) at ≡ true
  pub stands : stood_at k 2 at ≡ Some slot

-- the row stands at the index that was copied from and at the one that it was copied to
pub record IsCopied (k from index : ℕ) (at : Past) (slot : ℕ) : Type 0 where
  pub stood : stood_at k from at ≡ Some slot
  pub stands : stood_at k index at ≡ Some slot

-- the row stands at the index, and shows this version of a bucket, where the key has this value
pub record IsShown (k index key : ℕ) (at : Past) (slot version : ℕ) (value : Option ℕ) : Type 0 where
  pub bucket : ℕ
  pub stands : stood_at k index at ≡ Some slot
  pub shows : shows_of slot at ≡ ShowsVersion bucket version
  pub value_is : value ≡ value_at bucket version key at

-- The call was given no row, and has read each guard once. Since the last row that went back then, or since the last guard that it
-- read, each row was taken at a position.
pub record IsCrowded (c : Config) (k : ℕ) (at : Past) : Type 0 where
  pub given : has_told k is_give at ≡ false
  pub reads : times k is_read at ≡ guards c
  pub taken : (s : ℕ) → s ≤ c.slots → taken_since c.slots k s at ≡ true

-- the call told that its seat leaves its list, which had so many lives; and nothing stands at the seat
pub record IsGone (c : Config) (k : ℕ) (at : Past) (count : ℕ) : Type 0 where
  pub before : Past
  pub later : List Entry
  pub cut : at ≡ tells (Then before k (events.Left count)) later
  pub long : count ≡ length (list_of k before)
  pub left : has_left k at ≡ true
  pub bare : (j : ℕ) → j < c.indexes → stood_at k j at ≡ None

-- The call told that its seat takes the list of this seat over, which had so many lives. That list had been left, and no seat had taken
-- it over; then it comes last in the list of the call's seat, and is none at its own.
pub record IsTakenOver (k place : ℕ) (at : Past) (count : ℕ) : Type 0 where
  pub before : Past
  pub later : List Entry
  pub cut : at ≡ tells (Then before k (events.Adopted place count)) later
  pub left : has_left place before ≡ true
  pub first : is_adopted place before ≡ false
  pub long : count ≡ length (list_of place before)
  pub gains : list_of k (Then before k (events.Adopted place count)) ≡ list_of k before ++ list_of place before
  pub hands : list_of place (Then before k (events.Adopted place count)) ≡ []

-- what an answer says of rows and of lists, at the position where the call of seat k ends: only there, since a row that stands may be let
-- go later
abbrev pub SaysOfRows : Config → ℕ → Past → Call → Answer → Type 0
SaysOfRows c k at (calls.Put key value) answers.Full = IsCrowded c k at
SaysOfRows c k at (calls.PutIf key value wanted) answers.Full = IsCrowded c k at
SaysOfRows c k at (calls.Remove key) answers.Full = IsCrowded c k at
SaysOfRows c k at (calls.Enqueue value) answers.Full = IsCrowded c k at
SaysOfRows c k at (calls.Hold key) (answers.Holding slot) = IsStanding k at slot
SaysOfRows c k at calls.Release answers.Released = stood_at k 2 at ≡ None
SaysOfRows c k at (calls.DropIndex index) answers.Dropped = stood_at k index at ≡ None
SaysOfRows c k at (calls.Copy from index) (answers.Copied slot) = IsCopied k from index at slot
SaysOfRows c k at (calls.Copy from index) answers.Nothing = stood_at k from at ≡ None
SaysOfRows c k at (calls.Look index key) (answers.Looked slot version value) = IsShown k index key at slot version value
SaysOfRows c k at (calls.Look index key) answers.Nothing = stood_at k index at ≡ None
SaysOfRows c k at calls.Leave (answers.Left count) = IsGone c k at count
SaysOfRows c k at (calls.Adopt place) (answers.Adopted count) = IsTakenOver k place at count
-- at a position of the call the seat had not left
SaysOfRows c k at (calls.Adopt place) answers.NotLeft = held_since (begins k) (stayed place) at ≡ true
-- another call than this one has taken the list over
SaysOfRows c k at (calls.Adopt place) answers.AdoptedBefore = adopted_else k place at ≡ true
SaysOfRows c k at call answer = Unit {0}
