-- What the map and the queue come to at a position of a record, by the entries before it.
use Rattle.std.specs.Prelude.{None, Option, Some, ℕ, ◌==◌, if◌then◌else◌, Bool, false, true, List, [], ◌∷◌, ◌++◌, ◌+◌, length, ◌&&◌, nat_le, ◌%◌, take, is_some}
use Rattle.model_record.specs.Record.{Past, begins, held_since, value_since}
use Rattle.model_record.specs.Record.Past.{Start, Then}
use Rattle.model_record.specs.defs.Pairs.{pairs_after, value_in, Pair}
use Rattle.model_record.specs.defs.declared.event.Event.{Event}
use Rattle.model_record.specs.defs.declared.event.Event.TheVariants as events
use Rattle.model_record.specs.defs.declared.event.Root.TheVariants as roots
use Rattle.model_record.specs.defs.declared.fold.Change.{Change}
use Rattle.model_record.specs.defs.declared.fold.Change.TheVariants as changes
use Rattle.laws.specs.StateAt.{bucket_at}

-- The map: the changes of a bucket, and what they leave.

-- the bucket in which a key lies
abbrev pub bucket_of : ℕ → ℕ → ℕ
bucket_of buckets key = key % buckets

-- the change that an event tells of a bucket, after those before
abbrev pub with_change : ℕ → List Change → Event → List Change
with_change b before (events.Put bucket version key value) = if b == bucket then before ++ changes.Put key value ∷ [] else before
with_change b before (events.Removed bucket version key) = if b == bucket then before ++ changes.Removed key ∷ [] else before
with_change b before e = before

-- the changes of bucket b, in order
abbrev pub changes_of : ℕ → Past → List Change
changes_of b Past.Start = []
changes_of b (Past.Then p k e) = with_change b (changes_of b p) e

-- how many changes of bucket b there are: its version
abbrev pub count_of : ℕ → Past → ℕ
count_of b p = length (changes_of b p)

abbrev pub same_value : Option ℕ → Option ℕ → Bool
same_value None None = true
same_value (Some x) (Some y) = x == y
same_value None (Some y) = false
same_value (Some x) None = false

-- the version was current at a position of the call of seat i: from its Begin to here
abbrev pub was_current : ℕ → ℕ → ℕ → Past → Bool
was_current i b version p = nat_le (value_since (begins i) (count_of b) p) version && nat_le version (count_of b p)

-- the key's value at a version of bucket b
abbrev pub value_at : ℕ → ℕ → ℕ → Past → Option ℕ
value_at b version key p = value_in (pairs_after (take version (changes_of b p))) key

-- how often bucket b had been changed when the call of seat i began
abbrev pub begun_at : ℕ → ℕ → Past → ℕ
begun_at i b p = value_since (begins i) (count_of b) p

-- bucket b has had this version
abbrev pub had_version : ℕ → ℕ → Past → Bool
had_version b version p = nat_le version (count_of b p)

-- the pairs of bucket b at a version
abbrev pub pairs_at : ℕ → ℕ → Past → List Pair
pairs_at b version p = pairs_after (take version (changes_of b p))

-- a bucket as it is read: how often it was changed, and its pairs in order
pub record Filling : Type 0 where
  pub version : ℕ
  pub pairs : List Pair

-- at its last version
abbrev pub filling_at : Past → ℕ → Filling
filling_at p b = record { version = count_of b p; pairs = pairs_at b (count_of b p) p }

-- the key is among them
abbrev pub is_there : ℕ → ℕ → ℕ → Past → Bool
is_there b version key p = is_some (value_at b version key p)

-- the row of version v of bucket b: the one that was linked at the bucket's root last before the v-th change of the bucket
abbrev pub row_changed : (b v : ℕ) → Past → (bucket : ℕ) → Option ℕ → Option ℕ
row_changed b v p bucket before = if b == bucket then (if count_of b p + 1 == v then bucket_at b p else before) else before

abbrev pub row_by : (b v : ℕ) → Past → Event → Option ℕ → Option ℕ
row_by b v p (events.Put bucket version key value) before = row_changed b v p bucket before
row_by b v p (events.Removed bucket version key) before = row_changed b v p bucket before
row_by b v p event before = before

abbrev pub row_at : (b v : ℕ) → Past → Option ℕ
row_at b v Start = None
row_at b v (Then p i event) = row_by b v p event (row_at b v p)

-- which version of which bucket a row shows, if any. `Unlinked`: it was never linked at a bucket's root; `LinkedAt`: it was linked there
-- last, and no change was told since; `ShowsVersion`: the first change told after that had this version
pub data RowShows : Type 0 where
  Unlinked : RowShows
  LinkedAt : (bucket : ℕ) → RowShows
  ShowsVersion : (bucket version : ℕ) → RowShows

abbrev pub changed_to : (version : ℕ) → RowShows → RowShows
changed_to version Unlinked = Unlinked
changed_to version (LinkedAt bucket) = ShowsVersion bucket version
changed_to version (ShowsVersion bucket first) = ShowsVersion bucket first

abbrev pub shows_by : ℕ → Event → RowShows → RowShows
shows_by s (events.Link (roots.Bucket bucket) slot) before = if s == slot then LinkedAt bucket else before
shows_by s (events.Put bucket version key value) before = changed_to version before
shows_by s (events.Removed bucket version key) before = changed_to version before
shows_by s event before = before

abbrev pub shows_of : ℕ → Past → RowShows
shows_of s Start = Unlinked
shows_of s (Then p i event) = shows_by s event (shows_of s p)

-- The queue.

-- the values queued, in order
abbrev pub queued_of : Past → List ℕ
queued_of Start = []
queued_of (Then p i (events.Queued number value)) = queued_of p ++ value ∷ []
queued_of (Then p i event) = queued_of p

-- how many were taken
abbrev pub taken_of : Past → ℕ
taken_of Start = 0
taken_of (Then p i (events.Taken number value)) = taken_of p + 1
taken_of (Then p i event) = taken_of p

-- values with their numbers, which count up from the one after the first
abbrev pub numbered_from : ℕ → List ℕ → List (ℕ × ℕ)
numbered_from before [] = []
numbered_from before (value ∷ values) = (before + 1, value) ∷ numbered_from (before + 1) values

-- as many values were taken as queued
abbrev pub all_taken : Past → Bool
all_taken p = taken_of p == length (queued_of p)

-- so it was at a position of the call of seat i, from its beginning on
abbrev pub was_empty : ℕ → Past → Bool
was_empty i p = held_since (begins i) all_taken p
