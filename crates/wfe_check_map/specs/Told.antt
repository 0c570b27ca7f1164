-- What the record tells of a bucket, change by change, and what one more entry makes of what is kept of it.
use Rattle.std.specs.Prelude.{◌≡◌, ℕ, Bool, true, false, ◌==◌, Option, Some, None, List, [], ◌∷◌, ◌++◌, if◌then◌else◌, ◌&&◌, nat_le, length, take, drop, slice_get, slice_set, slice_index_or, ◌+◌, suc, zero}
use Rattle.laws.specs.records.Record.{Past}
use Rattle.laws.specs.records.Record.Past.{Start, Then}
use Rattle.laws.specs.defs.declared.event.Event.{Event}
use Rattle.laws.specs.defs.declared.event.Event.TheVariants as events
use Rattle.laws.specs.StateAt.{bucket_at}
use Rattle.laws.specs.StructuresAt.{same_value}
use Rattle.wfe_defs.specs.Pairs.{pairs_after, value_in}
use Rattle.wfe_check_map.specs.declared.bucket.Mark.{Mark}
use Rattle.wfe_check_map.specs.Marks.{changes_in}
use Rattle.wfe_check_rows.specs.Positions.{entries}

-- the change that an event tells of a bucket, after those before
abbrev pub with_mark : (bucket : ℕ) → Event → (row : Option ℕ) → (stamp : ℕ) → List Mark → List Mark
with_mark b (events.Put bucket version key value) row stamp before =
    if b == bucket then before ++ record { key = key; value = Some value; row = row; stamp = stamp } ∷ [] else before
with_mark b (events.Removed bucket version key) row stamp before =
    if b == bucket then before ++ record { key = key; value = None; row = row; stamp = stamp } ∷ [] else before
with_mark b event row stamp before = before

-- the changes of bucket b, in order
abbrev pub marks_of : ℕ → Past → List Mark
marks_of b Start = []
marks_of b (Then p i event) = with_mark b event (bucket_at b p) (entries p) (marks_of b p)

-- what the change after a version says of the version's being current since a stamp
abbrev pub current_by : Option Mark → (is_last : Bool) → (since : ℕ) → Bool
current_by None is_last since = is_last
current_by (Some mark) is_last since = nat_le since mark.stamp

abbrev pub current_in : List Mark → (version since : ℕ) → Bool
current_in marks version since = current_by (slice_get marks version) (version == length marks) since

abbrev pub value_of_key : List Mark → (version key : ℕ) → Option ℕ
value_of_key marks version key = value_in (pairs_after (take version (changes_in marks))) key

-- the key has this value at a version that was current since a stamp
abbrev pub shows_in : List Mark → (version key : ℕ) → (value : Option ℕ) → (since : ℕ) → Bool
shows_in marks version key value since = same_value value (value_of_key marks version key) && current_in marks version since

-- the change of a number that counts from 1
abbrev pub numbered_in : List Mark → ℕ → Option Mark
numbered_in marks zero = None
numbered_in marks (suc earlier) = slice_get marks earlier

abbrev pub row_in : Option Mark → Option ℕ
row_in None = None
row_in (Some mark) = mark.row

-- the bucket that an event changes has this row at its root
abbrev pub RootIs : Option ℕ → Event → Past → Type 0
RootIs root (events.Put bucket version key value) p = root ≡ bucket_at bucket p
RootIs root (events.Removed bucket version key) p = root ≡ bucket_at bucket p
RootIs root event p = Unit {0}

-- the changes of all buckets after one of one bucket
abbrev pub changed_at : (bucket : ℕ) → Mark → List (List Mark) → List (List Mark)
changed_at bucket mark before = slice_set before bucket (slice_index_or before bucket [] ++ mark ∷ [])

-- and after an event
abbrev pub buckets_after : Event → (row : Option ℕ) → (stamp : ℕ) → List (List Mark) → List (List Mark)
buckets_after (events.Put bucket version key value) row stamp before =
    changed_at bucket (record { key = key; value = Some value; row = row; stamp = stamp }) before
buckets_after (events.Removed bucket version key) row stamp before =
    changed_at bucket (record { key = key; value = None; row = row; stamp = stamp }) before
buckets_after event row stamp before = before

-- where each seat's last call began, after an event of a seat
abbrev pub begun_after : Event → (seat stamp : ℕ) → List ℕ → List ℕ
begun_after (events.Begin call) seat stamp before = slice_set before seat stamp
begun_after event seat stamp before = before

-- the queue as it is kept: the values that wait, how many were queued and taken, and where it ceased last that none waited
pub record Waiting : Type 0 where
  pub waiting : List ℕ
  pub queued : ℕ
  pub taken : ℕ
  pub ceased : ℕ

-- where the queue's being empty ceased, after a value is queued at this stamp
abbrev pub ceased_by : Waiting → (stamp : ℕ) → ℕ
ceased_by before stamp = if before.taken == before.queued then stamp else before.ceased

abbrev pub queued_more : Waiting → (value stamp : ℕ) → Waiting
queued_more before value stamp =
    record { waiting = before.waiting ++ value ∷ []; queued = before.queued + 1; taken = before.taken; ceased = ceased_by before stamp }

abbrev pub taken_more : Waiting → Waiting
taken_more before = record { waiting = drop 1 before.waiting; queued = before.queued; taken = before.taken + 1; ceased = before.ceased }

abbrev pub queue_after : Event → (stamp : ℕ) → Waiting → Waiting
queue_after (events.Queued number value) stamp before = queued_more before value stamp
queue_after (events.Taken number value) stamp before = taken_more before
queue_after event stamp before = before

-- what is taken is the first value that waits
abbrev pub is_first : ℕ → List ℕ → Bool
is_first value [] = false
is_first value (first ∷ rest) = value == first

-- a value is queued under the next number, and taken under the next number
abbrev pub queue_fits : Event → Waiting → Bool
queue_fits (events.Queued number value) before = number == before.queued + 1
queue_fits (events.Taken number value) before = number == before.taken + 1 && is_first value before.waiting
queue_fits event before = true
