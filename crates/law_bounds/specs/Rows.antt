-- Where a taken row can be while no call is under way, and so how many rows are taken then.
use Rattle.std.specs.Prelude.{Bool, List, None, Option, Some, [], count_by, filter, length, nat_lt, not, suc, true, zero, ℕ, ◌&&◌, ◌++◌, ◌+◌, ◌-◌, ◌∷◌, ◌≡◌, ◌≤◌}
use Rattle.std.specs.List.{range_with_len}
use Rattle.law_all.specs.inv.history.History.{Item, record_of}
use Rattle.law_all.specs.inv.history.Record.{Past}
use Rattle.law_all.specs.inv.model.CallReady.{slots_of}
use Rattle.law_all.specs.inv.model.words.Place.{is_valid}
use Rattle.law_all.specs.inv.model.words.declared.config.Config.{Config}
use Rattle.law_all.specs.inv.model.words.declared.layout.Layout.{Layout}
use Rattle.law_all.specs.laws.Lists.{list_of}
use Rattle.law_all.specs.laws.StateAt.{bucket_at, head_at, is_one_of, is_open, next_at, one, taken_at}
use Rattle.law_all.specs.laws.StructuresAt.{Filling, count_of, queued_of, taken_of}
use Rattle.law_all.specs.RunLaw.{AtClose}
use Rattle.law_all.specs.Runs.{AtRest, at_close}

-- no row is twice among these
abbrev pub are_apart : List ℕ → Bool
are_apart [] = true
are_apart (slot ∷ rows) = not (is_one_of slot rows) && are_apart rows

abbrev pub row_in : Option ℕ → List ℕ
row_in None = []
row_in (Some slot) = slot ∷ []

-- the rows of the roots of the buckets below a number
abbrev pub bucket_rows : (below : ℕ) → Past → List ℕ
bucket_rows zero p = []
bucket_rows (suc b) p = bucket_rows b p ++ row_in (bucket_at b p)

-- so many rows, this one first, each next to the one before it
abbrev pub rows_from : (count : ℕ) → Option ℕ → Past → List ℕ
rows_from zero row p = []
rows_from (suc count) None p = []
rows_from (suc count) (Some slot) p = slot ∷ rows_from count (next_at slot p) p

-- how many values are queued and not taken
abbrev pub waiting_at : Past → ℕ
waiting_at p = length (queued_of p) - taken_of p

-- the rows of the queue: the head's row, which is its dummy, and those behind it, one for each value that waits
abbrev pub queue_rows : (slots : ℕ) → Past → List ℕ
queue_rows slots p = rows_from (suc (waiting_at p)) (Some (head_at slots p)) p

-- the rows on the lists of the seats below a number, each until it goes back: of those that left, too, until another takes them over
abbrev pub listed_rows : (below : ℕ) → Past → List ℕ
listed_rows zero p = []
listed_rows (suc k) p = listed_rows k p ++ slots_of (list_of k p)

-- all of these
abbrev pub kept_rows : Config → Past → List ℕ
kept_rows config p = bucket_rows config.buckets p ++ (queue_rows config.slots p ++ listed_rows config.seats p)

-- how many of the buckets below a number were changed
abbrev pub changed_below : ℕ → Past → ℕ
changed_below zero p = 0
changed_below (suc b) p = changed_below b p + one (nat_lt 0 (count_of b p))

-- how many lives are on the lists of the seats below a number
abbrev pub listed_below : ℕ → Past → ℕ
listed_below zero p = 0
listed_below (suc k) p = listed_below k p + length (list_of k p)

-- the rows that are taken, in the order of their numbers
abbrev pub used_at : (slots : ℕ) → Past → List ℕ
used_at slots p = filter (λ slot. taken_at slots slot p) (range_with_len 0 (slots + 1))

-- No row is lost.
pub record NoneLost (config : Config) (p : Past) : Type 0 where
  -- A row is taken just where it is the row of a bucket's root, one of the queue's, or on a list.
  pub taken : (s : ℕ) → taken_at config.slots s p ≡ is_one_of s (kept_rows config p)
  -- It is one of these once at most: at one root, once in the queue, or once on one list.
  pub apart : are_apart (kept_rows config p) ≡ true
  -- A bucket's root has a row just where the bucket was changed.
  pub buckets : length (bucket_rows config.buckets p) ≡ changed_below config.buckets p
  -- The queue has a row for each value that waits, and its dummy.
  pub queue : length (queue_rows config.slots p) ≡ suc (waiting_at p)
  -- So this is how many rows are taken.
  pub number : length (used_at config.slots p) ≡ changed_below config.buckets p + (suc (waiting_at p) + listed_below config.seats p)

-- how many of the seats below a number are in a call
abbrev pub open_below : ℕ → Past → ℕ
open_below zero p = 0
open_below (suc k) p = open_below k p + one (is_open k p)

-- Few rows are taken, whatever calls are under way.
pub record FewTaken (config : Config) (p : Past) : Type 0 where
  -- The row of a bucket's root, each of the queue's and each on a list is taken.
  pub taken : (s : ℕ) → is_one_of s (kept_rows config p) ≡ true → taken_at config.slots s p ≡ true
  -- It is one of these once at most.
  pub apart : are_apart (kept_rows config p) ≡ true
  -- Besides these each seat in a call has one at most, which it was given and has not linked, or has cut and not retired.
  pub number :
      length (used_at config.slots p)
      ≤ changed_below config.buckets p + (suc (waiting_at p) + listed_below config.seats p) + open_below config.seats p

-- so it is after each history
abbrev pub RecordsTakeFew : Type 0
RecordsTakeFew = (layout : Layout) (items : List Item) → is_valid layout ≡ true → FewTaken layout.config (record_of layout items)

-- so it is after each history that leaves no call under way
abbrev pub RecordsLoseNone : Type 0
RecordsLoseNone = (layout : Layout) (items : List Item) → AtRest layout items → NoneLost layout.config (record_of layout items)

abbrev pub is_changed : Filling → Bool
is_changed bucket = nat_lt 0 bucket.version

-- A table that is closed: as many rows are taken as buckets were changed, values are left with the dummy, and lives wait on lists.
pub record ClosesWhole (closed : AtClose) (waits : ℕ) : Type 0 where
  pub number : length closed.used ≡ count_by is_changed closed.buckets + (length closed.queue + 1 + waits)

abbrev pub ClosesLoseNone : Type 0
ClosesLoseNone =
    (layout : Layout) (items : List Item)
    → AtRest layout items
    → ClosesWhole (at_close layout (record_of layout items)) (listed_below layout.config.seats (record_of layout items))
