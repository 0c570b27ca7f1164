-- The roots at which calls look, and the rows that they have.
use Rattle.std.specs.Prelude.{ℕ, Bool, true, false, Option, Some, None, ◌==◌, ◌%◌, ◌+◌, ◌≤◌, is_none, if◌then◌else◌}
use Rattle.laws.specs.records.Record.{Past}
use Rattle.wfe_words.specs.declared.config.Config.{Config}
use Rattle.wfe_defs.specs.declared.call.Call.{Call}
use Rattle.wfe_defs.specs.declared.call.Call.TheVariants as calls
use Rattle.wfe_defs.specs.declared.event.Root.{Root}
use Rattle.wfe_defs.specs.declared.event.Root.TheVariants as roots
use Rattle.laws.specs.StateAt.{bucket_at, head_at, tail_at, next_at}

-- the call looks at a root
abbrev pub looks : Option Call → Bool
looks (Some (calls.Get key)) = true
looks (Some (calls.Put key value)) = true
looks (Some (calls.Remove key)) = true
looks (Some (calls.PutIf key value version)) = true
looks (Some (calls.Hold key)) = true
looks (Some (calls.Enqueue value)) = true
looks (Some calls.Dequeue) = true
looks call = false

-- the call looks at this root: that of the bucket in which its key lies, the tail or the head
abbrev pub looks_at : (buckets : ℕ) → Option Call → Root → Bool
looks_at buckets (Some (calls.Get key)) (roots.Bucket bucket) = key % buckets == bucket
looks_at buckets (Some (calls.Put key value)) (roots.Bucket bucket) = key % buckets == bucket
looks_at buckets (Some (calls.Remove key)) (roots.Bucket bucket) = key % buckets == bucket
looks_at buckets (Some (calls.PutIf key value version)) (roots.Bucket bucket) = key % buckets == bucket
looks_at buckets (Some (calls.Hold key)) (roots.Bucket bucket) = key % buckets == bucket
looks_at buckets (Some (calls.Enqueue value)) roots.Tail = true
looks_at buckets (Some calls.Dequeue) roots.Head = true
looks_at buckets call root = false

-- the row of the root at which the call looks, if it has one
abbrev pub root_row : Config → Option Call → Past → Option ℕ
root_row c (Some (calls.Get key)) p = bucket_at (key % c.buckets) p
root_row c (Some (calls.Put key value)) p = bucket_at (key % c.buckets) p
root_row c (Some (calls.Remove key)) p = bucket_at (key % c.buckets) p
root_row c (Some (calls.PutIf key value version)) p = bucket_at (key % c.buckets) p
root_row c (Some (calls.Hold key)) p = bucket_at (key % c.buckets) p
root_row c (Some (calls.Enqueue value)) p = Some (tail_at c.slots p)
root_row c (Some calls.Dequeue) p = Some (head_at c.slots p)
root_row c call p = None

-- the head's row, where no row is next to it
abbrev pub last_row : (slots : ℕ) → Past → Option ℕ
last_row slots p = if is_none (next_at (head_at slots p) p) then Some (head_at slots p) else None

-- a row, if there is one, is one of the table's, the queue's first one included
abbrev pub RowIn : (slots : ℕ) → Option ℕ → Type 0
RowIn slots None = Unit {0}
RowIn slots (Some row) = row ≤ slots

-- the place of what a root may have: first that it has none, and then the rows in order
abbrev pub place_of : Option ℕ → ℕ
place_of None = 0
place_of (Some row) = row + 1
