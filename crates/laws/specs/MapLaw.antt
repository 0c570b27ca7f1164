-- The law of the map.
use Rattle.std.specs.Prelude.{true, ℕ, ◌&&◌, ◌+◌, ◌==◌}
use Rattle.model_record.specs.Record.{EachEntry, Past, Test}
use Rattle.model_record.specs.defs.declared.event.Event.TheVariants as events
use Rattle.laws.specs.StructuresAt.{bucket_of, count_of, same_value, value_at, was_current}

-- The n-th change of a bucket has version n, and its key lies there. A get answers its key's value at a version current during the call.
abbrev pub map_ok : ℕ → Test
map_ok buckets p i (events.Put b version key value) = version == count_of b p + 1 && b == bucket_of buckets key
map_ok buckets p i (events.Removed b version key) = version == count_of b p + 1 && b == bucket_of buckets key
map_ok buckets p i (events.Got b version key value) =
    b == bucket_of buckets key && (same_value value (value_at b version key p) && was_current i b version p)
map_ok buckets p i e = true

-- each entry of the record keeps the law of the map
abbrev pub MapLaw : ℕ → Past → Type 0
MapLaw buckets r = EachEntry (map_ok buckets) r
