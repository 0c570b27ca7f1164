-- The memory that closing a table takes, all of it reserved before the table is closed.
use Rattle.std.specs.Prelude.{All, List, [], length, ℕ, ◌≡◌, ◌≤◌}
use Rattle.std.specs.Vec.{vec_capacity}
use Rattle.wfe_core.specs.words.Place.{row_count, words}
use Rattle.wfe_core.specs.words.declared.layout.Layout.{Layout}
use Rattle.wfe_table_end.specs.declared.closed.BucketRow.{BucketRow}
use Rattle.wfe_table_end.specs.declared.room.ClosedRoom.TheInside.{Inside}

-- which table it is for, and the words of it that are there, by number from 0
pub record Words : Type 0 where
  pub layout : Layout
  pub list : List ℕ

-- an empty bucket with room for the pairs of a row
pub record IsSpare (layout : Layout) (row : BucketRow) : Type 0 where
  pub empty : row.pairs.items ≡ []
  pub room : layout.config.pairs ≤ vec_capacity row.pairs

-- there is room for each word of the table, for each bucket with its pairs, and for each row in the queue and among those in use
pub record HasRoom (room : Inside) : Type 0 where
  pub words_fit : words room.layout ≤ vec_capacity room.words
  pub spare : All (IsSpare room.layout) room.spare.items
  pub spares : length room.spare.items ≡ room.layout.config.buckets
  pub bucketless : room.buckets.items ≡ []
  pub buckets_fit : room.layout.config.buckets ≤ vec_capacity room.buckets
  pub queueless : room.queue.items ≡ []
  pub queue_fits : row_count room.layout ≤ vec_capacity room.queue
  pub unused : room.used.items ≡ []
  pub used_fit : row_count room.layout ≤ vec_capacity room.used
