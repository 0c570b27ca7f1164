-- What a table that is closed holds, by the record of a history that comes to its words.
use Rattle.std.specs.Prelude.{List, drop, map, ℕ, ◌≡◌}
use Rattle.std.specs.List.{range_with_len}
use Rattle.laws.specs.StateAt.{clock_of, taken_at}
use Rattle.laws.specs.StructuresAt.{filling_at, numbered_from, queued_of, taken_of}
use Rattle.law_reasons.specs.inv.history.History.{Item, world_of}
use Rattle.laws.specs.records.Record.{Past}
use Rattle.wfe_core.specs.words.Place.{row_count}
use Rattle.wfe_core.specs.words.declared.layout.Layout.{Layout}
use Rattle.wfe_drive_cells.specs.Memory.{memory}
use Rattle.wfe_table_end.specs.Contents.{IsWhole, filling_of, numbers_where}
use Rattle.wfe_table_end.specs.declared.closed.Closed.{Closed}

-- the words are those of the World that a history of the table comes to
pub record Reaches (layout : Layout) (list : List ℕ) (items : List Item) : Type 0 where
  pub whole : IsWhole layout list
  pub mem : (world_of layout items).mem ≡ memory layout list

-- some history comes to the words
pub record IsReached (layout : Layout) (list : List ℕ) : Type 0 where
  pub items : List Item
  pub reaches : Reaches layout list items

-- the clock is that of the record; each bucket is at its last version, in the order of the buckets; the queue has each value that
-- was queued and not taken, with its number; and the rows in use are those that are taken, rising
pub record IsClosed (layout : Layout) (p : Past) (closed : Closed) : Type 0 where
  pub clock : closed.clock ≡ clock_of p
  pub buckets : map filling_of closed.buckets.items ≡ map (filling_at p) (range_with_len 0 layout.config.buckets)
  pub queue : closed.queue.items ≡ numbered_from (taken_of p) (drop (taken_of p) (queued_of p))
  pub used : closed.used.items ≡ numbers_where (λ slot. taken_at layout.config.slots slot p) (row_count layout)
