-- How many rows wait on lists under hazard pointers: the bound of Michael's paper.
use Rattle.std.specs.Prelude.{List, false, length, suc, true, ℕ, ◌%◌, ◌*◌, ◌+◌, ◌-◌, ◌<◌, ◌≡◌, ◌≤◌}
use Rattle.law_all.specs.inv.history.History.{Item, record_of}
use Rattle.law_all.specs.inv.history.Record.{Past, tells}
use Rattle.law_all.specs.inv.model.defs.Entry.{Entry}
use Rattle.law_all.specs.inv.model.words.Place.{is_valid}
use Rattle.law_all.specs.inv.model.words.Schemes.{publishes_rows}
use Rattle.law_all.specs.inv.model.words.declared.config.Config.{Config}
use Rattle.law_all.specs.inv.model.words.declared.layout.Layout.{Layout}
use Rattle.law_all.specs.laws.Lists.{is_handed, list_of}
use Rattle.law_all.specs.laws.StateAt.{is_open, taken_at, told, total_retires}
use Rattle.law_bounds.specs.Rows.{listed_below, used_at, waiting_at}
use Rattle.law_bounds.specs.Scans.{came_of}

-- An adopt scans nothing: what comes with a list that is taken over stays until the seat's next scan. So each sentence leaves that out.
pub record HazardBounds (config : Config) (r : Past) : Type 0 where
  -- Where a seat is in no call, its list has at most one row for each guard, and one for each that it retired since their number was
  -- a multiple of `every`, beside those that came with lists that it took over since its last scan.
  pub one :
      (before : Past) (later : List Entry) (i : ℕ)
      → r ≡ tells before later
      → is_open i before ≡ false
      → length (list_of i before) ≤ config.seats * config.indexes + total_retires i before % config.every + came_of i before
  -- Where no list was taken over, a seat in a call has at most one more than the greatest of these, wherever it stopped.
  pub ever :
      (before : Past) (later : List Entry) (i : ℕ)
      → r ≡ tells before later
      → told is_handed before ≡ 0
      → length (list_of i before) ≤ config.seats * config.indexes + config.every
  -- Where no list was taken over and no seat is in a call, so many rows wait on all lists.
  pub all :
      (before : Past) (later : List Entry)
      → r ≡ tells before later
      → ((i : ℕ) → is_open i before ≡ false)
      → told is_handed before ≡ 0
      → listed_below config.seats before ≤ config.seats * (config.seats * config.indexes + (config.every - 1))

-- so it is in the record of each history of a table with hazard pointers
abbrev pub RecordsBoundHazards : Type 0
RecordsBoundHazards =
    (layout : Layout) (items : List Item)
    → is_valid layout ≡ true
    → publishes_rows layout.config.scheme ≡ true
    → HazardBounds layout.config (record_of layout items)

-- a row of the table is free
pub record FreeRow (config : Config) (p : Past) : Type 0 where
  pub slot : ℕ
  pub of_table : slot ≤ config.slots
  pub free : taken_at config.slots slot p ≡ false

-- How many rows a table needs, wherever its seats have stopped, and in whatever calls.
pub record RowsNeeded (config : Config) (p : Past) : Type 0 where
  -- Where no list was taken over, no more are taken than one for each bucket, one for each value that waits and the dummy, and for each
  -- seat one for each guard, `every` that wait for its scan, and one in hand.
  pub most :
      told is_handed p ≡ 0
      → length (used_at config.slots p) ≤ config.buckets + suc (waiting_at p) + config.seats * (config.seats * config.indexes + config.every + 1)
  -- So where the table has more slots, some row is free.
  pub spare :
      told is_handed p ≡ 0
      → config.buckets + waiting_at p + config.seats * (config.seats * config.indexes + config.every + 1) < config.slots
      → FreeRow config p

-- so it is after each history of a table with hazard pointers
abbrev pub RecordsNeedRows : Type 0
RecordsNeedRows =
    (layout : Layout) (items : List Item)
    → is_valid layout ≡ true
    → publishes_rows layout.config.scheme ≡ true
    → RowsNeeded layout.config (record_of layout items)
