-- What a seat keeps of its last scan, by the record.
use Rattle.std.specs.Prelude.{Bool, List, false, if◌then◌else◌, length, true, ℕ, ◌&&◌, ◌+◌, ◌==◌, ◌≡◌}
use Rattle.law_scans.specs.inv.model.Desks.{Report}
use Rattle.law_scans.specs.inv.model.Guards.{guards}
use Rattle.law_scans.specs.inv.model.World.{is_busy}
use Rattle.law_scans.specs.laws.defs.declared.event.Event.{Event}
use Rattle.law_scans.specs.laws.defs.declared.event.Event.TheVariants as events
use Rattle.law_scans.specs.laws.words.Place.{is_valid}
use Rattle.law_scans.specs.laws.words.declared.layout.Layout.{Layout}
use Rattle.law_scans.specs.laws.Lists.{list_of}
use Rattle.law_scans.specs.laws.StateAt.{read_of, seen}
use Rattle.law_scans.specs.inv.history.History.{Item, record_of, world_of}
use Rattle.law_scans.specs.laws.records.Record.{Past}
use Rattle.law_scans.specs.laws.records.Record.Past.{Start, Then}

-- how many rows a seat has told back since it read a guard last
abbrev pub returned_by : Event → ℕ → ℕ
returned_by (events.Read guard span) before = 0
returned_by (events.Saw guard slot) before = 0
returned_by (events.Back slot) before = before + 1
returned_by event before = before

abbrev pub returned_of : ℕ → Past → ℕ
returned_of i p = seen returned_by 0 i p

-- a guard is read, or a row goes back
abbrev pub is_of_scan : Event → Bool
is_of_scan (events.Read guard span) = true
is_of_scan (events.Saw guard slot) = true
is_of_scan (events.Back slot) = true
is_of_scan event = false

-- how many lives were on the seat's list right after it told so last
abbrev pub left_of : ℕ → Past → ℕ
left_of i Start = 0
left_of i (Then p k event) = if i == k && is_of_scan event then length (list_of i (Then p k event)) else left_of i p

-- The report shows what the seat's last block has read, how many rows went back after it, and how many lives stayed on the list then.
pub record IsReported (layout : Layout) (k : ℕ) (p : Past) (report : Report) : Type 0 where
  pub read : read_of (guards layout.config) k p ≡ report.read
  pub back : returned_of k p ≡ report.back
  pub kept : left_of k p ≡ report.kept

-- so it is of each seat that is in no call
abbrev pub RecordsReport : Type 0
RecordsReport =
    (layout : Layout) (items : List Item) (k : ℕ)
    → is_valid layout ≡ true
    → is_busy (world_of layout items) k ≡ false
    → IsReported layout k (record_of layout items) ((world_of layout items).seat k).desk.report
