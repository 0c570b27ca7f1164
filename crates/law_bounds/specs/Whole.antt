-- All bounds that hold of the record of each history, in one statement.
use Rattle.std.specs.Prelude.{List, false, true, ◌≡◌}
use Rattle.law_all.specs.inv.history.History.{Item, record_of}
use Rattle.law_all.specs.inv.history.Record.{Past}
use Rattle.law_all.specs.inv.model.words.Place.{is_valid}
use Rattle.law_all.specs.inv.model.words.Schemes.{publishes_rows}
use Rattle.law_all.specs.inv.model.words.declared.config.Config.{Config}
use Rattle.law_all.specs.inv.model.words.declared.layout.Layout.{Layout}
use Rattle.law_bounds.specs.Eras.{JudgesSo, StillBounds}
use Rattle.law_bounds.specs.Hazards.{HazardBounds, RowsNeeded}
use Rattle.law_bounds.specs.Kept.{KeepsFew}
use Rattle.law_bounds.specs.Rows.{FewTaken}
use Rattle.law_bounds.specs.Scans.{ScanBounds}

pub record IsBounded (config : Config) (p : Past) : Type 0 where
  -- whatever calls are under way, few rows are taken
  pub rows : FewTaken config p
  -- what scans leave
  pub scans : ScanBounds config p
  -- under hazard pointers how many rows wait, and how many the table needs
  pub hazards : publishes_rows config.scheme ≡ true → HazardBounds config p
  pub needed : publishes_rows config.scheme ≡ true → RowsNeeded config p
  -- under eras what a guard keeps that stands still, and what a scan has judged
  pub still : publishes_rows config.scheme ≡ false → StillBounds config p
  pub judged : publishes_rows config.scheme ≡ false → JudgesSo config p
  -- and how many rows guards keep, and scans leave
  pub keeps : publishes_rows config.scheme ≡ false → KeepsFew config p

-- so it is after each history
abbrev pub HistoriesBounded : Type 0
HistoriesBounded = (layout : Layout) (items : List Item) → is_valid layout ≡ true → IsBounded layout.config (record_of layout items)
