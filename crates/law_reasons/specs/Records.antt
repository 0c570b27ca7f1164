-- What the record and the turns of each history keep, whatever calls begin and whichever seats make their steps.
use Rattle.std.specs.Prelude.{List, true, ◌≡◌}
use Rattle.law_scans.specs.inv.model.words.Place.{is_valid}
use Rattle.law_scans.specs.inv.model.words.declared.layout.Layout.{Layout}
use Rattle.law_scans.specs.inv.history.History.{Item, record_of}
use Rattle.law_scans.specs.laws.HistoryAnswers.{ReasonLaw, FullLaw, LackLaw, RepeatLaw}
use Rattle.law_scans.specs.laws.HistoryScans.{RoomScans}
use Rattle.law_scans.specs.laws.HistoryTable.{RangeLaw}

-- each history's record keeps it, whatever calls begin and whichever seats make their steps
abbrev pub RecordsScanForRoom : Type 0
RecordsScanForRoom = (layout : Layout) (items : List Item) → is_valid layout ≡ true → RoomScans layout.config (record_of layout items)

-- each history's record keeps it, whatever calls begin and whichever seats make their steps
abbrev pub RecordsKeepReasons : Type 0
RecordsKeepReasons = (layout : Layout) (items : List Item) → is_valid layout ≡ true → ReasonLaw layout.config (record_of layout items)

-- each history's record keeps it, whatever calls begin and whichever seats make their steps
abbrev pub RecordsKeepFull : Type 0
RecordsKeepFull = (layout : Layout) (items : List Item) → is_valid layout ≡ true → FullLaw layout.config (record_of layout items)

-- each history's record keeps it, whatever calls begin and whichever seats make their steps
abbrev pub RecordsKeepLacks : Type 0
RecordsKeepLacks = (layout : Layout) (items : List Item) → is_valid layout ≡ true → LackLaw layout.config (record_of layout items)

-- each history's record keeps it, whatever calls begin and whichever seats make their steps
abbrev pub RecordsKeepRepeats : Type 0
RecordsKeepRepeats = (layout : Layout) (items : List Item) → is_valid layout ≡ true → RepeatLaw layout.config (record_of layout items)

-- each history's record keeps it, whatever calls begin and whichever seats make their steps
abbrev pub RecordsStayInRange : Type 0
RecordsStayInRange = (layout : Layout) (items : List Item) → is_valid layout ≡ true → RangeLaw layout.config (record_of layout items)
