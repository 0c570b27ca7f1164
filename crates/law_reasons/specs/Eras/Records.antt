-- What the record and the turns of each history keep, whatever calls begin and whichever seats make their steps.
use Rattle.std.specs.Prelude.{List, false, true, ◌≡◌}
use Rattle.law_scans.specs.laws.words.Place.{is_valid}
use Rattle.law_scans.specs.laws.words.Place.Place.{Clock}
use Rattle.law_scans.specs.laws.words.declared.layout.Layout.{Layout}
use Rattle.law_scans.specs.inv.history.History.{Item, record_of, world_of}
use Rattle.law_scans.specs.laws.HistoryEras.{ClockLaw, GuardLaw, BirthsCurrent, RetiresCurrent, ReservesCurrent}
use Rattle.law_scans.specs.laws.StateAt.{clock_of}
use Rattle.law_scans.specs.laws.HistoryTable.{GuardsOfTable}
use Rattle.law_scans.specs.laws.EraLaw.{advances_ok, kind_ok}
use Rattle.law_scans.specs.laws.records.Record.{EachEntry}
use Rattle.law_scans.specs.laws.words.Schemes.{moves}

-- each history's record keeps it, whatever calls begin and whichever seats make their steps
abbrev pub RecordsKeepEras : Type 0
RecordsKeepEras = (layout : Layout) (items : List Item) → is_valid layout ≡ true → ClockLaw layout.config (record_of layout items)

-- and its clock is the word
abbrev pub RecordClock : Type 0
RecordClock = (layout : Layout) (items : List Item) → is_valid layout ≡ true → clock_of (record_of layout items) ≡ (world_of layout items).mem Clock

-- each history's record keeps it, whatever calls begin and whichever seats make their steps
abbrev pub RecordsKeepGuards : Type 0
RecordsKeepGuards = (layout : Layout) (items : List Item) → is_valid layout ≡ true → GuardLaw layout.config.scheme (record_of layout items)

-- where retirements do not move the clock, an Advance alone moves it, once
abbrev pub RecordsAdvance : Type 0
RecordsAdvance = (layout : Layout) (items : List Item) → is_valid layout ≡ true → moves layout.config.scheme ≡ false → EachEntry advances_ok (record_of layout items)

-- each history's record keeps it, whatever calls begin and whichever seats make their steps
abbrev pub RecordsKeepKinds : Type 0
RecordsKeepKinds = (layout : Layout) (items : List Item) → is_valid layout ≡ true → EachEntry (kind_ok layout.config.scheme) (record_of layout items)

-- each history's record keeps them, whatever calls begin and whichever seats make their steps
abbrev pub RecordsGiveCurrent : Type 0
RecordsGiveCurrent = (layout : Layout) (items : List Item) → is_valid layout ≡ true → BirthsCurrent (record_of layout items)

abbrev pub RecordsRetireCurrent : Type 0
RecordsRetireCurrent = (layout : Layout) (items : List Item) → is_valid layout ≡ true → RetiresCurrent (record_of layout items)

abbrev pub RecordsReserveCurrent : Type 0
RecordsReserveCurrent = (layout : Layout) (items : List Item) → is_valid layout ≡ true → ReservesCurrent (record_of layout items)

-- each history's record keeps it, whatever calls begin and whichever seats make their steps
abbrev pub RecordsNameGuards : Type 0
RecordsNameGuards = (layout : Layout) (items : List Item) → is_valid layout ≡ true → GuardsOfTable layout.config (record_of layout items)
