-- What the record and the turns of each history keep, whatever calls begin and whichever seats make their steps.
use Rattle.std.specs.Prelude.{List, true, ◌≡◌}
use Rattle.law_reuse.specs.laws.words.Place.{is_valid}
use Rattle.law_reuse.specs.laws.words.declared.layout.Layout.{Layout}
use Rattle.law_reuse.specs.history.History.{Item, record_of}
use Rattle.law_reuse.specs.laws.HistoryAnswers.{PlainOutcomes, ClockTimes}
use Rattle.law_reuse.specs.laws.HistoryEras.{PlainMoves}
use Rattle.law_reuse.specs.laws.HistoryScans.{FewRetired, PlainScans}
use Rattle.law_scans.specs.Outcomes.{ClockOutcomes}
use Rattle.law_scans.specs.Plain.{CountsPlainly}
use Rattle.law_scans.specs.Scans.{DueScans, DueMoves}

-- each history's record keeps them, whatever calls begin and whichever seats make their steps
abbrev pub RecordsScanWhereDue : Type 0
RecordsScanWhereDue = (layout : Layout) (items : List Item) → is_valid layout ≡ true → DueScans layout.config (record_of layout items)

abbrev pub RecordsMoveWhereDue : Type 0
RecordsMoveWhereDue = (layout : Layout) (items : List Item) → is_valid layout ≡ true → DueMoves layout.config (record_of layout items)

-- each history's record keeps it, whatever calls begin and whichever seats make their steps
abbrev pub RecordsRetireFew : Type 0
RecordsRetireFew = (layout : Layout) (items : List Item) → is_valid layout ≡ true → FewRetired layout.config (record_of layout items)

-- each history's record keeps them, whatever calls begin and whichever seats make their steps
abbrev pub RecordsCountPlainly : Type 0
RecordsCountPlainly = (layout : Layout) (items : List Item) → is_valid layout ≡ true → CountsPlainly layout.config.every (record_of layout items)

abbrev pub RecordsScanPlainly : Type 0
RecordsScanPlainly = (layout : Layout) (items : List Item) → is_valid layout ≡ true → PlainScans layout.config (record_of layout items)

abbrev pub RecordsMovePlainly : Type 0
RecordsMovePlainly = (layout : Layout) (items : List Item) → is_valid layout ≡ true → PlainMoves layout.config (record_of layout items)

abbrev pub RecordsAnswerPlainly : Type 0
RecordsAnswerPlainly = (layout : Layout) (items : List Item) → is_valid layout ≡ true → PlainOutcomes layout.config (record_of layout items)

-- each history's record keeps it, whatever calls begin and whichever seats make their steps
abbrev pub RecordsKeepOutcomes : Type 0
RecordsKeepOutcomes = (layout : Layout) (items : List Item) → is_valid layout ≡ true → ClockOutcomes layout.config (record_of layout items)

-- each history's record keeps it, whatever calls begin and whichever seats make their steps
abbrev pub RecordsKeepTimes : Type 0
RecordsKeepTimes = (layout : Layout) (items : List Item) → is_valid layout ≡ true → ClockTimes (record_of layout items)
