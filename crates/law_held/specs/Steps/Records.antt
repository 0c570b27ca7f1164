-- What the record and the turns of each history keep, whatever calls begin and whichever seats make their steps.
use Rattle.std.specs.Prelude.{List, true, ◌≡◌}
use Rattle.law_scans.specs.inv.model.words.Place.{is_valid}
use Rattle.law_scans.specs.inv.model.words.Schemes.{is_wfe, is_he, is_ibr}
use Rattle.law_scans.specs.inv.model.words.declared.layout.Layout.{Layout}
use Rattle.law_scans.specs.inv.history.History.{Item, record_of}
use Rattle.law_scans.specs.laws.HistorySteps.{AskLaw}
use Rattle.law_scans.specs.laws.HistoryEras.{SpansRise}
use Rattle.law_scans.specs.laws.HistorySteps.{ErasRise, HelperLaw, ShowLaw, TakeLaw, RaiseLaw, EndLaw}
use Rattle.law_scans.specs.laws.HistorySteps.{TriesRise}
use Rattle.law_scans.specs.laws.StepLaw.{TryLaw}

-- each history's record keeps them, whatever calls begin and whichever seats make their steps
abbrev pub RecordsRaiseSpans : Type 0
RecordsRaiseSpans = (layout : Layout) (items : List Item) → is_valid layout ≡ true → SpansRise (record_of layout items)

abbrev pub RecordsRaiseEras : Type 0
RecordsRaiseEras = (layout : Layout) (items : List Item) → is_valid layout ≡ true → ErasRise (record_of layout items)

-- each history's record keeps it under Wait-Free Eras, whatever calls begin and whichever seats make their steps
abbrev pub RecordsKeepHelpers : Type 0
RecordsKeepHelpers = (layout : Layout) (items : List Item) → is_valid layout ≡ true → is_wfe layout.config.scheme ≡ true → HelperLaw layout.config.tries (record_of layout items)

-- each history's record keeps them under Wait-Free Eras, whatever calls begin and whichever seats make their steps
abbrev pub RecordsShowLate : Type 0
RecordsShowLate = (layout : Layout) (items : List Item) → is_valid layout ≡ true → is_wfe layout.config.scheme ≡ true → ShowLaw layout.config (record_of layout items)

abbrev pub RecordsTakeLate : Type 0
RecordsTakeLate = (layout : Layout) (items : List Item) → is_valid layout ≡ true → is_wfe layout.config.scheme ≡ true → TakeLaw layout.config.tries (record_of layout items)

-- each history's record keeps it under 2GE, whatever calls begin and whichever seats make their steps
abbrev pub RecordsKeepRaises : Type 0
RecordsKeepRaises = (layout : Layout) (items : List Item) → is_valid layout ≡ true → is_ibr layout.config.scheme ≡ true → RaiseLaw (record_of layout items)

-- each history's record keeps it, whatever calls begin and whichever seats make their steps
abbrev pub RecordsKeepEnds : Type 0
RecordsKeepEnds = (layout : Layout) (items : List Item) → is_valid layout ≡ true → EndLaw layout.config (record_of layout items)

-- each history's record keeps it, whatever calls begin and whichever seats make their steps
abbrev pub RecordsRaiseTries : Type 0
RecordsRaiseTries = (layout : Layout) (items : List Item) → is_valid layout ≡ true → TriesRise layout.config.scheme (record_of layout items)

-- each history's record keeps it under Hazard Eras, whatever calls begin and whichever seats make their steps
abbrev pub RecordsCountTries : Type 0
RecordsCountTries = (layout : Layout) (items : List Item) → is_valid layout ≡ true → is_he layout.config.scheme ≡ true → TryLaw (record_of layout items)

-- each history's record keeps it under Wait-Free Eras, whatever calls begin and whichever seats make their steps
abbrev pub RecordsAskLate : Type 0
RecordsAskLate = (layout : Layout) (items : List Item) → is_valid layout ≡ true → is_wfe layout.config.scheme ≡ true → AskLaw layout.config.tries (record_of layout items)
