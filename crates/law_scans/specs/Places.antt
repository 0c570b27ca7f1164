-- Which rows calls are given, link, cut and retire in each history, whatever calls begin and whichever seats make their steps.
use Rattle.std.specs.Prelude.{List, true, ◌≡◌}
use Rattle.law_reuse.specs.inv.model.words.Place.{is_valid}
use Rattle.law_reuse.specs.inv.model.words.declared.layout.Layout.{Layout}
use Rattle.law_reuse.specs.inv.history.History.{Item, record_of}
use Rattle.law_reuse.specs.laws.HistoryAnswers.{RetireCounts, RefusalLaw}
use Rattle.law_reuse.specs.laws.HistoryRows.{PlacingLaw, OrderLaw, NextsLaw, RetireLaw, SingleLaw}

-- each history's record keeps it, whatever calls begin and whichever seats make their steps
abbrev pub RecordsPlaceRows : Type 0
RecordsPlaceRows = (layout : Layout) (items : List Item) → is_valid layout ≡ true → PlacingLaw (record_of layout items)

-- each history's record keeps it, whatever calls begin and whichever seats make their steps
abbrev pub RecordsKeepOrder : Type 0
RecordsKeepOrder = (layout : Layout) (items : List Item) → is_valid layout ≡ true → OrderLaw layout.config.slots (record_of layout items)

-- each history's record keeps it, whatever calls begin and whichever seats make their steps
abbrev pub RecordsLinkNexts : Type 0
RecordsLinkNexts = (layout : Layout) (items : List Item) → is_valid layout ≡ true → NextsLaw layout.config.slots (record_of layout items)

-- each history's record keeps them, whatever calls begin and whichever seats make their steps
abbrev pub RecordsRetireCuts : Type 0
RecordsRetireCuts = (layout : Layout) (items : List Item) → is_valid layout ≡ true → RetireLaw (record_of layout items)

abbrev pub RecordsCountRetires : Type 0
RecordsCountRetires = (layout : Layout) (items : List Item) → is_valid layout ≡ true → RetireCounts (record_of layout items)

abbrev pub RecordsRetireOne : Type 0
RecordsRetireOne = (layout : Layout) (items : List Item) → is_valid layout ≡ true → SingleLaw (record_of layout items)

abbrev pub RecordsRefuse : Type 0
RecordsRefuse = (layout : Layout) (items : List Item) → is_valid layout ≡ true → RefusalLaw (record_of layout items)
