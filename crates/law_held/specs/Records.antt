-- What the record and the turns of each history keep, whatever calls begin and whichever seats make their steps.
use Rattle.std.specs.Prelude.{List, true, ◌≡◌}
use Rattle.law_scans.specs.inv.model.words.Place.{is_valid}
use Rattle.law_scans.specs.inv.model.words.declared.layout.Layout.{Layout}
use Rattle.law_scans.specs.inv.history.History.{Item, record_of}
use Rattle.law_scans.specs.laws.HistoryHolds.{StoodThroughout, SourceLaw, FindLaw, GotLaw, LinkLaw, FollowLaw, BehindLaw, RestLaw}
use Rattle.law_scans.specs.laws.HistoryHolds.{LoneLaw}
use Rattle.law_scans.specs.laws.HistoryHolds.{ClearLaw, CopyLaw, IndexLaw}

-- each history's record keeps it, whatever calls begin and whichever seats make their steps
abbrev pub RecordsClearRows : Type 0
RecordsClearRows = (layout : Layout) (items : List Item) → is_valid layout ≡ true → ClearLaw (record_of layout items)

-- each history's record keeps it, whatever calls begin and whichever seats make their steps
abbrev pub RecordsUseIndexes : Type 0
RecordsUseIndexes = (layout : Layout) (items : List Item) → is_valid layout ≡ true → IndexLaw (record_of layout items)

-- each history's record keeps it, whatever calls begin and whichever seats make their steps
abbrev pub RecordsCopyRows : Type 0
RecordsCopyRows = (layout : Layout) (items : List Item) → is_valid layout ≡ true → CopyLaw (record_of layout items)

-- each history's record keeps it, whatever calls begin and whichever seats make their steps
abbrev pub RecordsHoldThroughout : Type 0
RecordsHoldThroughout = (layout : Layout) (items : List Item) → is_valid layout ≡ true → StoodThroughout layout.config (record_of layout items)

-- each history's record keeps it, whatever calls begin and whichever seats make their steps
abbrev pub RecordsFindSources : Type 0
RecordsFindSources = (layout : Layout) (items : List Item) → is_valid layout ≡ true → SourceLaw layout.config (record_of layout items)

-- each history's record keeps it, whatever calls begin and whichever seats make their steps
abbrev pub RecordsFindRoots : Type 0
RecordsFindRoots = (layout : Layout) (items : List Item) → is_valid layout ≡ true → FindLaw (record_of layout items)

-- each history's record keeps it, whatever calls begin and whichever seats make their steps
abbrev pub RecordsTellRows : Type 0
RecordsTellRows = (layout : Layout) (items : List Item) → is_valid layout ≡ true → GotLaw (record_of layout items)

-- each history's record keeps it, whatever calls begin and whichever seats make their steps
abbrev pub RecordsLinkHeld : Type 0
RecordsLinkHeld = (layout : Layout) (items : List Item) → is_valid layout ≡ true → LinkLaw layout.config.slots (record_of layout items)

-- each history's record keeps it, whatever calls begin and whichever seats make their steps
abbrev pub RecordsFollowHead : Type 0
RecordsFollowHead = (layout : Layout) (items : List Item) → is_valid layout ≡ true → FollowLaw layout.config.slots (record_of layout items)

-- each history's record keeps it, whatever calls begin and whichever seats make their steps
abbrev pub RecordsFollowNexts : Type 0
RecordsFollowNexts = (layout : Layout) (items : List Item) → is_valid layout ≡ true → BehindLaw layout.config.slots (record_of layout items)

-- each history's record keeps it, whatever calls begin and whichever seats make their steps
abbrev pub RecordsRestGuards : Type 0
RecordsRestGuards = (layout : Layout) (items : List Item) → is_valid layout ≡ true → RestLaw layout.config (record_of layout items)

-- each history's record keeps it, whatever calls begin and whichever seats make their steps
abbrev pub RecordsHoldAlone : Type 0
RecordsHoldAlone = (layout : Layout) (items : List Item) → is_valid layout ≡ true → LoneLaw (record_of layout items)
