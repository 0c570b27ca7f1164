-- What the record and the turns of each history keep, whatever calls begin and whichever seats make their steps.
use Rattle.std.specs.Prelude.{List, false, true, ◌≡◌, ℕ, Some}
use Rattle.inv_all.specs.model.Posts.{stands}
use Rattle.laws.specs.defs.declared.event.Guard.{Guard}
use Rattle.laws.specs.words.Place.{is_valid}
use Rattle.laws.specs.words.declared.layout.Layout.{Layout}
use Rattle.inv_all.specs.covers.Covers.{eras_shown, shown}
use Rattle.inv_all.specs.model.Guards.{guard_place, linked_row}
use Rattle.inv_all.specs.history.History.{Item, record_of, world_of}
use Rattle.laws.specs.HistoryEras.{BirthLaw}
use Rattle.laws.specs.HoldLaw.{is_held}
use Rattle.laws.specs.HistoryHolds.{BareLaw, ReuseLaw}
use Rattle.laws.specs.HistoryRows.{FreeLaw, BackOnce, ListLaw}
use Rattle.laws.specs.HistoryScans.{BlockLaw, CountLaw, ReadLaw}
use Rattle.laws.specs.StateAt.{hazard_of, published_at, stood_at, value_of}
use Rattle.laws.specs.words.Schemes.{publishes_rows}

-- each history's record keeps it, whatever calls begin and whichever seats make their steps
abbrev pub RecordsKeepReuse : Type 0
RecordsKeepReuse = (layout : Layout) (items : List Item) → is_valid layout ≡ true → ReuseLaw (record_of layout items)

-- what stands by a record is what stands in the seat's post
abbrev pub RecordStands : Type 0
RecordStands =
    (layout : Layout) (items : List Item) (k j : ℕ)
    → is_valid layout ≡ true
    → stood_at k j (record_of layout items) ≡ stands ((world_of layout items).seat k).post j

-- each history's record keeps them, whatever calls begin and whichever seats make their steps
abbrev pub RecordsKeepOnce : Type 0
RecordsKeepOnce = (layout : Layout) (items : List Item) → is_valid layout ≡ true → FreeLaw layout.config.slots (record_of layout items)

abbrev pub RecordsGoBackOnce : Type 0
RecordsGoBackOnce = (layout : Layout) (items : List Item) → is_valid layout ≡ true → BackOnce (record_of layout items)

-- each history's record keeps it, whatever calls begin and whichever seats make their steps
abbrev pub RecordsKeepLists : Type 0
RecordsKeepLists = (layout : Layout) (items : List Item) → is_valid layout ≡ true → ListLaw (record_of layout items)

-- each history's record keeps it, whatever calls begin and whichever seats make their steps
abbrev pub RecordsKeepScans : Type 0
RecordsKeepScans = (layout : Layout) (items : List Item) → is_valid layout ≡ true → BlockLaw layout.config (record_of layout items)

-- each history's record keeps it, whatever calls begin and whichever seats make their steps
abbrev pub RecordsCountScans : Type 0
RecordsCountScans = (layout : Layout) (items : List Item) → is_valid layout ≡ true → CountLaw layout.config (record_of layout items)

-- each history's record keeps it, whatever calls begin and whichever seats make their steps
abbrev pub RecordsReadGuards : Type 0
RecordsReadGuards = (layout : Layout) (items : List Item) → is_valid layout ≡ true → ReadLaw (record_of layout items)

-- each history's record keeps it, whatever calls begin and whichever seats make their steps
abbrev pub RecordsKeepBirths : Type 0
RecordsKeepBirths = (layout : Layout) (items : List Item) → is_valid layout ≡ true → BirthLaw (record_of layout items)

-- so it is with what stands, wherever the record of a history ends between two steps
abbrev pub RecordsHold : Type 0
RecordsHold =
    (layout : Layout) (items : List Item) (k j s : ℕ)
    → is_valid layout ≡ true
    → stood_at k j (record_of layout items) ≡ Some s
    → is_held layout.config k j s (record_of layout items) ≡ true

-- the eras that a guard publishes by the record are those of its word
abbrev pub RecordValues : Type 0
RecordValues =
    (layout : Layout) (items : List Item) (guard : Guard)
    → is_valid layout ≡ true
    → publishes_rows layout.config.scheme ≡ false
    → value_of guard (record_of layout items) ≡ eras_shown (world_of layout items) guard

-- where rows are published, the row that a guard publishes by the record is that of the link in its word
abbrev pub RecordHazards : Type 0
RecordHazards =
    (layout : Layout) (items : List Item) (guard : Guard)
    → is_valid layout ≡ true
    → publishes_rows layout.config.scheme ≡ true
    → hazard_of guard (record_of layout items) ≡ linked_row ((world_of layout items).mem (guard_place guard))

-- so whatever a guard publishes by the record is what its word shows
abbrev pub RecordPublishes : Type 0
RecordPublishes =
    (layout : Layout) (items : List Item) (guard : Guard)
    → is_valid layout ≡ true
    → published_at layout.config.scheme guard (record_of layout items) ≡ shown (world_of layout items) guard

-- each history's record keeps it, whatever calls begin and whichever seats make their steps
abbrev pub RecordsEndBare : Type 0
RecordsEndBare = (layout : Layout) (items : List Item) → is_valid layout ≡ true → BareLaw (record_of layout items)
