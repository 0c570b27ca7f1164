-- The law of the map, over records.
use Rattle.std.specs.Prelude.{◌≡◌, true, List}
use Rattle.inv_all.specs.model.words.Place.{is_valid}
use Rattle.inv_all.specs.model.words.declared.layout.Layout.{Layout}
use Rattle.laws.specs.MapLaw.{MapLaw}
use Rattle.inv_all.specs.history.History.{Item, record_of}

-- each history's record keeps it, whatever calls begin and whichever seats make their steps
abbrev pub RecordsKeepMap : Type 0
RecordsKeepMap = (layout : Layout) (items : List Item) → is_valid layout ≡ true → MapLaw layout.config.buckets (record_of layout items)
