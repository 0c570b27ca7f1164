-- What each history keeps, in one statement: the laws of its record, sentence by sentence; that calls and turns make it; and what its
-- record and its turns keep beyond the laws.
use Rattle.std.specs.Prelude.{◌≡◌, true, List}
use Rattle.law_all.specs.inv.model.words.Place.{is_valid}
use Rattle.law_all.specs.inv.model.words.declared.layout.Layout.{Layout}
use Rattle.law_all.specs.laws.Histories.{Histories}
use Rattle.law_all.specs.laws.Laws.{Laws}
use Rattle.law_all.specs.inv.history.Heard.{heard_of}
use Rattle.law_all.specs.inv.history.History.{Item, record_of}
use Rattle.law_all.specs.Schedule.{Schedule}
use Rattle.law_linear.specs.LinearLaw.{LinearLaw}

pub record IsLawful (layout : Layout) (items : List Item) : Type 0 where
  -- its record keeps the laws
  pub laws : Laws layout.config (record_of layout items)
  -- its calls have one order, in which a map and a queue, used by one call after another, give the same answers
  pub linear : LinearLaw layout.config (record_of layout items)
  -- a history is starts of calls and turns of seats
  pub schedule : Schedule layout items
  -- what its record and its turns keep beyond
  pub beyond : Histories layout.config (heard_of layout items) (record_of layout items)

-- whatever calls begin and whichever seats make their steps
abbrev pub HistoriesLawful : Type 0
HistoriesLawful = (layout : Layout) (items : List Item) → is_valid layout ≡ true → IsLawful layout items
