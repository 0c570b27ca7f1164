-- What the record of each history says of the steps of calls by what others did, in one statement.
use Rattle.std.specs.Prelude.{List, false, true, ◌≡◌}
use Rattle.law_held.specs.inv.history.History.{Item, record_of}
use Rattle.law_held.specs.inv.history.Record.{EachEntry, Past}
use Rattle.law_held.specs.inv.model.words.Place.{is_valid}
use Rattle.law_held.specs.inv.model.words.Schemes.{is_wfe}
use Rattle.law_held.specs.inv.model.words.declared.config.Config.{Config}
use Rattle.law_held.specs.inv.model.words.declared.layout.Layout.{Layout}
use Rattle.law_bounds.specs.Changes.{changes_ok}
use Rattle.law_bounds.specs.Gets.{reads_ok}
use Rattle.law_bounds.specs.Leaves.{leaves_ok}

pub record IsPaced (config : Config) (p : Past) : Type 0 where
  -- where a get or a hold ends; under Wait-Free Eras these take no more whatever others do
  pub reads : is_wfe config.scheme ≡ false → EachEntry (reads_ok config) p
  -- where a put, a remove, an enqueue or a dequeue ends
  pub changes : EachEntry (changes_ok config) p
  -- where a leave ends
  pub leaves : EachEntry (leaves_ok config) p

-- so it is after each history
abbrev pub HistoriesPaced : Type 0
HistoriesPaced = (layout : Layout) (items : List Item) → is_valid layout ≡ true → IsPaced layout.config (record_of layout items)
