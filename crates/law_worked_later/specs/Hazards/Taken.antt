-- Worked records whose lines are told by a history, and that each law takes.
use Rattle.std.specs.Prelude.{[], ◌≡◌, true, List}
use Rattle.wfe_core.specs.words.declared.layout.Layout.{Layout}
use Rattle.wfe_core.specs.defs.Entry.{Entry}
use Rattle.model_history.specs.History.{Item, record_of}
use Rattle.model_history.specs.Among.{entries}
use Rattle.law_worked.specs.Refusals.{all_read, laws}

pub record IsTaken (layout : Layout) (items : List Item) (lines : List Entry) : Type 0 where
  -- a history tells just these lines
  pub tells : entries (record_of layout items) [] ≡ lines
  -- each law takes the record
  pub lawful : all_read layout.config lines laws ≡ true
