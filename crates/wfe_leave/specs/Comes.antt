-- That a history of calls of all kinds comes to what a table shows.
use Rattle.std.specs.Prelude.{List, length, true, ◌≡◌}
use Rattle.wfe_core.specs.words.Place.{is_valid}
use Rattle.wfe_drive_cells.specs.Unit.{Shows, TableView}
use Rattle.wfe_drive.specs.history.History.{Item, world_of}

-- calls began and steps were made, from the World before the first call, so that the table shows the World that they come to
pub record Comes (table : TableView) : Type 0 where
  pub valid : is_valid table.layout ≡ true
  pub seats : length table.seats ≡ table.layout.config.seats
  pub items : List Item
  pub shows : Shows table (world_of table.layout items)
