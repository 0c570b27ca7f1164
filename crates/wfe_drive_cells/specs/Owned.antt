-- What holds of cells at all times: the handle is the table's, and knows as many words as there are.
use Rattle.std.specs.Prelude.{length, ◌≡◌}
use Rattle.wfe_drive_cells.specs.declared.table.TableCells.TheInside.{Inside}

pub record IsOwned (cells : Inside) : Type 0 where
  pub table_is : cells.handle.table_id ≡ cells.table.shared.table_id
  pub count : length cells.handle.me.0 ≡ cells.table.shared.table_id.words
