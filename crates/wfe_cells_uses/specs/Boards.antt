-- What is known of a board that was written, to its thread and to one that was told of it.
use Rattle.std.specs.Prelude.{List, ℕ, ◌≡◌, ◌≤◌}
use Rattle.wfe_cells.specs.Wide.{IsShown, WideNow}
use Rattle.wfe_cells.specs.declared.wide.Seen.{Seen}
use Rattle.wfe_cells_uses.specs.declared.board.Told.{Told}

-- the news are of the cells' table, and by them the cell shows these words
pub record IsTold (cells : WideNow) (cell : ℕ) (words : List ℕ) (told : Told) : Type 0 where
  pub table : told.news.table ≡ cells.table.table
  pub shown : IsShown cells.table.layout told.news.past cell told.seen words

-- what was read is no older than this version, and at this version it is these words
pub record IsWhole (version : ℕ) (words : List ℕ) (seen : Seen) (read : List ℕ) : Type 0 where
  pub later : version ≤ seen.version
  pub same : seen.version ≡ version → read ≡ words
