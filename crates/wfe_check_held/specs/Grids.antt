-- A grid of numbers, read by line and place.
use Rattle.std.specs.Prelude.{ℕ, ◌≡◌, ◌+◌, ◌*◌, get_or, length}
use Rattle.wfe_check_held.specs.declared.grid.Grid.{Grid}

-- so many lines of so many places
pub record IsGrid (high wide : ℕ) (grid : Grid) : Type 0 where
  pub width : grid.width ≡ wide
  pub count : length grid.cells.items ≡ high * wide

-- the number at a place of a line
abbrev pub cell_at : Grid → (line place : ℕ) → ℕ
cell_at grid line place = get_or grid.cells.items (line * grid.width + place) 0
