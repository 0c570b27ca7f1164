-- Who works on a table.
use Rattle.std.specs.Prelude.{All}
use Rattle.wfe_table.specs.Public.{IsOf, TableNow}
use Rattle.wfe_shifts.specs.declared.staff.Staff.{Staff}

-- all seats are the table's: the steady worker's, those for newcomers, and those that have left
pub record IsStaffOf (staff : Staff) (shared : TableNow) : Type 0 where
  pub steady : IsOf staff.steady.seat shared
  pub seats : All (λ seat. IsOf seat shared) staff.seats.items
  pub left : All (λ seat. IsOf seat shared) staff.left.items
