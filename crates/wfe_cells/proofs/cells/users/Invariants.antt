-- The users are the table's, and so are the seats that are left.
use Rattle.std.proofs.Common.{length, vec_len, ◌+◌, ◌≡◌}
use Rattle.std.specs.Prelude.{All}
use Rattle.wfe_cells.specs.Calls.{IsFresh}
use Rattle.wfe_cells.specs.Reasons.{IsNew}
use Rattle.wfe_cells.proofs.cells.users.Given as goal

abbrev pub invariant-loop-seat : goal.invariant-loop-seat
invariant-loop-seat l = record {
  users : All (IsFresh l.shared) l.users.items;
  seats : All (IsNew l.shared) l.seats.items;
  long : length l.users.items + length l.seats.items ≡ length l.fn.seats.items;
}

abbrev pub decreases-loop-seat : goal.decreases-loop-seat
decreases-loop-seat l = vec_len l.seats
