-- The users are the table's, and so are the seats that are left.
use Rattle.std.proofs.Common.{length, vec_len, ◌+◌, ◌≡◌}
use Rattle.std.specs.Prelude.{All}
use Rattle.wfe_cells.specs.Reasons.{IsFresh, IsNew}
use Rattle.wfe_cells.proofs.wide.wide_users.Given as goal

abbrev pub invariant-loop-seat : goal.invariant-loop-seat
invariant-loop-seat l = record {
  users : All (IsFresh l._shared) l.users.items;
  seats : All (IsNew l._shared) l.seats.items;
  long : length l.users.items + length l.seats.items ≡ length l.fn.seats.items;
}

abbrev pub decreases-loop-seat : goal.decreases-loop-seat
decreases-loop-seat l = vec_len l.seats
