-- The writers are the cells', and so are the users that are left.
use Rattle.std.proofs.Common.{vec_len}
use Rattle.std.specs.Prelude.{All}
use Rattle.wfe_table.specs.Public.{IsOf}
use Rattle.wfe_cells_uses.proofs.board.writers.Given as goal

abbrev pub invariant-loop-user : goal.invariant-loop-user
invariant-loop-user l = record {
  writers : All (λ writer. IsOf writer.user.seat l._cells.table) l.writers.items;
  users : All (λ user. IsOf user.seat l._cells.table) l.users.items;
}

abbrev pub decreases-loop-user : goal.decreases-loop-user
decreases-loop-user l = vec_len l.users
