-- The parts are new, and so are the users that are left.
use Rattle.std.proofs.Common.{length, vec_len, ◌+◌, ◌≡◌}
use Rattle.std.specs.Prelude.{All}
use Rattle.wfe_cells.specs.Calls.{IsFresh}
use Rattle.wfe_shared_cells.specs.Calls.{IsNewPart}
use Rattle.wfe_shared_cells.proofs.cells.shared_users.Given as goal

abbrev pub invariant-loop-user : goal.invariant-loop-user
invariant-loop-user l = record {
  all : All (λ user. IsNewPart l._cells user.part) l.all.items;
  users : All (IsFresh l._cells) l.users.items;
  long : length l.all.items + length l.users.items ≡ length l.fn.users.items;
}

abbrev pub decreases-loop-user : goal.decreases-loop-user
decreases-loop-user l = vec_len l.users
