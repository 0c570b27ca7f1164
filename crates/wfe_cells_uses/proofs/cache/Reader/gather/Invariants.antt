-- The seat stays the same.
use Rattle.std.proofs.Common.{◌≡◌}
use Rattle.wfe_cells_uses.proofs.cache.Reader.gather.Given as goal

abbrev pub invariant-loop-buffer : goal.invariant-loop-buffer
invariant-loop-buffer l = l.self.user.seat ≡ l.fn.self.user.seat
