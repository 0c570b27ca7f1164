use Rattle.std.proofs.Common.{arith}
use Rattle.wfe_core.proofs.Ranges.{bounds_of}
use Rattle.wfe_cells.proofs.user.User.load.Goals as goal

pub look-looked-requires-clause-range : goal.look-looked-requires-clause-range
look-looked-requires-clause-range c = let bounds = bounds_of c.args.shared.now.layout c.hold.ensures.made.tracked.valid in omega (arith, bounds.indexes)
