use Rattle.std.proofs.Common.{◌+◌, arith}
use Rattle.wfe_check_held.proofs.Grids.{inside}
use Rattle.wfe_check_held.proofs.times.Times.was_cut.Goals as goal

pub get-cut-requires : goal.get-cut-requires
get-cut-requires c =
    let times = c.args.self.now in
    inside times.config.seats (times.config.slots + 1) times.cuts c.args.seat c.args.slot c.requires.sized.cuts c.requires.seat (omega arith)
