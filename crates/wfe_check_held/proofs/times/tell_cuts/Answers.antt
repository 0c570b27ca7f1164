use Rattle.std.proofs.Common.{◌≤◌, ◌+◌, subst, arith}
use Rattle.laws.specs.Ranges.{EventIn}
use Rattle.wfe_check_held.proofs.Grids.{inside}
use Rattle.wfe_check_held.proofs.times.tell_cuts.Goals as goal

pub set-requires-clause-inside : goal.set-requires-clause-inside
set-requires-clause-inside c =
    let low : c.in-Cut.slot ≤ c.args.config.now.slots = subst (EventIn c.args.config.now) c.in-Cut.is c.requires.range.within in
    inside c.args.config.now.seats (c.args.config.now.slots + 1) c.args.cuts.now c.args.seat c.in-Cut.slot c.requires.grid c.requires.range.seated (omega arith)
