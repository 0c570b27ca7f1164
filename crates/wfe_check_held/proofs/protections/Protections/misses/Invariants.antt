use Rattle.std.proofs.Common.{◌≡◌}
use Rattle.wfe_check_held.specs.All.{all_below}
use Rattle.wfe_check_held.specs.Shown.{misses_at}
use Rattle.wfe_check_held.proofs.protections.Protections.misses.Given as goal

abbrev pub invariant-loop-index : goal.invariant-loop-index
invariant-loop-index l = l.all ≡ all_below (misses_at l.self l.slot l.seat) l.index
