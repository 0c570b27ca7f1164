use Rattle.std.proofs.Common.{◌≡◌}
use Rattle.wfe_check_held.specs.All.{all_below}
use Rattle.wfe_check_held.specs.Shown.{low_or_bare}
use Rattle.wfe_check_held.proofs.protections.Protections.all_bare.Given as goal

abbrev pub invariant-loop-index : goal.invariant-loop-index
invariant-loop-index l = l.all ≡ all_below (low_or_bare l.self l.seat) l.index
