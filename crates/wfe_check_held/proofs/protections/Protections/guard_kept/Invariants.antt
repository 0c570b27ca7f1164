use Rattle.std.proofs.Common.{◌≡◌}
use Rattle.wfe_check_held.specs.All.{all_below}
use Rattle.wfe_check_held.specs.Shown.{index_kept}
use Rattle.wfe_check_held.proofs.protections.Protections.guard_kept.Given as goal

abbrev pub invariant-loop-index : goal.invariant-loop-index
invariant-loop-index l = l.all ≡ all_below (index_kept l.self l.rows l.guard l.value) l.index
