use Rattle.std.proofs.Common.{◌≡◌}
use Rattle.wfe_check_held.specs.All.{all_below}
use Rattle.wfe_check_held.specs.Shown.{life_kept_at}
use Rattle.wfe_check_held.proofs.protections.Protections.life_kept_by.Given as goal

abbrev pub invariant-loop-index : goal.invariant-loop-index
invariant-loop-index l = l.all ≡ all_below (life_kept_at l.self l.life l.seat) l.index
