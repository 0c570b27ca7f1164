use Rattle.std.proofs.Common.{◌≡◌}
use Rattle.wfe_check_held.specs.All.{all_below}
use Rattle.wfe_check_held.specs.Shown.{life_kept_by}
use Rattle.wfe_check_held.proofs.protections.Protections.life_kept.Given as goal

abbrev pub invariant-loop-seat : goal.invariant-loop-seat
invariant-loop-seat l = l.all ≡ all_below (life_kept_by l.self l.life) l.seat
