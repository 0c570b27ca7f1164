use Rattle.std.proofs.Common.{◌≡◌}
use Rattle.wfe_check_held.specs.All.{all_below}
use Rattle.wfe_check_held.specs.Shown.{misses_by}
use Rattle.wfe_check_held.proofs.protections.Protections.stands_nowhere.Given as goal

abbrev pub invariant-loop-seat : goal.invariant-loop-seat
invariant-loop-seat l = l.all ≡ all_below (misses_by l.self l.slot) l.seat
