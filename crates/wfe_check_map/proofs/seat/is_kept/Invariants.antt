use Rattle.std.proofs.Common.{◌≡◌, drop}
use Rattle.wfe_check_map.specs.Seats.{keeps_one}
use Rattle.wfe_check_map.proofs.seat.is_kept.Given as goal

abbrev pub invariant-loop-value : goal.invariant-loop-value
invariant-loop-value l = keeps_one l.life l.values ≡ keeps_one l.life (drop l.value-index l.values)
