use Rattle.std.proofs.Common.{◌≡◌, [], replicate}
use Rattle.wfe_check_held.proofs.protections.no_rows.Given as goal

abbrev pub invariant-loop : goal.invariant-loop
invariant-loop l = l.sets.items ≡ replicate l.counter []
