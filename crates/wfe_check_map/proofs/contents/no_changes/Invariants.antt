use Rattle.std.proofs.Common.{◌≡◌, [], replicate}
use Rattle.wfe_check_map.proofs.contents.no_changes.Given as goal

abbrev pub invariant-loop : goal.invariant-loop
invariant-loop l = l.made.items ≡ replicate l.counter []
