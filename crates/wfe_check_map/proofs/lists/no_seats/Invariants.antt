use Rattle.std.proofs.Common.{◌≡◌, replicate}
use Rattle.wfe_check_map.specs.Seats.{no_scanning}
use Rattle.wfe_check_map.proofs.lists.no_seats.Given as goal

abbrev pub invariant-loop : goal.invariant-loop
invariant-loop l = l.made.items ≡ replicate l.counter no_scanning
