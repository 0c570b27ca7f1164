use Rattle.wfe_check_calls.specs.Seats.{IsFresh}
use Rattle.wfe_check_calls.proofs.seat.new_seats.Given as goal

abbrev pub invariant-loop : goal.invariant-loop
invariant-loop l = IsFresh l.counter l.all.items
