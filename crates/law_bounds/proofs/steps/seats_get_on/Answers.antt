use Rattle.law_bounds.proofs.Free.Seats as seats
use Rattle.law_bounds.proofs.steps.seats_get_on.Goals as goal

pub returns : goal.returns
returns c = seats.seats_get_on
