use Rattle.law_bounds.proofs.Waits.Seats as bounds
use Rattle.law_bounds.proofs.seats_wait_few.Goals as goal

pub returns : goal.returns
returns c = bounds.seats_wait_few
