use Rattle.law_scans.proofs.Turns.Handovers as handed
use Rattle.law_scans.proofs.tries.handovers_meet.Goals as goal

pub returns : goal.returns
returns c = handed.handovers_meet
