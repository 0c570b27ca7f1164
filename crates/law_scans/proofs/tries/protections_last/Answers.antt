use Rattle.law_scans.proofs.Turns.TurnCounts.Underway as underway
use Rattle.law_scans.proofs.tries.protections_last.Goals as goal

pub returns : goal.returns
returns c = underway.protections_last
