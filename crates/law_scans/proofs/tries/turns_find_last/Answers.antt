use Rattle.law_scans.proofs.Turns.Withdrawals.Entries as withdrawals
use Rattle.law_scans.proofs.tries.turns_find_last.Goals as goal

pub returns : goal.returns
returns c = withdrawals.turns_find_last
