use Rattle.law_scans.proofs.Turns.Withdrawals.Entries as withdrawals
use Rattle.law_scans.proofs.tries.records_withdraw_next.Goals as goal

pub returns : goal.returns
returns c = withdrawals.records_withdraw_next
