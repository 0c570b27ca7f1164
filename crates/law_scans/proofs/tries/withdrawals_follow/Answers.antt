use Rattle.law_scans.proofs.Turns.Withdrawals.Due as due
use Rattle.law_scans.proofs.tries.withdrawals_follow.Goals as goal

pub returns : goal.returns
returns c = due.withdrawals_follow
