use Rattle.law_all.proofs.Logs.Ledgers as ledgers
use Rattle.law_all.proofs.answered.records_keep_logs.Goals as goal

pub returns : goal.returns
returns c = ledgers.records_keep_logs
