use Rattle.law_reuse.proofs.OpenCalls as keeps
use Rattle.law_reuse.proofs.records_open_calls.Goals as goal

pub returns : goal.returns
returns c = keeps.records_open_calls
