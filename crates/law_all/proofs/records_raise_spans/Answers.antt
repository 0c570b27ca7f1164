use Rattle.law_all.proofs.Rising.RiseKeeps as keeps
use Rattle.law_all.proofs.records_raise_spans.Goals as goal

pub returns : goal.returns
returns c = keeps.records_raise_spans
