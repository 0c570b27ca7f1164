use Rattle.law_reuse.proofs.BareEnds as bare
use Rattle.law_reuse.proofs.records_end_bare.Goals as goal

pub returns : goal.returns
returns c = bare.records_end_bare
