use Rattle.law_bounds.proofs.Eras.Scanned as bounds
use Rattle.law_bounds.proofs.records_keep_few.Goals as goal

pub returns : goal.returns
returns c = bounds.records_keep_few
