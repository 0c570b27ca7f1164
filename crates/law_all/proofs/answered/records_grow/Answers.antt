use Rattle.law_all.proofs.Logs.Grows as grows
use Rattle.law_all.proofs.answered.records_grow.Goals as goal

pub returns : goal.returns
returns c = grows.records_grow
