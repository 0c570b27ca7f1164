use Rattle.law_all.proofs.Tried as tried
use Rattle.law_all.proofs.records_raise_tries.Goals as goal

pub returns : goal.returns
returns c = tried.records_raise_tries
