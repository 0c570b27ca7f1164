use Rattle.law_worked.proofs.Worked.Readers as readers
use Rattle.law_worked.proofs.readers_judge.Goals as goal

pub returns : goal.returns
returns c = readers.readers_judge
