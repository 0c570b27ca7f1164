use Rattle.law_worked.proofs.RunRecords.Judges as judges
use Rattle.law_worked.proofs.runs.readers_judge.Goals as goal

pub returns : goal.returns
returns c = judges.readers_judge
