use Rattle.law_all.proofs.Runs.Lawful as lawful
use Rattle.law_all.proofs.runs_are_lawful.Goals as goal

pub returns : goal.returns
returns c = lawful.runs_are_lawful
