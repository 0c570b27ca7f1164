use Rattle.law_all.proofs.Whole as whole
use Rattle.law_all.proofs.histories_are_lawful.Goals as goal

pub returns : goal.returns
returns c = whole.histories_are_lawful
