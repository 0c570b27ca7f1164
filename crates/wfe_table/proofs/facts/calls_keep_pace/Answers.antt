use Rattle.wfe_table.proofs.Paced as paced
use Rattle.wfe_table.proofs.facts.calls_keep_pace.Goals as goal

pub returns : goal.returns
returns c = paced.calls_keep_pace
