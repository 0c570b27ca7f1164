use Rattle.law_all.proofs.Runs.Lists as lists
use Rattle.law_all.proofs.runs_list.Goals as goal

pub returns : goal.returns
returns c = lists.runs_list
