use Rattle.wfe_final.proofs.CalledOnceLemmas.{called_once}
use Rattle.wfe_final.proofs.records.deleters_are_called_once.Goals as goal

pub returns : goal.returns
returns c = called_once
