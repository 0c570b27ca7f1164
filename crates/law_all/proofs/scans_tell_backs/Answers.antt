use Rattle.law_all.proofs.Steps as steps
use Rattle.law_all.proofs.scans_tell_backs.Goals as goal

pub returns : goal.returns
returns c = steps.scans_tell_backs
