use Rattle.law_reuse.proofs.Reuse.Shown as shown
use Rattle.law_reuse.proofs.stands_shown.Goals as goal

pub returns : goal.returns
returns c = shown.stands_shown
