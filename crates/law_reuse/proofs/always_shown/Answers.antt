use Rattle.law_reuse.proofs.Reuse.Shown as shown
use Rattle.law_reuse.proofs.always_shown.Goals as goal

pub returns : goal.returns
returns c = shown.always_shown
