use Rattle.law_reuse.proofs.Reuse.Keeps as keeps
use Rattle.law_reuse.proofs.record_stands.Goals as goal

pub returns : goal.returns
returns c = keeps.record_stands
