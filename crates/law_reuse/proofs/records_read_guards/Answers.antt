use Rattle.law_reuse.proofs.Blocks.Shown as shown
use Rattle.law_reuse.proofs.records_read_guards.Goals as goal

pub returns : goal.returns
returns c = shown.records_read_guards
