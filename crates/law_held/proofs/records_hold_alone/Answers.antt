use Rattle.law_held.proofs.Indexes.Alone as alone
use Rattle.law_held.proofs.records_hold_alone.Goals as goal

pub returns : goal.returns
returns c = alone.records_hold_alone
