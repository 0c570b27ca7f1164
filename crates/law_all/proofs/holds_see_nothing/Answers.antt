use Rattle.law_all.proofs.Records as records
use Rattle.law_all.proofs.holds_see_nothing.Goals as goal

pub returns : goal.returns
returns c = records.holds_see_nothing
