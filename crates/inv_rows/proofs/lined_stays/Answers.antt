use Rattle.inv_rows.proofs.Facts as facts
use Rattle.inv_rows.proofs.lined_stays.Goals as goal

pub returns : goal.returns
returns c = facts.lined_stays
