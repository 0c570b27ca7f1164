use Rattle.inv_rows.proofs.Whole as whole
use Rattle.inv_rows.proofs.whole_start.Goals as goal

pub returns : goal.returns
returns c = whole.whole_start
