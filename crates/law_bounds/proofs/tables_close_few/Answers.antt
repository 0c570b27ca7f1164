use Rattle.law_bounds.proofs.Waits.Closes as bounds
use Rattle.law_bounds.proofs.tables_close_few.Goals as goal

pub returns : goal.returns
returns c = bounds.tables_close_few
