use Rattle.law_held.proofs.Indexes.Clears as clears
use Rattle.law_held.proofs.records_clear_rows.Goals as goal

pub returns : goal.returns
returns c = clears.records_clear_rows
