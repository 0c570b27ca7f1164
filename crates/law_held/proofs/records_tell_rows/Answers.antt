use Rattle.law_held.proofs.GotRows.Gots as gots
use Rattle.law_held.proofs.records_tell_rows.Goals as goal

pub returns : goal.returns
returns c = gots.records_tell_rows
