use Rattle.law_scans.proofs.Placing.Keeps as keeps
use Rattle.law_scans.proofs.records_place_rows.Goals as goal

pub returns : goal.returns
returns c = keeps.records_place_rows
