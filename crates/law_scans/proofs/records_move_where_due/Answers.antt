use Rattle.law_scans.proofs.DueScans.Keeps as keeps
use Rattle.law_scans.proofs.records_move_where_due.Goals as goal

pub returns : goal.returns
returns c = keeps.records_move_where_due
