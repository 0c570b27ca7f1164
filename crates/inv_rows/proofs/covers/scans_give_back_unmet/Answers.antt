use Rattle.inv_rows.proofs.Covering.Kept.{scans_start, scans_begin, scans_kept}
use Rattle.inv_rows.proofs.covers.scans_give_back_unmet.Goals as goal

pub returns-clause-start : goal.returns-clause-start
returns-clause-start c = scans_start

pub returns-clause-begin : goal.returns-clause-begin
returns-clause-begin c = scans_begin

pub returns-clause-step : goal.returns-clause-step
returns-clause-step c = scans_kept
