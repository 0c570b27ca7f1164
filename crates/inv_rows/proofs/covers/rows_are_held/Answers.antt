use Rattle.inv_rows.proofs.Covering.Begun.{held_start, held_begin}
use Rattle.inv_rows.proofs.Covering.Held.{held_kept}
use Rattle.inv_rows.proofs.covers.rows_are_held.Goals as goal

pub returns-clause-start : goal.returns-clause-start
returns-clause-start c = held_start

pub returns-clause-begin : goal.returns-clause-begin
returns-clause-begin c = held_begin

pub returns-clause-step : goal.returns-clause-step
returns-clause-step c = held_kept
