use Rattle.inv_rows.proofs.Shapes.Ready.{code_ready}
use Rattle.inv_rows.proofs.seats.steps_are_ready.Goals as goal

pub returns : goal.returns
returns c = record { ready = code_ready }
