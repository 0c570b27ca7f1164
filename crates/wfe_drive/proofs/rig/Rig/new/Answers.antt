-- No call has begun.
use Rattle.wfe_drive.proofs.Reached.{table_first, table_reached}
use Rattle.wfe_drive.proofs.rig.Rig.new.Goals as goal

pub invariant_of-result : goal.invariant_of-result
invariant_of-result g c = table_reached c.args.layout (g.C.Cells.words c.args.cells) c.in_ok-seats.seats.items c.requires.layout c.requires.cells c.in_ok-seats.ensures

pub returns : goal.returns
returns g c = table_first c.args.layout (g.C.Cells.words c.args.cells) c.in_ok-seats.seats.items c.requires.cells c.in_ok-seats.ensures
