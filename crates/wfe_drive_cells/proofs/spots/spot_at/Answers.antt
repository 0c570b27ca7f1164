use Rattle.wfe_drive_cells.proofs.Lying.{in_order, spot_of}
use Rattle.wfe_drive_cells.proofs.spots.spot_at.Goals as goal

pub at-requires : goal.at-requires
at-requires c = in_order c.args.layout.now c.new.result c.new.ensures

pub returns : goal.returns
returns c = spot_of c.args.layout.now c.new.result c.args.word c.at.result c.new.ensures c.at.ensures
