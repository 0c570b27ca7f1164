use Rattle.wfe_drive_cells.proofs.Lying.{any_is}
use Rattle.wfe_drive_cells.proofs.located.Located.of.Goals as goal

pub returns : goal.returns
returns c = any_is c.args.layout.now c.args.op c.word_of.result c.spot_at-spot.result c.word_of.ensures c.spot_at-spot.ensures
