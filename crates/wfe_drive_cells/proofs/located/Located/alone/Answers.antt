use Rattle.wfe_drive_cells.proofs.Lying.{alone_is}
use Rattle.wfe_drive_cells.proofs.located.Located.alone.Goals as goal

pub returns : goal.returns
returns c = alone_is c.args._layout.now c.args.op c.word_of.result c.word_of.ensures c.requires
