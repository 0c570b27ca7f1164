use Rattle.wfe_drive_cells.proofs.Lying.{root_is, some_root}
use Rattle.wfe_drive_cells.proofs.located.Located.root.Goals as goal

pub bucket-requires-clause-there : goal.bucket-requires-clause-there
bucket-requires-clause-there c = some_root c.args.layout.now c.requires.valid

pub returns : goal.returns
returns c = root_is c.args.layout.now c.args.op c.word_of.result c.bucket.result c.word_of.ensures c.bucket.ensures c.requires.from c.requires.below
