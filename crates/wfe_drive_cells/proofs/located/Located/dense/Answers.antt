use Rattle.wfe_drive_cells.proofs.Lying.{dense_is, some_root}
use Rattle.wfe_drive_cells.proofs.located.Located.dense.Goals as goal

pub bucket-requires-clause-there : goal.bucket-requires-clause-there
bucket-requires-clause-there c = some_root c.args.layout.now c.requires.valid

pub returns : goal.returns
returns c = dense_is c.args.layout.now c.args.op c.word_of.result c.bucket.result c.word_of.ensures c.bucket.ensures c.requires.from
