use Rattle.std.proofs.Common.{arith}
use Rattle.wfe_drive_cells.proofs.Lying.{end_is, first_end, some_root}
use Rattle.wfe_drive_cells.proofs.located.Located.end.Goals as goal

pub bucket-requires-clause-there : goal.bucket-requires-clause-there
bucket-requires-clause-there c = some_root c.args.layout.now c.requires.valid

pub overflow_sub-spot : goal.overflow_sub-spot
overflow_sub-spot c = omega (arith, first_end c.args.layout.now c.head.result c.head.ensures, c.word_of-word.ensures, c.requires.from)

pub returns : goal.returns
returns c = end_is c.args.layout.now c.args.op c.word_of-word.result c.bucket.result c.head.result c.word_of-word.ensures c.bucket.ensures c.head.ensures c.requires.from c.requires.below
