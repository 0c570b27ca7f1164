-- The first root is the one of bucket 0.
use Rattle.wfe_drive_cells.proofs.Lying.{is_for, some_root}
use Rattle.wfe_drive_cells.proofs.spots.Spots.new.Goals as goal

pub bucket-requires-clause-there : goal.bucket-requires-clause-there
bucket-requires-clause-there c = some_root c.args.layout.now c.requires

pub returns : goal.returns
returns c = is_for c.args.layout.now c.bucket.result c.head.result c.bucket.ensures c.head.ensures
