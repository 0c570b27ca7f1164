use Rattle.wfe_draw.proofs.record.read_picture.Goals as goal

pub read_all-ending-requires-clause-fresh : goal.read_all-ending-requires-clause-fresh
read_all-ending-requires-clause-fresh g c = (c.args.part.last, c.new-reader.ensures c.in-Ok-new.scene c.in-Ok-new.ensures)

pub returns-clause-pictures : goal.returns-clause-pictures
returns-clause-pictures g c = c.conclude.ensures.pictures c.args.part.last _ _ (c.read_all-ending.ensures.reads c.args.part.last (c.new-reader.ensures c.in-Ok-new.scene c.in-Ok-new.ensures))
