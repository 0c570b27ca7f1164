-- The word of the place is a place word of the table.
use Rattle.std.proofs.Common.{refl}
use Rattle.wfe_leave.proofs.Words.{place_from, word_from}
use Rattle.wfe_leave.proofs.units.take_unit.Goals as goal

pub place_unit-found-requires-clause-there : goal.place_unit-found-requires-clause-there
place_unit-found-requires-clause-there g c = word_from c.args.layout c.args.rig.now.layout c.args.rig.now.words c.args.place c.place-word.result c.requires.layout c.place-word.ensures c.requires.take.below c.requires.words

pub place_unit-found-requires-clause-place : goal.place_unit-found-requires-clause-place
place_unit-found-requires-clause-place g c = place_from c.args.layout c.args.rig.now.layout c.args.rig.now.layout c.args.place c.place-word.result c.requires.layout refl c.place-word.ensures c.requires.take.below
