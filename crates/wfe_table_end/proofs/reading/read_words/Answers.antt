use Rattle.std.proofs.Common.{arith, refl}
use Rattle.wfe_core.specs.words.Place.Place.{Clock}
use Rattle.wfe_table_end.proofs.WordPlaces.{place_within}
use Rattle.wfe_table_end.proofs.reading.read_words.Goals as goal

pub bounds-words-clock : goal.bounds-words-clock
bounds-words-clock c = let there = place_within c.args.layout c.args.words.now Clock c.requires.whole refl in omega (arith, there, c.clock.ensures)
