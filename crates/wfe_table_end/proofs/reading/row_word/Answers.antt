use Rattle.std.proofs.Common.{arith}
use Rattle.wfe_core.specs.words.Place.Place.{Row}
use Rattle.wfe_table_end.proofs.WordPlaces.{place_read, place_within, row_there}
use Rattle.wfe_table_end.proofs.reading.row_word.Goals as goal

pub row-requires-clause-there : goal.row-requires-clause-there
row-requires-clause-there c = row_there c.args.layout c.args.slot c.args.place c.requires.slot c.requires.place

pub bounds-words-row : goal.bounds-words-row
bounds-words-row c =
    let there = place_within c.args.layout c.args.words.now (Row c.args.slot c.args.place) c.requires.whole (row_there c.args.layout c.args.slot c.args.place c.requires.slot c.requires.place) in
    omega (arith, there, c.row.ensures)

pub returns : goal.returns
returns c = rw c.row.ensures (place_read c.args.layout c.args.words.now (Row c.args.slot c.args.place) (row_there c.args.layout c.args.slot c.args.place c.requires.slot c.requires.place))
