use Rattle.wfe_core.specs.words.Place.Place.{Claim}
use Rattle.wfe_core.specs.words.Place.{claim_word}
use Rattle.std.proofs.Common.{arith}
use Rattle.wfe_table_end.proofs.WordPlaces.{claim_there, place_within}
use Rattle.wfe_table_end.proofs.reading.is_taken.Goals as goal

pub bounds-words-claim : goal.bounds-words-claim
bounds-words-claim c =
    let there = place_within c.args.layout c.args.words.now (Claim (claim_word c.args.slot)) c.requires.whole (claim_there c.args.layout c.args.slot c.requires.slot) in
    omega (arith, there, c.claim.ensures)
