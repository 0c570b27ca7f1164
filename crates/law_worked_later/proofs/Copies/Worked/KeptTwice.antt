-- The record and its table compute.
use Rattle.std.proofs.Common.{refl}
use Rattle.wfe_core.specs.words.Packed.{halves, pending_word, answered_word, read_request, read_reservation, read_span, read_life}
use Rattle.wfe_core.specs.words.Place.{claim_mask, claim_others, claim_start, number, place_at}
use Rattle.law_worked_later.specs.Copies.KeptTwice.{KeptTwiceWorked}

pub kept_twice_worked : KeptTwiceWorked
unfolding halves pending_word answered_word read_request read_reservation read_span read_life claim_mask claim_others claim_start number place_at
kept_twice_worked = record { tells = refl; lawful = refl; refuses = refl }
