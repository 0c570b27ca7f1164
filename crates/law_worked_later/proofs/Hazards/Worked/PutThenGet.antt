-- The record and its table compute.
use Rattle.std.proofs.Common.{refl}
use Rattle.wfe_core.specs.words.Packed.{halves, pending_word, answered_word, read_request, read_reservation, read_span, read_life}
use Rattle.wfe_core.specs.words.Place.{claim_mask, claim_others, claim_start, number, place_at}
use Rattle.law_worked_later.specs.Hazards.PutThenGet.{PutThenGetWorked}

pub put_then_get_worked : PutThenGetWorked
unfolding halves pending_word answered_word read_request read_reservation read_span read_life claim_mask claim_others claim_start number place_at
put_then_get_worked = record { tells = refl; lawful = refl; refuses = refl }
