-- Helping: each run computes.
use Rattle.std.proofs.Common.{refl}
use Rattle.wfe_core.specs.words.Packed.{halves, pending_word, answered_word, read_request, read_reservation, read_span, read_life}
use Rattle.wfe_core.specs.words.Place.{claim_mask, claim_others, claim_start, number, place_at}
use Rattle.model_history.specs.Helping.{HelperStopsBeforeHandOver, MoversAtTheirExchange, LateHelperMeetsSecondRequest}

pub helper_stops_before_hand_over : HelperStopsBeforeHandOver
unfolding halves pending_word answered_word read_request read_reservation read_span read_life claim_mask claim_others claim_start number place_at
helper_stops_before_hand_over = refl

pub movers_at_their_exchange : MoversAtTheirExchange
unfolding halves pending_word answered_word read_request read_reservation read_span read_life claim_mask claim_others claim_start number place_at
movers_at_their_exchange = refl

pub late_helper_meets_second_request : LateHelperMeetsSecondRequest
unfolding halves pending_word answered_word read_request read_reservation read_span read_life claim_mask claim_others claim_start number place_at
late_helper_meets_second_request = refl
