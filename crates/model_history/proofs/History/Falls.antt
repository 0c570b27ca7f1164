-- Falls: each run computes.
use Rattle.std.proofs.Common.{refl}
use Rattle.wfe_core.specs.words.Packed.{halves, pending_word, answered_word, read_request, read_reservation, read_span, read_life}
use Rattle.wfe_core.specs.words.Place.{claim_mask, claim_others, claim_start, number, place_at}
use Rattle.model_history.specs.Falls.{ReaderTriesAgain, IntervalRises, HelperIsStopped, ClockMovesUnderARequest, TableIsFull, HeadMoves}

pub reader_tries_again : ReaderTriesAgain
unfolding halves pending_word answered_word read_request read_reservation read_span read_life claim_mask claim_others claim_start number place_at
reader_tries_again = refl

pub interval_rises : IntervalRises
unfolding halves pending_word answered_word read_request read_reservation read_span read_life claim_mask claim_others claim_start number place_at
interval_rises = refl

pub helper_is_stopped : HelperIsStopped
unfolding halves pending_word answered_word read_request read_reservation read_span read_life claim_mask claim_others claim_start number place_at
helper_is_stopped = refl

pub clock_moves_under_a_request : ClockMovesUnderARequest
unfolding halves pending_word answered_word read_request read_reservation read_span read_life claim_mask claim_others claim_start number place_at
clock_moves_under_a_request = refl

pub table_is_full : TableIsFull
unfolding halves pending_word answered_word read_request read_reservation read_span read_life claim_mask claim_others claim_start number place_at
table_is_full = refl

pub head_moves : HeadMoves
unfolding halves pending_word answered_word read_request read_reservation read_span read_life claim_mask claim_others claim_start number place_at
head_moves = refl
