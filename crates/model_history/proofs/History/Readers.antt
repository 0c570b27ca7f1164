-- Readers: each run computes.
use Rattle.std.proofs.Common.{refl}
use Rattle.wfe_core.specs.words.Packed.{halves, pending_word, answered_word, read_request, read_reservation, read_span, read_life}
use Rattle.wfe_core.specs.words.Place.{claim_mask, claim_others, claim_start, number, place_at}
use Rattle.model_history.specs.Readers.{PutThenGetUnderHazardEras, GetUnderIntervals, EndsUnderIntervals, ReaderOvertakenTriesAgain, IntervalIsRaised}

pub put_then_get_under_hazard_eras : PutThenGetUnderHazardEras
unfolding halves pending_word answered_word read_request read_reservation read_span read_life claim_mask claim_others claim_start number place_at
put_then_get_under_hazard_eras = refl

pub get_under_intervals : GetUnderIntervals
unfolding halves pending_word answered_word read_request read_reservation read_span read_life claim_mask claim_others claim_start number place_at
get_under_intervals = refl

pub ends_under_intervals : EndsUnderIntervals
unfolding halves pending_word answered_word read_request read_reservation read_span read_life claim_mask claim_others claim_start number place_at
ends_under_intervals = refl

pub reader_overtaken_tries_again : ReaderOvertakenTriesAgain
unfolding halves pending_word answered_word read_request read_reservation read_span read_life claim_mask claim_others claim_start number place_at
reader_overtaken_tries_again = refl

pub interval_is_raised : IntervalIsRaised
unfolding halves pending_word answered_word read_request read_reservation read_span read_life claim_mask claim_others claim_start number place_at
interval_is_raised = refl
