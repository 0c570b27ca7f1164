-- Tables: each run computes.
use Rattle.std.proofs.Common.{refl}
use Rattle.wfe_core.specs.words.Packed.{halves, pending_word, answered_word, read_request, read_reservation, read_span, read_life}
use Rattle.wfe_core.specs.words.Place.{claim_mask, claim_others, claim_start, number, place_at}
use Rattle.model_history.specs.Tables.{PutGivesBackInItsOwnScan, FullTableScansAndTriesAgain, EndsInAFullTable, FullBucket, LastEra, Removes, LastVersion, WalksReadWholeClaimWords}

pub put_gives_back_in_its_own_scan : PutGivesBackInItsOwnScan
unfolding halves pending_word answered_word read_request read_reservation read_span read_life claim_mask claim_others claim_start number place_at
put_gives_back_in_its_own_scan = refl

pub full_table_scans_and_tries_again : FullTableScansAndTriesAgain
unfolding halves pending_word answered_word read_request read_reservation read_span read_life claim_mask claim_others claim_start number place_at
full_table_scans_and_tries_again = refl

pub ends_in_a_full_table : EndsInAFullTable
unfolding halves pending_word answered_word read_request read_reservation read_span read_life claim_mask claim_others claim_start number place_at
ends_in_a_full_table = refl

pub full_bucket : FullBucket
unfolding halves pending_word answered_word read_request read_reservation read_span read_life claim_mask claim_others claim_start number place_at
full_bucket = refl

pub last_era : LastEra
unfolding halves pending_word answered_word read_request read_reservation read_span read_life claim_mask claim_others claim_start number place_at
last_era = refl

pub removes : Removes
unfolding halves pending_word answered_word read_request read_reservation read_span read_life claim_mask claim_others claim_start number place_at
removes = refl

pub last_version : LastVersion
unfolding halves pending_word answered_word read_request read_reservation read_span read_life claim_mask claim_others claim_start number place_at
last_version = refl

pub walks_read_whole_claim_words : WalksReadWholeClaimWords
unfolding halves pending_word answered_word read_request read_reservation read_span read_life claim_mask claim_others claim_start number place_at
walks_read_whole_claim_words = refl
