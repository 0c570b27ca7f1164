-- Queues: each run computes.
use Rattle.std.proofs.Common.{refl}
use Rattle.wfe_core.specs.words.Packed.{halves, pending_word, answered_word, read_request, read_reservation, read_span, read_life}
use Rattle.wfe_core.specs.words.Place.{claim_mask, claim_others, claim_start, number, place_at}
use Rattle.model_history.specs.Queues.{DequeueOfNothing, HeadMovesUnderADequeue}

pub dequeue_of_nothing : DequeueOfNothing
unfolding halves pending_word answered_word read_request read_reservation read_span read_life claim_mask claim_others claim_start number place_at
dequeue_of_nothing = refl

pub head_moves_under_a_dequeue : HeadMovesUnderADequeue
unfolding halves pending_word answered_word read_request read_reservation read_span read_life claim_mask claim_others claim_start number place_at
head_moves_under_a_dequeue = refl
