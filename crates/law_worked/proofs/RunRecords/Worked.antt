-- The worked runs compute: the reader takes each of them, so the law of runs does.
use Rattle.std.proofs.Common.{Bool, List, [], arith, refl, true, ◌∷◌, ◌≡◌, ◌≤◌}
use Rattle.std.specs.List.{AllByRecursion, list_all}
use Rattle.std.specs.Prelude.{nat_le, ◌&&◌}
use Rattle.law_all.proofs.inv.model.Facts.{first_of, rest_of}
use Rattle.law_worked.specs.RunRecords.Crowded.{CrowdedWorked, crowded}
use Rattle.law_worked.specs.RunRecords.Handed.{HandedWorked, handed}
use Rattle.law_worked.specs.RunRecords.Hazards.{HazardsWorked, hazards}
use Rattle.law_worked.specs.RunRecords.Kept.{KeptWorked, kept}
use Rattle.law_worked.specs.RunRecords.Loose.{LooseTaken, loose}
use Rattle.law_worked.specs.RunRecords.Readers.{bullets, takes}
use Rattle.law_worked.specs.RunRecords.Runs.{Run}
use Rattle.law_worked.specs.RunRecords.Shared.{SharedWorked, shared}
use Rattle.law_worked.specs.RunRecords.Spent.{SpentWorked, spent}
use Rattle.law_all.specs.inv.model.words.Packed.{halves, pending_word, answered_word, read_request, read_reservation, read_span, read_life}
use Rattle.law_all.specs.inv.model.words.Place.{claim_mask, claim_others, claim_start, number, place_at}
use Rattle.law_all.specs.RunLaw.{RunLaw}
use Rattle.law_worked.proofs.RunRecords.Judges.{readers_judge}
use Rattle.law_worked.proofs.RunRecords.Tests.{decides_most}

pub shared_worked : SharedWorked
unfolding halves pending_word answered_word read_request read_reservation read_span read_life claim_mask claim_others claim_start number place_at
shared_worked =
    let law = (readers_judge.whole shared (omega arith)).0 refl in
    record { logs = refl; closed = refl; idle = refl; lawful = law; is_run = record { logs = shared.logs; texts = refl; scripts_are = refl; law = law } }

pub spent_worked : SpentWorked
unfolding halves pending_word answered_word read_request read_reservation read_span read_life claim_mask claim_others claim_start number place_at
spent_worked =
    let law = (readers_judge.whole spent (omega arith)).0 refl in
    record { logs = refl; closed = refl; idle = refl; lawful = law; is_run = record { logs = spent.logs; texts = refl; scripts_are = refl; law = law } }

pub crowded_worked : CrowdedWorked
unfolding halves pending_word answered_word read_request read_reservation read_span read_life claim_mask claim_others claim_start number place_at
crowded_worked =
    let law = (readers_judge.whole crowded (omega arith)).0 refl in
    record { logs = refl; closed = refl; idle = refl; lawful = law; is_run = record { logs = crowded.logs; texts = refl; scripts_are = refl; law = law } }

pub kept_worked : KeptWorked
unfolding halves pending_word answered_word read_request read_reservation read_span read_life claim_mask claim_others claim_start number place_at
kept_worked =
    let law = (readers_judge.whole kept (omega arith)).0 refl in
    record { logs = refl; closed = refl; idle = refl; lawful = law; is_run = record { logs = kept.logs; texts = refl; scripts_are = refl; law = law } }

pub handed_worked : HandedWorked
unfolding halves pending_word answered_word read_request read_reservation read_span read_life claim_mask claim_others claim_start number place_at
handed_worked =
    let law = (readers_judge.whole handed (omega arith)).0 refl in
    record { logs = refl; closed = refl; idle = refl; lawful = law; is_run = record { logs = handed.logs; texts = refl; scripts_are = refl; law = law } }

pub hazards_worked : HazardsWorked
unfolding halves pending_word answered_word read_request read_reservation read_span read_life claim_mask claim_others claim_start number place_at
hazards_worked =
    let law = (readers_judge.whole hazards (omega arith)).0 refl in
    record { logs = refl; closed = refl; idle = refl; lawful = law; is_run = record { logs = hazards.logs; texts = refl; scripts_are = refl; law = law } }

-- each of these runs

abbrev is_taken : Run → Bool
is_taken run = nat_le 1 run.config.buckets && list_all (takes run) bullets

taken : (run : Run) → is_taken run ≡ true → RunLaw run.config run.logs run.closed
taken run e =
    let some : 1 ≤ run.config.buckets = (decides_most 1 run.config.buckets).0 (first_of (nat_le 1 run.config.buckets) (list_all (takes run) bullets) e) in
    (readers_judge.whole run some).0 (rest_of (nat_le 1 run.config.buckets) (list_all (takes run) bullets) e)

all_taken : (runs : List Run) → list_all is_taken runs ≡ true → AllByRecursion (λ run. RunLaw run.config run.logs run.closed) runs
all_taken [] e = tt
all_taken (run ∷ runs) e = (taken run (first_of (is_taken run) (list_all is_taken runs) e), all_taken runs (rest_of (is_taken run) (list_all is_taken runs) e))

pub loose_taken : LooseTaken
loose_taken = all_taken loose refl
