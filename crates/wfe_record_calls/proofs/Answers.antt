-- The words of answers, and of moves of the clock, say what was answered.
use Rattle.std.proofs.Common.{◌≡◌, ◌++◌, ℕ, List, ◌∷◌, Option, Some, codes, refl, ap}
use Rattle.wfe_words.specs.declared.config.Config.{Config}
use Rattle.wfe_defs.specs.declared.call.ClockMove.{ClockMove}
use Rattle.wfe_defs.specs.declared.call.ClockMove.TheVariants as clocks
use Rattle.wfe_defs.specs.declared.call.Answer.{Answer}
use Rattle.wfe_defs.specs.declared.call.Answer.TheVariants as answers
use Rattle.wfe_trace.specs.Record.{clock_words, answer_words}
use Rattle.wfe_record_words.specs.Reader.{given, unknown}
use Rattle.wfe_record_words.specs.Within.{Small}
use Rattle.wfe_record_words.proofs.Found.{one_found, two_found, three_found, none_since, one_since, three_since}
use Rattle.wfe_record_words.proofs.Joined.{Reads, Rows, SoundBy, row_none, row_one, row_two, row_three, row_since, by_sound, unknown_sound, named_sound, given-some}
use Rattle.wfe_record_words.proofs.Parts.{long_reads, short_reads, slot_reads, value_reads, same_some}
use Rattle.wfe_record_calls.specs.Answers.{IsClock, IsAnswer}
use Rattle.wfe_record_calls.specs.AnswerReader.{clock_table, clock_by, clock, answer_table, seat_answer_table, later_answer_table, leaving_answer_table, clock_answer_by, leaving_answer_by, later_answer_by, seat_answer_by, answer_by, answer}

pub clock_rows : Rows clock_table clock_words IsClock
clock_rows = (
  row_none (codes "still") clocks.Still clock_words IsClock (λ v. (refl, tt)),
  (
    row_one short_reads clocks.Moved (codes "moved") clock_words IsClock (λ x v i. (refl, i)),
    (
      row_one short_reads clocks.Other (codes "other") clock_words IsClock (λ x v i. (refl, i)),
      (row_one short_reads clocks.EraSpent (codes "era-spent") clock_words IsClock (λ x v i. (refl, i)), tt),
    ),
  ),
)

pub clock_by-sound : SoundBy clock_by clock_words IsClock
unfolding clock_by
clock_by-sound = by_sound clock_table unknown clock_words IsClock clock_rows (unknown_sound clock_words IsClock)

pub clock-complete : (x : ClockMove) (rest : List (List ℕ)) → IsClock x → clock (clock_words x ++ rest) ≡ Some (x, rest)
unfolding clock_by
clock-complete clocks.Still rest is = refl
clock-complete (clocks.Moved era) rest is = one_found short_reads clocks.Moved era rest is
clock-complete (clocks.Other seen) rest is = one_found short_reads clocks.Other seen rest is
clock-complete (clocks.EraSpent era) rest is = one_found short_reads clocks.EraSpent era rest is

pub clock_reads : Reads clock clock_words IsClock
clock_reads = record { sound = named_sound clock_by clock_words IsClock clock_by-sound; complete = clock-complete }

answer_rows : (version : ℕ) (config : Config) → Rows answer_table answer_words (IsAnswer version config)
answer_rows version config =
    let words = answer_words in
    let is = IsAnswer version config in (
      row_two long_reads value_reads answers.Got (codes "got") words is (λ x y v i j. (refl, (i, j))),
      (
        row_two long_reads clock_reads answers.Done (codes "done") words is (λ x y v i j. (refl, (i, j))),
        (
          row_one long_reads answers.Absent (codes "absent") words is (λ x v i. (refl, i)),
          (
            row_none (codes "full") answers.Full words is (λ v. (refl, tt)),
            (
              row_one long_reads answers.BucketFull (codes "bucket-full") words is (λ x v i. (refl, i)),
              (row_one long_reads answers.Spent (codes "spent") words is (λ x v i. (refl, i)), tt),
            ),
          ),
        ),
      ),
    )

seat_answer_rows : (version : ℕ) (config : Config) → Small config → Rows (seat_answer_table config) answer_words (IsAnswer version config)
seat_answer_rows version config small =
    let words = answer_words in
    let is = IsAnswer version config in (
      row_one long_reads answers.Queued (codes "queued") words is (λ x v i. (refl, i)),
      (
        row_three long_reads long_reads clock_reads answers.Taken (codes "taken") words is (λ x y z v i j k. (refl, (i, j, k))),
        (
          row_none (codes "empty") answers.Empty words is (λ v. (refl, tt)),
          (
            row_one (slot_reads config small) answers.Holding (codes "holding") words is (λ x v i. (refl, i)),
            (
              row_none (codes "nothing") answers.Nothing words is (λ v. (refl, tt)),
              (
                row_none (codes "released") answers.Released words is (λ v. (refl, tt)),
                (row_two short_reads short_reads answers.Scanned (codes "scanned") words is (λ x y v i j. (refl, (i, j))), tt),
              ),
            ),
          ),
        ),
      ),
    )

later_answer_rows : (version : ℕ) (config : Config) → Small config → Rows (later_answer_table version config) answer_words (IsAnswer version config)
later_answer_rows version config small =
    let words = answer_words in
    let is = IsAnswer version config in
    let slot = slot_reads config small in (
      row_since 2 version (codes "copied") _ words is (λ l. row_one slot answers.Copied (codes "copied") words is (λ x v i. (refl, (l, i)))),
      (
        row_since 2 version (codes "dropped") _ words is (λ l. row_none (codes "dropped") answers.Dropped words is (λ v. (refl, l))),
        (
          row_since 2 version (codes "looked") _ words is (λ l. row_three slot long_reads value_reads answers.Looked (codes "looked") words is (λ x y z v i j k. (refl, (l, i, j, k)))),
          (row_since 3 version (codes "stale") _ words is (λ l. row_one long_reads answers.Stale (codes "stale") words is (λ x v i. (refl, (l, i)))), tt),
        ),
      ),
    )

leaving_answer_rows : (version : ℕ) (config : Config) → Rows (leaving_answer_table version) answer_words (IsAnswer version config)
leaving_answer_rows version config =
    let words = answer_words in
    let is = IsAnswer version config in (
      row_since 4 version (codes "left") _ words is (λ l. row_one short_reads answers.Left (codes "left") words is (λ x v i. (refl, (l, i)))),
      (
        row_since 4 version (codes "adopted") _ words is (λ l. row_one short_reads answers.Adopted (codes "adopted") words is (λ x v i. (refl, (l, i)))),
        (
          row_since 4 version (codes "not-left") _ words is (λ l. row_none (codes "not-left") answers.NotLeft words is (λ v. (refl, l))),
          (row_since 4 version (codes "adopted-before") _ words is (λ l. row_none (codes "adopted-before") answers.AdoptedBefore words is (λ v. (refl, l))), tt),
        ),
      ),
    )

clock_answer : (version : ℕ) (config : Config) → SoundBy clock_answer_by answer_words (IsAnswer version config)
clock_answer version config w ws y rest h =
    let (p, e, h1) = given-some (clock_by w ws) (λ p. Some (answers.Clock p.0, p.1)) (y, rest) h in
    same_some (λ q. (w ∷ ws ≡ answer_words q.0 ++ q.1) × IsAnswer version config q.0) (answers.Clock p.0, p.1) (y, rest) h1 (clock_by-sound w ws p.0 p.1 e)

answer_sound : (version : ℕ) (config : Config) → Small config → SoundBy (answer_by version config) answer_words (IsAnswer version config)
unfolding answer_by seat_answer_by later_answer_by leaving_answer_by clock_by
answer_sound version config small =
    let words = answer_words in
    let is = IsAnswer version config in
    by_sound answer_table (seat_answer_by version config) words is (answer_rows version config)
    (by_sound (seat_answer_table config) (later_answer_by version config) words is (seat_answer_rows version config small)
    (by_sound (later_answer_table version config) (leaving_answer_by version) words is (later_answer_rows version config small)
    (by_sound (leaving_answer_table version) clock_answer_by words is (leaving_answer_rows version config) (clock_answer version config))))

clocked : {o : Option (ClockMove × List (List ℕ))} {x : ClockMove} {rest : List (List ℕ)} → o ≡ Some (x, rest) → given {B = Answer × List (List ℕ)} o (λ p. Some (answers.Clock p.0, p.1)) ≡ Some (answers.Clock x, rest)
clocked h = ap (λ o. given {B = Answer × List (List ℕ)} o (λ p. Some (answers.Clock p.0, p.1))) h

clock-answered : (version : ℕ) (config : Config) (x : ClockMove) (rest : List (List ℕ)) → IsClock x → answer version config (clock_words x ++ rest) ≡ Some (answers.Clock x, rest)
unfolding answer_by seat_answer_by later_answer_by leaving_answer_by clock_by
clock-answered version config clocks.Still rest is = refl
clock-answered version config (clocks.Moved era) rest is = clocked (clock-complete (clocks.Moved era) rest is)
clock-answered version config (clocks.Other seen) rest is = clocked (clock-complete (clocks.Other seen) rest is)
clock-answered version config (clocks.EraSpent era) rest is = clocked (clock-complete (clocks.EraSpent era) rest is)

answer-complete : (version : ℕ) (config : Config) → Small config → (x : Answer) (rest : List (List ℕ)) → IsAnswer version config x → answer version config (answer_words x ++ rest) ≡ Some (x, rest)
unfolding answer_by seat_answer_by later_answer_by leaving_answer_by clock_by
answer-complete version config small (answers.Got number value) rest is = two_found long_reads value_reads answers.Got number value rest is.0 is.1
answer-complete version config small (answers.Done number clock) rest is = two_found long_reads clock_reads answers.Done number clock rest is.0 is.1
answer-complete version config small (answers.Absent number) rest is = one_found long_reads answers.Absent number rest is
answer-complete version config small answers.Full rest is = refl
answer-complete version config small (answers.BucketFull number) rest is = one_found long_reads answers.BucketFull number rest is
answer-complete version config small (answers.Spent number) rest is = one_found long_reads answers.Spent number rest is
answer-complete version config small (answers.Queued number) rest is = one_found long_reads answers.Queued number rest is
answer-complete version config small (answers.Taken number value clock) rest is = three_found long_reads long_reads clock_reads answers.Taken number value clock rest is.0 is.1 is.2
answer-complete version config small answers.Empty rest is = refl
answer-complete version config small (answers.Holding slot) rest is = one_found (slot_reads config small) answers.Holding slot rest is
answer-complete version config small answers.Nothing rest is = refl
answer-complete version config small answers.Released rest is = refl
answer-complete version config small (answers.Clock outcome) rest is = clock-answered version config outcome rest is
answer-complete version config small (answers.Scanned kept back) rest is = two_found short_reads short_reads answers.Scanned kept back rest is.0 is.1
answer-complete version config small (answers.Copied slot) rest is = one_since 2 version is.0 (slot_reads config small) answers.Copied slot rest is.1
answer-complete version config small answers.Dropped rest is = none_since 2 version is answers.Dropped rest
answer-complete version config small (answers.Looked slot number value) rest is = three_since 2 version is.0 (slot_reads config small) long_reads value_reads answers.Looked slot number value rest is.1 is.2 is.3
answer-complete version config small (answers.Stale number) rest is = one_since 3 version is.0 long_reads answers.Stale number rest is.1
answer-complete version config small (answers.Left count) rest is = one_since 4 version is.0 short_reads answers.Left count rest is.1
answer-complete version config small (answers.Adopted count) rest is = one_since 4 version is.0 short_reads answers.Adopted count rest is.1
answer-complete version config small answers.NotLeft rest is = none_since 4 version is answers.NotLeft rest
answer-complete version config small answers.AdoptedBefore rest is = none_since 4 version is answers.AdoptedBefore rest

pub answer_reads : (version : ℕ) (config : Config) → Small config → Reads (answer version config) answer_words (IsAnswer version config)
answer_reads version config small = record {
  sound = named_sound (answer_by version config) answer_words (IsAnswer version config) (answer_sound version config small);
  complete = answer-complete version config small;
}
