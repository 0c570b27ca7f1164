-- How answers are read, word by word.
use Rattle.std.specs.Prelude.{List, [], ◌∷◌, ℕ, codes}
use Rattle.wfe_words.specs.declared.config.Config.{Config}
use Rattle.wfe_defs.specs.declared.call.ClockMove.{ClockMove}
use Rattle.wfe_defs.specs.declared.call.ClockMove.TheVariants as clocks
use Rattle.wfe_defs.specs.declared.call.Answer.{Answer}
use Rattle.wfe_defs.specs.declared.call.Answer.TheVariants as answers
use Rattle.wfe_record_words.specs.Reader.{Read, ◌>>=◌, done, one, two, three, first, long, short, slot, value, Named, by, unknown, since}

abbrev pub clock_table : List (Named ClockMove)
clock_table =
    (codes "still", done clocks.Still) ∷ (codes "moved", one short clocks.Moved) ∷ (codes "other", one short clocks.Other)
    ∷ (codes "era-spent", one short clocks.EraSpent) ∷ []

unfoldable pub clock_by : List ℕ → Read ClockMove
clock_by w = by clock_table unknown w

abbrev pub clock : Read ClockMove
clock = do
  w ← first
  clock_by w

-- the answers of calls on the map
abbrev pub answer_table : List (Named Answer)
answer_table =
    (codes "got", two long value answers.Got) ∷ (codes "done", two long clock answers.Done) ∷ (codes "absent", one long answers.Absent)
    ∷ (codes "full", done answers.Full) ∷ (codes "bucket-full", one long answers.BucketFull) ∷ (codes "spent", one long answers.Spent) ∷ []

-- the answers of calls on the queue and on a seat
abbrev pub seat_answer_table : Config → List (Named Answer)
seat_answer_table config =
    (codes "queued", one long answers.Queued) ∷ (codes "taken", three long long clock answers.Taken) ∷ (codes "empty", done answers.Empty)
    ∷ (codes "holding", one (slot config) answers.Holding) ∷ (codes "nothing", done answers.Nothing) ∷ (codes "released", done answers.Released)
    ∷ (codes "scanned", two short short answers.Scanned) ∷ []

-- the answers that came later
abbrev pub later_answer_table : ℕ → Config → List (Named Answer)
later_answer_table version config =
    (codes "copied", since 2 version (one (slot config) answers.Copied))
    ∷ (codes "dropped", since 2 version (done answers.Dropped))
    ∷ (codes "looked", since 2 version (three (slot config) long value answers.Looked))
    ∷ (codes "stale", since 3 version (one long answers.Stale)) ∷ []

abbrev pub leaving_answer_table : ℕ → List (Named Answer)
leaving_answer_table version =
    (codes "left", since 4 version (one short answers.Left))
    ∷ (codes "adopted", since 4 version (one short answers.Adopted))
    ∷ (codes "not-left", since 4 version (done answers.NotLeft))
    ∷ (codes "adopted-before", since 4 version (done answers.AdoptedBefore)) ∷ []

abbrev pub clock_answer_by : List ℕ → Read Answer
clock_answer_by w = one (clock_by w) answers.Clock

unfoldable pub leaving_answer_by : ℕ → List ℕ → Read Answer
leaving_answer_by version w = by (leaving_answer_table version) clock_answer_by w

unfoldable pub later_answer_by : ℕ → Config → List ℕ → Read Answer
later_answer_by version config w = by (later_answer_table version config) (leaving_answer_by version) w

unfoldable pub seat_answer_by : ℕ → Config → List ℕ → Read Answer
seat_answer_by version config w = by (seat_answer_table config) (later_answer_by version config) w

unfoldable pub answer_by : ℕ → Config → List ℕ → Read Answer
answer_by version config w = by answer_table (seat_answer_by version config) w

abbrev pub answer : ℕ → Config → Read Answer
answer version config = do
  w ← first
  answer_by version config w
