-- What the code of a seat's next step rests on.
use Rattle.std.specs.Prelude.{false, true, ℕ, ◌+◌, ◌≡◌}
use Rattle.wfe_core.specs.defs.declared.call.Answer.{Answer}
use Rattle.wfe_core.specs.CallReady.{IsCallPlausible, IsCallReady, NotesFit}
use Rattle.wfe_core.specs.Calls.{Answers, GoesOn, Phase}
use Rattle.wfe_core.specs.Locals.{Local, after, busy_in, turn}
use Rattle.wfe_core.specs.Valid.{IsValid}
use Rattle.wfe_drive_cells.specs.Unit.{SeatView, may_adopt, turned}
use Rattle.laws.specs.AnswerLaw.{suits}
use Rattle.wfe_drive_words.specs.Comes.{Given, lent}

-- it may ask for its operation: its numbers are in range, and its notes have room
pub record MayAsk (seat : SeatView) : Type 0 where
  pub valid : IsValid seat.post
  pub ready : IsCallReady seat.phase seat.post seat.desk
  pub noted : NotesFit seat.post seat.desk

-- it may take what was found: that is in range too, no list is taken over, and a step that does not answer leaves the call under way
pub record MayTake (seat : SeatView) (found : ℕ) : Type 0 where
  pub plausible : IsCallPlausible seat.phase seat.post found
  pub alone : may_adopt seat.phase ≡ false
  pub goes : (phase : Phase) → (turned seat found).outcome ≡ GoesOn phase → busy_in phase ≡ true

-- a step that found this counts one more, and what it answers suits its call
pub record Settles (l : Local) (found : ℕ) (given : Given l found) : Type 0 where
  pub counts : (after (lent given) found).post.steps ≡ l.post.steps + 1
  pub answers : (answer : Answer) → (turn (lent given) found).outcome ≡ Answers answer → suits l.call answer ≡ true
