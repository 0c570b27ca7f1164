-- The laws that refuse each wrong record compute.
use Rattle.std.proofs.Common.{refl}
use Rattle.law_worked_later.specs.Hazards.RightEdits.{RightEditsTaken}
use Rattle.law_worked_later.specs.Hazards.WrongScans.{WrongScansRefused}
use Rattle.law_worked_later.specs.Hazards.WrongHazards.{WrongHazardsRefused}
use Rattle.law_worked_later.specs.Hazards.WrongHolds.{WrongHoldsRefused}
use Rattle.law_worked_later.specs.Hazards.WrongTurns.{WrongTurnsRefused}
use Rattle.law_worked_later.specs.Hazards.WrongSteps.{WrongStepsRefused}
use Rattle.law_worked_later.specs.Hazards.WrongAnswers.{WrongAnswersRefused}

pub right_edits : RightEditsTaken
right_edits = refl

pub wrong_scans : WrongScansRefused
wrong_scans = refl

pub wrong_hazards : WrongHazardsRefused
wrong_hazards = refl

pub wrong_holds : WrongHoldsRefused
wrong_holds = refl

pub wrong_steps : WrongStepsRefused
wrong_steps = refl

pub wrong_answers : WrongAnswersRefused
wrong_answers = refl

pub wrong_turns : WrongTurnsRefused
wrong_turns = refl
