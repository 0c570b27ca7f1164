-- The laws that refuse each wrong record compute.
use Rattle.std.proofs.Common.{refl}
use Rattle.law_worked.specs.RightEdits.{RightEditsTaken}
use Rattle.law_worked.specs.WrongAnswers.{WrongAnswersRefused}
use Rattle.law_worked.specs.WrongEras.{WrongErasRefused}
use Rattle.law_worked.specs.WrongHolds.{WrongHoldsRefused}
use Rattle.law_worked.specs.WrongNames.{WrongNamesRefused}
use Rattle.law_worked.specs.WrongRows.{WrongRowsRefused}
use Rattle.law_worked.specs.WrongScans.{WrongScansRefused}
use Rattle.law_worked.specs.WrongSteps.{WrongStepsRefused}
use Rattle.law_worked.specs.WrongTurns.{WrongTurnsRefused}
use Rattle.law_worked.specs.WrongValues.{WrongValuesRefused}

pub right_edits : RightEditsTaken
right_edits = refl

pub wrong_answers : WrongAnswersRefused
wrong_answers = refl

pub wrong_eras : WrongErasRefused
wrong_eras = refl

pub wrong_holds : WrongHoldsRefused
wrong_holds = refl

pub wrong_names : WrongNamesRefused
wrong_names = refl

pub wrong_rows : WrongRowsRefused
wrong_rows = refl

pub wrong_scans : WrongScansRefused
wrong_scans = refl

pub wrong_steps : WrongStepsRefused
wrong_steps = refl

pub wrong_turns : WrongTurnsRefused
wrong_turns = refl

pub wrong_values : WrongValuesRefused
wrong_values = refl
