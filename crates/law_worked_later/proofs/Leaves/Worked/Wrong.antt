-- The laws that refuse each wrong record compute.
use Rattle.std.proofs.Common.{refl}
use Rattle.law_worked_later.specs.Leaves.WrongAnswers.{WrongAnswersRefused}
use Rattle.law_worked_later.specs.Leaves.WrongLists.{WrongListsRefused}
use Rattle.law_worked_later.specs.Leaves.WrongRows.{WrongRowsRefused}

pub wrong_answers : WrongAnswersRefused
wrong_answers = refl

pub wrong_lists : WrongListsRefused
wrong_lists = refl

pub wrong_rows : WrongRowsRefused
wrong_rows = refl
