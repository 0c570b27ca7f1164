use Rattle.inv_ends.proofs.Origins.Ends.{ends_with, end_comes, end_good, end_root, answer_tracked}
use Rattle.inv_ends.proofs.tracked.ends_are_tracked.Goals as goal

pub returns-clause-ends : goal.returns-clause-ends
returns-clause-ends c = ends_with

pub returns-clause-comes : goal.returns-clause-comes
returns-clause-comes c = end_comes

pub returns-clause-good : goal.returns-clause-good
returns-clause-good c = end_good

pub returns-clause-root : goal.returns-clause-root
returns-clause-root c = end_root

pub returns-clause-answers : goal.returns-clause-answers
returns-clause-answers c = answer_tracked
