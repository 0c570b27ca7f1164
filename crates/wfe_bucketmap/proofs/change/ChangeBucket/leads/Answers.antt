use Rattle.std.proofs.Common.{refl}
use Rattle.wfe_call_rounds.proofs.Ran.{answers_steps, goes_steps}
use Rattle.wfe_bucketmap.proofs.change.ChangeBucket.leads.Goals as goal

pub returns-in-Stands-clause-steps : goal.returns-in-Stands-clause-steps
returns-in-Stands-clause-steps g c = λ post desk told. rw (c.in-Stands.is, c.stand.ensures.at) (goes_steps _ _ _ _ _ refl)

pub returns-in-Begins-clause-steps : goal.returns-in-Begins-clause-steps
returns-in-Begins-clause-steps g c = λ post desk told. rw (c.in-Begins.is, c.stand-in-Begins.ensures.at) (goes_steps _ _ _ _ _ refl)

pub returns-in-Answers-clause-steps : goal.returns-in-Answers-clause-steps
returns-in-Answers-clause-steps g c = λ post desk told. rw c.in-Answers.is (answers_steps _ _ _ _ _ _ refl)
