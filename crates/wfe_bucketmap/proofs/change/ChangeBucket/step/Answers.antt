use Rattle.std.proofs.Common.{arith, ap, ◌∙◌}
use Rattle.wfe_core.specs.DeskHeld.{desk_of}
use Rattle.wfe_call_rounds.proofs.Leaves.{keeps_more, keeps_on}
use Rattle.wfe_call_rounds.proofs.Ran.{goes_steps}
use Rattle.wfe_bucketmap.specs.Changes.{kept_of, led}
use Rattle.wfe_bucketmap.specs.declared.change_at.Changed.{Changed}
use Rattle.wfe_bucketmap.proofs.change.ChangeBucket.step.Goals as goal

pub returns-in-None-clause-steps : goal.returns-in-None-clause-steps
returns-in-None-clause-steps g c = goes_steps _ _ _ _ _ c.in-None.ensures.turn

pub returns-in-None-clause-kept : goal.returns-in-None-clause-kept
returns-in-None-clause-kept g c = keeps_more _ _ _ _ _ 3 4 c.run.ensures.kept (omega arith)

pub returns-in-Some-Goes-clause-steps : goal.returns-in-Some-Goes-clause-steps
returns-in-Some-Goes-clause-steps g c = rw (c.works.ensures.at, c.works.ensures.kept) (goes_steps _ _ _ _ _ (c.in-Some-Goes.ensures.turn ∙ ap (λ (s : Changed). led (kept_of c.run.new.self.kept) s c.run.new.post (desk_of c.run.new.desk) c.run.new.told) c.in-Some-Goes.field-0-is))

pub returns-in-Some-Goes-clause-kept : goal.returns-in-Some-Goes-clause-kept
returns-in-Some-Goes-clause-kept g c = keeps_more _ _ _ _ _ 3 4 c.run.ensures.kept (omega arith)

pub returns-in-Some-clause-steps : goal.returns-in-Some-clause-steps
returns-in-Some-clause-steps g c = rw c.in-Some.ensures.turn (c.lead_on.ensures.steps (desk_of c.run.new.desk))

pub returns-in-Some-clause-kept : goal.returns-in-Some-clause-kept
returns-in-Some-clause-kept g c = keeps_on _ c.run.new.post _ _ _ c.run.new.told _ 3 4 c.run.ensures.kept c.lead_on.ensures.seat
