use Rattle.std.proofs.Common.{refl, ap, sym}
use Rattle.wfe_core.specs.Calls.{Changes, Phase, goes_on}
use Rattle.wfe_call_rounds.proofs.Ran.{goes_steps}
use Rattle.wfe_bucketmap.specs.Changes.{kept_of}
use Rattle.wfe_bucketmap.proofs.change.ChangeBucket.lead_on.Goals as goal

pub returns-in-Goes-clause-steps : goal.returns-in-Goes-clause-steps
returns-in-Goes-clause-steps g c = λ desk. rw (c.in-Goes.is, c.works.ensures.at, c.works.ensures.kept) (goes_steps _ _ _ _ _ refl)

pub returns-in-Fills-clause-steps : goal.returns-in-Fills-clause-steps
returns-in-Fills-clause-steps g c = λ desk. rw (c.in-Fills.is, c.fills.ensures.kept) (goes_steps _ _ _ _ _ (ap (λ (phase : Phase). goes_on c.args.post.now desk c.args.told.now phase) (sym c.fills.ensures.at)))

pub returns-in-Ends-clause-steps : goal.returns-in-Ends-clause-steps
returns-in-Ends-clause-steps g c = λ desk.
    rw (c.in-Ends.is, c.leads.ensures.kept, c.clear-then.ensures.turn (Changes (kept_of c.args.self.now.kept)) desk refl refl) (c.leads.ensures.steps c.clear-then.new.post desk c.clear-then.new.told)

pub returns-in-Passes-clause-steps : goal.returns-in-Passes-clause-steps
returns-in-Passes-clause-steps g c = λ desk.
    rw (c.in-Passes.is, c.leads-in-Passes.ensures.kept, c.pass.ensures (Changes (kept_of c.args.self.now.kept)) c.args.post.now desk c.args.told.now refl c.requires.scheme) (c.leads-in-Passes.ensures.steps c.args.post.now desk c.args.told.now)
