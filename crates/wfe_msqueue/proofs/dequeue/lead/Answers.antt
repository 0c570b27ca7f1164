use Rattle.std.proofs.Common.{refl, ◌∙◌}
use Rattle.wfe_core.specs.Calls.{Dequeues}
use Rattle.wfe_msqueue.proofs.dequeue.lead.Goals as goal

pub returns-in-Ends-clause-turn : goal.returns-in-Ends-clause-turn
returns-in-Ends-clause-turn g c = λ desk. rw c.in-Ends.is (c.clear_next.ensures.turn c.args.kept.now desk)

pub returns-in-Clears-clause-turn : goal.returns-in-Clears-clause-turn
returns-in-Clears-clause-turn g c = λ desk.
    rw c.in-Clears.is (c.clear.ensures.turn Dequeues desk refl refl ∙ c.leaves.ensures c.args.kept.now c.clear.new.post desk c.clear.new.told)

pub returns-in-Passes-clause-turn : goal.returns-in-Passes-clause-turn
returns-in-Passes-clause-turn g c = λ desk.
    rw c.in-Passes.is (c.pass.ensures Dequeues c.args.post.now desk c.args.told.now refl c.requires.scheme ∙ c.leaves-in-Passes.ensures c.args.kept.now c.args.post.now desk c.args.told.now)
