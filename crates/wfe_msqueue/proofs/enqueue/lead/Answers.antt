use Rattle.std.proofs.Common.{refl, ◌∙◌}
use Rattle.wfe_core.specs.Calls.{Enqueues}
use Rattle.wfe_msqueue.specs.Enqueues.{kept_of}
use Rattle.wfe_msqueue.proofs.enqueue.lead.Goals as goal

pub returns-in-Ends-clause-turn : goal.returns-in-Ends-clause-turn
returns-in-Ends-clause-turn g c = λ desk.
    let kept = kept_of c.args.kept.now in
    rw c.in-Ends.is (c.clear.ensures.turn (Enqueues kept) desk refl refl ∙ c.leaves.ensures kept c.clear.new.post desk c.clear.new.told)

pub returns-in-Passes-clause-turn : goal.returns-in-Passes-clause-turn
returns-in-Passes-clause-turn g c = λ desk.
    let kept = kept_of c.args.kept.now in
    rw c.in-Passes.is (c.pass.ensures (Enqueues kept) c.args.post.now desk c.args.told.now refl c.requires.scheme ∙ c.leaves-in-Passes.ensures kept c.args.post.now desk c.args.told.now)
