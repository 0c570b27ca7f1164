use Rattle.std.proofs.Common.{refl, ◌∙◌}
use Rattle.wfe_core.specs.Calls.{Dequeues}
use Rattle.wfe_call_rounds.specs.Endings.{next_of}
use Rattle.wfe_msqueue.proofs.Turns.{next_clears, next_goes}
use Rattle.wfe_msqueue.proofs.dequeue.clear_next.Goals as goal

pub returns-in-Some-clause-turn : goal.returns-in-Some-clause-turn
returns-in-Some-clause-turn g c = λ kept desk.
    next_goes (next_of c.args.ending) g.S.Scheme.kind (g.S.Clear.Machine.phase c.in-Some.machine) c.args.post.now c.clear.new.post desk c.args.told.now c.clear.new.told c.requires.scheme c.in-Some.ensures.base c.clear.ensures.post c.clear.ensures.told

pub returns-in-None-clause-turn : goal.returns-in-None-clause-turn
returns-in-None-clause-turn g c = λ kept desk.
    next_clears (next_of c.args.ending) g.S.Scheme.kind c.args.post.now c.clear.new.post desk c.args.told.now c.clear.new.told c.requires.scheme c.in-None.ensures.base c.clear.ensures.post c.clear.ensures.told
    ∙ (c.clear-in-None.ensures.turn Dequeues desk refl refl ∙ c.leaves.ensures kept c.clear-in-None.new.post desk c.clear-in-None.new.told)
