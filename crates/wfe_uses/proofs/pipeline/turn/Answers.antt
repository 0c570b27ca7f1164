-- What one of the two moves, the other leaves as it was.
use Rattle.wfe_uses.proofs.Flowing.{on_ok}
use Rattle.wfe_uses.proofs.pipeline.turn.Goals as goal

pub returns-then-number-eq0-clause-moves : goal.returns-then-number-eq0-clause-moves
returns-then-number-eq0-clause-moves c = on_ok c.send.result c.send.ensures.moves (λ moves. moves c.args.taken.now.items)

pub returns-else-number-eq0-clause-moves : goal.returns-else-number-eq0-clause-moves
returns-else-number-eq0-clause-moves c = on_ok c.receive.result c.receive.ensures.moves (λ moves. moves c.args.sent.now.items)
