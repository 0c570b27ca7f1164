-- A value that is queued is kept.
use Rattle.wfe_uses.proofs.Flowing.{moves_sent, moves_unsent, on_ok}
use Rattle.wfe_uses.proofs.pipeline.send.Goals as goal

pub returns-in-Ok-clause-moves : goal.returns-in-Ok-clause-moves
returns-in-Ok-clause-moves c =
    on_ok c.keep.result c.keep.ensures
    (λ more taken moves. moves_sent c.args.shared.now.layout c.args.seat.now c.enqueue.new.seat c.args.value c.in-Ok._queued.number c.args.sent.now.items c.keep.new.values.items c.in-Ok.ensures.made more taken moves)

pub returns-in-Err-clause-moves : goal.returns-in-Err-clause-moves
returns-in-Err-clause-moves c taken moves = moves_unsent c.args.shared.now.layout c.args.seat.now c.enqueue.new.seat c.args.value c.in-Err._refusal c.args.sent.now.items c.in-Err.ensures.made taken moves
