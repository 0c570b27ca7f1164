-- A value that is taken is kept.
use Rattle.wfe_uses.proofs.Flowing.{moves_none, moves_taken, on_ok}
use Rattle.wfe_uses.proofs.pipeline.receive.Goals as goal

pub returns-in-Ok-clause-moves : goal.returns-in-Ok-clause-moves
returns-in-Ok-clause-moves c =
    let item = c.in-Ok.item in
    on_ok c.keep.result c.keep.ensures
    (λ more sent moves. moves_taken c.args.shared.now.layout c.args.seat.now c.dequeue.new.seat item.number item.value item.clock c.args.taken.now.items c.keep.new.values.items c.in-Ok.ensures.made more sent moves)

pub returns-in-Err-clause-moves : goal.returns-in-Err-clause-moves
returns-in-Err-clause-moves c sent moves = moves_none c.args.shared.now.layout c.args.seat.now c.dequeue.new.seat c.args.taken.now.items c.in-Err.ensures.made sent moves
