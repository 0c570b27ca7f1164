use Rattle.wfe_server_replay.specs.Sunk.{outside}
use Rattle.wfe_server_replay.proofs.Endings.{says-stopped, says-done, says-last}
use Rattle.wfe_server_replay.proofs.serve.conclude.Goals as goal

pub returns-in-Stopped-clause-said : goal.returns-in-Stopped-clause-said
returns-in-Stopped-clause-said g c before left written ws ends =
    let here = rw c.in-Stopped.is at ends in
    (here.taken, here.consumed, says-stopped g.E.Engine.taken _ c.in-Stopped.stop c.stopped.result _ here.taken left (outside written ws) (outside (g.K.Sink.written c.args.sink.now) c.args.watchers.now) (outside (g.K.Sink.written c.stopped.new.sink) c.args.watchers.now) here.stops c.stopped.ensures.closed)

pub returns-in-Ok-clause-said : goal.returns-in-Ok-clause-said
returns-in-Ok-clause-said g c before left written ws ends =
    let here = rw c.in-AtEnd.is at ends in
    (here.0.taken, here.0.consumed, says-done g.E.Engine.taken _ c.close_done.result _ here.0.taken _ _ left (outside written ws) (outside (g.K.Sink.written c.args.sink.now) c.args.watchers.now) (outside (g.K.Sink.written c.finish.new.sink) c.finish.new.watchers) (outside (g.K.Sink.written c.close_done.new.sink) c.finish.new.watchers) here.0.good here.0.put here.1 c.in-Ok.ensures.took.0 c.in-Ok.ensures.took.1 c.close_done.ensures.closed)

pub returns-in-Err-clause-said : goal.returns-in-Err-clause-said
returns-in-Err-clause-said g c before left written ws ends =
    let here = rw c.in-AtEnd.is at ends in
    (here.0.taken, here.0.consumed, says-last g.E.Engine.taken _ c.in-Err.stop c.stopped-in-Err.result _ here.0.taken c.args.work.now left (outside written ws) (outside (g.K.Sink.written c.args.sink.now) c.args.watchers.now) (outside (g.K.Sink.written c.finish.new.sink) c.finish.new.watchers) (outside (g.K.Sink.written c.stopped-in-Err.new.sink) c.finish.new.watchers) here.0.good here.0.put here.1 c.in-Err.ensures.took c.stopped-in-Err.ensures.closed)
