use Rattle.std.proofs.Common.{inr, refl}
use Rattle.wfe_server_replay.specs.Sunk.{outside}
use Rattle.wfe_server_replay.proofs.Endings.{closes_after}
use Rattle.wfe_server_replay.proofs.Outs.{part_first, part_line, puts_line}
use Rattle.wfe_server_replay.proofs.serve.close_done.Goals as goal

pub returns-in-Ok-clause-closed : goal.returns-in-Ok-clause-closed
returns-in-Ok-clause-closed g c =
    closes_after _ c.close.result _ (outside (g.K.Sink.written c.args.sink.now) c.args.watchers.now) (outside (g.K.Sink.written c.put_watched.new.sink) c.args.watchers.now) (outside (g.K.Sink.written c.close.new.sink) c.args.watchers.now) _ _
    (puts_line _ _ _ c.args.watchers.now _ c.in-Ok.ensures.writes.wrote) c.close.ensures.closed

pub returns-in-Err-clause-closed : goal.returns-in-Err-clause-closed
returns-in-Err-clause-closed g c =
    inr (refl, part_first _ (outside (g.K.Sink.written c.args.sink.now) c.args.watchers.now) (outside (g.K.Sink.written c.put_watched.new.sink) c.args.watchers.now) _ _ (part_line _ _ _ c.args.watchers.now _ c.in-Err.ensures.writes.some))
