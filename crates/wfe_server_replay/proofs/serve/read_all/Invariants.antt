use Rattle.wfe_server_out.specs.Heard.{boxed}
use Rattle.std.proofs.Common.{length, ◌≡◌, ◌≤◌}
use Rattle.wfe_trace.specs.declared.item.Mode.TheVariants as modes
use Rattle.wfe_server_replay.specs.Ends.{Goes}
use Rattle.wfe_server_replay.specs.Sunk.{outside}
use Rattle.wfe_server_replay.specs.Trace.{progress_start}
use Rattle.wfe_server_replay.proofs.serve.read_all.Given as goal

abbrev pub invariant-loop : goal.invariant-loop
invariant-loop g l = record {
  goes : Goes g.E.Engine.taken (boxed (λ b. (goal.Watcher-dyn g (b.vtable, b.value)).stands b.value)) (g.S.Source.left l.fn.source) (g.S.Source.left l.source) (outside (g.K.Sink.written l.fn.sink) l.fn.watchers) (outside (g.K.Sink.written l.sink) l.watchers) (progress_start modes.Replay) l.work;
  counted : l.counter ≤ l.work.count;
  source : g.S.Source.faults l.fn.source ≤ g.S.Source.faults l.source;
  sink : g.K.Sink.faults l.fn.sink ≤ g.K.Sink.faults l.sink;
  room : length l.piece ≡ length l.fn.piece;
}
