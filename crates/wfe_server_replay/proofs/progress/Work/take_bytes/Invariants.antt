use Rattle.wfe_server_out.specs.Heard.{boxed}
use Rattle.std.proofs.Common.{Ok, length, take, ◌-◌, ◌≡◌, ◌≤◌}
use Rattle.wfe_server_replay.specs.Playing.{player}
use Rattle.wfe_server_replay.specs.Sunk.{Puts, outside}
use Rattle.wfe_server_replay.specs.Trace.{after_bytes, bytes_output}
use Rattle.wfe_server_replay.proofs.progress.Work.take_bytes.Given as goal

-- the bytes before this place are taken, and what they give was put out
abbrev pub invariant-loop-at : goal.invariant-loop-at
invariant-loop-at g l = record {
  within : l.at ≤ length l.bytes;
  taken : after_bytes (player g.E.Engine.taken) (Ok l.fn.self) (take l.at l.bytes) ≡ Ok l.self;
  put : Puts (boxed (λ b. (goal.Watcher-dyn g (b.vtable, b.value)).stands b.value)) (outside (g.K.Sink.written l.fn.sink) l.fn.watchers) (outside (g.K.Sink.written l.sink) l.watchers) (bytes_output (player g.E.Engine.taken) (Ok l.fn.self) (take l.at l.bytes));
  later : g.K.Sink.faults l.fn.sink ≤ g.K.Sink.faults l.sink;
}

abbrev pub decreases-loop-at : goal.decreases-loop-at
decreases-loop-at g l = length l.bytes - l.at
