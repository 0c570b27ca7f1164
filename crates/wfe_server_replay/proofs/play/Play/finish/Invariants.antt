use Rattle.wfe_server_out.specs.Heard.{boxed}
use Rattle.std.proofs.Common.{Ok, ◌≡◌}
use Rattle.wfe_server_out.specs.Emits.{Emits}
use Rattle.wfe_server_replay.specs.Playing.{seats_out, seats_run}
use Rattle.wfe_server_replay.proofs.play.Play.finish.Given as goal

-- the seats before this one are run
abbrev pub invariant-loop-seat : goal.invariant-loop-seat
invariant-loop-seat g l = record {
  run : l.self ≡ seats_run l.seat l.fn.self;
  emits : Emits {T = Unit {0}} (boxed (λ b. (goal.Watcher-dyn g (b.vtable, b.value)).stands b.value)) g.K.Sink.written g.K.Sink.faults g.K.Sink.may_stand (Ok tt) l.fn.sink l.sink l.fn.watchers l.watchers (seats_out l.seat l.fn.self);
  table : l.self.table.layout ≡ l.fn.self.table.layout;
}
