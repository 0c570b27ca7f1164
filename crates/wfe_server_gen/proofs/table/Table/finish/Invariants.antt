use Rattle.wfe_server_out.specs.Heard.{boxed}
use Rattle.std.proofs.Common.{◌≡◌}
use Rattle.wfe_server_replay.specs.Playing.{seats_out, seats_run}
use Rattle.wfe_server_gen.specs.Tally.{Tells}
use Rattle.wfe_server_gen.proofs.table.Table.finish.Given as goal

-- the seats before this one are run
abbrev pub invariant-loop-seat : goal.invariant-loop-seat
invariant-loop-seat g l = record {
  run : l.self.played ≡ seats_run l.seat l.fn.self.played;
  told : Tells (boxed (λ b. (goal.Watcher-dyn g (b.vtable, b.value)).stands b.value)) l.fn.watchers l.watchers l.fn.self.summary l.self.summary (seats_out l.seat l.fn.self.played);
  table : l.self.played.table.layout ≡ l.fn.self.played.table.layout;
}
