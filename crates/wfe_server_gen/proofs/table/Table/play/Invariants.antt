use Rattle.wfe_server_out.specs.Heard.{boxed}
use Rattle.std.proofs.Common.{◌-◌, ◌≡◌}
use Rattle.wfe_server_gen.specs.Tally.{lines_told}
use Rattle.wfe_server_gen.specs.Turns.{generated}
use Rattle.wfe_server_gen.proofs.Going.{Going}
use Rattle.wfe_server_gen.proofs.Turning.{turns_left}
use Rattle.wfe_server_gen.proofs.table.Table.play.Given as goal

-- the turns so far, and those that are left
abbrev pub invariant-loop : goal.invariant-loop
invariant-loop g l = record {
  goes : Going (boxed (λ b. (goal.Watcher-dyn g (b.vtable, b.value)).stands b.value)) l.fn.watchers l.watchers l.fn.self.summary l.self.summary (lines_told (generated l.seed l.turns) l.fn.self.played) (lines_told (turns_left (l.turns - l.counter) l.words) l.self.played);
  table : l.self.played.table.layout ≡ l.fn.self.played.table.layout;
}
