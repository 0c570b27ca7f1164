use Rattle.wfe_server_out.specs.Heard.{boxed}
use Rattle.std.proofs.Common.{◌-◌}
use Rattle.wfe_server_gen.proofs.Turning.{Running}
use Rattle.wfe_server_gen.proofs.table.Table.step.Given as goal

-- the units so far
abbrev pub invariant-loop : goal.invariant-loop
invariant-loop g l = Running (boxed (λ b. (goal.Watcher-dyn g (b.vtable, b.value)).stands b.value)) l.fn.watchers l.watchers l.fn.self.summary l.self.summary l.units (l.units - l.counter) l.seat l.fn.self.played l.self.played
