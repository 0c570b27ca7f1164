use Rattle.wfe_server_out.specs.Heard.{boxed}
use Rattle.wfe_server_replay.specs.drive.Reached.{units_left}
use Rattle.wfe_server_gen.proofs.Turning.{Runs}
use Rattle.wfe_server_gen.proofs.table.Table.run.Given as goal

-- the units so far, and that more are counted than the call may make
abbrev pub invariant-loop-told : goal.invariant-loop-told
invariant-loop-told g l = Runs (boxed (λ b. (goal.Watcher-dyn g (b.vtable, b.value)).stands b.value)) l.fn.watchers l.watchers l.fn.self.summary l.self.summary l.seat l.fn.self.played l.self.played

abbrev pub decreases-loop-told : goal.decreases-loop-told
decreases-loop-told g l = units_left l.self.played.table l.seat
