use Rattle.wfe_server_out.specs.Heard.{boxed}
use Rattle.std.proofs.Common.{List, Ok}
use Rattle.wfe_drive.specs.Reached.{units_left}
use Rattle.wfe_server_out.specs.Emits.{Emits}
use Rattle.wfe_server_out.specs.Pieces.{Piece}
use Rattle.wfe_server_replay.specs.Playing.{call_most}
use Rattle.wfe_server_replay.proofs.Units.{RunsOn}
use Rattle.wfe_server_replay.proofs.play.Play.run.Given as goal

-- the units so far, and that more are counted than the call may make
abbrev pub invariant-loop-told : goal.invariant-loop-told
invariant-loop-told g l =
    (out : List Piece) × RunsOn call_most l.seat l.fn.self l.self out
    × Emits {T = Unit {0}} (boxed (λ b. (goal.Watcher-dyn g (b.vtable, b.value)).stands b.value)) g.K.Sink.written g.K.Sink.faults g.K.Sink.may_stand (Ok tt) l.fn.sink l.sink l.fn.watchers l.watchers out

abbrev pub decreases-loop-told : goal.decreases-loop-told
decreases-loop-told g l = units_left l.self.table l.seat
