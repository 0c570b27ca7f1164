use Rattle.wfe_server_out.specs.Heard.{boxed}
use Rattle.std.proofs.Common.{List, Ok, ◌-◌}
use Rattle.wfe_server_out.specs.Emits.{Emits}
use Rattle.wfe_server_out.specs.Pieces.{Piece}
use Rattle.wfe_server_replay.proofs.Units.{Running}
use Rattle.wfe_server_replay.proofs.play.Play.step.Given as goal

-- the units so far
abbrev pub invariant-loop : goal.invariant-loop
invariant-loop g l =
    (out : List Piece) × Running l.units (l.units - l.counter) l.seat l.fn.self l.self out
    × Emits {T = Unit {0}} (boxed (λ b. (goal.Watcher-dyn g (b.vtable, b.value)).stands b.value)) g.K.Sink.written g.K.Sink.faults g.K.Sink.may_stand (Ok tt) l.fn.sink l.sink l.fn.watchers l.watchers out
