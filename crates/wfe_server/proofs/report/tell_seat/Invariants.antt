-- The events before this one are told.
use Rattle.std.proofs.Common.{Ok, take}
use Rattle.wfe_server_out.specs.Emits.{Emits}
use Rattle.wfe_server_out.specs.Heard.{boxed}
use Rattle.wfe_server_out.specs.Pieces.{told_pieces}
use Rattle.wfe_server.proofs.report.tell_seat.Given as goal

abbrev pub invariant-loop-place : goal.invariant-loop-place
invariant-loop-place g l =
    Emits {T = Unit {0}} (boxed (λ b. (goal.Watcher-dyn g (b.vtable, b.value)).stands b.value)) g.K.Sink.written g.K.Sink.faults g.K.Sink.may_stand (Ok tt) l.fn.sink l.sink l.fn.watchers l.watchers
    (told_pieces l.seat (take l.place l.events))
