-- The events of the seats before this one are told.
use Rattle.std.proofs.Common.{Ok, take}
use Rattle.wfe_server_out.specs.Emits.{Emits}
use Rattle.wfe_server_out.specs.Heard.{boxed}
use Rattle.wfe_server_lines.specs.Scripted.{lists_in}
use Rattle.wfe_server.specs.Text.{seat_pieces}
use Rattle.wfe_server.proofs.report.tell_seats.Given as goal

abbrev pub invariant-loop-seat : goal.invariant-loop-seat
invariant-loop-seat g l =
    Emits {T = Unit {0}} (boxed (λ b. (goal.Watcher-dyn g (b.vtable, b.value)).stands b.value)) g.K.Sink.written g.K.Sink.faults g.K.Sink.may_stand (Ok tt) l.fn.sink l.sink l.fn.watchers l.watchers
    (seat_pieces 0 (take l.seat (lists_in l.seats)))
