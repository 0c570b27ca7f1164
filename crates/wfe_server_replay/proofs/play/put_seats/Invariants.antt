use Rattle.std.proofs.Common.{drop}
use Rattle.wfe_server_out.specs.Pieces.{text_of}
use Rattle.wfe_server_out.proofs.Written.{Wrote}
use Rattle.wfe_server_replay.specs.Counts.{seat_lines}
use Rattle.wfe_server_replay.proofs.play.put_seats.Given as goal

-- the lines of the seats before this one are written
abbrev pub invariant-loop-seat : goal.invariant-loop-seat
invariant-loop-seat g l =
    Wrote g.K.Sink.written g.K.Sink.faults g.K.Sink.may_stand l.fn.sink l.sink
    (text_of (seat_lines 0 l.garbage l.lists))
    (text_of (seat_lines l.seat (drop l.seat l.garbage) l.lists))
