use Rattle.std.proofs.Common.{rules, sym}
use Rattle.wfe_server_out.proofs.Emits.{emits_of, emits_then, emits_within}
use Rattle.wfe_server.proofs.Telling.{seat_more, seat_split, seat_within}
use Rattle.wfe_server.proofs.report.tell_seats.Goals as goal

pub returns-in_err-tell_seat : goal.returns-in_err-tell_seat
returns-in_err-tell_seat g c = emits_within _ (search rules) (seat_split _ c.loop-seat.seat _ (seat_within c.args.seats.now c.loop-seat.seat (search rules))) c.loop-seat.invariant c.in_err-tell_seat.ensures

pub loop-seat-preserved : goal.loop-seat-preserved
loop-seat-preserved g c = emits_of (sym (seat_more _ c.loop-seat.seat _ (seat_within c.args.seats.now c.loop-seat.seat (search rules)))) (emits_then c.loop-seat.invariant c.in_ok-tell_seat.ensures)
