use Rattle.std.proofs.Common.{arith, length, rules, ◌<◌, ◌≤◌}
use Rattle.wfe_server_out.proofs.Written.{wrote_all, wrote_fails, wrote_more, wrote_none}
use Rattle.wfe_server_replay.proofs.Tables.{lines_more, lines_over}
use Rattle.wfe_server_replay.proofs.play.put_seats.Goals as goal

pub loop-seat-init : goal.loop-seat-init
loop-seat-init g c = wrote_none _

pub returns-in_err-put_seat : goal.returns-in_err-put_seat
returns-in_err-put_seat g c =
    let within : c.loop-seat.seat < length c.args.garbage.now = omega (c.loop-seat-test.true, c.requires, arith) in
    wrote_fails _ (search rules) (lines_more c.args.garbage.now c.args.lists.now c.loop-seat.seat c.row.result c.waiting.result within c.row.ensures c.waiting.ensures) c.loop-seat.invariant c.in_err-put_seat.ensures

pub loop-seat-preserved : goal.loop-seat-preserved
loop-seat-preserved g c =
    let within : c.loop-seat.seat < length c.args.garbage.now = omega (c.loop-seat-test.true, c.requires, arith) in
    wrote_more (lines_more c.args.garbage.now c.args.lists.now c.loop-seat.seat c.row.result c.waiting.result within c.row.ensures c.waiting.ensures) c.loop-seat.invariant c.in_ok-put_seat.ensures

pub returns : goal.returns
returns g c =
    let past : length c.args.garbage.now ≤ c.loop-seat.seat = omega (c.loop-seat-test.false, c.requires, arith) in
    wrote_all (lines_over c.args.garbage.now c.args.lists.now c.loop-seat.seat past) c.loop-seat.invariant
