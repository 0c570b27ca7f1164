use Rattle.std.proofs.Common.{ap, rules}
use Rattle.wfe_core.specs.words.declared.config.Config.{Config}
use Rattle.wfe_drive_seat.proofs.Fresh.{seats_all, seats_more}
use Rattle.wfe_drive_seat.proofs.seat.fresh_seats.Goals as goal

pub loop-seat-preserved : goal.loop-seat-preserved
loop-seat-preserved g c = seats_more c.args.layout c.loop-seat.seats.items c.loop-seat.seat c.in_ok-state.state c.push.new.self.items c.loop-seat.invariant c.in_ok-state.ensures (search rules)

pub returns : goal.returns
returns g c =
    seats_all c.args.layout c.loop-seat.seats.items c.loop-seat.seat c.config-count.result.seats c.loop-seat.invariant c.loop-seat.auto.seat-end c.loop-seat-test.false
    (ap (λ (config : Config). config.seats) c.config-count.ensures)
