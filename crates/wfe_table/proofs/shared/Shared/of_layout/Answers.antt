use Rattle.std.proofs.Common.{ap, arith, refl, rules, ◌≡◌, ◌≤◌, ◌∙◌, ◌∷◌}
use Rattle.atomic_table.specs.Seated.{TableId}
use Rattle.wfe_core.proofs.Ranges.{bounds_of}
use Rattle.wfe_drive_rule.specs.Views.{fresh_track}
use Rattle.wfe_table.specs.Public.{SeatNow, TableNow, new_seat}
use Rattle.wfe_table.proofs.Seats.{seats_all, seats_of}
use Rattle.wfe_table.proofs.shared.Shared.of_layout.Goals as goal

pub returns : goal.returns
returns c =
    let shared : TableNow = record { table = c.in_ok-ledger.ledger.shared.table_id; layout = c.args.layout } in
    let table = c.take_slot.ensures.ids.0 ∙ c.later_seats.ensures.ids ∙ c.in_ok-ledger.ensures.handle.0 in
    let seat : c.in_ok-seat.seat ≡ new_seat shared 0 = c.in_ok-seat.ensures ∙ ap (λ (t : TableId). let s : SeatNow = record { table = t; track = fresh_track c.args.layout 0 } in s) table in
    let some : 1 ≤ c.args.layout.config.seats = omega (arith, (bounds_of c.args.layout c.requires.valid).seats) in
    let items : c.insert.new.self.items ≡ c.in_ok-seat.seat ∷ c.in_ok-seats.seats.items = search rules in
    let made = items ∙ seats_all shared c.in_ok-seats.seats.items c.args.layout.config.seats c.in_ok-seat.seat c.args.layout.config.seats some refl c.in_ok-seats.ensures.seats seat in
    record { made = (refl, made); of = seats_of shared c.insert.new.self.items made }
