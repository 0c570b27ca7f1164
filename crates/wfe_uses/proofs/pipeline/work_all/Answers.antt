-- Each seat has its number.
use Rattle.std.proofs.Common.{List, ap, arith, get_or, length, subst, sym, ◌<◌, ◌∙◌, ◌≡◌}
use Rattle.wfe_table.specs.Public.{SeatNow, new_seat}
use Rattle.wfe_table.specs.rule.Views.{seat_of}
use Rattle.wfe_uses.proofs.Calls.{count_new, new_at}
use Rattle.wfe_uses.specs.Flowing.{IsOutcome}
use Rattle.wfe_uses.proofs.pipeline.work_all.Goals as goal

pub returns-in-Ok-clause-len : goal.returns-in-Ok-clause-len
returns-in-Ok-clause-len g c = omega (arith, c.in-Ok.ensures.len, c.in-Ok.all.ok.0, c.args.seats.ok.0, ap length c.requires.seats, count_new c.args.shared.now)

pub returns-in-Ok-clause-each : goal.returns-in-Ok-clause-each
returns-in-Ok-clause-each g c n d within =
    let shared = c.args.shared.now in
    let below : n < length c.args.seats.items = omega (arith, within, ap length c.requires.seats, count_new shared) in
    let job = (c.in-Ok.ensures.each n d below).1 in
    let is : job.job ≡ new_seat shared n = sym (job.job_is (new_seat shared 0)) ∙ ap (λ (seats : List SeatNow). get_or seats n (new_seat shared 0)) c.requires.seats ∙ new_at shared n (new_seat shared 0) within in
    subst (λ (seat : SeatNow). IsOutcome shared (seat_of seat.track) (get_or c.in-Ok.all.items n d)) is job.call.met
