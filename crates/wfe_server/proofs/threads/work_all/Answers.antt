use Rattle.std.proofs.Common.{List, [], ap, arith, get_or, length, subst, sym, ◌<◌, ◌∙◌, ◌≡◌}
use Rattle.wfe_table.specs.rule.Views.{seat_of}
use Rattle.wfe_table.specs.Public.{SeatNow, new_seat}
use Rattle.wfe_server_lines.specs.Scripted.{lists_in}
use Rattle.wfe_server.specs.Parted.{IsOutcome}
use Rattle.wfe_server.proofs.Parting.{count_new, new_at}
use Rattle.wfe_server.proofs.threads.work_all.Goals as goal

pub returns-in-Ok-clause-count : goal.returns-in-Ok-clause-count
returns-in-Ok-clause-count g c = omega (arith, c.in-Ok.ensures.len, c.in-Ok.all.ok.0, c.args.seats.ok.0, ap length c.requires.seats, count_new c.args.shared.now, c.requires.scripts)

pub returns-in-Ok-clause-each : goal.returns-in-Ok-clause-each
returns-in-Ok-clause-each g c n d within =
    let shared = c.args.shared.now in
    let few : n < shared.layout.config.seats = omega (arith, within, c.requires.scripts) in
    let below : n < length c.args.seats.items = omega (arith, few, ap length c.requires.seats, count_new shared) in
    let job = (c.in-Ok.ensures.each n d below).1 in
    let is : job.job ≡ new_seat shared n = sym (job.job_is (new_seat shared 0)) ∙ ap (λ (seats : List SeatNow). get_or seats n (new_seat shared 0)) c.requires.seats ∙ new_at shared n (new_seat shared 0) few in
    subst (λ (seat : SeatNow). IsOutcome shared seat (get_or (lists_in c.args.scripts.now) (seat_of seat.track) []) (get_or c.in-Ok.all.items n d)) is job.call.met
