use Rattle.std.proofs.Common.{ap, arith, rules, sym, ◌∙◌}
use Rattle.std.proofs.lemmas.List.{take_all}
use Rattle.wfe_server_out.proofs.Emits.{emits_of, emits_then, emits_within}
use Rattle.wfe_server_out.specs.Pieces.{told_pieces}
use Rattle.wfe_server.proofs.Telling.{event_more, event_split, seat_events}
use Rattle.wfe_server.proofs.report.tell_seat.Goals as goal

pub returns-in_err-tell : goal.returns-in_err-tell
returns-in_err-tell g c =
    let events = c.as_slice-events.result.now in
    let is = seat_events c.args.seats.now c.args.seat events c.index-seats-seat.result (search rules) (search rules) c.as_slice-events.ensures.value in
    emits_of (ap (told_pieces c.args.seat) is) (emits_within _ (search rules) (event_split c.args.seat events c.loop-place.place _ (search rules)) c.loop-place.invariant c.in_err-tell.ensures.emits)

pub loop-place-preserved : goal.loop-place-preserved
loop-place-preserved g c = emits_of (sym (event_more c.args.seat c.as_slice-events.result.now c.loop-place.place _ (search rules))) (emits_then c.loop-place.invariant c.in_ok-tell.ensures.emits)

pub returns : goal.returns
returns g c =
    let events = c.as_slice-events.result.now in
    let is = seat_events c.args.seats.now c.args.seat events c.index-seats-seat.result (search rules) (search rules) c.as_slice-events.ensures.value in
    emits_of (ap (told_pieces c.args.seat) (take_all c.loop-place.place events (omega arith) ∙ is)) c.loop-place.invariant
