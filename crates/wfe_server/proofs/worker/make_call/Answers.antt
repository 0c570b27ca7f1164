use Rattle.std.proofs.Common.{arith, rules, ◌≡◌}
use Rattle.wfe_core.proofs.Ranges.{bounds_of}
use Rattle.wfe_server.proofs.Calls.{called}
use Rattle.wfe_server_lines.proofs.Told.{on_ok}
use Rattle.wfe_server.proofs.worker.make_call.Goals as goal

pub push_events-requires : goal.push_events-requires
push_events-requires g c =
    let bounds = bounds_of c.args.shared.now.layout c.call-answer.ensures.made.tracked.valid in
    let same : c.config-buckets.result.buckets ≡ c.args.shared.now.layout.config.buckets = search rules in
    omega (arith, bounds.buckets, same)

pub returns-clause-called : goal.returns-clause-called
returns-clause-called g c =
    on_ok c.push_events.result c.push_events.ensures
    (called c.args.shared.now.layout c.args.seat.now c.call-answer.new.seat c.args.call c.call-answer.result c.config-buckets.result.buckets _ c.args.events.now.items c.push_events.new.events.items (search rules) c.notes.ensures.notes c.call-answer.ensures.made)
