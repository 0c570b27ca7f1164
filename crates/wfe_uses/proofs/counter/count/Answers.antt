-- All seats have counted, and the table was closed with them.
use Rattle.std.proofs.Common.{arith, ◌<◌}
use Rattle.wfe_core.proofs.Ranges.{bounds_of}
use Rattle.wfe_uses.proofs.Calls.{all_fresh}
use Rattle.wfe_uses.proofs.Counting.{all_of, shows_count}
use Rattle.wfe_uses.proofs.counter.count.Goals as goal

pub count_all-requires-clause-fresh : goal.count_all-requires-clause-fresh
count_all-requires-clause-fresh g c κs within = all_fresh c.in-Ok.shared c.in-Ok.seats.items c.in-Ok.ensures.made.1

pub close-requires : goal.close-requires
close-requires g c = record { of = all_of c.in-Ok.shared c.args.key c.in-Ok-count_all.all.items c.in_ok-seats.seats.items c.in_ok-seats.total c.in-Ok-count_all.ensures.len c.in-Ok-count_all.ensures.each c.in_ok-seats.ensures }

pub returns-in-Ok-close : goal.returns-in-Ok-close
returns-in-Ok-close g c =
    let left = c.in-Ok-close.ensures.closed in
    let bounds = bounds_of c.in-Ok.shared.layout left.reaches.whole.valid in
    let some : 0 < c.in-Ok.shared.layout.config.buckets = omega (arith, bounds.buckets) in
    shows_count c.in-Ok.shared c.args.key c.in-Ok-count_all.all.items c.in_ok-seats.seats.items c.in_ok-seats.total c.in-Ok-close.closed some c.in-Ok-count_all.ensures.len c.in-Ok-count_all.ensures.each c.in_ok-seats.ensures left
