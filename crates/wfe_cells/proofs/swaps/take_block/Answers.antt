-- A bucket that the thread has kept, or one from the queue.
use Rattle.std.proofs.Common.{ap, arith}
use Rattle.wfe_cells.proofs.Among.{later_self}
use Rattle.wfe_cells.proofs.Kept.{none_past}
use Rattle.wfe_cells.proofs.Only.{only_self, only_taking}
use Rattle.wfe_cells.specs.Only.{IsTaking}
use Rattle.wfe_cells.specs.Stores.{is_object}
use Rattle.wfe_cells.proofs.swaps.take_block.Goals as goal

pub returns-in-Some-clause-later : goal.returns-in-Some-clause-later
returns-in-Some-clause-later c = later_self c.args.user.now.seat

pub returns-in-Some-clause-only : goal.returns-in-Some-clause-only
returns-in-Some-clause-only c = only_self (IsTaking c.args.shared.now.layout.config.buckets c.args.user.now.spare) c.args.user.now.seat

pub returns-in-Some-clause-kept : goal.returns-in-Some-clause-kept
returns-in-Some-clause-kept c b l = omega (arith, ap (is_object b) c.in-Some.ensures.some.0, ap (is_object b) c.take_spare.ensures.spare)

pub returns-in-Some-take_queued-clause-kept : goal.returns-in-Some-take_queued-clause-kept
returns-in-Some-take_queued-clause-kept c b l =
    omega (arith, none_past b c.args.shared.now.layout.config.buckets c.args.user.now.spare l c.in-None.ensures.none, ap (is_object b) c.take_spare.ensures.spare, c.in-Some-take_queued.ensures.takes b l, c.take_queued.ensures.queues b)

pub returns-in-Some-take_queued-clause-only : goal.returns-in-Some-take_queued-clause-only
returns-in-Some-take_queued-clause-only c =
    only_taking c.args.shared.now.layout.config.buckets c.args.user.now.spare c.args.user.now.seat c.take_queued.new.seat (λ group is. record { call = is; none = c.in-None.ensures.none }) c.take_queued.ensures.only

pub returns-in-None-take_queued-clause-kept : goal.returns-in-None-take_queued-clause-kept
returns-in-None-take_queued-clause-kept c b l =
    omega (arith, none_past b c.args.shared.now.layout.config.buckets c.args.user.now.spare l c.in-None.ensures.none, ap (is_object b) c.take_spare.ensures.spare, c.in-None-take_queued.ensures.takes b l, c.take_queued.ensures.queues b)

pub returns-in-None-take_queued-clause-only : goal.returns-in-None-take_queued-clause-only
returns-in-None-take_queued-clause-only c =
    only_taking c.args.shared.now.layout.config.buckets c.args.user.now.spare c.args.user.now.seat c.take_queued.new.seat (λ group is. record { call = is; none = c.in-None.ensures.none }) c.take_queued.ensures.only

pub returns-in-None-take_queued-clause-none : goal.returns-in-None-take_queued-clause-none
returns-in-None-take_queued-clause-none c = record { spare = c.in-None.ensures.none; none = c.in-None-take_queued.ensures.none }
