-- What a dequeue tells.
use Rattle.std.proofs.Common.{arith, inl, inr, refl, ◌≤◌}
use Rattle.wfe_core.specs.defs.declared.call.Answer.TheVariants as answers
use Rattle.wfe_core.specs.defs.declared.call.Call.TheVariants as calls
use Rattle.wfe_cells.proofs.Among.{among_one, later_by, queues_by, takes_by}
use Rattle.wfe_cells.proofs.Kept.{not_past}
use Rattle.wfe_cells.proofs.Only.{only_by}
use Rattle.wfe_cells.specs.Only.{IsDequeue}
use Rattle.wfe_cells.proofs.swaps.take_queued.Goals as goal

pub returns-in_default-clause-later : goal.returns-in_default-clause-later
returns-in_default-clause-later c = later_by c.args.shared.now.layout c.args.seat.now c.dequeue.new.seat calls.Dequeue answers.Empty c.in_default.ensures.made

pub returns-in_default-clause-only : goal.returns-in_default-clause-only
returns-in_default-clause-only c = only_by IsDequeue c.args.shared.now.layout c.args.seat.now c.dequeue.new.seat calls.Dequeue answers.Empty c.in_default.ensures.made refl

pub returns-in_default-clause-takes : goal.returns-in_default-clause-takes
returns-in_default-clause-takes c block l = takes_by c.args.shared.now.layout c.args.seat.now c.dequeue.new.seat calls.Dequeue answers.Empty block c.in_default.ensures.made

pub returns-in_default-clause-queues : goal.returns-in_default-clause-queues
returns-in_default-clause-queues c block = omega (arith, queues_by c.args.shared.now.layout c.args.seat.now c.dequeue.new.seat calls.Dequeue answers.Empty block c.in_default.ensures.made)

pub returns-in_default-clause-none : goal.returns-in_default-clause-none
returns-in_default-clause-none c = inl (among_one c.args.shared.now.layout c.args.seat.now c.dequeue.new.seat calls.Dequeue answers.Empty c.in_default.ensures.made)

pub returns-then-taken-buckets-clause-later : goal.returns-then-taken-buckets-clause-later
returns-then-taken-buckets-clause-later c =
    let taken = c.in-Ok.taken in
    later_by c.args.shared.now.layout c.args.seat.now c.dequeue.new.seat calls.Dequeue (answers.Taken taken.number taken.value taken.clock) c.in-Ok.ensures.made

pub returns-then-taken-buckets-clause-only : goal.returns-then-taken-buckets-clause-only
returns-then-taken-buckets-clause-only c =
    let taken = c.in-Ok.taken in
    only_by IsDequeue c.args.shared.now.layout c.args.seat.now c.dequeue.new.seat calls.Dequeue (answers.Taken taken.number taken.value taken.clock) c.in-Ok.ensures.made refl

pub returns-then-taken-buckets-clause-takes : goal.returns-then-taken-buckets-clause-takes
returns-then-taken-buckets-clause-takes c block l =
    let taken = c.in-Ok.taken in
    takes_by c.args.shared.now.layout c.args.seat.now c.dequeue.new.seat calls.Dequeue (answers.Taken taken.number taken.value taken.clock) block c.in-Ok.ensures.made

pub returns-then-taken-buckets-clause-queues : goal.returns-then-taken-buckets-clause-queues
returns-then-taken-buckets-clause-queues c block =
    let taken = c.in-Ok.taken in
    omega (arith, queues_by c.args.shared.now.layout c.args.seat.now c.dequeue.new.seat calls.Dequeue (answers.Taken taken.number taken.value taken.clock) block c.in-Ok.ensures.made)

pub returns-else-taken-buckets-clause-later : goal.returns-else-taken-buckets-clause-later
returns-else-taken-buckets-clause-later c =
    let taken = c.in-Ok.taken in
    later_by c.args.shared.now.layout c.args.seat.now c.dequeue.new.seat calls.Dequeue (answers.Taken taken.number taken.value taken.clock) c.in-Ok.ensures.made

pub returns-else-taken-buckets-clause-only : goal.returns-else-taken-buckets-clause-only
returns-else-taken-buckets-clause-only c =
    let taken = c.in-Ok.taken in
    only_by IsDequeue c.args.shared.now.layout c.args.seat.now c.dequeue.new.seat calls.Dequeue (answers.Taken taken.number taken.value taken.clock) c.in-Ok.ensures.made refl

pub returns-else-taken-buckets-clause-takes : goal.returns-else-taken-buckets-clause-takes
returns-else-taken-buckets-clause-takes c block l =
    let taken = c.in-Ok.taken in
    let past : c.args.shared.now.layout.config.buckets ≤ taken.value = omega (arith, c.if-taken-buckets.false, c.buckets.ensures) in
    omega (arith, takes_by c.args.shared.now.layout c.args.seat.now c.dequeue.new.seat calls.Dequeue (answers.Taken taken.number taken.value taken.clock) block c.in-Ok.ensures.made, not_past block c.args.shared.now.layout.config.buckets taken.value l past)

pub returns-else-taken-buckets-clause-queues : goal.returns-else-taken-buckets-clause-queues
returns-else-taken-buckets-clause-queues c block =
    let taken = c.in-Ok.taken in
    omega (arith, queues_by c.args.shared.now.layout c.args.seat.now c.dequeue.new.seat calls.Dequeue (answers.Taken taken.number taken.value taken.clock) block c.in-Ok.ensures.made)

pub returns-else-taken-buckets-clause-none : goal.returns-else-taken-buckets-clause-none
returns-else-taken-buckets-clause-none c =
    let taken = c.in-Ok.taken in
    let past : c.args.shared.now.layout.config.buckets ≤ taken.value = omega (arith, c.if-taken-buckets.false, c.buckets.ensures) in
    inr
    (record {
      number = taken.number;
      value = taken.value;
      clock = taken.clock;
      told = among_one c.args.shared.now.layout c.args.seat.now c.dequeue.new.seat calls.Dequeue (answers.Taken taken.number taken.value taken.clock) c.in-Ok.ensures.made;
      foreign = past;
    })
