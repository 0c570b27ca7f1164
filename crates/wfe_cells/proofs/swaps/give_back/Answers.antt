-- The bucket is queued, or kept.
use Rattle.std.proofs.Common.{ap, arith, refl}
use Rattle.wfe_core.specs.defs.declared.call.Answer.TheVariants as answers
use Rattle.wfe_core.specs.defs.declared.call.Call.TheVariants as calls
use Rattle.wfe_table.specs.Calls.{enqueue_answer}
use Rattle.wfe_cells.proofs.Among.{among_one, later_by, later_self, queues_by, takes_by}
use Rattle.wfe_cells.proofs.Only.{only_by, only_self}
use Rattle.wfe_cells.proofs.Refusals.{unqueued}
use Rattle.wfe_cells.specs.Only.{IsQueueing}
use Rattle.wfe_cells.specs.Stores.{is_object}
use Rattle.wfe_cells.proofs.swaps.give_back.Goals as goal

pub returns-in_default-clause-later : goal.returns-in_default-clause-later
returns-in_default-clause-later c = later_self c.args.user.now.seat

pub returns-in_default-clause-only : goal.returns-in_default-clause-only
returns-in_default-clause-only c = only_self (IsQueueing c.args.user.now.spare) c.args.user.now.seat

pub returns-in-Ok-clause-later : goal.returns-in-Ok-clause-later
returns-in-Ok-clause-later c = later_by c.args.shared.now.layout c.args.user.now.seat c.enqueue.new.seat (calls.Enqueue c.in-Some.block) (answers.Queued c.in-Ok._queued.number) c.in-Ok.ensures.made

pub returns-in-Ok-clause-only : goal.returns-in-Ok-clause-only
returns-in-Ok-clause-only c =
    only_by (IsQueueing c.args.user.now.spare) c.args.shared.now.layout c.args.user.now.seat c.enqueue.new.seat (calls.Enqueue c.in-Some.block) (answers.Queued c.in-Ok._queued.number) c.in-Ok.ensures.made (record { block = c.in-Some.block; spare = c.in-Some.is; call = refl })

pub returns-in-Ok-clause-kept : goal.returns-in-Ok-clause-kept
returns-in-Ok-clause-kept c b l =
    let layout = c.args.shared.now.layout in
    let call = calls.Enqueue c.in-Some.block in
    let answer = answers.Queued c.in-Ok._queued.number in
    omega (arith, ap (is_object b) c.in-Some.is, takes_by layout c.args.user.now.seat c.enqueue.new.seat call answer b c.in-Ok.ensures.made, queues_by layout c.args.user.now.seat c.enqueue.new.seat call answer b c.in-Ok.ensures.made)

pub returns-in-Err-clause-later : goal.returns-in-Err-clause-later
returns-in-Err-clause-later c = later_by c.args.shared.now.layout c.args.user.now.seat c.enqueue.new.seat (calls.Enqueue c.in-Some.block) (enqueue_answer c.in-Err.refusal) c.in-Err.ensures.made

pub returns-in-Err-clause-only : goal.returns-in-Err-clause-only
returns-in-Err-clause-only c =
    only_by (IsQueueing c.args.user.now.spare) c.args.shared.now.layout c.args.user.now.seat c.enqueue.new.seat (calls.Enqueue c.in-Some.block) (enqueue_answer c.in-Err.refusal) c.in-Err.ensures.made (record { block = c.in-Some.block; spare = c.in-Some.is; call = refl })

pub returns-in-Err-clause-kept : goal.returns-in-Err-clause-kept
returns-in-Err-clause-kept c b l =
    let layout = c.args.shared.now.layout in
    let call = calls.Enqueue c.in-Some.block in
    let answer = enqueue_answer c.in-Err.refusal in
    omega
    (arith, takes_by layout c.args.user.now.seat c.enqueue.new.seat call answer b c.in-Err.ensures.made, queues_by layout c.args.user.now.seat c.enqueue.new.seat call answer b c.in-Err.ensures.made, ap (is_object b) (unqueued c.in-Some.block c.in-Err.refusal))

pub returns-in-Err-clause-refused : goal.returns-in-Err-clause-refused
returns-in-Err-clause-refused c = record {
  block = c.in-Some.block;
  spare = c.in-Some.is;
  told = among_one c.args.shared.now.layout c.args.user.now.seat c.enqueue.new.seat (calls.Enqueue c.in-Some.block) (enqueue_answer c.in-Err.refusal) c.in-Err.ensures.made;
}
