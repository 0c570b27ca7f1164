-- Whichever call moved the tail, the round ends.
use Rattle.std.proofs.Common.{arith, refl, ◌+◌, ◌-◌, ◌<◌, ◌==◌, ◌^◌}
use Rattle.wfe_core.specs.Calls.{Enqueuing, PassTail, Works}
use Rattle.wfe_drive_runs.specs.Items.{kept_of}
use Rattle.wfe_drive_words.specs.Path.{stepped}
use Rattle.wfe_drive_runs.specs.Pieces.{seat_of}
use Rattle.wfe_drive_runs.proofs.Appending.{passed}
use Rattle.wfe_drive_words.proofs.Leading.{few_here, leads_as}
use Rattle.wfe_drive_runs.proofs.Turning.{asks_seat, may_here}
use Rattle.wfe_drive_runs.proofs.tail.pass_tail.Goals as goal

pub move_tail-requires-clause-valid : goal.move_tail-requires-clause-valid
move_tail-requires-clause-valid g c =
    let (desk, h) = c.requires.here in
    (may_here (g.W.Words.comes c.args.words.now) c.requires.valid h).valid

pub move_tail-requires-clause-tail : goal.move_tail-requires-clause-tail
move_tail-requires-clause-tail g c =
    let (desk, h) = c.requires.here in
    (may_here (g.W.Words.comes c.args.words.now) c.requires.valid h).ready.0.tail

pub step-requires-clause-asks : goal.step-requires-clause-asks
step-requires-clause-asks g c =
    let (desk, h) = c.requires.here in
    (_, asks_seat (seat_of (Works (Enqueuing (kept_of c.args.item.now) (PassTail c.args.next))) c.args.post.now desk) h refl c.move_tail.ensures)

pub overflow_add-post : goal.overflow_add-post
overflow_add-post g c =
    let (desk, h) = c.requires.here in
    let few : c.args.post.now.steps < 2 ^ 62 = few_here (g.W.Words.comes c.args.words.now) c.requires.valid h refl in
    omega (arith, few)

pub returns-clause-leads : goal.returns-clause-leads
returns-clause-leads g c = λ desk h.
    let seat = seat_of (Works (Enqueuing (kept_of c.args.item.now) (PassTail c.args.next))) c.args.post.now desk in
    let x = c.step.ensures.steps _ (asks_seat seat h refl c.move_tail.ensures) in
    leads_as _ _ (passed (kept_of c.args.item.now) (c.args.next - 1) (c.step.result == c.args.item.now.tail + 1) (stepped c.args.post.now) desk) x.leads
