-- Whichever call moved the tail, the round ends.
use Rattle.std.proofs.Common.{arith, refl, ◌+◌, ◌<◌, ◌==◌, ◌^◌}
use Rattle.wfe_core.specs.Calls.{Dequeuing, SwingTail, Works}
use Rattle.wfe_drive_words.specs.Path.{stepped}
use Rattle.wfe_drive_runs.specs.Pieces.{seat_of}
use Rattle.wfe_drive_runs.proofs.Fronts.{swung}
use Rattle.wfe_drive_words.proofs.Leading.{few_here, leads_as}
use Rattle.wfe_drive_runs.proofs.Turning.{asks_seat, may_here}
use Rattle.wfe_drive_runs.proofs.front.swing_tail.Goals as goal

pub move_end-requires-clause-valid : goal.move_end-requires-clause-valid
move_end-requires-clause-valid g c =
    let (desk, h) = c.requires.here in
    (may_here (g.W.Words.comes c.args.words.now) c.requires.valid h).valid

pub move_end-requires-clause-head : goal.move_end-requires-clause-head
move_end-requires-clause-head g c =
    let (desk, h) = c.requires.here in
    (may_here (g.W.Words.comes c.args.words.now) c.requires.valid h).ready.0

pub move_end-requires-clause-next : goal.move_end-requires-clause-next
move_end-requires-clause-next g c =
    let (desk, h) = c.requires.here in
    (may_here (g.W.Words.comes c.args.words.now) c.requires.valid h).ready.1

pub step-requires-clause-asks : goal.step-requires-clause-asks
step-requires-clause-asks g c =
    let (desk, h) = c.requires.here in
    (_, asks_seat (seat_of (Works (Dequeuing (SwingTail c.args.head c.args.next))) c.args.post.now desk) h refl c.move_end.ensures)

pub overflow_add-post : goal.overflow_add-post
overflow_add-post g c =
    let (desk, h) = c.requires.here in
    let few : c.args.post.now.steps < 2 ^ 62 = few_here (g.W.Words.comes c.args.words.now) c.requires.valid h refl in
    omega (arith, few)

pub returns-clause-leads : goal.returns-clause-leads
returns-clause-leads g c = λ desk h.
    let x = c.step.ensures.steps _ (asks_seat (seat_of (Works (Dequeuing (SwingTail c.args.head c.args.next))) c.args.post.now desk) h refl c.move_end.ensures) in
    leads_as _ _ (swung c.args.next (c.step.result == c.args.head + 1) (stepped c.args.post.now) desk) x.leads
