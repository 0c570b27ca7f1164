-- The item is read, and then the head is moved, or another call was before.
use Rattle.std.proofs.Common.{ap, arith, refl, ◌+◌, ◌<◌, ◌==◌, ◌^◌, ◌∙◌}
use Rattle.wfe_core.specs.Calls.{Dequeuing, ExchangeHead, TakeNumber, TakeValue, Works}
use Rattle.wfe_core.specs.Dequeue.{taken}
use Rattle.wfe_core.specs.declared.post.Post.{Post}
use Rattle.wfe_drive_words.specs.drive_cells.Unit.{kept_desk, seat_after}
use Rattle.wfe_drive_words.specs.Path.{stepped}
use Rattle.wfe_drive_runs.specs.Pieces.{seat_of}
use Rattle.wfe_drive_runs.proofs.Appending.{at_steps, three}
use Rattle.wfe_drive_runs.proofs.Fronts.{is_lost, is_taken}
use Rattle.wfe_drive_words.proofs.Leading.{few_here, here_on, leads_as, then_leads}
use Rattle.wfe_drive_runs.proofs.Turning.{asks_seat, may_here}
use Rattle.wfe_drive_runs.proofs.front.take.Goals as goal

pub move_head-requires-clause-valid : goal.move_head-requires-clause-valid
move_head-requires-clause-valid g c =
    let (desk, h) = c.requires.here in
    (may_here (g.W.Words.comes c.args.words.now) c.requires.valid h).valid

pub move_head-requires-clause-head : goal.move_head-requires-clause-head
move_head-requires-clause-head g c =
    let (desk, h) = c.requires.here in
    (may_here (g.W.Words.comes c.args.words.now) c.requires.valid h).ready.0

pub move_head-requires-clause-next : goal.move_head-requires-clause-next
move_head-requires-clause-next g c =
    let (desk, h) = c.requires.here in
    (may_here (g.W.Words.comes c.args.words.now) c.requires.valid h).ready.1

pub step-number-requires-clause-asks : goal.step-number-requires-clause-asks
step-number-requires-clause-asks g c =
    let (desk, h) = c.requires.here in
    (_, asks_seat (seat_of (Works (Dequeuing (TakeNumber c.args.head c.args.next))) c.args.post.now desk) h refl c.load_cell.ensures)

pub step-value-requires-clause-asks : goal.step-value-requires-clause-asks
step-value-requires-clause-asks g c =
    let (desk, h) = c.requires.here in
    let post : Post = c.args.post.now in
    let a0 = asks_seat (seat_of (Works (Dequeuing (TakeNumber c.args.head c.args.next))) post desk) h refl c.load_cell.ensures in
    let x0 = c.step-number.ensures.steps _ a0 in
    (_, asks_seat (seat_of (Works (Dequeuing (TakeValue c.args.head c.args.next c.step-number.result))) (stepped post) desk) (here_on h x0.leads) refl c.load_cell-2.ensures)

pub step-found-requires-clause-asks : goal.step-found-requires-clause-asks
step-found-requires-clause-asks g c =
    let (desk, h) = c.requires.here in
    let post : Post = c.args.post.now in
    let a0 = asks_seat (seat_of (Works (Dequeuing (TakeNumber c.args.head c.args.next))) post desk) h refl c.load_cell.ensures in
    let x0 = c.step-number.ensures.steps _ a0 in
    let a1 = asks_seat (seat_of (Works (Dequeuing (TakeValue c.args.head c.args.next c.step-number.result))) (stepped post) desk) (here_on h x0.leads) refl c.load_cell-2.ensures in
    let x1 = c.step-value.ensures.steps _ a1 in
    (_, asks_seat (seat_of (Works (Dequeuing (ExchangeHead c.args.head c.args.next c.step-number.result c.step-value.result))) (stepped (stepped post)) desk) (here_on a1.here x1.leads) refl c.move_head.ensures)

pub overflow_add-post : goal.overflow_add-post
overflow_add-post g c =
    let (desk, h) = c.requires.here in
    let few : c.args.post.now.steps < 2 ^ 62 = few_here (g.W.Words.comes c.args.words.now) c.requires.valid h refl in
    omega (arith, few)

pub returns-then-found-head-clause-same : goal.returns-then-found-head-clause-same
returns-then-found-head-clause-same g c = g.W.Words.same_on _ _ _ (g.W.Words.same_on _ _ _ c.step-number.ensures.same c.step-value.ensures.same) c.step-found.ensures.same

pub returns-then-found-head-clause-leads : goal.returns-then-found-head-clause-leads
returns-then-found-head-clause-leads g c = λ desk h.
    let post : Post = c.args.post.now in
    let a0 = asks_seat (seat_of (Works (Dequeuing (TakeNumber c.args.head c.args.next))) post desk) h refl c.load_cell.ensures in
    let x0 = c.step-number.ensures.steps _ a0 in
    let a1 = asks_seat (seat_of (Works (Dequeuing (TakeValue c.args.head c.args.next c.step-number.result))) (stepped post) desk) (here_on h x0.leads) refl c.load_cell-2.ensures in
    let x1 = c.step-value.ensures.steps _ a1 in
    let last = seat_of (Works (Dequeuing (ExchangeHead c.args.head c.args.next c.step-number.result c.step-value.result))) (stepped (stepped post)) desk in
    let x2 = c.step-found.ensures.steps _ (asks_seat last (here_on a1.here x1.leads) refl c.move_head.ensures) in
    let moved = ap (λ (p : Post). seat_after (taken c.args.head c.args.next c.step-number.result c.step-value.result p (kept_desk desk) (c.step-found.result == c.args.head + 1))) (at_steps post (post.steps + 1 + 1 + 1) (post.steps + 3) (three post.steps)) in
    let left : Post = record post { steps = post.steps + 3 } in
    then_leads (then_leads x0.leads x1.leads) (leads_as _ _ (moved ∙ is_lost c.args.head c.args.next c.step-number.result c.step-value.result c.step-found.result left desk c.if-found-head.true) x2.leads)

pub returns-clause-same : goal.returns-clause-same
returns-clause-same g c = g.W.Words.same_on _ _ _ (g.W.Words.same_on _ _ _ c.step-number.ensures.same c.step-value.ensures.same) c.step-found.ensures.same

pub returns-clause-leads : goal.returns-clause-leads
returns-clause-leads g c = λ desk h.
    let post : Post = c.args.post.now in
    let a0 = asks_seat (seat_of (Works (Dequeuing (TakeNumber c.args.head c.args.next))) post desk) h refl c.load_cell.ensures in
    let x0 = c.step-number.ensures.steps _ a0 in
    let a1 = asks_seat (seat_of (Works (Dequeuing (TakeValue c.args.head c.args.next c.step-number.result))) (stepped post) desk) (here_on h x0.leads) refl c.load_cell-2.ensures in
    let x1 = c.step-value.ensures.steps _ a1 in
    let last = seat_of (Works (Dequeuing (ExchangeHead c.args.head c.args.next c.step-number.result c.step-value.result))) (stepped (stepped post)) desk in
    let x2 = c.step-found.ensures.steps _ (asks_seat last (here_on a1.here x1.leads) refl c.move_head.ensures) in
    let moved = ap (λ (p : Post). seat_after (taken c.args.head c.args.next c.step-number.result c.step-value.result p (kept_desk desk) (c.step-found.result == c.args.head + 1))) (at_steps post (post.steps + 1 + 1 + 1) (post.steps + 3) (three post.steps)) in
    let left : Post = record post { steps = post.steps + 3 } in
    then_leads (then_leads x0.leads x1.leads) (leads_as _ _ (moved ∙ is_taken c.args.head c.args.next c.step-number.result c.step-value.result c.step-found.result left desk c.if-found-head.false) x2.leads)
