-- The item is linked and the tail moved, or another item was linked before.
use Rattle.std.proofs.Common.{None, ap, arith, refl, ◌+◌, ◌<◌, ◌==◌, ◌^◌, ◌∙◌}
use Rattle.wfe_core.specs.Calls.{Answering, Enqueues, Enqueuing, ExchangeNext, ExchangeTail, Works}
use Rattle.wfe_core.specs.declared.post.Post.{Post}
use Rattle.wfe_core.specs.defs.declared.call.Answer.TheVariants as answers
use Rattle.wfe_drive_runs.specs.Items.{kept_of}
use Rattle.wfe_drive_words.specs.Path.{stepped}
use Rattle.wfe_drive_runs.specs.Pieces.{clearing_at, seat_of}
use Rattle.wfe_drive_runs.proofs.Appending.{at_steps, is_linked, is_lost, queued, two}
use Rattle.wfe_drive_words.proofs.Leading.{few_here, here_on, leads_as, then_leads}
use Rattle.wfe_drive_runs.proofs.Turning.{asks_seat, may_here}
use Rattle.wfe_drive_runs.proofs.tail.append.Goals as goal

pub link_next-requires-clause-valid : goal.link_next-requires-clause-valid
link_next-requires-clause-valid g c =
    let (desk, h) = c.requires.here in
    (may_here (g.W.Words.comes c.args.words.now) c.requires.valid h).valid

pub link_next-requires-clause-tail : goal.link_next-requires-clause-tail
link_next-requires-clause-tail g c =
    let (desk, h) = c.requires.here in
    (may_here (g.W.Words.comes c.args.words.now) c.requires.valid h).ready.0.tail

pub step-found-requires-clause-asks : goal.step-found-requires-clause-asks
step-found-requires-clause-asks g c =
    let (desk, h) = c.requires.here in
    (_, asks_seat (seat_of (Works (Enqueuing (kept_of c.args.item.now) (ExchangeNext c.args.slot))) c.args.post.now desk) h refl c.link_next.ensures)

pub returns-then-found-ne0-clause-leads : goal.returns-then-found-ne0-clause-leads
returns-then-found-ne0-clause-leads g c = λ desk h.
    let kept = kept_of c.args.item.now in
    let x = c.step-found.ensures.steps _ (asks_seat (seat_of (Works (Enqueuing kept (ExchangeNext c.args.slot))) c.args.post.now desk) h refl c.link_next.ensures) in
    leads_as _ _ (is_lost kept c.args.slot c.step-found.result (stepped c.args.post.now) desk c.if-found-ne0.true) x.leads

pub overflow_add-post : goal.overflow_add-post
overflow_add-post g c =
    let (desk, h) = c.requires.here in
    let few : c.args.post.now.steps < 2 ^ 62 = few_here (g.W.Words.comes c.args.words.now) c.requires.valid h refl in
    omega (arith, few)

pub overflow_add-slot : goal.overflow_add-slot
overflow_add-slot g c =
    let (desk, h) = c.requires.here in
    let may = may_here (g.W.Words.comes c.args.words.now) c.requires.valid h in
    omega (arith, may.ready.1.0, may.valid.bounds.slots)

pub move_tail-requires-clause-valid : goal.move_tail-requires-clause-valid
move_tail-requires-clause-valid g c =
    let (desk, h) = c.requires.here in
    (may_here (g.W.Words.comes c.args.words.now) c.requires.valid h).valid

pub move_tail-requires-clause-tail : goal.move_tail-requires-clause-tail
move_tail-requires-clause-tail g c =
    let (desk, h) = c.requires.here in
    (may_here (g.W.Words.comes c.args.words.now) c.requires.valid h).ready.0.tail

pub step-requires-clause-asks : goal.step-requires-clause-asks
step-requires-clause-asks g c =
    let (desk, h) = c.requires.here in
    let kept = kept_of c.args.item.now in
    let x0 = c.step-found.ensures.steps _ (asks_seat (seat_of (Works (Enqueuing kept (ExchangeNext c.args.slot))) c.args.post.now desk) h refl c.link_next.ensures) in
    let y0 = leads_as _ _ (is_linked kept c.args.slot c.step-found.result (stepped c.args.post.now) desk c.if-found-ne0.false) x0.leads in
    (_, asks_seat (seat_of (Works (Enqueuing (record kept { taken = None }) (ExchangeTail c.args.slot))) (stepped c.args.post.now) desk) (here_on h y0) refl c.move_tail.ensures)

pub overflow_add-post-2 : goal.overflow_add-post-2
overflow_add-post-2 g c =
    let (desk, h) = c.requires.here in
    let few : c.args.post.now.steps < 2 ^ 62 = few_here (g.W.Words.comes c.args.words.now) c.requires.valid h refl in
    omega (arith, few)

pub overflow_add-result : goal.overflow_add-result
overflow_add-result g c =
    let (desk, h) = c.requires.here in
    let may = may_here (g.W.Words.comes c.args.words.now) c.requires.valid h in
    omega (arith, may.ready.1.1, may.valid.bounds.versions)

pub returns-clause-leads : goal.returns-clause-leads
returns-clause-leads g c = λ desk h.
    let kept = kept_of c.args.item.now in
    let post : Post = c.args.post.now in
    let x0 = c.step-found.ensures.steps _ (asks_seat (seat_of (Works (Enqueuing kept (ExchangeNext c.args.slot))) post desk) h refl c.link_next.ensures) in
    let y0 = leads_as _ _ (is_linked kept c.args.slot c.step-found.result (stepped post) desk c.if-found-ne0.false) x0.leads in
    let linked = record kept { taken = None } in
    let x1 = c.step.ensures.steps _ (asks_seat (seat_of (Works (Enqueuing linked (ExchangeTail c.args.slot))) (stepped post) desk) (here_on h y0) refl c.move_tail.ensures) in
    let is = queued linked c.args.slot (c.step.result == c.args.item.now.tail + 1) (stepped (stepped post)) desk
    ∙ ap (λ (p : Post). clearing_at (Enqueues linked) (Answering (answers.Queued (kept.number + 1))) p desk) (at_steps post (post.steps + 1 + 1) (post.steps + 2) (two post.steps)) in
    then_leads y0 (leads_as _ _ is x1.leads)
