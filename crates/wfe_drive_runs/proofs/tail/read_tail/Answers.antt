-- Both words are of the tail's row.
use Rattle.std.proofs.Common.{ap, arith, refl, ◌+◌, ◌<◌, ◌^◌, ◌==◌}
use Rattle.wfe_core.specs.Calls.{Enqueuing, LoadNext, LoadNumber, Works}
use Rattle.wfe_core.specs.Enqueue.{at_next}
use Rattle.wfe_core.specs.Ready.{LinkFits}
use Rattle.wfe_core.specs.declared.post.Post.{Post}
use Rattle.wfe_drive_runs.specs.Items.{kept_of}
use Rattle.wfe_drive_words.specs.drive_cells.Unit.{kept_desk, seat_after}
use Rattle.wfe_drive_words.specs.Path.{stepped}
use Rattle.wfe_drive_runs.specs.Pieces.{seat_of}
use Rattle.wfe_drive_runs.proofs.Appending.{at_steps, two}
use Rattle.wfe_drive_words.proofs.Leading.{few_here, here_on, leads_as, then_leads}
use Rattle.wfe_drive_runs.proofs.Turning.{asks_seat, may_here}
use Rattle.wfe_drive_runs.proofs.tail.read_tail.Goals as goal

pub step-number-requires-clause-asks : goal.step-number-requires-clause-asks
step-number-requires-clause-asks g c =
    let (desk, h) = c.requires.here in
    (_, asks_seat (seat_of (Works (Enqueuing (kept_of c.args.item.now) LoadNumber)) c.args.post.now desk) h refl c.load_cell.ensures)

pub step-next-requires-clause-asks : goal.step-next-requires-clause-asks
step-next-requires-clause-asks g c =
    let (desk, h) = c.requires.here in
    let post : Post = c.args.post.now in
    let kept = kept_of c.args.item.now in
    let a0 = asks_seat (seat_of (Works (Enqueuing kept LoadNumber)) post desk) h refl c.load_cell.ensures in
    let x0 = c.step-number.ensures.steps _ a0 in
    (_, asks_seat (seat_of (Works (Enqueuing (record kept { number = c.step-number.result }) LoadNext)) (stepped post) desk) (here_on h x0.leads) refl c.load_cell-2.ensures)

pub overflow_cast-next : goal.overflow_cast-next
overflow_cast-next g c =
    let (desk, h) = c.requires.here in
    let post : Post = c.args.post.now in
    let kept = kept_of c.args.item.now in
    let a0 = asks_seat (seat_of (Works (Enqueuing kept LoadNumber)) post desk) h refl c.load_cell.ensures in
    let x0 = c.step-number.ensures.steps _ a0 in
    let a1 = asks_seat (seat_of (Works (Enqueuing (record kept { number = c.step-number.result }) LoadNext)) (stepped post) desk) (here_on h x0.leads) refl c.load_cell-2.ensures in
    let fits : LinkFits post c.step-next.result = (c.step-next.ensures.steps _ a1).take.plausible in
    omega (arith, fits, (may_here (g.W.Words.comes c.args.words.now) c.requires.valid h).valid.bounds.slots)

pub overflow_add-post : goal.overflow_add-post
overflow_add-post g c =
    let (desk, h) = c.requires.here in
    let few : c.args.post.now.steps < 2 ^ 62 = few_here (g.W.Words.comes c.args.words.now) c.requires.valid h refl in
    omega (arith, few)

pub returns-clause-leads : goal.returns-clause-leads
returns-clause-leads g c = λ desk h.
    let post : Post = c.args.post.now in
    let kept = kept_of c.args.item.now in
    let read = record kept { number = c.step-number.result } in
    let a0 = asks_seat (seat_of (Works (Enqueuing kept LoadNumber)) post desk) h refl c.load_cell.ensures in
    let x0 = c.step-number.ensures.steps _ a0 in
    let a1 = asks_seat (seat_of (Works (Enqueuing read LoadNext)) (stepped post) desk) (here_on h x0.leads) refl c.load_cell-2.ensures in
    let x1 = c.step-next.ensures.steps _ a1 in
    leads_as _ _ (ap (λ (p : Post). seat_after (at_next read c.step-next.result p (kept_desk desk) (c.step-next.result == 0))) (at_steps post (post.steps + 1 + 1) (post.steps + 2) (two post.steps))) (then_leads x0.leads x1.leads)
