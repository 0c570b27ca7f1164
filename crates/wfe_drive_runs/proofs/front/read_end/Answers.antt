-- The protection of the next link comes after it.
use Rattle.std.proofs.Common.{arith, refl, ◌<◌, ◌^◌}
use Rattle.wfe_core.specs.Calls.{Dequeuing, LoadTail, Works}
use Rattle.wfe_drive_runs.specs.Pieces.{seat_of}
use Rattle.wfe_drive_words.proofs.Leading.{few_here}
use Rattle.wfe_drive_runs.proofs.Turning.{asks_seat, may_here}
use Rattle.wfe_drive_runs.proofs.front.read_end.Goals as goal

pub load_end-requires : goal.load_end-requires
load_end-requires g c =
    let (desk, h) = c.requires.here in
    (may_here (g.W.Words.comes c.args.words.now) c.requires.valid h).valid

pub step-tail-requires-clause-asks : goal.step-tail-requires-clause-asks
step-tail-requires-clause-asks g c =
    let (desk, h) = c.requires.here in
    (_, asks_seat (seat_of (Works (Dequeuing (LoadTail c.args._head))) c.args.post.now desk) h refl c.load_end.ensures)

pub overflow_add-post : goal.overflow_add-post
overflow_add-post g c =
    let (desk, h) = c.requires.here in
    let few : c.args.post.now.steps < 2 ^ 62 = few_here (g.W.Words.comes c.args.words.now) c.requires.valid h refl in
    omega (arith, few)

pub returns-clause-leads : goal.returns-clause-leads
returns-clause-leads g c = λ desk h.
    (c.step-tail.ensures.steps _ (asks_seat (seat_of (Works (Dequeuing (LoadTail c.args._head))) c.args.post.now desk) h refl c.load_end.ensures)).leads
