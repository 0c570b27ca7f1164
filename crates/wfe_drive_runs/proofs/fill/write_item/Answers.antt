-- Three stores, each of the next place.
use Rattle.std.proofs.Common.{[], ap, arith, refl, ◌<◌, ◌^◌}
use Rattle.wfe_core.specs.Calls.{Runs}
use Rattle.wfe_core.specs.Phases.{QueueRow}
use Rattle.wfe_core.specs.Phases.Base.{Write}
use Rattle.wfe_core.specs.Phases.Ending.{Done}
use Rattle.wfe_core.specs.Steps.{resume}
use Rattle.wfe_core.specs.declared.post.Post.{Post}
use Rattle.wfe_drive_words.specs.Path.{stepped}
use Rattle.wfe_drive_words.specs.drive_cells.Unit.{kept_desk}
use Rattle.wfe_drive_runs.specs.Pieces.{seat_of}
use Rattle.wfe_drive_words.proofs.Leading.{few_here, here_on, then_leads}
use Rattle.wfe_drive_words.proofs.Trying.{three}
use Rattle.wfe_drive_runs.proofs.Turning.{asks_seat, then_turns, turns_as, turns_once}
use Rattle.wfe_drive_runs.proofs.fill.write_item.Goals as goal

pub step-requires-clause-asks : goal.step-requires-clause-asks
step-requires-clause-asks g c =
    let (why, desk, h) = c.requires.here in
    (_, asks_seat (seat_of (Runs why (Write c.args.slot (QueueRow c.args.number c.args.value) 0)) c.args.post.now desk) h refl c.store_cell.ensures)

pub step-requires-2-clause-asks : goal.step-requires-2-clause-asks
step-requires-2-clause-asks g c =
    let (why, desk, h) = c.requires.here in
    let item = QueueRow c.args.number c.args.value in
    let a0 = asks_seat (seat_of (Runs why (Write c.args.slot item 0)) c.args.post.now desk) h refl c.store_cell.ensures in
    let x0 = c.step.ensures.steps _ a0 in
    (_, asks_seat (seat_of (Runs why (Write c.args.slot item 1)) (stepped c.args.post.now) desk) (here_on h x0.leads) refl c.store_cell-2.ensures)

pub step-requires-3-clause-asks : goal.step-requires-3-clause-asks
step-requires-3-clause-asks g c =
    let (why, desk, h) = c.requires.here in
    let item = QueueRow c.args.number c.args.value in
    let a0 = asks_seat (seat_of (Runs why (Write c.args.slot item 0)) c.args.post.now desk) h refl c.store_cell.ensures in
    let x0 = c.step.ensures.steps _ a0 in
    let a1 = asks_seat (seat_of (Runs why (Write c.args.slot item 1)) (stepped c.args.post.now) desk) (here_on h x0.leads) refl c.store_cell-2.ensures in
    let x1 = c.step-2.ensures.steps _ a1 in
    (_, asks_seat (seat_of (Runs why (Write c.args.slot item 2)) (stepped (stepped c.args.post.now)) desk) (here_on a1.here x1.leads) refl c.store_cell-3.ensures)

pub returns-clause-turns : goal.returns-clause-turns
returns-clause-turns g c = λ why desk h.
    let item = QueueRow c.args.number c.args.value in
    let post : Post = c.args.post.now in
    let a0 = asks_seat (seat_of (Runs why (Write c.args.slot item 0)) post desk) h refl c.store_cell.ensures in
    let x0 = c.step.ensures.steps _ a0 in
    let a1 = asks_seat (seat_of (Runs why (Write c.args.slot item 1)) (stepped post) desk) (here_on h x0.leads) refl c.store_cell-2.ensures in
    let x1 = c.step-2.ensures.steps _ a1 in
    let last = seat_of (Runs why (Write c.args.slot item 2)) (stepped (stepped post)) desk in
    let a2 = asks_seat last (here_on a1.here x1.leads) refl c.store_cell-3.ensures in
    let x2 = c.step-3.ensures.steps _ a2 in
    then_turns (then_leads x0.leads x1.leads) (turns_as _ _ (ap (λ (n : _). let p : Post = record post { steps = n } in resume why Done p (kept_desk desk) []) (three post.steps)) (turns_once last x2))

pub overflow_add-post : goal.overflow_add-post
overflow_add-post g c =
    let (why, desk, h) = c.requires.here in
    let few : c.args.post.now.steps < 2 ^ 62 = few_here (g.W.Words.comes c.args.words.now) c.requires.valid h refl in
    omega (arith, few)

pub returns-clause-same : goal.returns-clause-same
returns-clause-same g c = g.W.Words.same_on _ _ _ (g.W.Words.same_on _ _ _ c.step.ensures.same c.step-2.ensures.same) c.step-3.ensures.same
