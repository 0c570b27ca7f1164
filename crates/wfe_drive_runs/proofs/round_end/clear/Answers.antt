-- The store is the step, and what it tells is not noted.
use Rattle.std.proofs.Common.{arith, refl, ◌<◌, ◌^◌}
use Rattle.wfe_core.specs.Calls.{Runs}
use Rattle.wfe_core.specs.Phases.Base.{Clear}
use Rattle.wfe_core.specs.Posts.{stands}
use Rattle.wfe_core.specs.Rounds.{scheme_of}
use Rattle.wfe_core.specs.words.Schemes.{publishes_rows}
use Rattle.wfe_drive_words.specs.drive_cells.Unit.{kept_desk}
use Rattle.wfe_drive_words.specs.Path.{stepped}
use Rattle.wfe_drive_runs.specs.Pieces.{seat_of}
use Rattle.wfe_drive_runs.proofs.Closing.{clear_quiet}
use Rattle.wfe_drive_words.proofs.Getting.{clear_stores}
use Rattle.wfe_drive_words.proofs.Leading.{few_here}
use Rattle.wfe_drive_runs.proofs.Turning.{asks_seat, may_here, turns_once}
use Rattle.wfe_drive_runs.proofs.round_end.clear.Goals as goal

pub publish_as-requires-clause-valid : goal.publish_as-requires-clause-valid
publish_as-requires-clause-valid g c =
    let (why, desk, h) = c.requires.here in
    (may_here (g.W.Words.comes c.args.words.now) c.requires.valid h).valid

pub publish_as-requires-clause-index : goal.publish_as-requires-clause-index
publish_as-requires-clause-index g c =
    let (why, desk, h) = c.requires.here in
    (may_here (g.W.Words.comes c.args.words.now) c.requires.valid h).ready.0

pub step-requires-clause-asks : goal.step-requires-clause-asks
step-requires-clause-asks g c =
    let (why, desk, h) = c.requires.here in
    (_, asks_seat (seat_of (Runs why (Clear (publishes_rows (scheme_of c.args.post.now)) c.args.index)) c.args.post.now desk) h refl (clear_stores c.args.post.now c.args.post.now c.args.index c.publishes_rows.result c.publish_as.result refl c.publishes_rows.ensures c.publish_as.ensures))

pub bounds-post-index : goal.bounds-post-index
bounds-post-index g c =
    let (why, desk, h) = c.requires.here in
    let may = may_here (g.W.Words.comes c.args.words.now) c.requires.valid h in
    omega (arith, may.ready.0, may.valid.bounds.indexes, may.valid.all_standing)

pub overflow_add-post : goal.overflow_add-post
overflow_add-post g c =
    let (why, desk, h) = c.requires.here in
    let few : c.args.post.now.steps < 2 ^ 62 = few_here (g.W.Words.comes c.args.words.now) c.requires.valid h refl in
    omega (arith, few)

pub returns-clause-turns : goal.returns-clause-turns
returns-clause-turns g c = λ why desk h.
    let seat = seat_of (Runs why (Clear (publishes_rows (scheme_of c.args.post.now)) c.args.index)) c.args.post.now desk in (
      _,
      clear_quiet (kept_desk desk) c.args.index (stands c.args.post.now c.args.index) (publishes_rows (scheme_of c.args.post.now)) (stepped c.args.post.now),
      turns_once seat (c.step.ensures.steps _ (asks_seat seat h refl (clear_stores c.args.post.now c.args.post.now c.args.index c.publishes_rows.result c.publish_as.result refl c.publishes_rows.ensures c.publish_as.ensures))),
    )
