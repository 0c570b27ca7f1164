-- The store that ends the interval is the step.
use Rattle.wfe_core.specs.defs.declared.event.Event.{Event}
use Rattle.wfe_core.specs.declared.post.Post.{Post}
use Rattle.std.proofs.Common.{arith, refl, sym, ◌<◌, ◌^◌, None, slice_set, ◌+◌, List}
use Rattle.std.proofs.lemmas.List.{length-set}
use Rattle.wfe_core.specs.Calls.{Finishes, Runs}
use Rattle.wfe_core.specs.Phases.Base.{Finish}
use Rattle.wfe_core.specs.Posts.{reserves_span, withdrawn}
use Rattle.wfe_drive_words.specs.drive_cells.Unit.{kept_desk}
use Rattle.wfe_drive_runs.specs.Pieces.{seat_of}
use Rattle.wfe_drive_runs.proofs.Closing.{closed_noted, closed_outcome}
use Rattle.wfe_drive_words.proofs.Leading.{few_here, here_as}
use Rattle.wfe_drive_runs.proofs.Spanning.{finishes_is}
use Rattle.wfe_drive_runs.proofs.Turning.{asks_seat, may_here, turns_from, turns_once, turns_same}
use Rattle.wfe_drive_runs.proofs.span.close_span.Goals as goal

pub bounds-post-0 : goal.bounds-post-0
bounds-post-0 g c =
    let (task, next, desk, i, f, first) = c.requires.here in
    let h = here_as _ _ (finishes_is task next c.args.post.now desk i f c.requires.scheme c.requires.free) first in
    let may = may_here (g.W.Words.comes c.args.words.now) c.requires.valid h in
    omega (arith, may.valid.all_standing, length-set c.args.post.now.standing 0 None)

pub store_none-requires : goal.store_none-requires
store_none-requires g c =
    let (task, next, desk, i, f, first) = c.requires.here in
    let h = here_as _ _ (finishes_is task next c.args.post.now desk i f c.requires.scheme c.requires.free) first in
    (may_here (g.W.Words.comes c.args.words.now) c.requires.valid h).valid

pub step-requires-clause-asks : goal.step-requires-clause-asks
step-requires-clause-asks g c =
    let (task, next, desk, i, f, first) = c.requires.here in
    let h = here_as _ _ (finishes_is task next c.args.post.now desk i f c.requires.scheme c.requires.free) first in
    (_, asks_seat (seat_of (Runs (Finishes task next) Finish) (withdrawn c.args.post.now 0) desk) h refl c.store_none.ensures)

pub overflow_add-post : goal.overflow_add-post
overflow_add-post g c =
    let (task, next, desk, i, f, first) = c.requires.here in
    let h = here_as _ _ (finishes_is task next c.args.post.now desk i f c.requires.scheme c.requires.free) first in
    let few : c.args.post.now.steps < 2 ^ 62 = few_here (g.W.Words.comes c.args.words.now) c.requires.valid h refl in
    omega (arith, few)

pub returns-clause-turns : goal.returns-clause-turns
returns-clause-turns g c = λ task next desk i f first.
    let is = finishes_is task next c.args.post.now desk i f c.requires.scheme c.requires.free in
    let seat = seat_of (Runs (Finishes task next) Finish) (withdrawn c.args.post.now 0) desk in
    let x = turns_once seat (c.step.ensures.steps _ (asks_seat seat (here_as _ _ is first) refl c.store_none.ensures)) in
    let post : Post = record c.args.post.now { standing = slice_set c.args.post.now.standing 0 None; span = None; steps = c.args.post.now.steps + 1 } in
    let told : List Event = reserves_span c.args.post.now None in
    turns_from _ _ (sym is) (turns_same _ _ (closed_noted task next post (kept_desk desk) told) (closed_outcome task next post (kept_desk desk) (kept_desk desk) told) x)
