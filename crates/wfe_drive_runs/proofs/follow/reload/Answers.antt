-- The load of the head is the step.
use Rattle.std.proofs.Common.{Some, arith, refl, ◌<◌, ◌^◌}
use Rattle.wfe_core.specs.Calls.{Runs}
use Rattle.wfe_core.specs.Memory.{bump}
use Rattle.wfe_core.specs.Phases.Base.{Reload}
use Rattle.wfe_core.specs.Posts.{with_row}
use Rattle.wfe_drive_words.specs.Called.{at_phase}
use Rattle.wfe_drive_words.specs.Path.{stepped}
use Rattle.wfe_drive_runs.proofs.Holds.{reload_moved, reload_same}
use Rattle.wfe_drive_runs.proofs.Spanning.{kept_set}
use Rattle.wfe_drive_words.proofs.Leading.{few_here}
use Rattle.wfe_drive_runs.proofs.Turning.{asks_seat, may_here}
use Rattle.wfe_drive_runs.proofs.follow.reload.Goals as goal

pub load_head-requires : goal.load_head-requires
load_head-requires g c =
    let (why, era, n, h) = c.requires.here in
    (may_here (g.W.Words.comes c.args.words.now) c.requires.valid h).valid

pub step-seen-requires-clause-asks : goal.step-seen-requires-clause-asks
step-seen-requires-clause-asks g c =
    let (why, era, n, h) = c.requires.here in
    (_, asks_seat (at_phase (Runs why (Reload c.args.parent 1 c.args.slot era n)) c.args.post.now c.args._desk.now) h refl c.load_head.ensures)

pub overflow_add-post : goal.overflow_add-post
overflow_add-post g c =
    let (why, era, n, h) = c.requires.here in
    let few : c.args.post.now.steps < 2 ^ 62 = few_here (g.W.Words.comes c.args.words.now) c.requires.valid h refl in
    omega (arith, few)

pub returns-then-seen-parent-clause-leads : goal.returns-then-seen-parent-clause-leads
returns-then-seen-parent-clause-leads g c = λ why era n h.
    let x = c.step-seen.ensures.steps _ (asks_seat (at_phase (Runs why (Reload c.args.parent 1 c.args.slot era n)) c.args.post.now c.args._desk.now) h refl c.load_head.ensures) in
    reload_moved why c.args._desk.now c.args.parent c.args.slot (bump n) c.step-seen.result (stepped c.args.post.now) c.if-seen-parent.true x.leads

pub returns-clause-kept : goal.returns-clause-kept
returns-clause-kept g c = kept_set c.args.post.now (with_row (stepped c.args.post.now) 1 c.args.slot) 1 (Some c.args.slot) (omega arith) refl

pub returns-clause-within : goal.returns-clause-within
returns-clause-within g c =
    let (why, era, n, h) = c.requires.here in
    (may_here (g.W.Words.comes c.args.words.now) c.requires.valid h).ready.0.1

pub returns-clause-leads : goal.returns-clause-leads
returns-clause-leads g c = λ why era n h.
    let x = c.step-seen.ensures.steps _ (asks_seat (at_phase (Runs why (Reload c.args.parent 1 c.args.slot era n)) c.args.post.now c.args._desk.now) h refl c.load_head.ensures) in
    reload_same why c.args._desk.now c.args.parent c.args.slot (bump n) c.step-seen.result (stepped c.args.post.now) c.if-seen-parent.false x.leads
