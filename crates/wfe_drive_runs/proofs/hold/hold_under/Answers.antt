-- The protection is the state's, and what stands is what it leaves.
use Rattle.std.proofs.Common.{refl}
use Rattle.wfe_core.specs.DeskHeld.{desk_of}
use Rattle.wfe_drive_runs.specs.Pieces.{asked_trial}
use Rattle.wfe_drive_runs.proofs.Holds.{stood_leads}
use Rattle.wfe_drive_words.proofs.Leading.{few_here, here_on}
use Rattle.wfe_drive_runs.proofs.Turning.{leads_so_after, may_here}
use Rattle.wfe_drive_runs.proofs.hold.hold_under.Goals as goal

pub protect-requires-clause-own : goal.protect-requires-clause-own
protect-requires-clause-own g c =
    let (why, h) = c.requires.here in
    (may_here (g.W.Words.comes c.args.words.now) c.requires.valid h).valid

pub protect-requires-clause-index : goal.protect-requires-clause-index
protect-requires-clause-index g c =
    let (why, h) = c.requires.here in
    (may_here (g.W.Words.comes c.args.words.now) c.requires.valid h).ready.0.0

pub protect-requires-clause-root : goal.protect-requires-clause-root
protect-requires-clause-root g c =
    let (why, h) = c.requires.here in
    (may_here (g.W.Words.comes c.args.words.now) c.requires.valid h).ready.0.1

pub protect-requires-clause-here : goal.protect-requires-clause-here
protect-requires-clause-here g c =
    let (why, h) = c.requires.here in
    (asked_trial why (desk_of c.args.desk.now) 0 c.args.post.now.steps, h)

pub stand-requires-clause-own : goal.stand-requires-clause-own
stand-requires-clause-own g c =
    let (why, h) = c.requires.here in
    (may_here (g.W.Words.comes c.args.words.now) c.requires.valid h).valid

pub stand-requires-clause-index : goal.stand-requires-clause-index
stand-requires-clause-index g c =
    let (why, h) = c.requires.here in
    (may_here (g.W.Words.comes c.args.words.now) c.requires.valid h).ready.0.0

pub stand-requires-clause-few : goal.stand-requires-clause-few
stand-requires-clause-few g c =
    let (why, h) = c.requires.here in
    few_here (g.W.Words.comes c.args.words.now) c.requires.valid h refl

pub ask-requires-clause-here : goal.ask-requires-clause-here
ask-requires-clause-here g c =
    let (why, h) = c.requires.here in
    let (n, x) = c.in-Used.ensures.leads (asked_trial why (desk_of c.args.desk.now) 0 c.args.post.now.steps) h in
    (why, here_on h x)

pub returns-in-Within-clause-leads : goal.returns-in-Within-clause-leads
returns-in-Within-clause-leads g c = λ why h.
    let (n, x) = c.in-Within.ensures.leads (asked_trial why (desk_of c.args.desk.now) 0 c.args.post.now.steps) h in
    let guarded = c.in-Within.guarded in
    (guarded.era, stood_leads why c.args.desk.now c.args.index c.args.root n guarded.link guarded.era _ c.stand.new.post c.stand.result c.requires.outer c.stand.ensures.stood x)

pub returns-in-Used-clause-leads : goal.returns-in-Used-clause-leads
returns-in-Used-clause-leads g c = λ why h.
    let (n, x) = c.in-Used.ensures.leads (asked_trial why (desk_of c.args.desk.now) 0 c.args.post.now.steps) h in
    let (era, y) = c.ask.ensures.leads why (here_on h x) in
    (era, leads_so_after x y)
