-- The protection is the state's; then the head is loaded again.
use Rattle.std.proofs.Common.{refl}
use Rattle.wfe_core.specs.DeskHeld.{desk_of}
use Rattle.wfe_drive_runs.specs.Following.{followed_trial}
use Rattle.wfe_drive_words.proofs.Leading.{few_here, here_on}
use Rattle.wfe_drive_runs.proofs.Turning.{leads_so_after, may_here}
use Rattle.wfe_drive_runs.proofs.follow.follow_under.Goals as goal

pub protect-requires-clause-own : goal.protect-requires-clause-own
protect-requires-clause-own g c =
    let (why, h) = c.requires.here in
    (may_here (g.W.Words.comes c.args.words.now) c.requires.valid h).valid

pub protect-requires-clause-index : goal.protect-requires-clause-index
protect-requires-clause-index g c =
    let (why, h) = c.requires.here in
    (may_here (g.W.Words.comes c.args.words.now) c.requires.valid h).ready.0.0

pub protect-requires-clause-root : goal.protect-requires-clause-root
protect-requires-clause-root g c =
    let (why, h) = c.requires.here in
    (may_here (g.W.Words.comes c.args.words.now) c.requires.valid h).ready.0.1

pub protect-requires-clause-here : goal.protect-requires-clause-here
protect-requires-clause-here g c =
    let (why, h) = c.requires.here in
    (followed_trial why (desk_of c.args.desk.now) 0 c.args.post.now.steps, h)

pub follow_link-requires-clause-few : goal.follow_link-requires-clause-few
follow_link-requires-clause-few g c =
    let (why, h) = c.requires.here in
    few_here (g.W.Words.comes c.args.words.now) c.requires.valid h refl

pub follow_link-requires-clause-here : goal.follow_link-requires-clause-here
follow_link-requires-clause-here g c =
    let (why, h) = c.requires.here in
    let (n, x) = c.in-Within.ensures.leads (followed_trial why (desk_of c.args.desk.now) 0 c.args.post.now.steps) h in
    (why, n, here_on h x)

pub ask-requires-clause-here : goal.ask-requires-clause-here
ask-requires-clause-here g c =
    let (why, h) = c.requires.here in
    let (n, x) = c.in-Used.ensures.leads (followed_trial why (desk_of c.args.desk.now) 0 c.args.post.now.steps) h in
    (why, here_on h x)

pub returns-in-Within-clause-leads : goal.returns-in-Within-clause-leads
returns-in-Within-clause-leads g c = λ why h.
    let (n, x) = c.in-Within.ensures.leads (followed_trial why (desk_of c.args.desk.now) 0 c.args.post.now.steps) h in
    leads_so_after x (c.follow_link.ensures.leads why n (here_on h x))

pub returns-in-Used-clause-leads : goal.returns-in-Used-clause-leads
returns-in-Used-clause-leads g c = λ why h.
    let (n, x) = c.in-Used.ensures.leads (followed_trial why (desk_of c.args.desk.now) 0 c.args.post.now.steps) h in
    leads_so_after x (c.ask.ensures.leads why (here_on h x))
