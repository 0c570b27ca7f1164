-- The protection is the state's; then the head is loaded again.
use Rattle.std.proofs.Common.{Option, Some, ap, refl, sym, ℕ, ◌≡◌}
use Rattle.wfe_core.specs.Calls.{Runs, Why}
use Rattle.wfe_core.specs.Dequeue.{follow_base}
use Rattle.wfe_core.specs.DeskHeld.{desk_of}
use Rattle.wfe_core.specs.Desks.{Desk}
use Rattle.wfe_core.specs.defs.declared.event.Root.TheVariants.{Next}
use Rattle.wfe_core.specs.defs.declared.lifetime.Interval.{Interval}
use Rattle.wfe_core.specs.Phases.ProtectAt.{LoadWithin}
use Rattle.wfe_core.specs.declared.post.Post.{Post}
use Rattle.wfe_core.specs.words.declared.config.SchemeKind.TheVariants.{Ibr}
use Rattle.wfe_drive_words.specs.Path.{protecting, spanned}
use Rattle.wfe_drive_runs.specs.Following.{followed_trial}
use Rattle.wfe_drive_runs.specs.Pieces.{seat_of}
use Rattle.wfe_drive_words.proofs.Leading.{few_here, here_as, here_on, leads_from}
use Rattle.wfe_drive_runs.proofs.Turning.{leads_so_after, may_here}
use Rattle.wfe_drive_runs.proofs.follow.follow_ibr.Goals as goal

-- the seat's interval is the one that stands
within : (why : Why) (desk : Desk) (parent : ℕ) (post : Post) (span : Interval) → post.span ≡ Some span
    → seat_of (Runs why (follow_base Ibr parent)) post desk ≡ protecting (followed_trial why desk 0 post.steps) 1 (Next parent) LoadWithin (spanned post span.lo span.hi)
within why desk parent post span e = ap (λ (held : Option Interval). seat_of (Runs why (follow_base Ibr parent)) (record post { span = held }) desk) e

pub protect_within-guarded-requires-clause-own : goal.protect_within-guarded-requires-clause-own
protect_within-guarded-requires-clause-own g c =
    let (why, h) = c.requires.here in
    (may_here (g.W.Words.comes c.args.words.now) c.requires.valid h).valid

pub protect_within-guarded-requires-clause-root : goal.protect_within-guarded-requires-clause-root
protect_within-guarded-requires-clause-root g c =
    let (why, h) = c.requires.here in
    (may_here (g.W.Words.comes c.args.words.now) c.requires.valid h).ready.0.1

pub protect_within-guarded-requires-clause-here : goal.protect_within-guarded-requires-clause-here
protect_within-guarded-requires-clause-here g c =
    let (why, h) = c.requires.here in
    (followed_trial why (desk_of c.args._desk.now) 0 c.args.post.now.steps, 1, here_as _ _ (within why (desk_of c.args._desk.now) c.args.parent c.args.post.now c.unwrap-span.result c.unwrap-span.ensures) h)

pub follow_link-requires-clause-few : goal.follow_link-requires-clause-few
follow_link-requires-clause-few g c =
    let (why, h) = c.requires.here in
    few_here (g.W.Words.comes c.args.words.now) c.requires.valid h refl

pub follow_link-requires-clause-here : goal.follow_link-requires-clause-here
follow_link-requires-clause-here g c =
    let (why, h) = c.requires.here in
    let is = within why (desk_of c.args._desk.now) c.args.parent c.args.post.now c.unwrap-span.result c.unwrap-span.ensures in
    let (n, x) = c.protect_within-guarded.ensures.leads (followed_trial why (desk_of c.args._desk.now) 0 c.args.post.now.steps) 1 (here_as _ _ is h) in
    (why, n, here_on (here_as _ _ is h) x)

pub returns-clause-leads : goal.returns-clause-leads
returns-clause-leads g c = λ why h.
    let is = within why (desk_of c.args._desk.now) c.args.parent c.args.post.now c.unwrap-span.result c.unwrap-span.ensures in
    let (n, x) = c.protect_within-guarded.ensures.leads (followed_trial why (desk_of c.args._desk.now) 0 c.args.post.now.steps) 1 (here_as _ _ is h) in
    leads_so_after (leads_from _ _ (sym is) x) (c.follow_link.ensures.leads why n (here_on (here_as _ _ is h) x))
