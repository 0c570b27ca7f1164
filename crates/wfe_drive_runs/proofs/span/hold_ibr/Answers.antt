-- The protection is the state's, and what stands is what it leaves.
use Rattle.std.proofs.Common.{IsSome, Option, ap, refl, subst, sym, ◌≡◌, ℕ, Some}
use Rattle.wfe_core.specs.Calls.{Runs, Why}
use Rattle.wfe_core.specs.DeskHeld.{desk_of}
use Rattle.wfe_core.specs.Desks.{Desk}
use Rattle.wfe_core.specs.defs.declared.event.Root.{Root}
use Rattle.wfe_core.specs.defs.declared.lifetime.Interval.{Interval}
use Rattle.wfe_core.specs.Phases.ProtectAt.{LoadWithin}
use Rattle.wfe_core.specs.Rounds.{protect_base}
use Rattle.wfe_core.specs.declared.post.Post.{Post}
use Rattle.wfe_core.specs.words.declared.config.SchemeKind.TheVariants.{Ibr}
use Rattle.wfe_drive_words.specs.Path.{protecting, spanned}
use Rattle.wfe_drive_runs.specs.Pieces.{asked_trial, seat_of}
use Rattle.wfe_drive_runs.proofs.Holds.{stood_leads}
use Rattle.wfe_drive_words.proofs.Leading.{few_here, here_as, leads_from}
use Rattle.wfe_drive_runs.proofs.Spanning.{kept_stood, span_stood}
use Rattle.wfe_drive_runs.proofs.Turning.{may_here}
use Rattle.wfe_drive_runs.proofs.span.hold_ibr.Goals as goal

-- the seat's interval is the one that stands
within : (why : Why) (desk : Desk) (index : ℕ) (root : Root) (post : Post) (span : Interval) → post.span ≡ Some span
    → seat_of (Runs why (protect_base Ibr index root)) post desk ≡ protecting (asked_trial why desk 0 post.steps) index root LoadWithin (spanned post span.lo span.hi)
within why desk index root post span e = ap (λ (held : Option Interval). seat_of (Runs why (protect_base Ibr index root)) (record post { span = held }) desk) e

pub protect_within-guarded-requires-clause-own : goal.protect_within-guarded-requires-clause-own
protect_within-guarded-requires-clause-own g c =
    let (why, h) = c.requires.here in
    (may_here (g.W.Words.comes c.args.words.now) c.requires.valid h).valid

pub protect_within-guarded-requires-clause-root : goal.protect_within-guarded-requires-clause-root
protect_within-guarded-requires-clause-root g c =
    let (why, h) = c.requires.here in
    (may_here (g.W.Words.comes c.args.words.now) c.requires.valid h).ready.0.1

pub protect_within-guarded-requires-clause-here : goal.protect_within-guarded-requires-clause-here
protect_within-guarded-requires-clause-here g c =
    let (why, h) = c.requires.here in
    (asked_trial why (desk_of c.args._desk.now) 0 c.args.post.now.steps, c.args.index, here_as _ _ (within why (desk_of c.args._desk.now) c.args.index c.args.root c.args.post.now c.args.span c.requires.span) h)

pub stand-requires-clause-own : goal.stand-requires-clause-own
stand-requires-clause-own g c = c.protect_within-guarded.ensures.raised

pub stand-requires-clause-index : goal.stand-requires-clause-index
stand-requires-clause-index g c =
    let (why, h) = c.requires.here in
    (may_here (g.W.Words.comes c.args.words.now) c.requires.valid h).ready.0.0

pub stand-requires-clause-few : goal.stand-requires-clause-few
stand-requires-clause-few g c =
    let (why, h) = c.requires.here in
    few_here (g.W.Words.comes c.args.words.now) c.requires.valid h refl

pub returns-clause-kept : goal.returns-clause-kept
returns-clause-kept g c = kept_stood c.args.index c.protect_within-guarded.result.link _ c.stand.new.post c.stand.result c.stand.ensures.stood c.requires.early

pub returns-clause-spanned : goal.returns-clause-spanned
returns-clause-spanned g c = subst IsSome (sym (span_stood c.args.index c.protect_within-guarded.result.link _ c.stand.new.post c.stand.result c.stand.ensures.stood)) refl

pub returns-clause-leads : goal.returns-clause-leads
returns-clause-leads g c = λ why h.
    let is = within why (desk_of c.args._desk.now) c.args.index c.args.root c.args.post.now c.args.span c.requires.span in
    let (n, x) = c.protect_within-guarded.ensures.leads (asked_trial why (desk_of c.args._desk.now) 0 c.args.post.now.steps) c.args.index (here_as _ _ is h) in
    let guarded = c.protect_within-guarded.result in
    (guarded.era, stood_leads why c.args._desk.now c.args.index c.args.root n guarded.link guarded.era _ c.stand.new.post c.stand.result c.requires.outer c.stand.ensures.stood (leads_from _ _ (sym is) x))
