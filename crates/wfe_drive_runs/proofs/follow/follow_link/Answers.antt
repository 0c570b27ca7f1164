-- The link was null, or the head is loaded again.
use Rattle.wfe_core.specs.DeskHeld.{desk_of}
use Rattle.wfe_drive_runs.proofs.Holds.{follow_null, follow_reload}
use Rattle.wfe_drive_words.proofs.Leading.{here_on, leads_none}
use Rattle.wfe_drive_runs.proofs.Turning.{leads_so_after}
use Rattle.wfe_drive_runs.proofs.follow.follow_link.Goals as goal

pub returns-then-guarded-eq0-clause-leads : goal.returns-then-guarded-eq0-clause-leads
returns-then-guarded-eq0-clause-leads g c = λ why n h.
    let x = leads_none (g.W.Words.at c.args.words.now) (g.W.Words.stands c.args.words.now) _ in
    follow_null why c.args._desk.now c.args.parent n c.args.guarded.link c.args.guarded.era _ c.if-guarded-eq0.true x

pub reload-requires-clause-here : goal.reload-requires-clause-here
reload-requires-clause-here g c =
    let (why, n, h) = c.requires.here in
    let x = leads_none (g.W.Words.at c.args.words.now) (g.W.Words.stands c.args.words.now) _ in
    (why, c.args.guarded.era, n, here_on h (follow_reload why (desk_of c.args._desk.now) c.args.parent n c.args.guarded.link c.args.guarded.era _ c.if-guarded-eq0.false x))

pub returns-clause-leads : goal.returns-clause-leads
returns-clause-leads g c = λ why n h.
    let x = leads_none (g.W.Words.at c.args.words.now) (g.W.Words.stands c.args.words.now) _ in
    let y = follow_reload why (desk_of c.args._desk.now) c.args.parent n c.args.guarded.link c.args.guarded.era _ c.if-guarded-eq0.false x in
    leads_so_after y (c.reload.ensures.leads why c.args.guarded.era n (here_on h y))
