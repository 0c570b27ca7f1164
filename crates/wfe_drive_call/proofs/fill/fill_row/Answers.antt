-- The pairs that the change leaves have room, and each end of the walk leads on.
use Rattle.std.proofs.Common.{ap, arith, sym}
use Rattle.wfe_core.specs.Calls.{ChangeKept, Next}
use Rattle.wfe_core.specs.Change.{filling}
use Rattle.wfe_core.specs.DeskHeld.{desk_of}
use Rattle.wfe_drive_runs.proofs.drive_words.Leading.{here_as, here_on, leads_as, leads_from, then_leads}
use Rattle.wfe_drive_call.specs.Changing.{clears_at, fills_at, kept_of}
use Rattle.wfe_drive_call.proofs.Standing.{ready_here}
use Rattle.wfe_drive_call.proofs.fill.fill_row.Goals as goal

pub change-requires : goal.change-requires
change-requires g c =
    let may = ready_here (g.W.Words.comes c.args.words.now) c.requires.valid c.requires.here in
    omega (arith, may.ready.1.0.pairs, may.valid.bounds.pairs)

pub row_for-requires-clause-here : goal.row_for-requires-clause-here
row_for-requires-clause-here g c = here_as _ _ (ap (λ (kept : ChangeKept). fills_at kept (filling kept) c.args.post.now (desk_of c.args.desk.now)) (sym c.change.ensures)) c.requires.here

pub link_row-requires-clause-here : goal.link_row-requires-clause-here
link_row-requires-clause-here g c =
    here_on (here_as _ _ (ap (λ (kept : ChangeKept). fills_at kept (filling kept) c.args.post.now (desk_of c.args.desk.now)) (sym c.change.ensures)) c.requires.here) c.in-Some.ensures.taken.1

pub returns-in-Some-clause-leads : goal.returns-in-Some-clause-leads
returns-in-Some-clause-leads g c =
    leads_from _ _ (ap (λ (kept : ChangeKept). fills_at kept (filling kept) c.args.post.now (desk_of c.args.desk.now)) c.change.ensures) (then_leads c.in-Some.ensures.taken.1 c.link_row.ensures.leads)

pub returns-in-None-clause-leads : goal.returns-in-None-clause-leads
returns-in-None-clause-leads g c =
    leads_from _ _ (ap (λ (kept : ChangeKept). fills_at kept (filling kept) c.args.post.now (desk_of c.args.desk.now)) c.change.ensures)
    (leads_as _ _ (ap (λ (next : Next). clears_at (kept_of c.row_for.new.kept) next c.row_for.new.post (desk_of c.row_for.new.desk)) (sym c.no_room.ensures)) c.in-None.ensures.taken)

pub returns-in-Some-clause-same : goal.returns-in-Some-clause-same
returns-in-Some-clause-same g c = g.W.Words.same_on _ _ _ c.in-Some.ensures.same c.link_row.ensures.same
