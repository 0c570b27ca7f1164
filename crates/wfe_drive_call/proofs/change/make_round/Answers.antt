-- The row is read, and then the change is refused or made.
use Rattle.std.proofs.Common.{refl}
use Rattle.wfe_core.specs.DeskHeld.{desk_of}
use Rattle.wfe_drive_runs.proofs.drive_words.Leading.{here_on, leads_as, then_leads}
use Rattle.wfe_drive_call.specs.Changing.{kept_of}
use Rattle.wfe_drive_call.proofs.RowFilling.{decided, refuses}
use Rattle.wfe_drive_call.proofs.change.make_round.Goals as goal

pub returns-in-Some-clause-leads : goal.returns-in-Some-clause-leads
returns-in-Some-clause-leads g c =
    leads_as _ _ (refuses (kept_of c.begin_round.new.kept) c.begin_round.new.post (desk_of c.begin_round.new.desk) c.in-Some.answer c.in-Some.ensures) c.begin_round.ensures.leads

pub fill_row-requires-clause-here : goal.fill_row-requires-clause-here
fill_row-requires-clause-here g c =
    here_on c.requires.here (leads_as _ _ (decided (kept_of c.begin_round.new.kept) _ c.begin_round.new.post (desk_of c.begin_round.new.desk) c.in-None.ensures refl) c.begin_round.ensures.leads)

pub returns-in-None-clause-leads : goal.returns-in-None-clause-leads
returns-in-None-clause-leads g c =
    then_leads (leads_as _ _ (decided (kept_of c.begin_round.new.kept) _ c.begin_round.new.post (desk_of c.begin_round.new.desk) c.in-None.ensures refl) c.begin_round.ensures.leads) c.fill_row.ensures.leads

pub returns-in-None-clause-same : goal.returns-in-None-clause-same
returns-in-None-clause-same g c = g.W.Words.same_on _ _ _ c.begin_round.ensures.same c.fill_row.ensures.same
