-- The row is filled and then linked.
use Rattle.wfe_core.specs.DeskHeld.{desk_of}
use Rattle.wfe_drive_runs.proofs.drive_words.Leading.{here_on, then_leads}
use Rattle.wfe_drive_call.proofs.enqueue.link_filled.Goals as goal

pub append-requires-clause-here : goal.append-requires-clause-here
append-requires-clause-here g c = (desk_of c.fill_item.new.desk, here_on c.requires.here c.in-Some.ensures.leads)

pub returns-in-Some-clause-same : goal.returns-in-Some-clause-same
returns-in-Some-clause-same g c = g.W.Words.same_on _ _ _ c.fill_item.ensures.same c.append.ensures.same

pub returns-in-Some-clause-leads : goal.returns-in-Some-clause-leads
returns-in-Some-clause-leads g c =
    let x = c.in-Some.ensures.leads in
    then_leads x (c.append.ensures.leads (desk_of c.fill_item.new.desk) (here_on c.requires.here x))
