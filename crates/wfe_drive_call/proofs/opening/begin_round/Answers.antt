-- The root is protected, and leads to a row or to none.
use Rattle.std.proofs.Common.{refl, sym}
use Rattle.wfe_core.specs.Calls.{Changes}
use Rattle.wfe_drive_runs.proofs.drive_words.Leading.{here_on, leads_as, then_leads}
use Rattle.wfe_drive_call.specs.Changing.{kept_of}
use Rattle.wfe_drive_call.proofs.RoundOpening.{leads_to_none, leads_to_row, root_outer}
use Rattle.wfe_drive_call.proofs.Standing.{ready_here, room_stays}
use Rattle.wfe_drive_call.proofs.opening.begin_round.Goals as goal

pub root-root-requires : goal.root-root-requires
root-root-requires g c = (ready_here (g.W.Words.comes c.args.words.now) c.requires.valid c.requires.here).valid

pub open_round-requires-clause-outer : goal.open_round-requires-clause-outer
open_round-requires-clause-outer g c = root_outer (kept_of c.args.kept.now) c.args.post.now c.root-root.result c.root-root.ensures.root

pub open_round-requires-clause-here : goal.open_round-requires-clause-here
open_round-requires-clause-here g c = (Changes (kept_of c.args.kept.now), (refl, sym c.root-root.ensures.root), c.requires.here)

pub read_held-requires-clause-here : goal.read_held-requires-clause-here
read_held-requires-clause-here g c =
    let kept = kept_of c.args.kept.now in
    let (era, x) = c.in-Some.ensures.leads (Changes kept) (refl, sym c.root-root.ensures.root) c.requires.here in
    here_on c.requires.here (leads_as _ _ (leads_to_row kept c.in-Some.slot era c.open_round.new.post x.before x.told c.open_round.new.desk x.noted) x.leads)

pub returns-in-Some-clause-room : goal.returns-in-Some-clause-room
returns-in-Some-clause-room g c = room_stays c.read_held.ensures.layout c.in-Some.ensures.room

pub returns-in-Some-clause-leads : goal.returns-in-Some-clause-leads
returns-in-Some-clause-leads g c =
    let kept = kept_of c.args.kept.now in
    let (era, x) = c.in-Some.ensures.leads (Changes kept) (refl, sym c.root-root.ensures.root) c.requires.here in
    then_leads (leads_as _ _ (leads_to_row kept c.in-Some.slot era c.open_round.new.post x.before x.told c.open_round.new.desk x.noted) x.leads) c.read_held.ensures.leads

pub returns-in-None-clause-leads : goal.returns-in-None-clause-leads
returns-in-None-clause-leads g c =
    let kept = kept_of c.args.kept.now in
    let (era, x) = c.in-None.ensures.leads (Changes kept) (refl, sym c.root-root.ensures.root) c.requires.here in
    leads_as _ _ (leads_to_none kept (kept_of c.protected.new.self) era c.open_round.new.post x.before x.told c.open_round.new.desk x.noted c.protected.ensures) x.leads
