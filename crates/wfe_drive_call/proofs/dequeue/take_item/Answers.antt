-- The head's row is held, and the round goes on as it was found.
use Rattle.std.proofs.Common.{refl}
use Rattle.wfe_core.specs.Calls.{Dequeues}
use Rattle.wfe_core.specs.DeskHeld.{desk_of}
use Rattle.wfe_drive_runs.specs.call_rounds.Endings.{next_of}
use Rattle.wfe_drive_call.proofs.Taking.{head_held, head_null}
use Rattle.wfe_drive_runs.proofs.Followings.{room_as}
use Rattle.wfe_drive_runs.proofs.drive_words.Leading.{here_on, then_leads}
use Rattle.wfe_drive_call.proofs.dequeue.take_item.Goals as goal

pub open_round-requires-clause-here : goal.open_round-requires-clause-here
open_round-requires-clause-here g c = (Dequeues, (refl, refl), c.requires.here)

pub returns-in-Some-clause-room : goal.returns-in-Some-clause-room
returns-in-Some-clause-room g c = room_as c.close_next.ensures.layout c.take_next-ending.ensures.room

pub take_next-ending-requires-clause-here : goal.take_next-ending-requires-clause-here
take_next-ending-requires-clause-here g c =
    let first = c.requires.here in
    let (era, x) = c.in-Some.ensures.leads Dequeues (refl, refl) first in
    let y = head_held c.in-Some.head era c.open_round.new.post c.open_round.new.desk x in
    here_on first y

pub close_next-requires-clause-here : goal.close_next-requires-clause-here
close_next-requires-clause-here g c =
    let first = c.requires.here in
    let (era, x) = c.in-Some.ensures.leads Dequeues (refl, refl) first in
    let y = head_held c.in-Some.head era c.open_round.new.post c.open_round.new.desk x in
    (next_of c.take_next-ending.result, desk_of c.take_next-ending.new.desk, here_on first (then_leads y c.take_next-ending.ensures.leads))

pub returns-in-Some-clause-same : goal.returns-in-Some-clause-same
returns-in-Some-clause-same g c = g.W.Words.same_on _ _ _ (g.W.Words.same_on _ _ _ c.open_round.ensures.same c.take_next-ending.ensures.same) c.close_next.ensures.same

pub returns-in-Some-clause-leads : goal.returns-in-Some-clause-leads
returns-in-Some-clause-leads g c =
    let first = c.requires.here in
    let (era, x) = c.in-Some.ensures.leads Dequeues (refl, refl) first in
    let y = head_held c.in-Some.head era c.open_round.new.post c.open_round.new.desk x in
    let w = then_leads y c.take_next-ending.ensures.leads in
    then_leads w (c.close_next.ensures.leads (next_of c.take_next-ending.result) (desk_of c.take_next-ending.new.desk) (here_on first w))

pub returns-in-None-clause-leads : goal.returns-in-None-clause-leads
returns-in-None-clause-leads g c =
    let first = c.requires.here in
    let (era, x) = c.in-None.ensures.leads Dequeues (refl, refl) first in
    head_null era c.open_round.new.post c.open_round.new.desk x
