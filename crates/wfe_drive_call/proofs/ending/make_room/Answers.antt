-- The index is cleared, the clock is moved and the list scanned, and a round begins.
use Rattle.std.proofs.Common.{refl, ◌∙◌}
use Rattle.wfe_core.specs.Calls.{MakeRoom, Repeated}
use Rattle.wfe_core.specs.DeskHeld.{desk_of}
use Rattle.wfe_drive_runs.proofs.drive_words.Leading.{here_on, then_leads}
use Rattle.wfe_drive_runs.proofs.Rounding.{room_made}
use Rattle.wfe_drive_runs.proofs.Spanning.{free_stays}
use Rattle.wfe_drive_call.proofs.Standing.{room_stays}
use Rattle.wfe_drive_call.proofs.ending.make_room.Goals as goal

pub close_round-requires-clause-here : goal.close_round-requires-clause-here
close_round-requires-clause-here g c =
    let (task, zero, here) = c.requires.here in
    (task, MakeRoom, desk_of c.args.desk.now, zero, tt, here)

pub tidy-requires-clause-here : goal.tidy-requires-clause-here
tidy-requires-clause-here g c =
    let (task, zero, here) = c.requires.here in
    let t = c.close_round.ensures.turns task MakeRoom (desk_of c.args.desk.now) zero tt here in
    (Repeated task, refl, here_on here t.leads)

pub tidy-requires-clause-room : goal.tidy-requires-clause-room
tidy-requires-clause-room g c = room_stays c.close_round.ensures.layout c.requires.room

pub returns-clause-layout : goal.returns-clause-layout
returns-clause-layout g c = c.tidy.ensures.layout ∙ c.close_round.ensures.layout

pub returns-clause-leads : goal.returns-clause-leads
returns-clause-leads g c = λ task zero here.
    let t = c.close_round.ensures.turns task MakeRoom (desk_of c.args.desk.now) zero tt here in
    let x = t.leads in
    then_leads x (room_made task c.tidy.result c.tidy.new.post c.tidy.new.desk (c.tidy.ensures.ends (Repeated task) refl (here_on here x)))

pub returns-clause-free : goal.returns-clause-free
returns-clause-free g c = free_stays c.close_round.new.post c.tidy.new.post c.tidy.ensures.layout c.tidy.ensures.standing c.close_round.ensures.free
