-- The index is cleared, and the row is retired.
use Rattle.std.proofs.Common.{subst, sym, ◌∙◌}
use Rattle.wfe_core.specs.defs.declared.call.Answer.{Answer}
use Rattle.wfe_core.specs.defs.declared.call.ClockMove.TheVariants.{Still}
use Rattle.wfe_core.specs.Calls.{Idle, Retiring}
use Rattle.wfe_core.specs.DeskHeld.{desk_of}
use Rattle.wfe_core.specs.Rounds.{with_clock}
use Rattle.wfe_drive_runs.specs.drive_words.Called.{at_phase}
use Rattle.wfe_drive_runs.specs.drive_words.Path.{Closes}
use Rattle.wfe_drive_runs.specs.Pieces.{clearing_at}
use Rattle.wfe_drive_runs.proofs.call_rounds.Leaves.{clock_after}
use Rattle.wfe_drive_runs.proofs.drive_words.Leading.{here_on, then_closes}
use Rattle.wfe_drive_call.proofs.Standing.{room_stays}
use Rattle.wfe_drive_call.proofs.ending.retire_cut.Goals as goal

pub close_round-requires-clause-here : goal.close_round-requires-clause-here
close_round-requires-clause-here g c =
    let (task, zero, here) = c.requires.here in
    (task, Retiring c.args.slot (with_clock c.args.answer Still), desk_of c.args.desk.now, zero, tt, here)

pub retire-clock-requires-clause-here : goal.retire-clock-requires-clause-here
retire-clock-requires-clause-here g c =
    let (task, zero, here) = c.requires.here in
    let t = c.close_round.ensures.turns task (Retiring c.args.slot (with_clock c.args.answer Still)) (desk_of c.args.desk.now) zero tt here in
    (with_clock c.args.answer Still, clock_after c.args.answer Still Still, here_on here t.leads)

pub retire-clock-requires-clause-room : goal.retire-clock-requires-clause-room
retire-clock-requires-clause-room g c = room_stays c.close_round.ensures.layout c.requires.room

pub returns-clause-closes : goal.returns-clause-closes
returns-clause-closes g c = λ task zero here.
    let words = g.W.Words in
    let old = c.args.words.now in
    let new = c.retire-clock.new.words in
    let t = c.close_round.ensures.turns task (Retiring c.args.slot (with_clock c.args.answer Still)) (desk_of c.args.desk.now) zero tt here in
    subst
    (λ (answer : Answer). Closes answer (words.at old) (words.at new) (words.stands old) (words.stands new) (clearing_at task (Retiring c.args.slot (with_clock c.args.answer Still)) c.args.post.now (desk_of c.args.desk.now)) (at_phase Idle c.retire-clock.new.post c.retire-clock.new.desk))
    (clock_after c.args.answer Still c.retire-clock.result ∙ sym c.with_clock.ensures)
    (then_closes t.leads (c.retire-clock.ensures.closes (with_clock c.args.answer Still) (clock_after c.args.answer Still Still) (here_on here t.leads)))
