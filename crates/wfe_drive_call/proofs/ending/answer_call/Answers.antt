-- The index is cleared. That answers, or a row is given up and that does.
use Rattle.std.proofs.Common.{ap, ◌∙◌}
use Rattle.wfe_core.specs.Calls.{Answering}
use Rattle.wfe_core.specs.DeskHeld.{desk_of}
use Rattle.wfe_drive_runs.proofs.drive_words.Leading.{here_on, then_closes}
use Rattle.wfe_drive_runs.proofs.Rounding.{answer_given, answer_gives_up}
use Rattle.wfe_drive_call.proofs.Standing.{room_stays}
use Rattle.wfe_drive_call.proofs.ending.answer_call.Goals as goal

pub close_round-requires-clause-here : goal.close_round-requires-clause-here
close_round-requires-clause-here g c =
    let (task, zero, took, here) = c.requires.here in
    (task, Answering c.args.answer, desk_of c.args.desk.now, zero, tt, here)

pub give_up-requires-clause-here : goal.give_up-requires-clause-here
give_up-requires-clause-here g c =
    let (task, zero, took, here) = c.requires.here in
    let t = c.close_round.ensures.turns task (Answering c.args.answer) (desk_of c.args.desk.now) zero tt here in
    here_on here (answer_gives_up task c.args.answer c.in-Some.slot c.close_round.new.post c.args.desk.now (took ∙ c.in-Some.is) t)

pub give_up-requires-clause-room : goal.give_up-requires-clause-room
give_up-requires-clause-room g c = room_stays c.close_round.ensures.layout c.requires.room

pub returns-in-Some-clause-closes : goal.returns-in-Some-clause-closes
returns-in-Some-clause-closes g c = λ task zero took here.
    let t = c.close_round.ensures.turns task (Answering c.args.answer) (desk_of c.args.desk.now) zero tt here in
    then_closes (answer_gives_up task c.args.answer c.in-Some.slot c.close_round.new.post c.args.desk.now (took ∙ c.in-Some.is) t) c.give_up.ensures.closes

pub returns-in-None-clause-closes : goal.returns-in-None-clause-closes
returns-in-None-clause-closes g c = λ task zero took here.
    let t = c.close_round.ensures.turns task (Answering c.args.answer) (desk_of c.args.desk.now) zero tt here in
    answer_given task c.args.answer c.close_round.new.post c.args.desk.now c.note_steps.new.desk (took ∙ c.in-None.is) (ap desk_of c.note_steps.ensures) t
