-- Each ending, at the state that it is of.
use Rattle.std.proofs.Common.{ap, sym, ◌≡◌}
use Rattle.wfe_core.specs.Calls.{Task}
use Rattle.wfe_core.specs.DeskHeld.{desk_of}
use Rattle.wfe_core.specs.Desks.{Desk}
use Rattle.wfe_core.specs.declared.post.Post.{Post}
use Rattle.wfe_drive_runs.specs.Pieces.{clearing_at}
use Rattle.wfe_drive_runs.specs.call_rounds.Endings.{next_of}
use Rattle.wfe_drive_runs.specs.call_rounds.declared.ending.RoundEnd.{RoundEnd}
use Rattle.wfe_drive_runs.proofs.drive_words.Leading.{closes_from, here_as, leads_from}
use Rattle.wfe_drive_call.proofs.ending.end_round.Goals as goal

at-end : (task : Task) (post : Post) (desk : Desk) {a b : RoundEnd} → a ≡ b → clearing_at task (next_of a) post desk ≡ clearing_at task (next_of b) post desk
at-end task post desk e = ap (λ (end : RoundEnd). clearing_at task (next_of end) post desk) e

pub close_again-requires-clause-here : goal.close_again-requires-clause-here
close_again-requires-clause-here g c =
    let (task, zero, took, here) = c.requires.here in
    let desk = desk_of c.args.desk.now in
    (task, desk, zero, here_as _ _ (at-end task c.args.post.now desk c.in-Again.is) here)

pub returns-in-Again-clause-ends : goal.returns-in-Again-clause-ends
returns-in-Again-clause-ends g c = λ task zero took here.
    let desk = desk_of c.args.desk.now in
    let is = at-end task c.args.post.now desk c.in-Again.is in
    leads_from _ _ (sym is) (c.close_again.ensures.leads task desk zero (here_as _ _ is here))

pub make_room-requires-clause-here : goal.make_room-requires-clause-here
make_room-requires-clause-here g c =
    let (task, zero, took, here) = c.requires.here in
    (task, zero, here_as _ _ (at-end task c.args.post.now (desk_of c.args.desk.now) c.in-MakeRoom.is) here)

pub returns-in-MakeRoom-clause-ends : goal.returns-in-MakeRoom-clause-ends
returns-in-MakeRoom-clause-ends g c = λ task zero took here.
    let is = at-end task c.args.post.now (desk_of c.args.desk.now) c.in-MakeRoom.is in
    leads_from _ _ (sym is) (c.make_room.ensures.leads task zero (here_as _ _ is here))

pub answer_call-requires-clause-here : goal.answer_call-requires-clause-here
answer_call-requires-clause-here g c =
    let (task, zero, took, here) = c.requires.here in
    (task, zero, took, here_as _ _ (at-end task c.args.post.now (desk_of c.args.desk.now) c.in-Answers.is) here)

pub returns-in-Answers-clause-ends : goal.returns-in-Answers-clause-ends
returns-in-Answers-clause-ends g c = λ task zero took here.
    let is = at-end task c.args.post.now (desk_of c.args.desk.now) c.in-Answers.is in
    closes_from _ _ (sym is) (c.answer_call.ensures.closes task zero took (here_as _ _ is here))

pub retire_cut-requires-clause-here : goal.retire_cut-requires-clause-here
retire_cut-requires-clause-here g c =
    let (task, zero, took, here) = c.requires.here in
    (task, zero, here_as _ _ (at-end task c.args.post.now (desk_of c.args.desk.now) c.in-Retires.is) here)

pub returns-in-Retires-clause-ends : goal.returns-in-Retires-clause-ends
returns-in-Retires-clause-ends g c = λ task zero took here.
    let is = at-end task c.args.post.now (desk_of c.args.desk.now) c.in-Retires.is in
    closes_from _ _ (sym is) (c.retire_cut.ensures.closes task zero (here_as _ _ is here))
