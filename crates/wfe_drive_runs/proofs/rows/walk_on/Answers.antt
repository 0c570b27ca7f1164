-- The machine goes on from where the walk stands, or the walk is over.
use Rattle.std.proofs.Common.{ap, inl, inr, refl, sym, ◌∙◌, ◌≡◌}
use Rattle.wfe_core.specs.Calls.{Runs}
use Rattle.wfe_core.specs.DeskHeld.{desk_of}
use Rattle.wfe_core.specs.Desks.{Desk}
use Rattle.wfe_core.specs.Phases.{Base, Turn}
use Rattle.wfe_core.specs.Steps.{run_turn}
use Rattle.wfe_core.specs.declared.post.Post.{Post}
use Rattle.wfe_drive_words.specs.drive_cells.Unit.{seat_after}
use Rattle.wfe_drive_runs.specs.Pieces.{seat_of}
use Rattle.wfe_slots.specs.Phases.{allocate_phase}
use Rattle.wfe_drive_words.proofs.Leading.{here_as}
use Rattle.wfe_drive_runs.proofs.Turning.{ends_from}
use Rattle.wfe_drive_runs.proofs.rows.walk_on.Goals as goal

pub run-requires-clause-here : goal.run-requires-clause-here
run-requires-clause-here g c =
    let (why, h) = c.requires.here in
    let desk : Desk = desk_of c.args.desk.now in
    let base : Base = allocate_phase c.in-Ok.machine in
    let is = ap (λ (u : Turn). seat_after (run_turn why desk u)) c.in-Ok.ensures.goes.0 ∙ ap (λ (p : Post). seat_of (Runs why base) p desk) (sym c.walk_past.ensures.post) in
    (why, here_as _ _ is h)

pub returns-in-Ok-clause-standing : goal.returns-in-Ok-clause-standing
returns-in-Ok-clause-standing g c = c.run.ensures.walks c.in-Ok.ensures.goes.1 ∙ ap (λ (p : Post). p.standing) c.walk_past.ensures.post

pub returns-in-Ok-clause-ends : goal.returns-in-Ok-clause-ends
returns-in-Ok-clause-ends g c = λ why h.
    let desk : Desk = desk_of c.args.desk.now in
    let base : Base = allocate_phase c.in-Ok.machine in
    let is = ap (λ (u : Turn). seat_after (run_turn why desk u)) c.in-Ok.ensures.goes.0 ∙ ap (λ (p : Post). seat_of (Runs why base) p desk) (sym c.walk_past.ensures.post) in
    inr (ends_from _ _ (sym is) (c.run.ensures.ends why (here_as _ _ is h)))

pub returns-in-Err-clause-ends : goal.returns-in-Err-clause-ends
returns-in-Err-clause-ends g c = λ why h. inl (refl, c.walk_past.ensures.post, refl, c.in-Err.ensures.ends.0)
