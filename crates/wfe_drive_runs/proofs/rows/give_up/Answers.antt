-- The one step is the last.
use Rattle.std.proofs.Common.{ap, refl, sym}
use Rattle.wfe_core.specs.Calls.{GivesUp, Runs}
use Rattle.wfe_core.specs.DeskHeld.{desk_of}
use Rattle.wfe_core.specs.Phases.{Base}
use Rattle.wfe_drive_words.specs.Called.{at_phase}
use Rattle.wfe_drive_words.proofs.Leading.{closes_as, closes_from, here_as}
use Rattle.wfe_drive_runs.proofs.Turning.{answered_so}
use Rattle.wfe_drive_runs.proofs.rows.give_up.Goals as goal

pub run-requires-clause-here : goal.run-requires-clause-here
run-requires-clause-here g c = (GivesUp c.args.answer, here_as _ _ (ap (λ (base : Base). at_phase (Runs (GivesUp c.args.answer) base) c.args.post.now c.args.desk.now) (sym c.new.ensures)) c.requires.here)

pub returns-clause-closes : goal.returns-clause-closes
returns-clause-closes g c =
    let is = ap (λ (base : Base). at_phase (Runs (GivesUp c.args.answer) base) c.args.post.now c.args.desk.now) (sym c.new.ensures) in
    let x = c.run.ensures.ends (GivesUp c.args.answer) (here_as _ _ is c.requires.here) in
    closes_from _ _ (sym is) (closes_as _ _ (answered_so c.args.answer c.run.new.post x.before x.told c.run.new.desk c.note_steps.new.desk x.noted (ap desk_of c.note_steps.ensures)) (x.turns.closes c.args.answer refl))
