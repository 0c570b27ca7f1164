-- First the move, and then the scan.
use Rattle.std.proofs.Common.{[], refl, ◌∙◌}
use Rattle.wfe_core.specs.DeskHeld.{desk_of}
use Rattle.wfe_core.specs.Steps.{after_move}
use Rattle.wfe_drive_words.proofs.Leading.{here_on}
use Rattle.wfe_drive_runs.proofs.Turning.{then_turns}
use Rattle.wfe_drive_runs.proofs.tidy_run.tidy.Goals as goal

pub scan-requires-clause-here : goal.scan-requires-clause-here
scan-requires-clause-here g c =
    let (later, still, h) = c.requires.here in
    (after_move later c.move_clock-clock.result, here_on h (c.move_clock-clock.ensures.leads later still h))

pub returns-clause-same : goal.returns-clause-same
returns-clause-same g c = g.W.Words.same_on _ _ _ c.move_clock-clock.ensures.same c.scan.ensures.same

pub returns-clause-ends : goal.returns-clause-ends
returns-clause-ends g c = λ later still h.
    let x = c.move_clock-clock.ensures.leads later still h in
    record { before = desk_of c.scan.new.desk; told = []; noted = refl; turns = then_turns x (c.scan.ensures.turns (after_move later c.move_clock-clock.result) (here_on h x)) }
