-- A call that begins is at its first step, and what its code has made the call has made.
use Rattle.std.proofs.Common.{ap, refl, ◌≡◌}
use Rattle.wfe_core.specs.Calls.{Idle}
use Rattle.wfe_core.specs.DeskHeld.{desk_of}
use Rattle.wfe_core.specs.Desks.{Desk, Notes, no_notes}
use Rattle.wfe_core.specs.declared.desk.Desk.{Desk as HeldDesk}
use Rattle.wfe_drive_runs.specs.drive_words.Called.{at_phase}
use Rattle.wfe_drive_runs.proofs.drive_words.Makes.{Over, called_by, here_begun, over_by, starts_at}
use Rattle.wfe_drive_call.proofs.drive.drive_call.Goals as goal

pub start-requires-clause-idle : goal.start-requires-clause-idle
start-requires-clause-idle g c = starts_at (g.W.Words.at c.args.words.now) c.args.post.now c.args.desk.now c.args.call c.requires.here c.requires.may

pub drive_begun-requires-clause-here : goal.drive_begun-requires-clause-here
drive_begun-requires-clause-here g c =
    let desk : HeldDesk = record c.args.desk.now { notes = c.clear.new.self } in
    let cleared : desk_of desk ≡ record (desk_of c.args.desk.now) { notes = no_notes } = ap (λ (notes : Notes). let held : Desk = record (desk_of c.args.desk.now) { notes = notes } in held) c.clear.ensures.empty in
    here_begun (g.W.Words.at c.args.words.now) (g.W.Words.at c.start.new.self) c.args.call c.args.post.now c.args.desk.now desk _ c.requires.here c.start.ensures.at c.requires.may c.requires.stays refl cleared

pub returns : goal.returns
returns g c =
    let words = g.W.Words in
    let desk : HeldDesk = record c.args.desk.now { notes = c.clear.new.self } in
    let cleared : desk_of desk ≡ record (desk_of c.args.desk.now) { notes = no_notes } = ap (λ (notes : Notes). let held : Desk = record (desk_of c.args.desk.now) { notes = notes } in held) c.clear.ensures.empty in
    let called =
    called_by (words.at c.args.words.now) (words.at c.start.new.self) (words.at c.drive_begun.new.words) (words.stands c.args.words.now) (words.stands c.start.new.self) (words.stands c.drive_begun.new.words) c.args.call c.drive_begun.result c.args.post.now c.args.desk.now desk _
    (at_phase Idle c.drive_begun.new.post c.drive_begun.new.desk) c.start.ensures.at c.requires.may c.start.ensures.stands refl cleared c.drive_begun.ensures.made in
    let over : Over (words.at c.drive_begun.new.words) c.args.call c.drive_begun.result c.args.post.now c.drive_begun.new.post c.drive_begun.new.desk =
    over_by (words.at c.args.words.now) (words.at c.drive_begun.new.words) (words.stands c.args.words.now) (words.stands c.drive_begun.new.words) c.args.call c.drive_begun.result c.args.post.now c.args.desk.now c.drive_begun.new.post c.drive_begun.new.desk c.requires.stays c.requires.here called in
    record {
      valid = c.drive_begun.ensures.valid;
      same = words.same_on _ _ _ c.start.ensures.same c.drive_begun.ensures.same;
      here = over.here;
      room = c.drive_begun.ensures.room;
      place = over.place;
      suits = over.suits;
      called = called;
    }
