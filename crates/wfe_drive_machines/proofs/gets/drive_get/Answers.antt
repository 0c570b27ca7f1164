-- A get that begins is at its first step, and what its code has made the call has made.
use Rattle.std.proofs.Common.{ap, refl, ◌≡◌}
use Rattle.wfe_core.specs.defs.declared.call.Call.TheVariants as calls
use Rattle.wfe_core.specs.Calls.{Idle}
use Rattle.wfe_core.specs.DeskHeld.{desk_of}
use Rattle.wfe_core.specs.Desks.{Desk, Notes, no_notes}
use Rattle.wfe_core.specs.declared.desk.Desk.{Desk as HeldDesk}
use Rattle.wfe_drive_words.specs.Called.{at_phase}
use Rattle.wfe_drive_words.proofs.Makes.{Over, called_by, here_begun, over_by, starts_at}
use Rattle.wfe_drive_machines.proofs.gets.drive_get.Goals as goal

pub start-requires-clause-idle : goal.start-requires-clause-idle
start-requires-clause-idle g c = starts_at (g.W.Words.at c.args.words.now) c.args.post.now c.args.desk.now (calls.Get c.args.key) c.requires.here refl

pub get-requires-clause-here : goal.get-requires-clause-here
get-requires-clause-here g c =
    let desk : HeldDesk = record c.args.desk.now { notes = c.clear.new.self } in
    let cleared : desk_of desk ≡ record (desk_of c.args.desk.now) { notes = no_notes } = ap (λ (notes : Notes). let held : Desk = record (desk_of c.args.desk.now) { notes = notes } in held) c.clear.ensures.empty in
    here_begun (g.W.Words.at c.args.words.now) (g.W.Words.at c.start.new.self) (calls.Get c.args.key) c.args.post.now c.args.desk.now desk _ c.requires.here c.start.ensures.at refl refl refl cleared

pub returns : goal.returns
returns g c =
    let words = g.W.Words in
    let desk : HeldDesk = record c.args.desk.now { notes = c.clear.new.self } in
    let cleared : desk_of desk ≡ record (desk_of c.args.desk.now) { notes = no_notes } = ap (λ (notes : Notes). let held : Desk = record (desk_of c.args.desk.now) { notes = notes } in held) c.clear.ensures.empty in
    let called =
    called_by (words.at c.args.words.now) (words.at c.start.new.self) (words.at c.get.new.words) (words.stands c.args.words.now) (words.stands c.start.new.self) (words.stands c.get.new.words) (calls.Get c.args.key) c.get.result c.args.post.now c.args.desk.now desk _
    (at_phase Idle c.get.new.post c.get.new.desk) c.start.ensures.at refl c.start.ensures.stands refl cleared c.get.ensures.made in
    let over : Over (words.at c.get.new.words) (calls.Get c.args.key) c.get.result c.args.post.now c.get.new.post c.get.new.desk =
    over_by (words.at c.args.words.now) (words.at c.get.new.words) (words.stands c.args.words.now) (words.stands c.get.new.words) (calls.Get c.args.key) c.get.result c.args.post.now c.args.desk.now c.get.new.post c.get.new.desk refl c.requires.here called in
    record {
      valid = c.get.ensures.valid;
      same = words.same_on _ _ _ c.start.ensures.same c.get.ensures.same;
      here = over.here;
      room = c.get.ensures.room;
      place = over.place;
      suits = over.suits;
      called = called;
    }
