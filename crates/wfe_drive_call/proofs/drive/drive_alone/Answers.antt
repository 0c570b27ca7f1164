-- A call that begins is at its first step, and what its code has made the call has made.
use Rattle.std.proofs.Common.{ap, refl, subst, sym, true, ◌≡◌}
use Rattle.wfe_core.specs.defs.declared.call.Call.{Call}
use Rattle.wfe_core.specs.Calls.{Idle}
use Rattle.wfe_core.specs.DeskHeld.{desk_of}
use Rattle.wfe_core.specs.Desks.{Desk, Notes, no_notes}
use Rattle.wfe_core.specs.Locals.{may_begin}
use Rattle.wfe_core.specs.declared.desk.Desk.{Desk as HeldDesk}
use Rattle.wfe_drive_runs.specs.drive_words.Called.{at_phase}
use Rattle.wfe_drive_runs.proofs.drive_words.Makes.{Over, Starts, called_by, here_begun, over_by, starts_at}
use Rattle.wfe_drive_call.proofs.drive.drive_alone.Goals as goal

pub start-requires-clause-idle : goal.start-requires-clause-idle
start-requires-clause-idle g c =
    let may : may_begin c.args.post.now.layout.config c.call.result ≡ true = subst (λ (call : Call). may_begin c.args.post.now.layout.config call ≡ true) (sym c.call.ensures) (g.C.Alone.begins c.args.made c.args.post.now.layout.config) in
    starts_at (g.W.Words.at c.args.words.now) c.args.post.now c.args.desk.now c.call.result c.requires.here may

pub alone_begun-requires-clause-here : goal.alone_begun-requires-clause-here
alone_begun-requires-clause-here g c =
    let named = g.C.Alone.named c.args.made in
    let desk : HeldDesk = record c.args.desk.now { notes = c.clear.new.self } in
    let cleared : desk_of desk ≡ record (desk_of c.args.desk.now) { notes = no_notes } = ap (λ (notes : Notes). let held : Desk = record (desk_of c.args.desk.now) { notes = notes } in held) c.clear.ensures.empty in
    let starts = subst (Starts (g.W.Words.at c.args.words.now) (g.W.Words.at c.start.new.self)) c.call.ensures c.start.ensures.at in
    here_begun (g.W.Words.at c.args.words.now) (g.W.Words.at c.start.new.self) named c.args.post.now c.args.desk.now desk _ c.requires.here starts (g.C.Alone.begins c.args.made c.args.post.now.layout.config) (g.C.Alone.remains c.args.made) refl cleared

pub returns : goal.returns
returns g c =
    let words = g.W.Words in
    let named = g.C.Alone.named c.args.made in
    let begins = g.C.Alone.begins c.args.made c.args.post.now.layout.config in
    let desk : HeldDesk = record c.args.desk.now { notes = c.clear.new.self } in
    let cleared : desk_of desk ≡ record (desk_of c.args.desk.now) { notes = no_notes } = ap (λ (notes : Notes). let held : Desk = record (desk_of c.args.desk.now) { notes = notes } in held) c.clear.ensures.empty in
    let starts = subst (Starts (words.at c.args.words.now) (words.at c.start.new.self)) c.call.ensures c.start.ensures.at in
    let called =
    called_by (words.at c.args.words.now) (words.at c.start.new.self) (words.at c.alone_begun.new.words) (words.stands c.args.words.now) (words.stands c.start.new.self) (words.stands c.alone_begun.new.words) named c.alone_begun.result c.args.post.now c.args.desk.now desk _
    (at_phase Idle c.alone_begun.new.post c.alone_begun.new.desk) starts begins c.start.ensures.stands refl cleared c.alone_begun.ensures.made in
    let over : Over (words.at c.alone_begun.new.words) named c.alone_begun.result c.args.post.now c.alone_begun.new.post c.alone_begun.new.desk =
    over_by (words.at c.args.words.now) (words.at c.alone_begun.new.words) (words.stands c.args.words.now) (words.stands c.alone_begun.new.words) named c.alone_begun.result c.args.post.now c.args.desk.now c.alone_begun.new.post c.alone_begun.new.desk (g.C.Alone.remains c.args.made) c.requires.here called in
    record {
      valid = c.alone_begun.ensures.valid;
      same = words.same_on _ _ _ c.start.ensures.same c.alone_begun.ensures.same;
      here = over.here;
      room = c.alone_begun.ensures.room;
      place = over.place;
      suits = over.suits;
      called = called;
    }
