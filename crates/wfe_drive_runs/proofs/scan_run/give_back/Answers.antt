-- The bit is cleared, and the row leaves the list.
use Rattle.std.proofs.Common.{ap, arith, refl, ◌<◌, ◌^◌, ◌∙◌, ◌≤◌}
use Rattle.wfe_core.specs.Calls.{GiveBack, Scans}
use Rattle.wfe_core.specs.DeskHeld.{desk_of}
use Rattle.wfe_core.specs.Desks.{Desk}
use Rattle.wfe_core.specs.Held.{ReportHeld, notes_of, report_of}
use Rattle.wfe_core.specs.declared.post.Post.{Post}
use Rattle.wfe_drive_words.specs.Called.{at_phase}
use Rattle.wfe_drive_words.specs.Path.{stepped}
use Rattle.wfe_drive_words.proofs.Leading.{few_here}
use Rattle.wfe_drive_runs.proofs.Scanning.{back_noted, listed_within, row_back}
use Rattle.wfe_drive_runs.proofs.Turning.{asks_seat, may_here, turns_once}
use Rattle.wfe_drive_runs.proofs.scan_run.give_back.Goals as goal

pub free_slot-requires-clause-valid : goal.free_slot-requires-clause-valid
free_slot-requires-clause-valid g c =
    let (later, h) = c.requires.here in
    (may_here (g.W.Words.comes c.args.words.now) c.requires.valid h).valid

pub free_slot-requires-clause-slot : goal.free_slot-requires-clause-slot
free_slot-requires-clause-slot g c =
    let (later, h) = c.requires.here in
    (may_here (g.W.Words.comes c.args.words.now) c.requires.valid h).ready.1.0

pub step-requires-clause-asks : goal.step-requires-clause-asks
step-requires-clause-asks g c =
    let (later, h) = c.requires.here in
    (_, asks_seat (at_phase (Scans later (GiveBack c.args.place c.args.slot)) c.args.post.now c.args.desk.now) h refl c.free_slot.ensures)

pub overflow_add-post : goal.overflow_add-post
overflow_add-post g c =
    let (later, h) = c.requires.here in
    let few : c.args.post.now.steps < 2 ^ 62 = few_here (g.W.Words.comes c.args.words.now) c.requires.valid h refl in
    omega (arith, few)

pub remove-requires : goal.remove-requires
remove-requires g c =
    let (later, h) = c.requires.here in
    listed_within c.args.desk.now.list.lives c.args.place c.args.slot (may_here (g.W.Words.comes c.args.words.now) c.requires.valid h).ready.1.1.entry

pub count_back-requires : goal.count_back-requires
count_back-requires g c =
    let (later, h) = c.requires.here in
    let may = may_here (g.W.Words.comes c.args.words.now) c.requires.valid h in
    omega (arith, may.ready.1.1.back, may.valid.bounds.slots)

pub note-requires-clause-room : goal.note-requires-clause-room
note-requires-clause-room g c =
    let (later, h) = c.requires.here in
    let may = may_here (g.W.Words.comes c.args.words.now) c.requires.valid h in
    omega (arith, may.noted, c.requires.room.rows_fit)

pub note-requires-clause-few : goal.note-requires-clause-few
note-requires-clause-few g c =
    let (later, h) = c.requires.here in
    let may = may_here (g.W.Words.comes c.args.words.now) c.requires.valid h in
    omega (arith, may.noted, may.valid.bounds.slots)

pub returns-clause-room : goal.returns-clause-room
returns-clause-room g c =
    let guards = ap (λ (report : ReportHeld). report.room) c.count_back.ensures in
    record {
      slots = c.remove.ensures.slots ∙ c.requires.room.slots;
      guards_fit = omega (arith, guards, c.requires.room.guards_fit);
      rows_fit = omega (arith, c.note.ensures.room, c.requires.room.rows_fit);
    }

pub returns-clause-turns : goal.returns-clause-turns
returns-clause-turns g c = λ later h.
    let post : Post = c.args.post.now in
    let desk : Desk = desk_of c.args.desk.now in
    let seat = at_phase (Scans later (GiveBack c.args.place c.args.slot)) post c.args.desk.now in
    let x = c.step.ensures.steps _ (asks_seat seat h refl c.free_slot.ensures) in
    let counted = ap (λ (report : ReportHeld). let d : Desk = record desk { list = c.remove.new.self.lives; report = report_of report; notes = notes_of c.note.new.self } in d) c.count_back.ensures in
    let back = back_noted desk c.args.place c.args.slot c.remove.new.self.lives (notes_of c.note.new.self) c.remove.ensures.lives c.note.ensures.notes in
    row_back later c.args.place c.args.slot (stepped post) desk _ c.step.result (counted ∙ back) (turns_once seat x)
