-- The guards are read, and then one row after another goes back.
use Rattle.std.proofs.Common.{ap, arith, refl, sym, ◌+◌, ◌<◌, ◌∙◌, ◌≡◌, ◌≤◌, ℕ}
use Rattle.wfe_core.specs.words.declared.layout.Layout.{Layout}
use Rattle.wfe_core.specs.DeskHeld.{desk_of}
use Rattle.wfe_core.specs.Desks.{Desk}
use Rattle.wfe_core.specs.Held.{ReportHeld, report_of}
use Rattle.wfe_core.specs.declared.post.Post.{Post}
use Rattle.wfe_drive_words.proofs.Leading.{here_on, leads_as}
use Rattle.wfe_drive_runs.proofs.Scanning.{none_given, row_given}
use Rattle.wfe_drive_runs.proofs.Turning.{may_here, then_turns, turns_as}
use Rattle.wfe_drive_runs.proofs.scan_run.scan.Goals as goal

pub rows-init : goal.rows-init
rows-init g c = record {
  valid = c.read_guards.ensures.valid;
  later = c.read_guards.ensures.later;
  same = c.read_guards.ensures.same;
  rest = c.read_guards.ensures.rest;
  room = c.read_guards.ensures.room;
  layout = c.read_guards.ensures.layout;
  standing = c.read_guards.ensures.standing;
  turns = c.read_guards.ensures.turns;
}

pub give_back-requires-clause-here : goal.give_back-requires-clause-here
give_back-requires-clause-here g c =
    let (later, h) = c.requires.here in
    let t = c.rows.invariant.turns later h in
    (later, here_on h (leads_as _ _ (row_given later c.rows.from c.in-Some.place c.rows.post c.rows.desk c.in-Some.life (sym c.next_unmet.ensures ∙ c.in-Some.is)) t.leads))

pub rows-preserved : goal.rows-preserved
rows-preserved g c = record {
  valid = c.give_back.ensures.valid;
  later = c.give_back.ensures.later;
  same = g.W.Words.same_on _ _ _ c.rows.invariant.same c.give_back.ensures.same;
  rest = omega (arith, c.rows.invariant.rest, c.give_back.ensures.rest);
  room = c.give_back.ensures.room;
  layout = ap (λ (post : Post). post.layout) c.give_back.ensures.post ∙ c.rows.invariant.layout;
  standing = ap (λ (post : Post). post.standing) c.give_back.ensures.post ∙ c.rows.invariant.standing;
  turns = λ later h.
      let t = c.rows.invariant.turns later h in
      let x = leads_as _ _ (row_given later c.rows.from c.in-Some.place c.rows.post c.rows.desk c.in-Some.life (sym c.next_unmet.ensures ∙ c.in-Some.is)) t.leads in
      then_turns x (c.give_back.ensures.turns later (here_on h x));
}

pub overflow_cast-kept : goal.overflow_cast-kept
overflow_cast-kept g c =
    let (later, h) = c.requires.here in
    let may = may_here (g.W.Words.comes c.args.words.now) c.requires.valid h in
    let slots : c.rows.desk.list.slots ≡ c.args.post.now.layout.config.slots = c.rows.invariant.room.slots ∙ ap (λ (layout : Layout). layout.config.slots) c.rows.invariant.layout in
    omega (arith, slots, c.len-kept.ensures.most, may.valid.bounds.slots)

pub returns-in-None-clause-room : goal.returns-in-None-clause-room
returns-in-None-clause-room g c =
    let guards = ap (λ (report : ReportHeld). report.room) c.note_kept.ensures in
    record {
      slots = c.rows.invariant.room.slots;
      guards_fit = omega (arith, guards, c.rows.invariant.room.guards_fit);
      rows_fit = c.rows.invariant.room.rows_fit;
    }

pub returns-in-None-clause-turns : goal.returns-in-None-clause-turns
returns-in-None-clause-turns g c = λ later h.
    let t = c.rows.invariant.turns later h in
    let desk : Desk = desk_of c.rows.desk in
    let noted = ap (λ (report : ReportHeld). let d : Desk = record desk { report = report_of report } in d) c.note_kept.ensures in
    let kept = ap (λ (n : ℕ). let d : Desk = record desk { report = record { read = desk.report.read; kept = n; back = desk.report.back } } in d) c.len-kept.ensures.count in
    turns_as _ _ (none_given later c.rows.from c.rows.post desk _ (sym c.next_unmet.ensures ∙ c.in-None.is) (noted ∙ kept)) t
