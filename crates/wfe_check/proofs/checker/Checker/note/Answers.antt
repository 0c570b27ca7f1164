use Rattle.std.proofs.lemmas.Result.{IfOk-weaker}
use Rattle.wfe_check.proofs.Ranges.{range_of}
use Rattle.wfe_check.proofs.Steps.{copies_then, linked_then}
use Rattle.wfe_check.proofs.checker.Checker.note.Goals as goal

pub returns-clause-told : goal.returns-clause-told
returns-clause-told c =
    IfOk-weaker c.note-7.result _ _
    (λ x noted config p shows queue scan.
    let range = range_of c.args.self.now c.args.seat c.args.event.now c.requires.may config p shows in
    record {
      setting = shows.setting;
      rows = noted config p shows.rows range;
      protections = c.in_ok-note-6.ensures.noted config p shows.protections range;
      calls = c.in_ok-note-5.ensures.told config p shows.calls;
      steps = c.in_ok-note.ensures.told config p shows.steps (c.named-named.ensures config p shows) (c.shows_helper-helps.ensures config p shows.protections range.seated);
      contents = c.in_ok-note-2.ensures.noted config p shows.contents (c.changed_root-root.ensures config p shows) queue;
      lists = c.in_ok-note-4.ensures.noted config p shows.lists scan;
      times = c.in_ok-note-3.ensures.told config p shows.times (c.found-found.ensures.found config p shows) (c.last_row-last.ensures config p shows);
      linked = linked_then config p c.args.seat c.args.event.now range shows.linked;
      copies = copies_then config p c.args.seat c.args.event.now range shows.copies;
    })
    c.note-7.ensures.noted
