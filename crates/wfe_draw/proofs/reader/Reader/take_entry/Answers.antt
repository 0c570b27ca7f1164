use Rattle.std.proofs.Common.{◌≡◌, ◌∙◌, ◌≤◌, ◌<◌, ◌+◌, refl, sym, ap, subst, arith}
use Rattle.wfe_draw_lives.specs.Lives.{count_in}
use Rattle.wfe_draw.specs.Lines.{IsAt}
use Rattle.wfe_draw.specs.Readers.{noted}
use Rattle.wfe_draw.proofs.Taking.{few_entries, few_lines, line_taken, notes, notes_none, nothing_why}
use Rattle.wfe_draw.proofs.reader.Reader.take_entry.Goals as goal

pub returns-in-Err : goal.returns-in-Err
returns-in-Err c last r p after room stands told stage same = nothing_why c.in-Err.stop r c.in-Err.ensures.why

pub returns-in-Ok : goal.returns-in-Ok
returns-in-Ok c last r p after room stands told stage same =
    let old = c.args.self.now in
    let new = c.end_line.new.self in
    let seat = c.args.seat in
    let event = c.args.event.now in
    let at = c.next-at.result in
    let line : at.line ≡ r.lines + 1 = c.next-at.ensures.line (few_lines last old r stands.reading) ∙ ap (λ n. n + 1) stands.reading.lines in
    let number : at.number ≡ count_in r.told.entries + 1 = c.next-at.ensures.number (few_entries last old r stands.reading) ∙ ap (λ n. n + 1) stands.reading.entries in
    let end_ : old.part.last ≡ last = stands.reading.end in
    let fewer : count_in after.entries ≤ r.lines + 1 = subst (λ p. count_in p ≤ r.lines + 1) (sym same) (omega (arith, stands.reading.fewer)) in
    line_taken last old new c.note_entry.new.scene r p (noted old.part.last at.line p seat event) after stands.reading room told c.end_line.ensures.line c.end_line.ensures.bytes
    (c.end_line.ensures.lines (few_lines last old r stands.reading)) (c.end_line.ensures.entries ∙ number ∙ ap count_in (sym same)) fewer
    (subst (λ p. IsAt p after.stage) (sym c.end_line.ensures.place) (subst (λ s. IsAt old.place s) (sym stage) stands.reading.place)) c.end_line.ensures.part
    (c.in-Ok.ensures.noted p stands.shows (λ le. number ∙ ap (λ q. count_in q + 1) (sym (stands.all (omega (arith, le, line, end_))))))
    (λ le. notes old.part.last at.line p r.told.entries seat event (omega (arith, le, line, end_)) (stands.all (omega (arith, le))) ∙ sym same)
    (λ le. notes_none old.part.last at.line p seat event (omega (arith, le, line, end_)))
