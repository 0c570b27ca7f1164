use Rattle.std.proofs.Common.{◌≡◌, ◌∙◌, ◌≤◌, ◌<◌, ◌+◌, refl, sym, ap, subst, arith}
use Rattle.wfe_check_lines.specs.Reading.{told_after}
use Rattle.wfe_draw_lives.specs.Lives.{count_in}
use Rattle.wfe_draw.specs.Lines.{IsAt}
use Rattle.wfe_draw.proofs.Taking.{few_lines, line_bad, line_taken}
use Rattle.wfe_draw.proofs.reader.Reader.take_line.Goals as goal

pub returns-in-Err : goal.returns-in-Err
returns-in-Err c last r p room stands =
    line_bad last c.args.self.now r c.in-Err.reason c.bad.result stands.reading (ap (told_after r.told) (sym c.as_slice.ensures.value) ∙ c.in-Err.ensures r.told stands.reading.place)
    (c.bad.ensures (few_lines last c.args.self.now r stands.reading))

pub returns-in-Ok-Goes : goal.returns-in-Ok-Goes
returns-in-Ok-Goes c last r p room stands =
    let old = c.args.self.now in
    let new = c.end_line.new.self in
    let tells = rw c.in-Ok-Goes.field-0-is at c.in-Ok-Goes.ensures in
    let (after, told, at, same) = tells r.told stands.reading.place in
    let fewer : count_in after.entries ≤ r.lines + 1 = subst (λ p. count_in p ≤ r.lines + 1) (sym same) (omega (arith, stands.reading.fewer)) in
    line_taken last old new c.args.scene.now r p p after stands.reading room (ap (told_after r.told) (sym c.as_slice.ensures.value) ∙ told) c.end_line.ensures.line c.end_line.ensures.bytes
    (c.end_line.ensures.lines (few_lines last old r stands.reading)) (c.end_line.ensures.entries ∙ stands.reading.entries ∙ ap count_in (sym same)) fewer (subst (λ p. IsAt p after.stage) (sym c.end_line.ensures.place) at)
    c.end_line.ensures.part stands.shows (λ le. stands.all (omega (arith, le)) ∙ sym same) (λ le. refl)

pub returns-in-Ok-Entry : goal.returns-in-Ok-Entry
returns-in-Ok-Entry c last r p room stands =
    let tells = rw c.in-Ok-Entry.field-0-is at c.in-Ok-Entry.ensures in
    let (after, told, stage, same) = tells r.told stands.reading.place in
    c.take_entry.ensures last r p after room stands (ap (told_after r.told) (sym c.as_slice.ensures.value) ∙ told) stage same
