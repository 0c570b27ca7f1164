use Rattle.std.proofs.Common.{◌<◌, ◌^◌, ◌∙◌, sym, ap, arith, subst}
use Rattle.wfe_check_lines.specs.Progress.{IsAt, IsRefused}
use Rattle.wfe_check_lines.specs.Reading.{after_line, told_after}
use Rattle.wfe_check_lines.specs.Readers.{stop_at}
use Rattle.wfe_check_lines.specs.Stops.{IsWhy}
use Rattle.wfe_check_lines.proofs.Lines.{line_takes, refused_why}
use Rattle.wfe_check_lines.proofs.reader.Reader.take_line.Goals as goal

pub returns-in-Ok : goal.returns-in-Ok
returns-in-Ok g c r is room =
    let few : c.args.self.now.lines < 2 ^ 31 = omega (arith, is.lines, is.few, room) in
    let less : c.args.self.now.entries < 2 ^ 31 = omega (arith, is.entries, is.fewer, is.few, room) in
    let (x, e, at, count) = c.in-Ok.ensures r.told is.place in
    line_takes g.J.Judge.judges c.args.self.now c.end_line.new.self r c.in-Ok.is_entry is room c.end_line.ensures.line c.end_line.ensures.count (c.end_line.ensures.lines few) (c.end_line.ensures.entries less)
    (x, ap (λ l. told_after r.told l) (sym c.as_slice.ensures.value) ∙ e, subst (λ p. IsAt g.J.Judge.judges p x.stage x.entries) (sym c.end_line.ensures.place) at, count)

pub returns-in-Err : goal.returns-in-Err
returns-in-Err g c r is room =
    let refused : IsRefused c.in-Err.refusal (told_after r.told c.args.self.now.line.items) =
    subst (λ l. IsRefused c.in-Err.refusal (told_after r.told l)) c.as_slice.ensures.value (c.in-Err.ensures r.told is.place) in
    let why : IsWhy (stop_at r.lines c.in-Err.refusal) (after_line r) = refused_why r c.args.self.now.line.items c.in-Err.refusal is.line refused in
    subst (λ s. IsWhy s (after_line r)) (sym (c.stop.ensures ∙ ap (λ n. stop_at n c.in-Err.refusal) is.lines)) why
