use Rattle.std.proofs.Common.{◌≡◌, ◌+◌, ◌++◌, ◌∙◌, ℕ, List, sym, ap, arith, subst, if◌then◌else◌}
use Rattle.wfe_check_lines.specs.Progress.{IsAt}
use Rattle.wfe_check_lines.specs.Reading.{after_line, counted, told_after}
use Rattle.wfe_check_lines.specs.Readers.{more_bytes, stop_at}
use Rattle.wfe_check_lines.specs.Stops.{IsWhy}
use Rattle.wfe_check_lines.proofs.Lines.{line_taken, refused_why}
use Rattle.wfe_check_lines.proofs.reader.Reader.take_whole.Goals as goal

pub returns-in-Ok : goal.returns-in-Ok
returns-in-Ok g c r is none few =
    let lines : c.count_line.new.self.lines ≡ r.lines = c.count_line.ensures.lines ∙ is.lines in
    let entries : c.count_line.new.self.entries ≡ r.told.count = c.count_line.ensures.entries ∙ is.entries in
    let line : c.args.line.now ≡ r.line ++ c.args.line.now = sym (ap (λ (l : List ℕ). l ++ c.args.line.now) none) in
    let (x, e, at, count) = c.in-Ok.ensures r.told is.place in
    line_taken g.J.Judge.judges c.end_line.new.self (counted (more_bytes r c.args.line.now)) c.in-Ok.is_entry (omega arith) (omega (arith, is.within)) is.fewer
    c.end_line.ensures.line (c.end_line.ensures.count ∙ c.count_line.ensures.count (omega (arith, is.count, is.few)) ∙ omega (arith, is.count)) (c.end_line.ensures.lines (omega (arith, lines, is.within, is.few)) ∙ ap (λ (n : ℕ). n + 1) lines)
    (c.end_line.ensures.entries (omega (arith, entries, is.fewer, is.within, is.few)) ∙ ap (λ (n : ℕ). if c.in-Ok.is_entry then n + 1 else n) entries)
    (x, ap (told_after r.told) (sym line) ∙ e, subst (λ p. IsAt g.J.Judge.judges p x.stage x.entries) (sym (c.end_line.ensures.place ∙ c.count_line.ensures.place)) at, count)

pub returns-in-Err : goal.returns-in-Err
returns-in-Err g c r is none few =
    let line : c.args.line.now ≡ r.line ++ c.args.line.now = sym (ap (λ (l : List ℕ). l ++ c.args.line.now) none) in
    let why : IsWhy (stop_at r.lines c.in-Err.refusal) (after_line (counted (more_bytes r c.args.line.now))) = refused_why (counted (more_bytes r c.args.line.now)) c.args.line.now c.in-Err.refusal line (c.in-Err.ensures r.told is.place) in
    subst (λ s. IsWhy s (after_line (counted (more_bytes r c.args.line.now)))) (sym (c.stop.ensures ∙ ap (λ n. stop_at n c.in-Err.refusal) is.lines)) why
