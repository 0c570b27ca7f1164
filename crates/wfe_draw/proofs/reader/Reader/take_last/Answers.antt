use Rattle.std.proofs.Common.{◌≡◌, ◌==◌, ◌∙◌, Bool, true, false, length, sym, ap, subst}
use Rattle.wfe_draw.proofs.Holding.{last_none, takes_last}
use Rattle.wfe_draw.proofs.reader.Reader.take_last.Goals as goal

pub returns-then-is_empty : goal.returns-then-is_empty
returns-then-is_empty c last taken h =
    let old = c.args.self.now in
    let none : (length old.line.items == 0) ≡ true = subst (λ l. (length l == 0) ≡ true) c.as_slice.ensures.value (sym c.is_empty.ensures ∙ c.if-is_empty.true) in
    record { r = h.r; text = h.text; whole = h.r; ends = last_none h.r old.line.items h.reading.line none; reading = h.reading; p = h.p; up_to = h.up_to; shows = h.shows }

pub returns : goal.returns
returns c last taken h =
    let old = c.args.self.now in
    let some : (length old.line.items == 0) ≡ false = subst (λ l. (length l == 0) ≡ false) c.as_slice.ensures.value (sym c.is_empty.ensures ∙ c.if-is_empty.false) in
    takes_last last taken old c.take_line.new.self c.args.scene.now c.take_line.new.scene c.take_line.result h some (c.take_line.ensures last h.r h.p)
