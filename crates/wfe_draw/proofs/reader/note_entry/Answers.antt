use Rattle.std.proofs.Common.{◌≤◌, refl, sym, subst, arith}
use Rattle.wfe_draw_lives.specs.Scenes.{Shows}
use Rattle.wfe_draw.proofs.Taking.{notes}
use Rattle.wfe_draw.proofs.reader.note_entry.Goals as goal

pub returns-clause-noted : goal.returns-clause-noted
returns-clause-noted c p shows number =
    let within : c.args.at.line ≤ c.args.part.last = omega (arith, c.if-at-part.false) in
    subst (Shows c.note.new.self) (sym (notes c.args.part.last c.args.at.line p p c.args.seat c.args.event.now within refl)) (c.in_ok-note.ensures p (c.enter.ensures p shows) (number within))
