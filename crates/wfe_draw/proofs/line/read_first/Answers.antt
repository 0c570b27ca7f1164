use Rattle.std.proofs.Common.{◌∙◌, refl, sym, ap}
use Rattle.wfe_check_lines.specs.Reading.{with_header}
use Rattle.wfe_check_lines.specs.Reading.Stage.{Body}
use Rattle.wfe_draw.proofs.line.read_first.Goals as goal

pub returns-in-Some : goal.returns-in-Some
returns-in-Some c told = (record told { stage = Body c.in-Some.version c.in-Some.config }, ap (with_header told) (sym c.read_header.ensures.words ∙ c.in-Some.is), (refl, refl), refl)
