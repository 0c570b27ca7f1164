use Rattle.std.proofs.Common.{◌∙◌, sym}
use Rattle.wfe_check_lines.proofs.Telling.{opened}
use Rattle.wfe_check_lines.proofs.progress.open.Goals as goal

pub returns-in-Ok : goal.returns-in-Ok
returns-in-Ok g c told start = opened g.J.Judge.judges told _ c.in-Some.version c.in-Some.config c.in-Ok.judge start (sym c.read_header.ensures.words ∙ c.in-Some.is) c.in-Ok.ensures
