use Rattle.std.proofs.Common.{refl, sym, ap, subst}
use Rattle.wfe_trace.specs.Words.{words}
use Rattle.wfe_check_lines.specs.Kinds.{kind_in}
use Rattle.wfe_check_lines.specs.Reading.{told_at}
use Rattle.wfe_check_lines.proofs.Telling.{body_line, first_line}
use Rattle.wfe_draw.specs.Lines.{Tells}
use Rattle.wfe_draw.proofs.Places.{at_body, at_first, at_over}
use Rattle.wfe_draw.proofs.line.read_line.Goals as goal

pub returns-in-First : goal.returns-in-First
returns-in-First c told is =
    subst (Tells c.read_first.result told) (sym (first_line told c.args.line.now (at_first c.args.place told.stage c.in-First.is is))) (c.read_first.ensures told)

pub returns-in-Body : goal.returns-in-Body
returns-in-Body c told is =
    let version = c.in-Body.version in
    let config = c.in-Body.config in
    let stage = at_body c.args.place version config told.stage c.in-Body.is is in
    subst (Tells c.read_body.result told) (sym (body_line told c.args.line.now version config (kind_in version config (words c.args.line.now)) stage refl)) (c.read_body.ensures told stage)

pub returns-in-Over : goal.returns-in-Over
returns-in-Over c told is =
    let (version, config, stage) = at_over c.args.place told.stage c.in-Over.is is in
    ap (λ s. told_at s told c.args.line.now) stage
