use Rattle.std.proofs.Common.{ap, length, rules, sym, ◌==◌, ◌∙◌}
use Rattle.wfe_server_replay.specs.Playing.{Played}
use Rattle.wfe_server_replay.specs.Trace.{Progress}
use Rattle.wfe_server_replay.proofs.Outs.{last_took}
use Rattle.wfe_server_replay.proofs.progress.Work.take_last.Goals as goal

pub returns : goal.returns
returns g c = record {
  took =
      last_took g.E.Engine.taken _ c.take_line.result c.args.self.now _ _ _ c.between_lines.result (ap (λ (p : Progress Played). length p.line == 0) (sym c.self.view_is) ∙ sym c.between_lines.ensures) c.if-between_lines.false c.take_line.ensures.took;
  later = search rules;
  cause = search rules;
}
