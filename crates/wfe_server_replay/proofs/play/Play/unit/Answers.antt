use Rattle.std.proofs.Common.{ap, ◌∙◌}
use Rattle.wfe_server_out.specs.Pieces.{told_pieces}
use Rattle.wfe_server_out.proofs.Emits.{emits_of}
use Rattle.wfe_server_replay.specs.Playing.{Played, unit_out}
use Rattle.wfe_server_replay.proofs.play.Play.unit.Goals as goal

pub returns-clause-emits : goal.returns-clause-emits
returns-clause-emits g c = emits_of (ap (told_pieces c.args.seat) c.unit.ensures.unit.told_is ∙ ap (λ (s : Played). unit_out s c.args.seat) c.self.view_is) c.tell_all.ensures.emits
