use Rattle.std.proofs.Common.{◌∙◌}
use Rattle.wfe_check_held.proofs.Rights.{links_is}
use Rattle.wfe_check_held.proofs.protections.Protections.links_right.Goals as goal

pub returns : goal.returns
returns c config p r q w e = c.links.ensures ∙ links_is config c.args.self.now c.args.rows.now p c.args.call c.args.seat c.args.event.now r q w e
