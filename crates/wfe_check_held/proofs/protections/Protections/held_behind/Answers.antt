use Rattle.std.proofs.Common.{◌∙◌}
use Rattle.wfe_check_held.proofs.Rights.{behind_is}
use Rattle.wfe_check_held.proofs.protections.Protections.held_behind.Goals as goal

pub returns : goal.returns
returns c config p r q l steps = c.is_behind.ensures ∙ behind_is config c.args.self.now c.args.rows.now p c.args.seat c.args.index c.args.slot steps r q l
