use Rattle.std.proofs.Common.{◌∙◌}
use Rattle.wfe_check_held.proofs.Rights.{right_is}
use Rattle.wfe_check_held.proofs.protections.Protections.fits.Goals as goal

pub returns : goal.returns
returns c config p r w = c.is_right.ensures ∙ right_is config c.args.self.now p c.args.version c.args.seat c.args.event.now r w
