use Rattle.std.proofs.Common.{sym, ◌∙◌}
use Rattle.wfe_check_calls.proofs.Right.{right_from}
use Rattle.wfe_check_calls.proofs.step_count.Steps.fits.Goals as goal

pub returns-then-protection_fits-clause-sound : goal.returns-then-protection_fits-clause-sound
returns-then-protection_fits-clause-sound c config p s began right =
    right_from config p c.args.seat c.args.event.now (c.protection_fits.ensures.sound config p s c.if-protection_fits.true)
    (sym (c.end_fits.ensures config p s began) ∙ right)
