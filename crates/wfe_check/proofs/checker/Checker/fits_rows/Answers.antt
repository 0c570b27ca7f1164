use Rattle.std.proofs.Common.{◌∙◌, sym}
use Rattle.wfe_check.proofs.Ranges.{range_of}
use Rattle.wfe_check.proofs.Tests.{all_four, four}
use Rattle.wfe_check.proofs.checker.Checker.fits_rows.Goals as goal

pub returns-clause-there : goal.returns-clause-there
returns-clause-there c config p shows holds =
    let e = c.fits.ensures config p shows.rows (range_of c.args.self.now c.args.seat c.args.event.now c.requires.may config p shows) in
    let (free, nexts, order, numbers) = four _ _ _ _ (sym e ∙ holds) in
    record { free = free; nexts = nexts; order = order; numbers = numbers }

pub returns-clause-back : goal.returns-clause-back
returns-clause-back c config p shows fits =
    c.fits.ensures config p shows.rows (range_of c.args.self.now c.args.seat c.args.event.now c.requires.may config p shows) ∙ all_four _ _ _ _ fits.free fits.nexts fits.order fits.numbers
