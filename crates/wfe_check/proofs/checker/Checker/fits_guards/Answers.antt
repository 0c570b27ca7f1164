use Rattle.std.proofs.Common.{◌∙◌, sym}
use Rattle.wfe_check.proofs.Ranges.{range_of}
use Rattle.wfe_check.proofs.Tests.{all_seven, seven}
use Rattle.wfe_check.proofs.checker.Checker.fits_guards.Goals as goal

pub returns-clause-there : goal.returns-clause-there
returns-clause-there c config p shows holds =
    let e = c.fits.ensures config p shows.protections (range_of c.args.self.now c.args.seat c.args.event.now c.requires.may config p shows) in
    let (reads, single, rising, guards, kinds, bare, rests) = seven _ _ _ _ _ _ _ (sym e ∙ holds) in
    record { reads = reads; single = single; rising = rising; guards = guards; kinds = kinds; bare = bare; rests = rests }

pub returns-clause-back : goal.returns-clause-back
returns-clause-back c config p shows fits =
    c.fits.ensures config p shows.protections (range_of c.args.self.now c.args.seat c.args.event.now c.requires.may config p shows)
    ∙ all_seven _ _ _ _ _ _ _ fits.reads fits.single fits.rising fits.guards fits.kinds fits.bare fits.rests
