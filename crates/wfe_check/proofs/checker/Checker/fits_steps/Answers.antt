use Rattle.wfe_check.proofs.Ranges.{calls_range, steps_range}
use Rattle.wfe_check.proofs.checker.Checker.fits_steps.Goals as goal

pub began-requires : goal.began-requires
began-requires c = let range = calls_range c.args.self.now c.args.seat c.args.event.now c.requires.may in range.seated

pub fits-requires : goal.fits-requires
fits-requires c = record { range = steps_range c.args.self.now c.args.seat c.args.event.now c.requires.may }

pub returns-clause-there : goal.returns-clause-there
returns-clause-there c config p shows holds = c.fits.ensures.sound config p shows.steps (c.began.ensures config p shows.calls) holds

pub returns-clause-back : goal.returns-clause-back
returns-clause-back c config p shows fits = c.fits.ensures.complete config p shows.steps (c.began.ensures config p shows.calls) fits
