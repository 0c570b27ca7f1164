use Rattle.std.proofs.Common.{◌∙◌}
use Rattle.wfe_check_held.proofs.FitsAt.{fits_is}
use Rattle.wfe_check_held.proofs.times.Times.fits.Goals as goal

pub returns : goal.returns
returns c = λ config p is birth source.
    c.fits_cells.ensures ∙ fits_is config p c.args.self.now c.args.seat c.args.event.now c.args.birth c.args.source is c.requires.range birth source
