use Rattle.std.proofs.Common.{sym, ◌∙◌}
use Rattle.wfe_check_held.proofs.FitsAt.{room_back, room_there}
use Rattle.wfe_check_held.proofs.times.Times.fits_room.Goals as goal

pub returns-clause-there : goal.returns-clause-there
returns-clause-there c = λ config p is seeks fits.
    room_there config p c.args.self.now c.args.seat c.args.event.now c.args.seeks is c.requires.seat seeks (sym c.fits_room_cells.ensures ∙ fits)

pub returns-clause-back : goal.returns-clause-back
returns-clause-back c = λ config p is seeks each.
    c.fits_room_cells.ensures ∙ room_back config p c.args.self.now c.args.seat c.args.event.now c.args.seeks is c.requires.seat seeks each
