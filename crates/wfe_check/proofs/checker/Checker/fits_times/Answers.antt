use Rattle.std.proofs.Common.{◌∙◌, sym}
use Rattle.wfe_check.proofs.Places.{sought_is}
use Rattle.wfe_check.proofs.Tests.{both, two}
use Rattle.wfe_check.proofs.checker.Checker.fits_times.Goals as goal

pub returns-clause-there : goal.returns-clause-there
returns-clause-there c config p shows holds =
    let (call, room) = two _ _ (sym c.both.ensures ∙ holds) in
    let e = c.fits-call.ensures config p shows.times (c.birth-birth.ensures config p shows) (c.source-source.ensures config p shows) in
    let (sources, more) = two _ _ (sym e ∙ call) in
    let (births, more_two) = two _ _ more in
    let (retires, current) = two _ _ more_two in
    record {
      sources = sources;
      births = births;
      retires = retires;
      current = current;
      room = c.fits_room-room.ensures.there config p shows.times (sought_is c.args.event.now c.seeks_room-seeks.result _ _ (c.seeks_room-seeks.ensures config p shows.calls)) room;
    }

pub returns-clause-back : goal.returns-clause-back
returns-clause-back c config p shows fits =
    let e = c.fits-call.ensures config p shows.times (c.birth-birth.ensures config p shows) (c.source-source.ensures config p shows) in
    c.both.ensures
    ∙ both _ _ (e ∙ both _ _ fits.sources (both _ _ fits.births (both _ _ fits.retires fits.current)))
    (c.fits_room-room.ensures.back config p shows.times (sought_is c.args.event.now c.seeks_room-seeks.result _ _ (c.seeks_room-seeks.ensures config p shows.calls)) fits.room)
