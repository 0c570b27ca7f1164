use Rattle.std.proofs.Common.{ap, refl}
use Rattle.wfe_c.specs.Place.{seat_in}
use Rattle.wfe_c.proofs.Handles.{by_some}
use Rattle.wfe_c.proofs.about.wfe_c_seen.Goals as goal

pub returns : goal.returns
returns c = by_some _ _ (seat_in c.args.seat.now.place.inside) _ (ap seat_in c.seat-joined.ensures.value) (record { is = refl; tells = c.seen.ensures })
