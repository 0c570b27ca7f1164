use Rattle.std.proofs.Common.{ap, refl}
use Rattle.wfe_c.specs.Place.{closed_in}
use Rattle.wfe_c.proofs.Handles.{by_some}
use Rattle.wfe_c.proofs.reading.wfe_c_closed_used.Goals as goal

pub returns : goal.returns
returns c = by_some _ _ (closed_in c.args.seat.now.place.inside) _ (ap closed_in c.closed-closed.ensures.value) (record { is = refl; tells = c.used_at.ensures })
