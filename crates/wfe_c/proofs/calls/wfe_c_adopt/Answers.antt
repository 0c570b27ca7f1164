use Rattle.std.proofs.Common.{ap, refl}
use Rattle.wfe_c.specs.Place.{seat_in}
use Rattle.wfe_c.proofs.Handles.{by_some}
use Rattle.wfe_c.proofs.calls.wfe_c_adopt.Goals as goal

pub returns : goal.returns
returns c = by_some _ _ (seat_in c.args.seat.now.place.inside) _ (ap seat_in c.seat-joined.ensures.value) (record { new = _; is = refl; answer = c.adopt-answer.result; came = c.adopt-answer.ensures; tells = c.tell.ensures })
