use Rattle.std.proofs.Common.{ap, refl}
use Rattle.wfe_c.specs.Place.{seat_in}
use Rattle.wfe_c.proofs.Handles.{by_some}
use Rattle.wfe_c.proofs.calls.make.Goals as goal

pub returns : goal.returns
returns c = by_some _ _ (seat_in c.args.seat.now.place.inside) _ (ap seat_in c.seat-joined.ensures.value) (record { new = _; is = refl; answer = c.make-answer.result; came = c.make-answer.ensures; tells = c.tell.ensures })
