use Rattle.std.proofs.Common.{Some, ap, refl}
use Rattle.wfe_table.specs.history.defs.declared.call.Answer.TheVariants as answers
use Rattle.wfe_c.specs.Told.{answer_with}
use Rattle.wfe_c.specs.Place.{seat_in}
use Rattle.wfe_c.proofs.Handles.{by_some}
use Rattle.wfe_c.proofs.calls.wfe_c_dequeue.Goals as goal

pub returns-in-Ok : goal.returns-in-Ok
returns-in-Ok c =
    by_some _ _ (seat_in c.args.seat.now.place.inside) _ (ap seat_in c.seat-joined.ensures.value) (record {
      new = _;
      is = refl;
      answer = Some (answers.Taken c.in-Ok.taken.number c.in-Ok.taken.value c.in-Ok.taken.clock);
      came = c.in-Ok.ensures;
      tells = ap (answer_with 0) c.tell_taken.ensures;
    })

pub returns-in-Err : goal.returns-in-Err
returns-in-Err c =
    by_some _ _ (seat_in c.args.seat.now.place.inside) _ (ap seat_in c.seat-joined.ensures.value) (record {
      new = _;
      is = refl;
      answer = Some answers.Empty;
      came = c.in-Err.ensures;
      tells = λ i. answer_with (c.empty.ensures.code i) (c.empty.ensures.told i);
    })
