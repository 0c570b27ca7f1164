use Rattle.std.proofs.Common.{Some, ap, refl}
use Rattle.wfe_table.specs.Calls.{enqueue_answer}
use Rattle.wfe_table.specs.history.defs.declared.call.Answer.TheVariants as answers
use Rattle.wfe_c.specs.Place.{seat_in}
use Rattle.wfe_c.proofs.Handles.{by_some}
use Rattle.wfe_c.proofs.calls.wfe_c_enqueue.Goals as goal

pub returns-in-Ok : goal.returns-in-Ok
returns-in-Ok c =
    by_some _ _ (seat_in c.args.seat.now.place.inside) _ (ap seat_in c.seat-joined.ensures.value) (record {
      new = _;
      is = refl;
      answer = Some (answers.Queued c.in-Ok.queued.number);
      came = c.in-Ok.ensures;
      tells = refl;
    })

pub returns-in-Err : goal.returns-in-Err
returns-in-Err c =
    by_some _ _ (seat_in c.args.seat.now.place.inside) _ (ap seat_in c.seat-joined.ensures.value) (record {
      new = _;
      is = refl;
      answer = Some (enqueue_answer c.in-Err.refusal);
      came = c.in-Err.ensures;
      tells = c.enqueue_answer.ensures;
    })
