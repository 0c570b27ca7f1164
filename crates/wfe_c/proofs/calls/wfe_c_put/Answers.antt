use Rattle.std.proofs.Common.{Some, ap, refl}
use Rattle.wfe_table.specs.Calls.{put_answer}
use Rattle.wfe_table.specs.history.defs.declared.call.Answer.TheVariants as answers
use Rattle.wfe_c.specs.Place.{seat_in}
use Rattle.wfe_c.proofs.Handles.{by_some}
use Rattle.wfe_c.proofs.calls.wfe_c_put.Goals as goal

pub returns-in-Ok : goal.returns-in-Ok
returns-in-Ok c =
    by_some _ _ (seat_in c.args.seat.now.place.inside) _ (ap seat_in c.seat-joined.ensures.value) (record {
      new = _;
      is = refl;
      answer = Some (answers.Done c.in-Ok.done.version c.in-Ok.done.clock);
      came = c.in-Ok.ensures;
      tells = c.done_at.ensures;
    })

pub returns-in-Err : goal.returns-in-Err
returns-in-Err c =
    by_some _ _ (seat_in c.args.seat.now.place.inside) _ (ap seat_in c.seat-joined.ensures.value) (record {
      new = _;
      is = refl;
      answer = Some (put_answer c.in-Err.refusal);
      came = c.in-Err.ensures;
      tells = c.put_answer.ensures;
    })
