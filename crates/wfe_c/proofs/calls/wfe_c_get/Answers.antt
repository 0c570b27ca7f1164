use Rattle.std.proofs.Common.{Option, Some, ap, refl, sym, ℕ, ◌∙◌}
use Rattle.wfe_table.specs.history.defs.declared.call.Answer.TheVariants as answers
use Rattle.wfe_c.specs.Told.{answer_of, told_of}
use Rattle.wfe_c.specs.Place.{seat_in}
use Rattle.wfe_c.proofs.Handles.{by_some}
use Rattle.wfe_c.proofs.calls.wfe_c_get.Goals as goal

pub returns-in-Some : goal.returns-in-Some
returns-in-Some c =
    by_some _ _ (seat_in c.args.seat.now.place.inside) _ (ap seat_in c.seat-joined.ensures.value) (record {
      new = _;
      is = refl;
      answer = Some (answers.Got c.get-read.result.version c.get-read.result.value);
      came = c.get-read.ensures;
      tells = ap (λ (value : Option ℕ). told_of (answers.Got c.get-read.result.version value)) (sym c.in-Some.is);
    })

pub returns-in-None : goal.returns-in-None
returns-in-None c =
    by_some _ _ (seat_in c.args.seat.now.place.inside) _ (ap seat_in c.seat-joined.ensures.value) (record {
      new = _;
      is = refl;
      answer = Some (answers.Got c.get-read.result.version c.get-read.result.value);
      came = c.get-read.ensures;
      tells = (λ i. answer_of (c.absent.ensures.told i) (c.absent.ensures.number i)) ∙ ap (λ (value : Option ℕ). told_of (answers.Got c.get-read.result.version value)) (sym c.in-None.is);
    })
