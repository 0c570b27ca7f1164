use Rattle.std.proofs.Common.{Err, None, Ok, Some, ap, refl, subst, sym, ℕ, ◌<◌, ◌∙◌, ◌≡◌}
use Rattle.std.proofs.lemmas.Option.{same_Some}
use Rattle.wfe_c.specs.Closing.{IsEnded}
use Rattle.wfe_c.specs.Joined.{table_of}
use Rattle.wfe_c.specs.Place.{closed_in, seat_in}
use Rattle.wfe_c.specs.declared.handle.SeatHandle.{SeatHandle}
use Rattle.wfe_c.specs.declared.joined.Joined.{Joined}
use Rattle.wfe_c.proofs.Handles.{by_some}
use Rattle.wfe_c.proofs.closing.wfe_c_close.Goals as goal

pub returns-then-gone-others : goal.returns-then-gone-others
returns-then-gone-others c =
    by_some _ _ (seat_in c.args.seat.now.place.inside) _ (ap seat_in c.seat-joined.ensures.value) (record {
      end = Err (Some c.look-gone.new.self);
      came = record { is = refl; gone = c.look-gone.result; looked = c.look-gone.ensures; others = subst (λ (others : ℕ). c.look-gone.result < others) c.others-others.ensures c.if-gone-others.true };
      tells = refl;
    })

pub returns-in-Some : goal.returns-in-Some
returns-in-Some c =
    let held : Some c.look-gone.new.self ≡ Some c.open-last.result.value = ap (λ (handle : SeatHandle). seat_in handle.place.inside) (sym c.replace-left.ensures.value) ∙ ap seat_in c.open-last.ensures in
    let same = c.into_inner.ensures ∙ sym (same_Some _ _ held) ∙ c.look-gone.ensures.same in
    by_some _ _ (seat_in c.args.seat.now.place.inside) _ (ap seat_in c.seat-joined.ensures.value) (record {
      end = Ok c.in-Some.boxed.value;
      came = record { is = ap closed_in c.of_closed.ensures.inside; ended = subst (λ (joined : Joined). IsEnded (table_of joined) joined.seat c.in-Some.boxed.value) same c.in-Some.ensures };
      tells = refl;
    })

pub returns-in-None : goal.returns-in-None
returns-in-None c =
    by_some _ _ (seat_in c.args.seat.now.place.inside) _ (ap seat_in c.seat-joined.ensures.value) (record {
      end = Err None;
      came = record {
        none = ap (λ (handle : SeatHandle). handle.place.inside) c.replace-left.ensures.after ∙ c.without.ensures.inside;
        state = ap (λ (handle : SeatHandle). handle.state) c.replace-left.ensures.after ∙ c.without.ensures.state;
      };
      tells = refl;
    })
