use Rattle.std.proofs.Common.{Some, ap, subst, sym, ◌∙◌, ◌≡◌}
use Rattle.wfe_c.specs.Joined.{IsLeft}
use Rattle.wfe_c.specs.Place.{seat_in}
use Rattle.wfe_c.specs.declared.handle.SeatHandle.{SeatHandle}
use Rattle.wfe_c.specs.declared.joined.Joined.{Joined}
use Rattle.wfe_c.proofs.Handles.{by_some}
use Rattle.wfe_c.proofs.leaving.wfe_c_leave.Goals as goal

pub returns : goal.returns
returns c =
    let there : seat_in c.args.seat.now.place.inside ≡ Some c.open-joined.result.value = ap (λ (handle : SeatHandle). seat_in handle.place.inside) (sym c.replace-left.ensures.value) ∙ ap seat_in c.open-joined.ensures in
    by_some _ _ (seat_in c.args.seat.now.place.inside) _ there (record {
      none = ap (λ (handle : SeatHandle). handle.place.inside) c.replace-left.ensures.after ∙ c.without.ensures.inside;
      state = ap (λ (handle : SeatHandle). handle.state) c.replace-left.ensures.after ∙ c.without.ensures.state;
      count = c.leave-count.result;
      left = subst (λ (joined : Joined). IsLeft joined c.leave-count.result) c.into_inner.ensures c.leave-count.ensures;
      tells = c.says_at.ensures;
    })
