use Rattle.std.proofs.Common.{List, ap, refl, slice_get, ℕ, ◌∙◌}
use Rattle.wfe_c.specs.Place.{closed_in}
use Rattle.wfe_c.specs.Reading.{pair_told}
use Rattle.wfe_c.proofs.Handles.{by_some}
use Rattle.wfe_c.proofs.reading.wfe_c_closed_queued.Goals as goal

pub returns : goal.returns
returns c = by_some _ _ (closed_in c.args.seat.now.place.inside) _ (ap closed_in c.closed-closed.ensures.value) (record { is = refl; tells = c.pair_told.ensures ∙ ap (λ (items : List (ℕ × ℕ)). pair_told (slice_get items c.args.place)) c.as_slice.ensures.value })
