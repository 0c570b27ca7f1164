-- The seats of a new table have made no call.
use Rattle.std.proofs.Common.{List, ap, arith, get_or, length, refl, subst, sym, ◌<◌, ◌∙◌, ◌≡◌}
use Rattle.std.proofs.lemmas.List.Elements.{All-from_get_or}
use Rattle.std.proofs.lemmas.List.FromFn.{get_or-map-range_with_len, length-map-range_with_len}
use Rattle.std.specs.Prelude.{All}
use Rattle.wfe_table.specs.Public.{SeatNow, TableNow, new_seat, new_seats}
use Rattle.wfe_cells.specs.Reasons.{IsNew}

pub all_new : (shared : TableNow) (seats : List SeatNow) → seats ≡ new_seats shared → All (IsNew shared) seats
all_new shared seats e =
    subst (All (IsNew shared)) (sym e)
    (All-from_get_or (IsNew shared) (new_seats shared) (new_seat shared 0) (λ i within.
    let below : i < shared.layout.config.seats = omega (arith, within, length-map-range_with_len (new_seat shared) 0 shared.layout.config.seats) in
    let at : get_or (new_seats shared) i (new_seat shared 0) ≡ new_seat shared i = get_or-map-range_with_len (new_seat shared) 0 shared.layout.config.seats i i (new_seat shared 0) below (omega arith) in
    subst (IsNew shared) (sym at) (record { of = record { table = refl; layout = refl }; log = refl })))

-- as many as the setting has
pub many_new : (shared : TableNow) (seats : List SeatNow) → seats ≡ new_seats shared → length seats ≡ shared.layout.config.seats
many_new shared seats e = ap length e ∙ length-map-range_with_len (new_seat shared) 0 shared.layout.config.seats
