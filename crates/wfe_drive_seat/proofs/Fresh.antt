-- The seats of a table that starts, made one after another.
use Rattle.std.proofs.Common.{List, [], ap, ap₂, arith, sym, ℕ, ◌++◌, ◌+◌, ◌∙◌, ◌∷◌, ◌≡◌, ◌≤◌}
use Rattle.std.proofs.lemmas.List.FromFn.{map-range_with_len_more}
use Rattle.std.specs.Prelude.{map}
use Rattle.std.specs.List.{range_with_len}
use Rattle.wfe_core.specs.words.declared.layout.Layout.{Layout}
use Rattle.wfe_drive_cells.specs.Unit.{SeatView, fresh_seat}

-- one seat more
pub seats_more : (layout : Layout) (views : List SeatView) (seat : ℕ) (v : SeatView) (more : List SeatView) → views ≡ map (fresh_seat layout) (range_with_len 0 seat) → v ≡ fresh_seat layout seat → more ≡ views ++ v ∷ [] → more ≡ map (fresh_seat layout) (range_with_len 0 (seat + 1))
seats_more layout views seat v more e f m = m ∙ ap₂ (λ (xs : List SeatView) (x : SeatView). xs ++ x ∷ []) e f ∙ sym (map-range_with_len_more (fresh_seat layout) 0 seat seat (omega arith))

-- all of them
pub seats_all : (layout : Layout) (views : List SeatView) (seat count : ℕ) → views ≡ map (fresh_seat layout) (range_with_len 0 seat) → seat ≤ count → count ≤ seat → count ≡ layout.config.seats → views ≡ map (fresh_seat layout) (range_with_len 0 layout.config.seats)
seats_all layout views seat count e low high is =
    let all : seat ≡ layout.config.seats = omega (low, high, is, arith) in
    e ∙ ap (λ (n : ℕ). map (fresh_seat layout) (range_with_len 0 n)) all
