-- The seats of a new table, made one after another.
use Rattle.std.proofs.Common.{All, List, [], ap, ap₂, arith, refl, suc, sym, zero, ℕ, ◌++◌, ◌+◌, ◌-◌, ◌∙◌, ◌∷◌, ◌≡◌, ◌≤◌}
use Rattle.std.proofs.lemmas.List.Elements.{All-map, All-same}
use Rattle.std.proofs.lemmas.List.FromFn.{map-range_with_len_more}
use Rattle.std.specs.Prelude.{map}
use Rattle.std.specs.List.{range_with_len}
use Rattle.wfe_table.specs.Public.{IsOf, SeatNow, TableNow, new_seat, new_seats}

one_later : (number : ℕ) → 1 ≤ number → (number + 1) - 1 ≡ (number - 1) + 1
one_later number some = omega (some, arith)

-- one seat more
pub seats_more : (shared : TableNow) (seats more : List SeatNow) (number : ℕ) (seat : SeatNow) → 1 ≤ number → seats ≡ map (new_seat shared) (range_with_len 1 (number - 1)) → seat ≡ new_seat shared number → more ≡ seats ++ seat ∷ []
    → more ≡ map (new_seat shared) (range_with_len 1 (number + 1 - 1))
seats_more shared seats more number seat some e f m =
    m ∙ ap₂ (λ (xs : List SeatNow) (x : SeatNow). xs ++ x ∷ []) e f ∙ sym (map-range_with_len_more (new_seat shared) 1 (number - 1) number (omega (some, arith)))
    ∙ ap (λ (n : ℕ). map (new_seat shared) (range_with_len 1 n)) (sym (one_later number some))

-- the first seat before the others
pub seats_all : (shared : TableNow) (seats : List SeatNow) (number : ℕ) (seat : SeatNow) (count : ℕ) → 1 ≤ number → number ≡ count → seats ≡ map (new_seat shared) (range_with_len 1 (number - 1)) → seat ≡ new_seat shared 0
    → seat ∷ seats ≡ map (new_seat shared) (range_with_len 0 count)
seats_all shared seats zero seat count some is e f = absurd (omega (some, arith))
seats_all shared seats (suc number) seat count some is e f =
    let less : suc number - 1 ≡ number = omega arith in
    ap₂ (λ (x : SeatNow) (xs : List SeatNow). x ∷ xs) f (e ∙ ap (λ (n : ℕ). map (new_seat shared) (range_with_len 1 n)) less) ∙ ap (λ (n : ℕ). map (new_seat shared) (range_with_len 0 n)) is

-- each seat of a new table is that table's
pub seats_of : (shared : TableNow) (seats : List SeatNow) → seats ≡ new_seats shared → All (λ seat. IsOf seat shared) seats
seats_of shared seats e =
    All-same (λ seat. IsOf seat shared) seats (new_seats shared) e
    (All-map (λ seat. IsOf seat shared) (new_seat shared) (range_with_len 0 shared.layout.config.seats) (λ k d h. record { table = refl; layout = refl }))
