-- The sizes of the numbers of pieces in a row.
use Rattle.std.proofs.Common.{List, [], ◌∷◌, ◌++◌, ◌≡◌}
use Rattle.wfe_server_out.specs.Pieces.{Piece, Text, Told, heard_of}
use Rattle.wfe_server_out.specs.Sizes.{AreSized}

pub sized_along : (xs ys : List Piece) → AreSized xs → AreSized ys → AreSized (xs ++ ys)
sized_along [] ys one two = two
sized_along (Text bytes ∷ xs) ys one two = sized_along xs ys one two
sized_along (Told x ∷ xs) ys one two = (one.0, sized_along xs ys one.1 two)

-- what tells of no event
pub sized_quiet : (xs : List Piece) → heard_of xs ≡ [] → AreSized xs
sized_quiet [] none = tt
sized_quiet (Text bytes ∷ xs) none = sized_quiet xs none
sized_quiet (Told x ∷ xs) none = absurd (cc)
