-- Where a key is among pairs.
use Rattle.std.specs.Prelude.{ℕ, ◌≡◌, ◌<◌, ◌==◌, if◌then◌else◌, List, [], ◌∷◌, ◌++◌, take, length, slice_index_or, Option, Some, None}
use Rattle.wfe_core.specs.defs.Pairs.{Pair, value_in}

-- the key's first place, if it has one
abbrev pub IsPlace : List Pair → ℕ → Option ℕ → Type 0
IsPlace ps key None = value_in ps key ≡ None
IsPlace ps key (Some place) = (place < length ps) × (value_in (take place ps) key ≡ None) × ((slice_index_or ps place (0, 0)).0 ≡ key)

-- one more pair, unless it has this key
abbrev pub with_other : List Pair → Pair → ℕ → List Pair
with_other ps p key = if p.0 == key then ps else ps ++ p ∷ []
