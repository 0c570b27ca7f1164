-- The pairs of a bucket, as its changes leave them.
use Rattle.std.specs.Prelude.{ℕ, ◌==◌, if◌then◌else◌, List, [], ◌∷◌, Option, Some, None}
use Rattle.wfe_defs.specs.declared.fold.Change.{Change}
use Rattle.wfe_defs.specs.declared.fold.Change.TheVariants as changes

-- a key and its value
abbrev pub Pair : Type 0
Pair = ℕ × ℕ

-- a key that is there keeps its place and gets the value; a new key goes last
abbrev pub with_pair : List Pair → ℕ → ℕ → List Pair
with_pair [] key value = (key, value) ∷ []
with_pair (p ∷ ps) key value = if p.0 == key then (key, value) ∷ ps else p ∷ with_pair ps key value

-- the pairs without a key
abbrev pub without_key : List Pair → ℕ → List Pair
without_key [] key = []
without_key (p ∷ ps) key = if p.0 == key then without_key ps key else p ∷ without_key ps key

-- the pairs after one change
abbrev pub changed : List Pair → Change → List Pair
changed ps (changes.Put key value) = with_pair ps key value
changed ps (changes.Removed key) = without_key ps key

-- the pairs after these changes of the pairs
abbrev pub pairs_from : List Pair → List Change → List Pair
pairs_from ps [] = ps
pairs_from ps (c ∷ cs) = pairs_from (changed ps c) cs

-- the pairs that the changes make of none
abbrev pub pairs_after : List Change → List Pair
pairs_after cs = pairs_from [] cs

-- the key's value among the pairs
abbrev pub value_in : List Pair → ℕ → Option ℕ
value_in [] key = None
value_in (p ∷ ps) key = if p.0 == key then Some p.1 else value_in ps key

-- the key's value after a change, from its value before
abbrev pub value_after : Option ℕ → Change → ℕ → Option ℕ
value_after before (changes.Put put value) key = if put == key then Some value else before
value_after before (changes.Removed removed) key = if removed == key then None else before
