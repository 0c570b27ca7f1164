-- Sets of rows as lists.
use Rattle.std.specs.Prelude.{ℕ, List, [], ◌∷◌, ◌++◌, if◌then◌else◌}
use Rattle.laws.specs.StateAt.{is_one_of}

-- the rows with one more, where it is not among them
abbrev pub with_row : ℕ → List ℕ → List ℕ
with_row slot rows = if is_one_of slot rows then rows else rows ++ slot ∷ []
