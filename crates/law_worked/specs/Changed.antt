-- A plain reader of a law, records with one line changed, and the places at which the reader refuses what the change makes.
use Rattle.std.specs.Prelude.{ℕ, ◌+◌, ◌&&◌, Bool, true, false, List, [], ◌∷◌}
use Rattle.wfe_core.specs.defs.Entry.{Entry}
use Rattle.model_history.specs.Record.{Past, Test}
use Rattle.model_history.specs.Record.Past.{Start, Then}

-- each of these lines is allowed where it stands after a position
abbrev pub reads_on : Test → Past → List Entry → Bool
reads_on ok p [] = true
reads_on ok p (x ∷ xs) = ok p x.seat x.event && reads_on ok (Then p x.seat x.event) xs

-- a plain reader: each line of the record is allowed
abbrev pub reads : Test → List Entry → Bool
reads ok lines = reads_on ok Start lines

-- a change of the first of some lines
abbrev pub Change : Type 0
Change = List Entry → List Entry

-- the line is missing
abbrev pub dropped : Change
dropped [] = []
dropped (x ∷ xs) = xs

-- the line is there twice
abbrev pub doubled : Change
doubled [] = []
doubled (x ∷ xs) = x ∷ x ∷ xs

-- the line comes after the next one
abbrev pub swapped : Change
swapped [] = []
swapped (x ∷ []) = x ∷ []
swapped (x ∷ y ∷ xs) = y ∷ x ∷ xs

abbrev pub add_if : Bool → ℕ → List ℕ → List ℕ
add_if true place places = places
add_if false place places = place ∷ places

-- of these lines, which stand after a position, the places where the changed line is refused, or one after it
abbrev refused_on : Test → Change → Past → ℕ → List Entry → List ℕ
refused_on ok change p place [] = []
refused_on ok change p place (x ∷ xs) = add_if (reads_on ok p (change (x ∷ xs))) place (refused_on ok change (Then p x.seat x.event) (place + 1) xs)

-- the places of a record, counted from 0, at which a law refuses what a change makes of it
abbrev pub refused : Test → Change → List Entry → List ℕ
refused ok change lines = refused_on ok change Start 0 lines
