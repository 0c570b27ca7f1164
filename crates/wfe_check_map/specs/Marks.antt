-- The changes of a bucket as they are kept.
use Rattle.std.specs.Prelude.{ℕ, Option, Some, None, List, map}
use Rattle.wfe_defs.specs.declared.fold.Change.{Change}
use Rattle.wfe_defs.specs.declared.fold.Change.TheVariants as changes
use Rattle.wfe_check_map.specs.declared.bucket.Mark.{Mark}

-- the change of a key to a value, or its removal
abbrev pub change_to : (key : ℕ) → Option ℕ → Change
change_to key None = changes.Removed key
change_to key (Some value) = changes.Put key value

abbrev pub change_in : Mark → Change
change_in mark = change_to mark.key mark.value

abbrev pub changes_in : List Mark → List Change
changes_in marks = map change_in marks
