-- What a change of the map does to the rows.
use Rattle.std.proofs.Common.{◌≡◌, if◌then◌else◌, ℕ, nat_eq, true, false, List, [], ◌∷◌, ◌++◌, map, Some, None, refl, ap, arith}
use Rattle.std.specs.Option.{unwrap_or}
use Rattle.indexmap.specs.IndexMap.{insert_entry}
use Rattle.std.specs.Map.{lookup, set_value}
use Rattle.std.proofs.lemmas.Bool.Decides.{nat_tests}
use Rattle.wfe_watch.specs.declared.keys.Changes.{Changes}
use Rattle.wfe_watch.specs.Counts.{raised}
use Rattle.wfe_watch.specs.Changes.{changes_row}
use Rattle.wfe_watch.specs.Keys.{with_put, with_removal, with_early, early_count, has_row, KeyCounts, removal_counted}

-- one more put of a key that is there
pub rows-set_put : (key removals : ℕ) (es : List (ℕ × Changes)) (old new : Changes) → lookup (nat_eq key) es ≡ Some old → new ≡ record old { puts = raised true old.puts } →
    map changes_row (set_value (nat_eq key) es new) ≡ with_put key removals (map changes_row es)
rows-set_put key removals [] old new found is = absurd (cc)
rows-set_put key removals (e ∷ es) old new found is = grind (arith, nat_tests, rows-set_put key removals es old new)

-- the first put of a key
pub rows-first_put : (key removals : ℕ) (es : List (ℕ × Changes)) (new : Changes) → lookup (nat_eq key) es ≡ None → new ≡ record { puts = 1; removals = removals } →
    map changes_row (es ++ (key, new) ∷ []) ≡ with_put key removals (map changes_row es)
rows-first_put key removals [] new none is = ap (λ c. changes_row (key, c) ∷ []) is
rows-first_put key removals (e ∷ es) new none is = grind (arith, nat_tests, rows-first_put key removals es new)

-- a key that is not there has no row
pub no_row : (key : ℕ) (es : List (ℕ × Changes)) → lookup (nat_eq key) es ≡ None → has_row key (map changes_row es) ≡ false
no_row key [] none = refl
no_row key (e ∷ es) none = grind (arith, nat_tests, no_row key es)

-- one more removal of a key that is there
pub rows-set_removal : (key : ℕ) (es : List (ℕ × Changes)) (old new : Changes) → lookup (nat_eq key) es ≡ Some old → new ≡ record old { removals = raised true old.removals } →
    map changes_row (set_value (nat_eq key) es new) ≡ with_removal key (map changes_row es)
rows-set_removal key [] old new found is = absurd (cc)
rows-set_removal key (e ∷ es) old new found is = grind (arith, nat_tests, rows-set_removal key es old new)

-- a key that is there has a row
pub some_row : (key : ℕ) (es : List (ℕ × Changes)) (old : Changes) → lookup (nat_eq key) es ≡ Some old → has_row key (map changes_row es) ≡ true
some_row key [] old found = absurd (cc)
some_row key (e ∷ es) old found = grind (arith, nat_tests, some_row key es old)

-- the removals of a key, as the map has them
pub early_count-lookup : (key : ℕ) (es : List (ℕ × ℕ)) → unwrap_or (lookup (nat_eq key) es) 0 ≡ early_count es key
early_count-lookup key [] = refl
early_count-lookup key (e ∷ es) = grind (arith, nat_tests, early_count-lookup key es)

-- one more removal of a key without a row
pub early-insert : (key : ℕ) (es : List (ℕ × ℕ)) → insert_entry nat_eq es key (raised true (early_count es key)) ≡ with_early key es
early-insert key [] = refl
early-insert key (e ∷ es) = grind (arith, nat_tests, early-insert key es)

-- a removal of a key with a row
pub removal_counted-shown : (key : ℕ) (counts : KeyCounts) → has_row key counts.rows ≡ true → removal_counted key counts ≡ record { rows = with_removal key counts.rows; early = counts.early }
removal_counted-shown key counts there =
    ap (λ b. if b then record { rows = with_removal key counts.rows; early = counts.early } else record { rows = counts.rows; early = with_early key counts.early }) there

-- a removal of a key without a row
pub removal_counted-early : (key : ℕ) (counts : KeyCounts) → has_row key counts.rows ≡ false → removal_counted key counts ≡ record { rows = counts.rows; early = with_early key counts.early }
removal_counted-early key counts none =
    ap (λ b. if b then record { rows = with_removal key counts.rows; early = counts.early } else record { rows = counts.rows; early = with_early key counts.early }) none
