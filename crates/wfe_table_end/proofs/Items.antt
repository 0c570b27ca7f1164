-- The items after a row, where its next link is null and where it is not.
use Rattle.std.proofs.Common.{[], refl, suc, false, zero, ℕ, ◌-◌, ◌∷◌, ◌≡◌, ◌≢◌}
use Rattle.std.specs.Prelude.{◌==◌}
use Rattle.wfe_core.proofs.Facts.{false_by, number_is}
use Rattle.wfe_core.specs.words.Place.{Place}
use Rattle.wfe_core.specs.words.Place.Place.{Row}
use Rattle.wfe_table_end.specs.Contents.{item_in, items_after}

pub items_none : (mem : Place → ℕ) (rows slot : ℕ) → mem (Row slot 0) ≡ 0 → items_after mem rows slot ≡ []
items_none mem zero slot h = refl
items_none mem (suc rows) slot h = rw h refl

pub items_some : (mem : Place → ℕ) (rows slot link : ℕ) → mem (Row slot 0) ≡ link → link ≢ 0 → items_after mem (suc rows) slot ≡ item_in mem (link - 1) ∷ items_after mem rows (link - 1)
items_some mem rows slot link h some = let apart : (link == 0) ≡ false = false_by (link == 0) (λ e. some (number_is link 0 e)) in rw (h, apart) refl
