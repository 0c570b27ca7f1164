-- What stands at each index, and the tags, after a change at one.
use Rattle.std.proofs.Common.{ℕ, zero, suc, ◌≡◌, ◌≢◌, ◌<◌, ◌≤◌, List, [], ◌∷◌, drop, get_or, length, Option, refl, arith}
use Rattle.std.proofs.lemmas.Grind.{common_steps}
use Rattle.std.specs.Prelude.{Some, None}
use Rattle.wfe_core.specs.declared.post.Post.{Post}
use Rattle.wfe_core.specs.Posts.{stands, with_row, withdrawn, tag_of, with_tag}
use Rattle.wfe_core.specs.Rounds.{first_row, kept_row}

pub stands-with_row_same : (post : Post) (index slot : ℕ) → index < length post.standing → stands (with_row post index slot) index ≡ Some slot
stands-with_row_same post index slot h = grind (arith, common_steps)

pub stands-with_row_other : (post : Post) (index slot other : ℕ) → other ≢ index → stands (with_row post index slot) other ≡ stands post other
stands-with_row_other post index slot other h = grind (arith, common_steps)

pub stands-withdrawn_same : (post : Post) (index : ℕ) → stands (withdrawn post index) index ≡ None
stands-withdrawn_same post index = grind (arith, common_steps)

pub stands-withdrawn_other : (post : Post) (index other : ℕ) → other ≢ index → stands (withdrawn post index) other ≡ stands post other
stands-withdrawn_other post index other h = grind (arith, common_steps)

pub tag_of-with_tag_same : (post : Post) (index tag : ℕ) → index < length post.tags → tag_of (with_tag post index tag) index ≡ tag
tag_of-with_tag_same post index tag h = grind (arith, common_steps)

pub tag_of-with_tag_other : (post : Post) (index tag other : ℕ) → other ≢ index → tag_of (with_tag post index tag) other ≡ tag_of post other
tag_of-with_tag_other post index tag other h = grind (arith, common_steps)

-- where no row is kept nothing stands from index 2 on
first_none : (rows : List (Option ℕ)) (index : ℕ) → first_row rows ≡ None → get_or rows index None ≡ None
first_none [] index h = refl
first_none (None ∷ rows) zero h = refl
first_none (None ∷ rows) (suc index) h = first_none rows index h
first_none (Some slot ∷ rows) index h = absurd (cc)

dropped_none : (rows : List (Option ℕ)) (index : ℕ) → first_row (drop 2 rows) ≡ None → 2 ≤ index → get_or rows index None ≡ None
dropped_none rows zero h l = absurd (omega arith)
dropped_none rows (suc zero) h l = absurd (omega arith)
dropped_none [] (suc (suc index)) h l = refl
dropped_none (x ∷ []) (suc (suc index)) h l = refl
dropped_none (x ∷ y ∷ rows) (suc (suc index)) h l = first_none rows index h

pub none_kept : (post : Post) (index : ℕ) → kept_row post ≡ None → 2 ≤ index → stands post index ≡ None
none_kept post index h l = dropped_none post.standing index h l

-- and the row that is kept stands at one
first_some : (rows : List (Option ℕ)) (slot : ℕ) → first_row rows ≡ Some slot → (index : ℕ) × (get_or rows index None ≡ Some slot)
first_some [] slot h = absurd (cc)
first_some (None ∷ rows) slot h = let f = first_some rows slot h in (suc f.0, f.1)
first_some (Some row ∷ rows) slot h = (0, h)

dropped_some : (rows : List (Option ℕ)) (slot : ℕ) → first_row (drop 2 rows) ≡ Some slot → (index : ℕ) × (2 ≤ index) × (get_or rows index None ≡ Some slot)
dropped_some [] slot h = absurd (cc)
dropped_some (x ∷ []) slot h = absurd (cc)
dropped_some (x ∷ y ∷ rows) slot h = let f = first_some rows slot h in (suc (suc f.0), omega arith, f.1)

pub some_kept : (post : Post) (slot : ℕ) → kept_row post ≡ Some slot → (index : ℕ) × (2 ≤ index) × (stands post index ≡ Some slot)
some_kept post slot h = dropped_some post.standing slot h
