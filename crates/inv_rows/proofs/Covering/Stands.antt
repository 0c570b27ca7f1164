-- What stands at an index after a change of the post.
use Rattle.std.proofs.Common.{ℕ, zero, suc, None, ◌≡◌, ◌≢◌, ◌<◌, length, arith, sym, subst, ◌∙◌, true, false, Bool, refl}
use Rattle.std.proofs.lemmas.Bool.Decides.{nat_tests}
use Rattle.std.specs.Prelude.{Some, ◌==◌}
use Rattle.inv_rows.specs.model.declared.post.Post.{Post}
use Rattle.inv_rows.specs.model.Posts.{stands, with_row, withdrawn, withdrawn_all}
use Rattle.inv_rows.specs.Covering.Tries.{Shrinks}
use Rattle.inv_rows.proofs.model.Standing.{stands-withdrawn_same, stands-with_row_same, stands-withdrawn_other, stands-with_row_other}

no_row : (post : Post) (index s : ℕ) → stands (withdrawn post index) index ≡ Some s → false ≡ true
no_row post index s h = let w = stands-withdrawn_same post index in absurd (cc)

-- nothing stands at the index that is withdrawn, and what stands at another stood before
pub withdrawn_apart : (post : Post) (index j s : ℕ) → stands (withdrawn post index) j ≡ Some s → (j == index) ≡ false
withdrawn_apart post index j s h = by_same (j == index) refl where
  by_same : (same : Bool) → (j == index) ≡ same → same ≡ false
  by_same false e = refl
  by_same true e = let q : j ≡ index = grind (arith, nat_tests) in sym (no_row post index s (subst (λ (n : ℕ). stands (withdrawn post index) n ≡ Some s) q h))

pub withdrawn_shrinks : (post : Post) (index : ℕ) → Shrinks post (withdrawn post index)
withdrawn_shrinks post index j s h =
    let e = withdrawn_apart post index j s h in
    let q : j ≢ index = grind (arith, nat_tests) in sym (stands-withdrawn_other post index j q) ∙ h

-- nothing stands once all is let go
pub bare_stands : (post : Post) (j : ℕ) → stands (withdrawn_all post) j ≡ None
bare_stands post zero = refl
bare_stands post (suc zero) = refl
bare_stands post (suc (suc zero)) = refl
bare_stands post (suc (suc (suc zero))) = refl
bare_stands post (suc (suc (suc (suc zero)))) = refl
bare_stands post (suc (suc (suc (suc (suc zero))))) = refl
bare_stands post (suc (suc (suc (suc (suc (suc zero)))))) = refl
bare_stands post (suc (suc (suc (suc (suc (suc (suc zero))))))) = refl
bare_stands post (suc (suc (suc (suc (suc (suc (suc (suc j)))))))) = refl

pub bare_none : (post : Post) (j s : ℕ) → stands (withdrawn_all post) j ≡ Some s → ⊥
bare_none post j s h = let e : None ≡ Some s = sym (bare_stands post j) ∙ h in absurd (cc)

-- one row more stands, at this index
pub with_row_apart : (post : Post) (index slot j s : ℕ) → (j == index) ≡ false → stands (with_row post index slot) j ≡ Some s → stands post j ≡ Some s
with_row_apart post index slot j s e h = let q : j ≢ index = grind (arith, nat_tests) in sym (stands-with_row_other post index slot j q) ∙ h

pub with_row_is : (post : Post) (index slot j s : ℕ) → index < length post.standing → (j == index) ≡ true → stands (with_row post index slot) j ≡ Some s → s ≡ slot
with_row_is post index slot j s b e h =
    let q : j ≡ index = grind (arith, nat_tests) in
    let k : stands (with_row post index slot) index ≡ Some s = subst (λ (n : ℕ). stands (with_row post index slot) n ≡ Some s) q h in
    let w = stands-with_row_same post index slot b in cc
