-- What a seat lets go of that leaves with its interval: from an index on, each row that stands.
use Rattle.std.proofs.Common.{ℕ, suc, ◌+◌, ◌-◌, ◌≤◌, Bool, true, false, ◌≡◌, ◌∙◌, sym, refl, ap, arith, get_or, ◌⊎◌, inl, inr}
use Rattle.std.proofs.lemmas.Bool.Decides.{nat_tests}
use Rattle.std.proofs.lemmas.List.{get_or-drop}
use Rattle.std.proofs.lemmas.List.Folds.{list_any-append}
use Rattle.std.specs.List.{list_any}
use Rattle.std.specs.Prelude.{List, [], ◌∷◌, ◌++◌, drop, Option, Some, None, if◌then◌else◌, ◌==◌, nat_lt}
use Rattle.inv_rows.specs.Covering.Rests.{Vacant, spare}
use Rattle.inv_rows.specs.model.Posts.{cleared, cleared_from, reserves_span, stands, withdrawn_all}
use Rattle.inv_rows.specs.model.declared.post.Post.{Post}
use Rattle.inv_rows.proofs.Covering.Stands.{bare_stands}
use Rattle.inv_rows.proofs.model.Facts.{either_true, no_truth_2}
use Rattle.inv_ends.proofs.Told.Turns.{cleared_stood, stood_append}
use Rattle.inv_ends.specs.Stands.{is_clear, stood}

dropped_at : (post : Post) (index j : ℕ) → index ≤ j → stands post j ≡ get_or (drop index post.standing) (j - index) None
dropped_at post index j l = let e : index + (j - index) ≡ j = omega arith in
    sym (get_or-drop index post.standing (j - index) None ∙ ap (λ (n : ℕ). get_or post.standing n None) e)

-- a row that is told to stand no more stood
record StoodAt (rows : List (Option ℕ)) (index j s : ℕ) : Type 0 where
  from : index ≤ j
  stood : get_or rows (j - index) None ≡ Some s

left_first : (row : Option ℕ) (rows : List (Option ℕ)) (index j s : ℕ) → (index ≡ j) × (row ≡ Some s) → StoodAt (row ∷ rows) index j s
left_first row rows index j s h = let e = h.0 in let z : j - index ≡ 0 = omega arith in
    record { from = omega arith; stood = ap (λ (n : ℕ). get_or (row ∷ rows) n None) z ∙ h.1 }

left_later : (row : Option ℕ) (rows : List (Option ℕ)) (index j s : ℕ) → StoodAt rows (index + 1) j s → StoodAt (row ∷ rows) index j s
left_later row rows index j s h = let f = h.from in let z : j - index ≡ suc (j - (index + 1)) = omega arith in
    record { from = omega arith; stood = ap (λ (n : ℕ). get_or (row ∷ rows) n None) z ∙ h.stood }

left_either : (row : Option ℕ) (rows : List (Option ℕ)) (index j s : ℕ) → (list_any (is_clear j s) (cleared_from (index + 1) rows) ≡ true → StoodAt rows (index + 1) j s)
    → (list_any (is_clear j s) (cleared index row) ≡ true) ⊎ (list_any (is_clear j s) (cleared_from (index + 1) rows) ≡ true) → StoodAt (row ∷ rows) index j s
left_either row rows index j s f (inl h) = left_first row rows index j s (cleared_stood index row j s h)
left_either row rows index j s f (inr h) = left_later row rows index j s (f h)

left_at : (rows : List (Option ℕ)) (index j s : ℕ) → list_any (is_clear j s) (cleared_from index rows) ≡ true → StoodAt rows index j s
left_at [] index j s h = no_truth_2 h
left_at (row ∷ rows) index j s h =
    left_either row rows index j s (left_at rows (index + 1) j s) (either_true (list_any (is_clear j s) (cleared index row)) (list_any (is_clear j s) (cleared_from (index + 1) rows)) (rw list_any-append at h))

pub left_stood : (post : Post) (j s : ℕ) → list_any (is_clear j s) (cleared_from 2 (drop 2 post.standing)) ≡ true → stands post j ≡ Some s
left_stood post j s h = let f : StoodAt (drop 2 post.standing) 2 j s = left_at (drop 2 post.standing) 2 j s h in dropped_at post 2 j f.from ∙ f.stood

-- at another index it is told nothing of what stands
pub cleared_away : (index j : ℕ) (x y : Option ℕ) → (index == j) ≡ false → stood (cleared index x) y j ≡ y
cleared_away index j None y e = refl
cleared_away index j (Some slot) y e = rw e refl

-- and nothing stands any more
none_both : (same : Bool) (x : Option ℕ) → x ≡ None → (if same then None else x) ≡ None
none_both true x h = refl
none_both false x h = h

cleared_none : (index j : ℕ) (x : Option ℕ) → stood (cleared index x) None j ≡ None
cleared_none index j None = refl
cleared_none index j (Some slot) = none_both (index == j) None refl

left_none : (rows : List (Option ℕ)) (index j : ℕ) → stood (cleared_from index rows) None j ≡ None
left_none [] index j = refl
left_none (row ∷ rows) index j =
    stood_append (cleared index row) (cleared_from (index + 1) rows) None j
    ∙ ap (λ (x : Option ℕ). stood (cleared_from (index + 1) rows) x j) (cleared_none index j row)
    ∙ left_none rows (index + 1) j

cleared_own : (index j : ℕ) (x : Option ℕ) → (index == j) ≡ true → stood (cleared index x) x j ≡ None
cleared_own index j None e = refl
cleared_own index j (Some slot) e = rw e refl

-- so it is at the index itself, whatever else is let go
left_own : (row : Option ℕ) (rows : List (Option ℕ)) (index j : ℕ) → (index == j) ≡ true → stood (cleared_from index (row ∷ rows)) (get_or (row ∷ rows) (j - index) None) j ≡ None
left_own row rows index j e =
    let q : index ≡ j = grind (arith, nat_tests) in
    let z : j - index ≡ 0 = omega arith in
    ap (λ (n : ℕ). stood (cleared_from index (row ∷ rows)) (get_or (row ∷ rows) n None) j) z
    ∙ stood_append (cleared index row) (cleared_from (index + 1) rows) row j
    ∙ ap (λ (x : Option ℕ). stood (cleared_from (index + 1) rows) x j) (cleared_own index j row e)
    ∙ left_none rows (index + 1) j

left_above : (row : Option ℕ) (rows : List (Option ℕ)) (index j : ℕ) → index + 1 ≤ j → (index == j) ≡ false → stood (cleared_from (index + 1) rows) (get_or rows (j - (index + 1)) None) j ≡ None
    → stood (cleared_from index (row ∷ rows)) (get_or (row ∷ rows) (j - index) None) j ≡ None
left_above row rows index j l e h =
    let x : Option ℕ = get_or rows (j - (index + 1)) None in
    let z : j - index ≡ suc (j - (index + 1)) = omega arith in
    ap (λ (n : ℕ). stood (cleared_from index (row ∷ rows)) (get_or (row ∷ rows) n None) j) z
    ∙ stood_append (cleared index row) (cleared_from (index + 1) rows) x j
    ∙ ap (λ (y : Option ℕ). stood (cleared_from (index + 1) rows) y j) (cleared_away index j row x e)
    ∙ h

left_either_gone : (row : Option ℕ) (rows : List (Option ℕ)) (index j : ℕ) (same : Bool) → (index == j) ≡ same → index ≤ j → (index + 1 ≤ j → stood (cleared_from (index + 1) rows) (get_or rows (j - (index + 1)) None) j ≡ None)
    → stood (cleared_from index (row ∷ rows)) (get_or (row ∷ rows) (j - index) None) j ≡ None
left_either_gone row rows index j true e l f = left_own row rows index j e
left_either_gone row rows index j false e l f = let m : index + 1 ≤ j = grind (arith, nat_tests) in left_above row rows index j m e (f m)

left_gone : (rows : List (Option ℕ)) (index j : ℕ) → index ≤ j → stood (cleared_from index rows) (get_or rows (j - index) None) j ≡ None
left_gone [] index j l = refl
left_gone (row ∷ rows) index j l = left_either_gone row rows index j (index == j) refl l (left_gone rows (index + 1) j)

hidden_none : (post : Post) (j : ℕ) (low : Bool) → nat_lt j 2 ≡ low → Vacant spare post → stood (cleared_from 2 (drop 2 post.standing)) (stands post j) j ≡ None
hidden_none post j true e n = ap (λ (x : Option ℕ). stood (cleared_from 2 (drop 2 post.standing)) x j) (n j e) ∙ left_none (drop 2 post.standing) 2 j
hidden_none post j false e n =
    let l : 2 ≤ j = grind (arith, nat_tests) in
    ap (λ (x : Option ℕ). stood (cleared_from 2 (drop 2 post.standing)) x j) (dropped_at post 2 j l) ∙ left_gone (drop 2 post.standing) 2 j l

-- what stands once all is let go is what was told, where nothing stood below
pub hidden_stood : (post : Post) (j : ℕ) → Vacant spare post → stands (withdrawn_all post) j ≡ stood (cleared_from 2 (drop 2 post.standing) ++ reserves_span post None) (stands post j) j
hidden_stood post j n =
    bare_stands post j ∙ sym (stood_append (cleared_from 2 (drop 2 post.standing)) (reserves_span post None) (stands post j) j ∙ hidden_none post j (nat_lt j 2) refl n)
