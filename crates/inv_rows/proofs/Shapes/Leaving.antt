-- The first row that stands from an index on, and that none does.
use Rattle.std.proofs.Common.{ℕ, zero, suc, ◌≡◌, ◌≤◌, ◌<◌, ◌+◌, ◌-◌, true, List, [], ◌∷◌, drop, get_or, Option, Some, None, refl, ap, sym, ◌∙◌, arith}
use Rattle.std.proofs.lemmas.List.{get_or-drop}
use Rattle.std.specs.Prelude.{is_some}
use Rattle.wfe_core.specs.declared.post.Post.{Post}
use Rattle.wfe_core.specs.Posts.{stands, standing_from}

record FirstAt (rows : List (Option ℕ)) (index next : ℕ) : Type 0 where
  place : ℕ
  is : next ≡ index + place
  stood : is_some (get_or rows place None) ≡ true
  none : (j : ℕ) → j < place → get_or rows j None ≡ None

none_before : (rows : List (Option ℕ)) (place : ℕ) → ((j : ℕ) → j < place → get_or rows j None ≡ None) → (j : ℕ) → j < suc place → get_or (None ∷ rows) j None ≡ None
none_before rows place n zero b = refl
none_before rows place n (suc j) b = n j (omega arith)

first_at : (rows : List (Option ℕ)) (index next : ℕ) → standing_from index rows ≡ Some next → FirstAt rows index next
first_at [] index next h = absurd (cc)
first_at (None ∷ rows) index next h = let f = first_at rows (index + 1) next h in let e = f.is in
    record { place = suc f.place; is = omega arith; stood = f.stood; none = none_before rows f.place f.none }
first_at (Some slot ∷ rows) index next h = let e : index ≡ next = cc in record { place = 0; is = omega arith; stood = refl; none = λ j b. absurd (omega arith) }

none_at : (rows : List (Option ℕ)) (index : ℕ) → standing_from index rows ≡ None → (j : ℕ) → get_or rows j None ≡ None
none_at [] index h j = refl
none_at (None ∷ rows) index h zero = refl
none_at (None ∷ rows) index h (suc j) = none_at rows (index + 1) h j
none_at (Some slot ∷ rows) index h j = absurd (cc)

-- the first index from this one on at which a row stands
pub record Next (post : Post) (index next : ℕ) : Type 0 where
  pub from : index ≤ next
  pub stood : is_some (stands post next) ≡ true
  pub none : (j : ℕ) → index ≤ j → j < next → stands post j ≡ None

dropped_at : (post : Post) (index j : ℕ) → index ≤ j → stands post j ≡ get_or (drop index post.standing) (j - index) None
dropped_at post index j l = let e : index + (j - index) ≡ j = omega arith in
    sym (get_or-drop index post.standing (j - index) None ∙ ap (λ (n : ℕ). get_or post.standing n None) e)

pub next_stands : (post : Post) (index next : ℕ) → standing_from index (drop index post.standing) ≡ Some next → Next post index next
next_stands post index next h = let f = first_at (drop index post.standing) index next h in let e = f.is in
    record {
      from = omega arith;
      stood = let n : next - index ≡ f.place = omega arith in ap is_some (dropped_at post index next (omega arith) ∙ ap (λ (n : ℕ). get_or (drop index post.standing) n None) n) ∙ f.stood;
      none = λ j l b. dropped_at post index j l ∙ f.none (j - index) (omega arith);
    }

pub none_stand : (post : Post) (index : ℕ) → standing_from index (drop index post.standing) ≡ None → (j : ℕ) → index ≤ j → stands post j ≡ None
none_stand post index h j l = dropped_at post index j l ∙ none_at (drop index post.standing) index h (j - index)
