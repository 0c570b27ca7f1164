-- The first index at which something stands, and all at which something does, one index after the other.
use Rattle.std.proofs.Common.{List, [], ap, arith, drop, get_or, length, refl, sym, true, ℕ, ◌++◌, ◌+◌, ◌<◌, ◌∙◌, ◌∷◌, ◌≡◌, ◌≤◌}
use Rattle.std.proofs.lemmas.List.{append-nil, append_assoc, drop_more}
use Rattle.std.proofs.Math.ListN.{drop_of_length-le}
use Rattle.std.specs.Prelude.{None, Option, Some, false, is_some}
use Rattle.wfe_core.specs.defs.declared.event.Event.{Event}
use Rattle.wfe_core.specs.Keep.{parting, parting_index, parting_span}
use Rattle.wfe_core.specs.Posts.{cleared, cleared_from, standing_from}
use Rattle.wfe_core.specs.Rounds.{scheme_of}
use Rattle.wfe_core.specs.words.Schemes.{has_one_interval, publishes_rows}
use Rattle.wfe_core.specs.declared.post.Post.{Post}
use Rattle.wfe_core.specs.Valid.{StandsValid}

stood_by : (index : ℕ) (row : Option ℕ) (rows : List (Option ℕ)) → is_some row ≡ true → standing_from index (row ∷ rows) ≡ Some index
stood_by index (Some slot) rows h = refl
stood_by index None rows h = absurd (cc)

none_by : (index : ℕ) (row : Option ℕ) (rows : List (Option ℕ)) → is_some row ≡ false → standing_from index (row ∷ rows) ≡ standing_from (index + 1) rows
none_by index (Some slot) rows h = absurd (cc)
none_by index None rows h = refl

pub stood_here : (rows : List (Option ℕ)) (index : ℕ) → index < length rows → is_some (get_or rows index None) ≡ true → standing_from index (drop index rows) ≡ Some index
stood_here rows index l h = ap (standing_from index) (drop_more rows index None l) ∙ stood_by index (get_or rows index None) (drop (index + 1) rows) h

pub none_here : (rows : List (Option ℕ)) (index : ℕ) → index < length rows → is_some (get_or rows index None) ≡ false → standing_from index (drop index rows) ≡ standing_from (index + 1) (drop (index + 1) rows)
none_here rows index l h = ap (standing_from index) (drop_more rows index None l) ∙ none_by index (get_or rows index None) (drop (index + 1) rows) h

pub none_past : (rows : List (Option ℕ)) (index : ℕ) → length rows ≤ index → standing_from index (drop index rows) ≡ None
none_past rows index l = ap (standing_from index) (drop_of_length-le rows l)

-- the same of the events
pub cleared_here : (rows : List (Option ℕ)) (index : ℕ) (told : List Event) → index < length rows → (told ++ cleared index (get_or rows index None)) ++ cleared_from (index + 1) (drop (index + 1) rows) ≡ told ++ cleared_from index (drop index rows)
cleared_here rows index told l =
    append_assoc told (cleared index (get_or rows index None)) (cleared_from (index + 1) (drop (index + 1) rows))
    ∙ ap (λ (list : List (Option ℕ)). told ++ cleared_from index list) (sym (drop_more rows index None l))

pub cleared_past : (rows : List (Option ℕ)) (index : ℕ) (told : List Event) → length rows ≤ index → told ++ cleared_from index (drop index rows) ≡ told
cleared_past rows index told l = ap (λ (list : List (Option ℕ)). told ++ cleared_from index list) (drop_of_length-le rows l) ∙ append-nil told

-- what a seat that leaves lets go next, where indexes publish by themselves
pub stood_parting : (post : Post) (index : ℕ) → has_one_interval (scheme_of post) ≡ false → standing_from index (drop index post.standing) ≡ standing_from 2 (drop 2 post.standing) → index < length post.standing
    → is_some (get_or post.standing index None) ≡ true → parting_index (publishes_rows (scheme_of post)) (Some index) ≡ parting post
stood_parting post index apart same below stood = rw apart (ap (parting_index (publishes_rows (scheme_of post))) (sym (stood_here post.standing index below stood) ∙ same))

pub none_parting : (post : Post) (index : ℕ) → has_one_interval (scheme_of post) ≡ false → standing_from index (drop index post.standing) ≡ standing_from 2 (drop 2 post.standing) → length post.standing ≤ index → parting_index (publishes_rows (scheme_of post)) None ≡ parting post
none_parting post index apart same past = rw apart (ap (parting_index (publishes_rows (scheme_of post))) (sym (none_past post.standing index past) ∙ same))

pub stood_below : (post : Post) (index : ℕ) (row : Option ℕ) → is_some row ≡ true → StandsValid post index row → index < post.layout.config.indexes
stood_below post index (Some slot) h v = v.1
stood_below post index None h v = absurd (cc)
