-- One place more of the retire list, and a scan's step as the turn of a call.
use Rattle.std.proofs.Common.{ℕ, suc, ◌≡◌, ◌<◌, ◌+◌, true, false, List, ◌∷◌, length, drop, get_or, Some, refl, ap, ◌∙◌, add-one, drop-cons}
use Rattle.std.proofs.lemmas.Option.{get_or_from_slice_get, slice_get_within}
use Rattle.std.specs.Prelude.{slice_get}
use Rattle.wfe_core.specs.defs.Shown.{Seen, keeps_any}
use Rattle.wfe_core.specs.defs.declared.lifetime.Lifetime.{Lifetime}
use Rattle.wfe_core.specs.Scan.{first_unmet}

-- the list from a place on is the entry there, and the list from the next place on
drop_at : (lives : List Lifetime) (place : ℕ) (life : Lifetime) → slice_get lives place ≡ Some life → drop place lives ≡ life ∷ drop (place + 1) lives
drop_at lives place life at =
    let within : place < length lives = slice_get_within lives place life at in
    let entry : get_or lives place life ≡ life = get_or_from_slice_get lives place life life at in
    rw (add-one) (drop-cons lives place life within ∙ ap (λ (first : Lifetime). first ∷ drop (suc place) lives) entry)

-- the entry at this place meets something: the first that meets nothing comes after it
pub passed : (read : List Seen) (lives : List Lifetime) (place : ℕ) (life : Lifetime) → slice_get lives place ≡ Some life → keeps_any life read ≡ true → first_unmet read (place + 1) (drop (place + 1) lives) ≡ first_unmet read place (drop place lives)
passed read lives place life at e = rw (drop_at lives place life at) (rw (e, first_unmet) refl)

-- it meets nothing
pub found : (read : List Seen) (lives : List Lifetime) (place : ℕ) (life : Lifetime) → slice_get lives place ≡ Some life → keeps_any life read ≡ false → Some (place, life) ≡ first_unmet read place (drop place lives)
found read lives place life at e = rw (drop_at lives place life at) (rw (e, first_unmet) refl)
