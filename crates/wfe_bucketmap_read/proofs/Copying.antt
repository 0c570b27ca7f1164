-- What a copy's steps lead to, as turns of the model.
use Rattle.std.proofs.Common.{ℕ, ◌≡◌, Bool, true, [], Option, Some, None, refl, ap}
use Rattle.std.specs.Prelude.{is_some}
use Rattle.wfe_core.specs.words.Schemes.{has_one_interval, publishes_rows}
use Rattle.wfe_core.specs.declared.post.Post.{Post}
use Rattle.wfe_core.specs.CallReady.{IsCallPlausible}
use Rattle.wfe_core.specs.Desks.{Desk}
use Rattle.wfe_core.specs.Keep.{copied, load_held}
use Rattle.wfe_core.specs.Posts.{counted, stands}
use Rattle.wfe_core.specs.Ready.{ShownFits}
use Rattle.wfe_core.specs.Rounds.{scheme_of}
use Rattle.wfe_core.specs.Steps.{copying, phase_turn}
use Rattle.wfe_bucketmap_read.specs.declared.copy.CopyAt.{CopyAt}
use Rattle.wfe_bucketmap_read.specs.declared.copy.CopyAt.TheVariants.{Loads, Stores}
use Rattle.wfe_bucketmap_read.specs.Copies.{copy_phase}

-- where one interval serves all indexes, the load makes the copy
pub copied_at_once : (from index : ℕ) (post : Post) (desk : Desk) (found : ℕ) (held : Option ℕ) → is_some held ≡ true → has_one_interval (scheme_of post) ≡ true → phase_turn (copying from index held) post desk found ≡ copied from index post desk [] (stands post from)
copied_at_once from index post desk found None h one = absurd (cc)
copied_at_once from index post desk found (Some slot) h one = ap (λ (b : Bool). load_held from index post desk found b) one

-- where something stands, the load finds a link where rows are published
pub loads_fit : (from index : ℕ) (post : Post) (found : ℕ) (held : Option ℕ) → is_some held ≡ true → IsCallPlausible (copying from index held) post found → ShownFits (publishes_rows (scheme_of post)) post found
loads_fit from index post found None h fits = absurd (cc)
loads_fit from index post found (Some slot) h fits = fits

-- where a copy stands does not depend on how many steps it has made
pub copy_phase_counted : (from index : ℕ) (at : CopyAt) (post : Post) → copy_phase from index at post ≡ copy_phase from index at (counted post)
copy_phase_counted from index Loads post = refl
copy_phase_counted from index (Stores number) post = refl
