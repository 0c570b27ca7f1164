-- Where a look stands does not depend on how many steps it has made.
use Rattle.std.proofs.Common.{ℕ, ◌≡◌, refl}
use Rattle.wfe_core.specs.declared.post.Post.{Post}
use Rattle.wfe_core.specs.Posts.{counted}
use Rattle.wfe_bucketmap_read.specs.declared.look.LookAt.{LookAt}
use Rattle.wfe_bucketmap_read.specs.declared.look.LookAt.TheVariants.{Starts, Finds}
use Rattle.wfe_bucketmap_read.specs.Looks.{look_phase}

pub look_phase_counted : (index key : ℕ) (at : LookAt) (post : Post) → look_phase index key at post ≡ look_phase index key at (counted post)
look_phase_counted index key Starts post = refl
look_phase_counted index key (Finds find) post = refl
