-- Where a look stands, as a phase of the model.
use Rattle.std.specs.Prelude.{ℕ}
use Rattle.wfe_core.specs.declared.post.Post.{Post}
use Rattle.wfe_core.specs.Calls.{Looks, Phase, Works, Keeping}
use Rattle.wfe_core.specs.Posts.{stands}
use Rattle.wfe_core.specs.Steps.{looking_at}
use Rattle.wfe_bucketmap_read.specs.declared.look.LookAt.{LookAt}
use Rattle.wfe_bucketmap_read.specs.declared.look.LookAt.TheVariants.{Starts, Finds}
use Rattle.wfe_bucketmap_read.specs.Finds.{find_of}

abbrev pub look_phase : (index key : ℕ) → LookAt → Post → Phase
look_phase index key Starts post = looking_at index key (stands post index)
look_phase index key (Finds find) post = Works (Keeping (Looks index key (find_of find)))
