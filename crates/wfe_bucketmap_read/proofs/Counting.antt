-- What is ready, or may be found, at one count of steps is so at another.
use Rattle.std.proofs.Common.{ℕ, Option, Some, None}
use Rattle.wfe_core.specs.words.Schemes.{publishes_rows}
use Rattle.wfe_core.specs.declared.post.Post.{Post}
use Rattle.wfe_core.specs.CallReady.{IsCallPlausible, IsCallReady, get_ready}
use Rattle.wfe_core.specs.Calls.{GetAt, FindVersion, FindCount, FindKey, FindValue}
use Rattle.wfe_core.specs.Desks.{Desk}
use Rattle.wfe_core.specs.Posts.{stands}
use Rattle.wfe_core.specs.Rounds.{scheme_of}
use Rattle.wfe_core.specs.Steps.{copying, looking_at}
use Rattle.wfe_call_rounds.proofs.Taken.{shown_counted}
use Rattle.wfe_bucketmap_read.specs.declared.copy.CopyAt.{CopyAt}
use Rattle.wfe_bucketmap_read.specs.declared.copy.CopyAt.TheVariants.{Loads, Stores}
use Rattle.wfe_bucketmap_read.specs.declared.look.LookAt.{LookAt}
use Rattle.wfe_bucketmap_read.specs.declared.look.LookAt.TheVariants.{Starts, Finds}
use Rattle.wfe_bucketmap_read.specs.Copies.{copy_phase}
use Rattle.wfe_bucketmap_read.specs.Finds.{find_of}
use Rattle.wfe_bucketmap_read.specs.Looks.{look_phase}

copying_ready : (from index : ℕ) (post : Post) (desk : Desk) (steps : ℕ) (held : Option ℕ) → IsCallReady (copying from index held) post desk → IsCallReady (copying from index held) (record post { steps = steps }) desk
copying_ready from index post desk steps None h = h
copying_ready from index post desk steps (Some slot) h = h

pub copy_ready : (from index : ℕ) (at : CopyAt) (post : Post) (desk : Desk) (steps : ℕ) → IsCallReady (copy_phase from index at post) post desk → IsCallReady (copy_phase from index at (record post { steps = steps })) (record post { steps = steps }) desk
copy_ready from index Loads post desk steps h = copying_ready from index post desk steps (stands post from) h
copy_ready from index (Stores number) post desk steps h = (h.0, shown_counted (publishes_rows (scheme_of post)) post steps number h.1)

copying_plausible : (from index : ℕ) (post : Post) (steps found : ℕ) (held : Option ℕ) → IsCallPlausible (copying from index held) post found → IsCallPlausible (copying from index held) (record post { steps = steps }) found
copying_plausible from index post steps found None h = h
copying_plausible from index post steps found (Some slot) h = shown_counted (publishes_rows (scheme_of post)) post steps found h

pub copy_plausible : (from index : ℕ) (at : CopyAt) (post : Post) (steps found : ℕ) → IsCallPlausible (copy_phase from index at post) post found → IsCallPlausible (copy_phase from index at (record post { steps = steps })) (record post { steps = steps }) found
copy_plausible from index Loads post steps found h = copying_plausible from index post steps found (stands post from) h
copy_plausible from index (Stores number) post steps found h = h

get_ready_at : (at : GetAt) (post : Post) (steps : ℕ) → get_ready at post → get_ready at (record post { steps = steps })
get_ready_at (FindVersion slot) post steps h = h
get_ready_at (FindCount slot version) post steps h = h
get_ready_at (FindKey slot version count pair) post steps h = h
get_ready_at (FindValue slot version pair) post steps h = h

looking_ready : (index key : ℕ) (post : Post) (desk : Desk) (steps : ℕ) (held : Option ℕ) → IsCallReady (looking_at index key held) post desk → IsCallReady (looking_at index key held) (record post { steps = steps }) desk
looking_ready index key post desk steps None h = h
looking_ready index key post desk steps (Some slot) h = h

pub look_ready : (index key : ℕ) (at : LookAt) (post : Post) (desk : Desk) (steps : ℕ) → IsCallReady (look_phase index key at post) post desk → IsCallReady (look_phase index key at (record post { steps = steps })) (record post { steps = steps }) desk
look_ready index key Starts post desk steps h = looking_ready index key post desk steps (stands post index) h
look_ready index key (Finds find) post desk steps h = get_ready_at (find_of find) post steps h
