-- What is ready, or may be found, at one count of steps is so at another.
use Rattle.std.proofs.Common.{rules, ℕ, Option, Some, None}
use Rattle.wfe_core.specs.declared.post.Post.{Post}
use Rattle.wfe_core.specs.CallReady.{IsCallPlausible, IsCallReady}
use Rattle.wfe_core.specs.Calls.{LetGo}
use Rattle.wfe_core.specs.Desks.{Desk}
use Rattle.wfe_core.specs.Phases.{Base}
use Rattle.wfe_core.specs.Ready.{IsReady, Plausible}
use Rattle.wfe_core.specs.Rounds.{scheme_of, let_index, letting_by, release_base}
use Rattle.wfe_bucketmap_hold.specs.Lettings.{let_phase}

pub base_ready : (post : Post) (steps : ℕ) (base : Base) → IsReady base post → IsReady base (record post { steps = steps })
base_ready post steps base h = search rules

pub base_plausible : (post : Post) (steps found : ℕ) (base : Base) → Plausible base post found → Plausible base (record post { steps = steps }) found
base_plausible post steps found base h = search rules

pub letting_by_plausible : (let_go : LetGo) (post : Post) (steps found : ℕ) (base : Option Base) → IsCallPlausible (letting_by let_go base) post found → IsCallPlausible (letting_by let_go base) (record post { steps = steps }) found
letting_by_plausible let_go post steps found None h = h
letting_by_plausible let_go post steps found (Some base) h = base_plausible post steps found base h

pub letting_by_ready : (let_go : LetGo) (post : Post) (desk : Desk) (steps : ℕ) (base : Option Base) → IsCallReady (letting_by let_go base) post desk → IsCallReady (letting_by let_go base) (record post { steps = steps }) desk
letting_by_ready let_go post desk steps None h = h
letting_by_ready let_go post desk steps (Some base) h = (base_ready post steps base h.0, h.1)

pub let_ready : {R : Type 0} (release : R → Base) (let_go : LetGo) (at : Option R) (post : Post) (desk : Desk) (steps : ℕ) → IsCallReady (let_phase release let_go at post) post desk → IsCallReady (let_phase release let_go at (record post { steps = steps })) (record post { steps = steps }) desk
let_ready release let_go None post desk steps h = letting_by_ready let_go post desk steps (release_base (scheme_of post) post (let_index let_go)) h
let_ready release let_go (Some machine) post desk steps h = (base_ready post steps (release machine) h.0, h.1)
