-- Where a call that lets something go stands, as a phase of the model.
use Rattle.std.specs.Prelude.{List, Option, Some, None}
use Rattle.wfe_core.specs.defs.declared.call.Answer.{Answer}
use Rattle.wfe_core.specs.defs.declared.call.Answer.TheVariants as answers
use Rattle.wfe_core.specs.defs.declared.event.Event.{Event}
use Rattle.wfe_core.specs.declared.post.Post.{Post}
use Rattle.wfe_core.specs.Phases.{Base}
use Rattle.wfe_core.specs.Calls.{LetGo, Released, Dropped, Parting, Releases, Phase, Runs, CallTurn, goes_on}
use Rattle.wfe_core.specs.Desks.{Desk}
use Rattle.wfe_core.specs.Keep.{released}
use Rattle.wfe_core.specs.Rounds.{letting}
use Rattle.wfe_bucketmap_hold.specs.declared.letting.LetGo.{LetGo as LetGoes}
use Rattle.wfe_bucketmap_hold.specs.declared.letting.LetGo.TheVariants.{Held, At}

abbrev pub let_go_of : LetGoes → LetGo
let_go_of Held = Released
let_go_of (At index) = Dropped index

-- what the call answers
abbrev pub let_answer : LetGoes → Answer
let_answer Held = answers.Released
let_answer (At index) = answers.Dropped

-- before its first step a call has no machine
abbrev pub let_phase : {R : Type 0} → (R → Base) → LetGo → Option R → Post → Phase
let_phase release let_go None post = letting let_go post
let_phase release let_go (Some machine) post = Runs (Releases let_go) (release machine)

-- the turn after which this machine is under way, or where there is none it is let go
abbrev pub let_on : {R : Type 0} → (R → Base) → LetGo → Option R → Post → Desk → List Event → CallTurn
let_on release let_go None post desk told = released let_go post desk told
let_on release let_go (Some machine) post desk told = goes_on post desk told (Runs (Releases let_go) (release machine))
