-- Where a call stands does not depend on how many steps it has made.
use Rattle.std.proofs.Common.{◌≡◌, refl}
use Rattle.wfe_core.specs.declared.post.Post.{Post}
use Rattle.wfe_core.specs.Calls.{ChangeKept, Changes}
use Rattle.wfe_core.specs.Posts.{counted}
use Rattle.wfe_call_rounds.specs.iface.Schemes.{RoundPhases}
use Rattle.wfe_call_rounds.proofs.Taken.{round_counted}
use Rattle.wfe_bucketmap.specs.declared.change_state.State.{State}
use Rattle.wfe_bucketmap.specs.declared.change_state.State.TheVariants as states
use Rattle.wfe_bucketmap.specs.ChangeStates.{change_phase}

-- a change
pub change_counted : {B P C F : Type 0} (phases : RoundPhases B P C F) (kept : ChangeKept) (state : State B P C F) (post : Post) → change_phase phases kept state post ≡ change_phase phases kept state (counted post)
change_counted phases kept states.Starts post = round_counted (Changes kept) post
change_counted phases kept (states.Opens opening) post = refl
change_counted phases kept (states.Works at) post = refl
change_counted phases kept (states.Fills at) post = refl
change_counted phases kept (states.Leaves at) post = refl
