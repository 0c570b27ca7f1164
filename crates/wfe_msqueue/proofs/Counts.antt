-- Where a call stands does not depend on how many steps it has made.
use Rattle.std.proofs.Common.{◌≡◌, refl}
use Rattle.wfe_core.specs.declared.post.Post.{Post}
use Rattle.wfe_core.specs.Calls.{EnqueueKept, Enqueues, Dequeues}
use Rattle.wfe_core.specs.Phases.{Base}
use Rattle.wfe_core.specs.Posts.{counted}
use Rattle.wfe_call_rounds.specs.iface.Schemes.{RoundPhases}
use Rattle.wfe_call_rounds.proofs.Taken.{round_counted}
use Rattle.wfe_msqueue.specs.declared.dequeue_at.Kept.{Kept}
use Rattle.wfe_msqueue.specs.declared.dequeue_state.State.{State}
use Rattle.wfe_msqueue.specs.declared.dequeue_state.State.TheVariants as states
use Rattle.wfe_msqueue.specs.declared.enqueue_state.State.{State as EnqueueState}
use Rattle.wfe_msqueue.specs.declared.enqueue_state.State.TheVariants as fills
use Rattle.wfe_msqueue.specs.DequeueStates.{dequeue_phase}
use Rattle.wfe_msqueue.specs.EnqueueStates.{enqueue_phase}

-- a dequeue
pub dequeue_counted : {B P W C F : Type 0} (phases : RoundPhases B P C F) (follow : W → Base) (kept : Kept) (state : State B P W C F) (post : Post) → dequeue_phase phases follow kept state post ≡ dequeue_phase phases follow kept state (counted post)
dequeue_counted phases follow kept states.Starts post = round_counted Dequeues post
dequeue_counted phases follow kept (states.Opens opening) post = refl
dequeue_counted phases follow kept (states.Works at) post = refl
dequeue_counted phases follow kept (states.Follows machine) post = refl
dequeue_counted phases follow kept (states.ClearsNext ending machine) post = refl
dequeue_counted phases follow kept (states.Leaves at) post = refl

-- an enqueue
pub enqueue_counted : {B P C F : Type 0} (phases : RoundPhases B P C F) (kept : EnqueueKept) (state : EnqueueState B P C F) (post : Post) → enqueue_phase phases kept state post ≡ enqueue_phase phases kept state (counted post)
enqueue_counted phases kept fills.Starts post = round_counted (Enqueues kept) post
enqueue_counted phases kept (fills.Opens opening) post = refl
enqueue_counted phases kept (fills.Works at) post = refl
enqueue_counted phases kept (fills.Fills at) post = refl
enqueue_counted phases kept (fills.Leaves at) post = refl
