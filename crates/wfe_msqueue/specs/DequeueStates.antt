-- Where a dequeue stands, as a phase of the model.
use Rattle.wfe_core.specs.declared.post.Post.{Post}
use Rattle.wfe_core.specs.Phases.{Base}
use Rattle.wfe_core.specs.Calls.{Dequeues, Opens, FollowsHead, ClearsNext, Phase, Runs, Works, Dequeuing}
use Rattle.wfe_core.specs.Rounds.{round}
use Rattle.wfe_call_rounds.specs.iface.Schemes.{RoundPhases}
use Rattle.wfe_call_rounds.specs.Endings.{next_of}
use Rattle.wfe_call_rounds.specs.Leavings.{leave_of}
use Rattle.wfe_call_rounds.specs.Rounds.{opening_of}
use Rattle.wfe_msqueue.specs.declared.dequeue_at.Kept.{Kept}
use Rattle.wfe_msqueue.specs.declared.dequeue_state.State.{State}
use Rattle.wfe_msqueue.specs.declared.dequeue_state.State.TheVariants as states
use Rattle.wfe_msqueue.specs.Dequeues.{at_of}

abbrev pub dequeue_phase : {B P W C F : Type 0} → RoundPhases B P C F → (W → Base) → Kept → State B P W C F → Post → Phase
dequeue_phase phases follow kept states.Starts post = round Dequeues post
dequeue_phase phases follow kept (states.Opens opening) post = Runs (Opens Dequeues) (opening_of phases opening)
dequeue_phase phases follow kept (states.Works at) post = Works (Dequeuing (at_of at))
dequeue_phase phases follow kept (states.Follows machine) post = Runs (FollowsHead kept.head kept.tail) (follow machine)
dequeue_phase phases follow kept (states.ClearsNext ending machine) post = Runs (ClearsNext (next_of ending)) (phases.clear machine)
dequeue_phase phases follow kept (states.Leaves at) post = leave_of phases Dequeues at
