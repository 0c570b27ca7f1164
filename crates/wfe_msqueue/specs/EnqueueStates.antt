-- Where an enqueue stands, as a phase of the model.
use Rattle.wfe_core.specs.declared.post.Post.{Post}
use Rattle.wfe_core.specs.Calls.{EnqueueKept, Enqueues, Opens, Fills, Phase, Runs, Works, Enqueuing}
use Rattle.wfe_core.specs.Phases.{Base}
use Rattle.wfe_core.specs.Rounds.{round}
use Rattle.wfe_slots.specs.Phases.{allocate_phase}
use Rattle.wfe_slots.specs.Writes.{write_phase}
use Rattle.wfe_call_rounds.specs.iface.Schemes.{RoundPhases}
use Rattle.wfe_call_rounds.specs.Leavings.{leave_of}
use Rattle.wfe_call_rounds.specs.Rounds.{opening_of}
use Rattle.wfe_msqueue.specs.declared.enqueue_state.State.{State}
use Rattle.wfe_msqueue.specs.declared.enqueue_state.State.TheVariants as states
use Rattle.wfe_msqueue.specs.declared.enqueue_state.Fill.{Fill}
use Rattle.wfe_msqueue.specs.declared.enqueue_state.Fill.TheVariants as fills
use Rattle.wfe_msqueue.specs.Enqueues.{at_of}

-- the machine of a row of its own
abbrev pub fill_base : Fill → Base
fill_base (fills.Allocates machine) = allocate_phase machine
fill_base (fills.Writes machine) = write_phase machine

abbrev pub enqueue_phase : {B P C F : Type 0} → RoundPhases B P C F → EnqueueKept → State B P C F → Post → Phase
enqueue_phase phases kept states.Starts post = round (Enqueues kept) post
enqueue_phase phases kept (states.Opens opening) post = Runs (Opens (Enqueues kept)) (opening_of phases opening)
enqueue_phase phases kept (states.Works at) post = Works (Enqueuing kept (at_of at))
enqueue_phase phases kept (states.Fills at) post = Runs (Fills (Enqueues kept)) (fill_base at)
enqueue_phase phases kept (states.Leaves at) post = leave_of phases (Enqueues kept) at
