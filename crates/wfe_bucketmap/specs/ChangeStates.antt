-- Where a change stands, as a phase of the model.
use Rattle.wfe_core.specs.declared.post.Post.{Post}
use Rattle.wfe_core.specs.Calls.{ChangeKept, Changes, Opens, Fills, Phase, Runs, Works, Changing}
use Rattle.wfe_core.specs.Phases.{Base}
use Rattle.wfe_core.specs.Rounds.{round}
use Rattle.wfe_slots.specs.Phases.{allocate_phase}
use Rattle.wfe_slots.specs.Writes.{write_phase}
use Rattle.wfe_call_rounds.specs.iface.Schemes.{RoundPhases}
use Rattle.wfe_call_rounds.specs.Leavings.{leave_of}
use Rattle.wfe_call_rounds.specs.Rounds.{opening_of}
use Rattle.wfe_bucketmap.specs.declared.change_state.State.{State}
use Rattle.wfe_bucketmap.specs.declared.change_state.State.TheVariants as states
use Rattle.wfe_bucketmap.specs.declared.change_state.Fill.{Fill}
use Rattle.wfe_bucketmap.specs.declared.change_state.Fill.TheVariants as fills
use Rattle.wfe_bucketmap.specs.Changes.{at_of}

-- the machine of a row of its own
abbrev pub fill_base : Fill → Base
fill_base (fills.Allocates machine) = allocate_phase machine
fill_base (fills.Writes machine) = write_phase machine

abbrev pub change_phase : {B P C F : Type 0} → RoundPhases B P C F → ChangeKept → State B P C F → Post → Phase
change_phase phases kept states.Starts post = round (Changes kept) post
change_phase phases kept (states.Opens opening) post = Runs (Opens (Changes kept)) (opening_of phases opening)
change_phase phases kept (states.Works at) post = Works (Changing kept (at_of at))
change_phase phases kept (states.Fills at) post = Runs (Fills (Changes kept)) (fill_base at)
change_phase phases kept (states.Leaves at) post = leave_of phases (Changes kept) at
