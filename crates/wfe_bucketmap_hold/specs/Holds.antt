-- Where a hold stands, as a phase of the model.
use Rattle.std.specs.Prelude.{ℕ}
use Rattle.wfe_core.specs.defs.declared.call.Answer.TheVariants as answers
use Rattle.wfe_core.specs.declared.post.Post.{Post}
use Rattle.wfe_core.specs.Phases.{Base}
use Rattle.wfe_core.specs.Posts.{stands}
use Rattle.wfe_core.specs.Calls as calls
use Rattle.wfe_core.specs.Calls.{Holds, Answering, Rehold, Phase, Runs}
use Rattle.wfe_core.specs.Rounds.{round}
use Rattle.wfe_core.specs.Steps.{holding}
use Rattle.wfe_call_rounds.specs.iface.Schemes.{RoundPhases}
use Rattle.wfe_call_rounds.specs.Rounds.{opening_of, closing_of, close_phase}
use Rattle.wfe_bucketmap_hold.specs.declared.hold_at.HoldAt.{HoldAt}
use Rattle.wfe_bucketmap_hold.specs.declared.hold_at.HoldAt.TheVariants as ats

abbrev pub hold_phase : {B P C F R : Type 0} → RoundPhases B P C F → (R → Base) → (key : ℕ) → HoldAt B P C F R → Post → Phase
hold_phase phases release key ats.Starts post = holding key post (stands post 2)
hold_phase phases release key (ats.Releases machine) post = Runs (calls.Releases (Rehold key)) (release machine)
hold_phase phases release key ats.Rounds post = round (Holds key) post
hold_phase phases release key (ats.Opens opening) post = Runs (calls.Opens (Holds key)) (opening_of phases opening)
hold_phase phases release key (ats.Closes closing) post = close_phase (Holds key) (Answering answers.Nothing) (closing_of phases closing)
