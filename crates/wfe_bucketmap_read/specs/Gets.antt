-- Where a get stands, as a phase of the model.
use Rattle.std.specs.Prelude.{ℕ}
use Rattle.wfe_core.specs.defs.declared.call.Answer.TheVariants as answers
use Rattle.wfe_core.specs.declared.post.Post.{Post}
use Rattle.wfe_core.specs.Calls.{Gets, Answering, Opens, Phase, Runs, Works, Getting}
use Rattle.wfe_core.specs.Rounds.{round}
use Rattle.wfe_call_rounds.specs.iface.Schemes.{RoundPhases}
use Rattle.wfe_call_rounds.specs.Rounds.{opening_of, closing_of, close_phase}
use Rattle.wfe_bucketmap_read.specs.declared.get_at.GetAt.{GetAt}
use Rattle.wfe_bucketmap_read.specs.declared.get_at.GetAt.TheVariants as ats
use Rattle.wfe_bucketmap_read.specs.Finds.{find_of}

abbrev pub get_phase : {B P C F : Type 0} → RoundPhases B P C F → (key : ℕ) → GetAt B P C F → Post → Phase
get_phase phases key ats.Starts post = round (Gets key) post
get_phase phases key (ats.Opens opening) post = Runs (Opens (Gets key)) (opening_of phases opening)
get_phase phases key (ats.Finds find) post = Works (Getting key (find_of find))
get_phase phases key (ats.Closes closing version value) post =
    close_phase (Gets key) (Answering (answers.Got version value)) (closing_of phases closing)
