use Rattle.std.proofs.Common.{◌∙◌, ap, sym}
use Rattle.wfe_scan.specs.words.declared.config.SchemeKind.{SchemeKind}
use Rattle.wfe_core.specs.defs.declared.call.Call.{Call}
use Rattle.wfe_core.specs.Calls.{Advances, Runs}
use Rattle.wfe_core.specs.Rounds.{move_base}
use Rattle.wfe_core.specs.Steps.{first_phase}
use Rattle.wfe_call_any.proofs.running.begin_call.Goals as goal

pub returns-in-Advance : goal.returns-in-Advance
returns-in-Advance g c post s = c.new-in-Advance.ensures post ∙ (ap (λ (kind : SchemeKind). Runs Advances (move_base kind)) (sym s) ∙ ap (λ (call : Call). first_phase call post) (sym c.in-Advance.is))
