use Rattle.std.proofs.Common.{◌≡◌, ◌<◌, ℕ, true}
use Rattle.laws.specs.records.Record.{Past}
use Rattle.laws.specs.words.declared.config.Config.{Config}
use Rattle.laws.specs.StepLaw.{has_tried}
use Rattle.wfe_check_calls.specs.CallSteps.{IsSteps}
use Rattle.wfe_check_calls.proofs.step_count.Steps.all_tried.Given as goal

abbrev pub invariant-loop-index : goal.invariant-loop-index
invariant-loop-index l = (config : Config) (p : Past) → IsSteps config l.self p → (j : ℕ) → j < l.index → has_tried config.tries l.seat j p ≡ true
