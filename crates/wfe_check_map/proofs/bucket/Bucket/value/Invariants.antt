use Rattle.wfe_check_map.specs.Steps.{Reaches}
use Rattle.wfe_check_map.proofs.bucket.Bucket.value.Given as goal

abbrev pub invariant-loop-number : goal.invariant-loop-number
invariant-loop-number l = Reaches l.key l.number l.version l.self-inside.steps.items

abbrev pub decreases-loop-number : goal.decreases-loop-number
decreases-loop-number l = l.number
