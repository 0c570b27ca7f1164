-- Each seat so far is one of the table.
use Rattle.std.proofs.Common.{All}
use Rattle.wfe_table.specs.Public.{IsOf}
use Rattle.wfe_c.proofs.common.taken_out.Given as goal

abbrev pub invariant-loop-place : goal.invariant-loop-place
invariant-loop-place l = All (λ gone. IsOf gone l.fn._shared) l.others.items
