-- Each place so far is one of the table.
use Rattle.std.proofs.Common.{All, ◌≡◌}
use Rattle.wfe_c.proofs.common.places.Given as goal

abbrev pub invariant-loop-number : goal.invariant-loop-number
invariant-loop-number l = All (λ table. table ≡ l.fn.shared) l.made.items
