-- So far there are as many zeros as turns.
use Rattle.std.proofs.Common.{length, ◌≡◌}
use Rattle.wfe_drive_rule.proofs.block.zeros.Given as goal

abbrev pub invariant-loop : goal.invariant-loop
invariant-loop l = length l.block.items ≡ l.counter
