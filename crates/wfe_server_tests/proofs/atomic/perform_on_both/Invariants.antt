-- A load leaves as many words as there were.
use Rattle.std.proofs.Common.{length, ◌≡◌}
use Rattle.wfe_server_tests.proofs.atomic.perform_on_both.Given as goal

abbrev pub invariant-loop-word : goal.invariant-loop-word
invariant-loop-word g l = record {
  one : length (g.A.Cells.words l.one) ≡ 60;
  other : length (g.B.Cells.words l.other) ≡ 60;
}
