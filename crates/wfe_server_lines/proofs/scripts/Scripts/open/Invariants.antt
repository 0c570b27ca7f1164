-- So many seats have a script, and no call.
use Rattle.std.proofs.Common.{[], length, ◌≡◌}
use Rattle.std.specs.Prelude.{replicate}
use Rattle.wfe_server_lines.specs.Scripted.{lists_in}
use Rattle.wfe_server_lines.proofs.scripts.Scripts.open.Given as goal

abbrev pub invariant-loop-seat : goal.invariant-loop-seat
invariant-loop-seat l = record {
  none : lists_in l.calls.items ≡ replicate l._seat [];
  count : length l.calls.items ≡ l._seat;
}
