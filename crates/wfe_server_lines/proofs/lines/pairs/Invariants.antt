-- The pairs before this one are there.
use Rattle.std.proofs.Common.{length, take, ◌*◌, ◌++◌, ◌+◌, ◌≡◌, ◌≤◌}
use Rattle.wfe_server_lines.specs.Lines.{pair_words}
use Rattle.wfe_trace.specs.Record.{spaced}
use Rattle.wfe_server_lines.proofs.lines.pairs.Given as goal

abbrev pub invariant-loop-pair : goal.invariant-loop-pair
invariant-loop-pair l = record {
  text : l.line ≡ l.fn.line ++ spaced (pair_words (take l.pair-index l.pairs));
  room : length l.line ≤ length l.fn.line + 42 * l.pair-index;
}
