use Rattle.std.proofs.Common.{◌≡◌, ◌≤◌, ◌+◌, ◌*◌, ◌++◌, take, map, length}
use Rattle.std.specs.Fmt.{decimal}
use Rattle.wfe_text.specs.Record.{spaced}
use Rattle.wfe_text.proofs.print.numbers.Given as goal

abbrev pub invariant-loop-each : goal.invariant-loop-each
invariant-loop-each l = record {
  text : l.line ≡ l.fn.line ++ spaced (map decimal (take l.each-index l.numbers));
  room : length l.line ≤ length l.fn.line + 21 * l.each-index;
}
