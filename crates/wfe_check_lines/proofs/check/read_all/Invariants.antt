-- The bytes of the turns before are taken, and each turn took one.
use Rattle.std.proofs.Common.{length, ◌≡◌, ◌≤◌}
use Rattle.wfe_check_lines.specs.Ends.{Goes}
use Rattle.wfe_check_lines.specs.Reading.{reading_start}
use Rattle.wfe_check_lines.proofs.check.read_all.Given as goal

abbrev pub invariant-loop : goal.invariant-loop
invariant-loop g l = record {
  goes : Goes g.J.Judge.judges (g.S.Source.left l.fn.source) (g.S.Source.left l.source) reading_start l.reader;
  counted : l.counter ≤ l.reader.count;
  source : g.S.Source.faults l.fn.source ≤ g.S.Source.faults l.source;
  room : length l.piece ≡ length l.fn.piece;
}
