-- The bytes of the turns before are taken, and each turn took one.
use Rattle.std.proofs.Common.{length, ◌≡◌, ◌≤◌}
use Rattle.wfe_server_replay.specs.Trace.{progress_start}
use Rattle.wfe_server.specs.Reads.{Goes}
use Rattle.wfe_trace.specs.declared.item.Mode.TheVariants as modes
use Rattle.wfe_server.proofs.serve.read_all.Given as goal

abbrev pub invariant-loop : goal.invariant-loop
invariant-loop g l = record {
  goes : Goes (g.S.Source.left l.fn.source) (g.S.Source.left l.source) (progress_start modes.Run) l.reader;
  counted : l.counter ≤ l.reader.count;
  source : g.S.Source.faults l.fn.source ≤ g.S.Source.faults l.source;
  room : length l.piece ≡ length l.fn.piece;
}
