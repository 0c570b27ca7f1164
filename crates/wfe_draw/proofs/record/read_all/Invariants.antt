-- The bytes of the turns before are taken, and each turn took one.
use Rattle.std.proofs.Common.{ℕ, List, [], length, ◌≡◌, ◌≤◌}
use Rattle.std.specs.Io.KnownBytes.{Consumes}
use Rattle.wfe_draw.specs.Readers.{Holds}
use Rattle.wfe_draw.proofs.record.read_all.Given as goal

abbrev pub invariant-loop : goal.invariant-loop
invariant-loop g l = record {
  counted : (last : ℕ) × (taken : List ℕ) × Holds last taken l.reader l.scene × (l.counter ≤ length taken);
  goes : (last : ℕ) → Holds last [] l.fn.reader l.fn.scene → (taken : List ℕ) × Consumes (g.S.Source.left l.fn.source) (g.S.Source.left l.source) taken × Holds last taken l.reader l.scene;
  source : g.S.Source.faults l.fn.source ≤ g.S.Source.faults l.source;
  room : length l.piece ≡ length l.fn.piece;
}
