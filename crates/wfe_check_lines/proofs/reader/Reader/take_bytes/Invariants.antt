-- The bytes before this place are taken.
use Rattle.std.proofs.Common.{Ok, take, length, ◌≡◌, ◌≤◌, ◌-◌}
use Rattle.wfe_check_lines.specs.Reading.{Reading, after_bytes}
use Rattle.wfe_check_lines.specs.Readers.{IsReading}
use Rattle.wfe_check_lines.proofs.reader.Reader.take_bytes.Given as goal

abbrev pub invariant-loop-at : goal.invariant-loop-at
invariant-loop-at g l = record {
  within : l.at ≤ length l.bytes;
  some : (r : Reading) × IsReading g.J.Judge.judges l.self r;
  goes : (r : Reading) → IsReading g.J.Judge.judges l.fn.self r → (x : Reading) × (after_bytes (Ok r) (take l.at l.bytes) ≡ Ok x) × IsReading g.J.Judge.judges l.self x;
}

abbrev pub decreases-loop-at : goal.decreases-loop-at
decreases-loop-at g l = length l.bytes - l.at
