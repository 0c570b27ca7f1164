-- The bytes before this one are taken.
use Rattle.std.proofs.Common.{ℕ, List, take, ◌++◌}
use Rattle.wfe_draw.specs.Readers.{Holds}
use Rattle.wfe_draw.proofs.reader.Reader.take_bytes.Given as goal

abbrev pub invariant-loop-byte : goal.invariant-loop-byte
invariant-loop-byte l = (last : ℕ) (taken : List ℕ) → Holds last taken l.fn.self l.fn.scene → Holds last (taken ++ take l.byte-index l.bytes) l.self l.scene
