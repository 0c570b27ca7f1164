-- The bytes before this one are taken.
use Rattle.std.proofs.Common.{Ok, take, ◌≡◌}
use Rattle.wfe_server_replay.specs.Trace.{after_bytes}
use Rattle.wfe_server.specs.Collecting.{scripter}
use Rattle.wfe_server.proofs.reader.Reader.take_bytes.Given as goal

abbrev pub invariant-loop-byte : goal.invariant-loop-byte
invariant-loop-byte l = after_bytes scripter (Ok l.fn.self) (take l.byte-index l.bytes) ≡ Ok l.self
