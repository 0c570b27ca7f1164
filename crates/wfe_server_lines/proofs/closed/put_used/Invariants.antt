-- The rows before this one are written.
use Rattle.std.proofs.Common.{drop}
use Rattle.wfe_server_lines.specs.Lines.{used_lines}
use Rattle.wfe_server_out.proofs.Written.{Wrote}
use Rattle.wfe_server_lines.proofs.closed.put_used.Given as goal

abbrev pub invariant-loop-place : goal.invariant-loop-place
invariant-loop-place g l = Wrote g.K.Sink.written g.K.Sink.faults g.K.Sink.may_stand l.fn.sink l.sink (used_lines l.slots) (used_lines (drop l.place l.slots))
