-- The buckets before this one are written.
use Rattle.std.proofs.Common.{drop, map}
use Rattle.wfe_table_end.specs.Contents.{filling_of}
use Rattle.wfe_server_lines.specs.Lines.{bucket_lines}
use Rattle.wfe_server_out.proofs.Written.{Wrote}
use Rattle.wfe_server_lines.proofs.closed.put_buckets.Given as goal

abbrev pub invariant-loop-place : goal.invariant-loop-place
invariant-loop-place g l = Wrote g.K.Sink.written g.K.Sink.faults g.K.Sink.may_stand l.fn.sink l.sink (bucket_lines 0 (map filling_of l.rows)) (bucket_lines l.place (drop l.place (map filling_of l.rows)))
