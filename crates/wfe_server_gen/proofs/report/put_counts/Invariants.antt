use Rattle.std.proofs.Common.{drop}
use Rattle.wfe_server_gen.specs.Report.{count_lines, named}
use Rattle.wfe_server_gen.proofs.report.put_counts.Given as goal
use Rattle.wfe_server_out.proofs.Written.{Wrote}

-- the lines before this place are written
abbrev pub invariant-loop-place : goal.invariant-loop-place
invariant-loop-place g l =
    Wrote g.K.Sink.written g.K.Sink.faults g.K.Sink.may_stand l.fn.sink l.sink (count_lines (named l.summary)) (count_lines (drop l.place (named l.summary)))
