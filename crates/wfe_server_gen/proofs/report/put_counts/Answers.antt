use Rattle.std.proofs.Common.{rules}
use Rattle.wfe_server_gen.specs.Report.{count_lines, named, summary_lines}
use Rattle.wfe_server_out.proofs.Written.{wrote_all, wrote_fails, wrote_more, wrote_none}
use Rattle.wfe_server_gen.proofs.Written.{counts_more, counts_over}
use Rattle.wfe_server_gen.proofs.report.put_counts.Goals as goal

pub loop-place-init : goal.loop-place-init
loop-place-init g c = wrote_none (count_lines (named c.args.summary.now))

pub returns-in_err-put_count : goal.returns-in_err-put_count
unfolding summary_lines
returns-in_err-put_count g c =
    wrote_fails _ (search rules) (counts_more c.args.summary.now c.loop-place.place _ _ (search rules) c.count_at-number.ensures.value) c.loop-place.invariant c.in_err-put_count.ensures

pub loop-place-preserved : goal.loop-place-preserved
loop-place-preserved g c =
    wrote_more (counts_more c.args.summary.now c.loop-place.place _ _ (search rules) c.count_at-number.ensures.value) c.loop-place.invariant c.in_ok-put_count.ensures

pub returns : goal.returns
unfolding summary_lines
returns g c = wrote_all (counts_over c.args.summary.now c.loop-place.place (search rules)) c.loop-place.invariant
