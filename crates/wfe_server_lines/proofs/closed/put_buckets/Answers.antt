use Rattle.std.proofs.Common.{rules}
use Rattle.wfe_server_out.proofs.Written.{wrote_all, wrote_fails, wrote_more, wrote_none}
use Rattle.wfe_server_lines.proofs.ClosedLines.{bucket_next, bucket_over}
use Rattle.wfe_server_lines.proofs.closed.put_buckets.Goals as goal

pub loop-place-init : goal.loop-place-init
loop-place-init g c = wrote_none _

pub returns-in_err-put_bucket : goal.returns-in_err-put_bucket
returns-in_err-put_bucket g c =
    wrote_fails _ (search rules) (bucket_next c.args.rows.now c.loop-place.place c.index-rows-place.result (search rules) (search rules)) c.loop-place.invariant c.in_err-put_bucket.ensures

pub loop-place-preserved : goal.loop-place-preserved
loop-place-preserved g c = wrote_more (bucket_next c.args.rows.now c.loop-place.place c.index-rows-place.result (search rules) (search rules)) c.loop-place.invariant c.in_ok-put_bucket.ensures

pub returns : goal.returns
returns g c = wrote_all (bucket_over c.args.rows.now c.loop-place.place (search rules)) c.loop-place.invariant
