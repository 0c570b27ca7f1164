use Rattle.std.proofs.Common.{List, ap, map, rules}
use Rattle.wfe_server_out.proofs.Written.{writes_fault, writes_more, writes_of, writes_then}
use Rattle.wfe_table_end.specs.Contents.{filling_of}
use Rattle.wfe_server_lines.specs.Lines.{bucket_lines, queue_lines, used_lines}
use Rattle.wfe_server_lines.proofs.closed.put_closed.Goals as goal

pub returns-in_err-put_buckets : goal.returns-in_err-put_buckets
returns-in_err-put_buckets g c = writes_fault (search rules) (writes_more _ (writes_of (ap (λ (rows : List _). bucket_lines 0 (map filling_of rows)) c.as_slice.ensures.value) c.in_err-put_buckets.ensures))

pub returns-in_err-put_queue : goal.returns-in_err-put_queue
returns-in_err-put_queue g c =
    writes_fault (search rules)
    (writes_then (writes_of (ap (λ (rows : List _). bucket_lines 0 (map filling_of rows)) c.as_slice.ensures.value) c.in_ok-put_buckets.ensures)
    (writes_more _ (writes_of (ap queue_lines c.as_slice-2.ensures.value) c.in_err-put_queue.ensures)))

pub returns : goal.returns
returns g c =
    writes_then (writes_of (ap (λ (rows : List _). bucket_lines 0 (map filling_of rows)) c.as_slice.ensures.value) c.in_ok-put_buckets.ensures)
    (writes_then (writes_of (ap queue_lines c.as_slice-2.ensures.value) c.in_ok-put_queue.ensures) (writes_of (ap used_lines c.as_slice-3.ensures.value) c.put_used.ensures))
