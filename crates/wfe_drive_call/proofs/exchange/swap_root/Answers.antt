-- The root of a bucket lies beside the others.
use Rattle.std.proofs.Common.{arith}
use Rattle.wfe_core.proofs.Facts.{lt_test}
use Rattle.wfe_drive_runs.proofs.drive_words.drive_cells.Lying.{bucket_below, bucket_from}
use Rattle.wfe_drive_call.proofs.exchange.swap_root.Goals as goal

pub root-requires-clause-from : goal.root-requires-clause-from
root-requires-clause-from c = omega (arith, bucket_from c.args.post.now.layout c.bucket.result, c.bucket-word.ensures)

pub root-requires-clause-below : goal.root-requires-clause-below
root-requires-clause-below c =
    let there = lt_test c.bucket.result c.args.post.now.layout.config.buckets c.bucket.ensures.there in
    omega (arith, bucket_below c.args.post.now.layout c.bucket.result there, c.bucket-word.ensures)
