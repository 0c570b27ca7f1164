use Rattle.std.proofs.Common.{arith, ◌+◌}
use Rattle.std.proofs.lemmas.List.{take_rest}
use Rattle.wfe_record_words.proofs.Cuts.{cut_none, cut_at}
use Rattle.wfe_record_words.proofs.words.cut.Goals as goal

pub returns-then-index-bytes : goal.returns-then-index-bytes
returns-then-index-bytes c =
    let place = c.byte_at-index.ensures in
    rw (take_rest c.args.bytes.now (c.byte_at-index.result + 1))
    (cut_at c.args.at c.args.bytes.now c.byte_at-index.result c.if-index-bytes.true place.before (place.found c.if-index-bytes.true))

pub returns-else-index-bytes : goal.returns-else-index-bytes
returns-else-index-bytes c = cut_none c.args.at c.args.bytes.now (λ k l. c.byte_at-index.ensures.before k (omega arith))
