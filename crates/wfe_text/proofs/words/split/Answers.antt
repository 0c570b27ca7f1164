use Rattle.std.proofs.Common.{arith, ◌+◌}
use Rattle.std.proofs.lemmas.List.{take_rest}
use Rattle.wfe_text.proofs.Spaces.{words_no_space, words_at_space}
use Rattle.wfe_text.proofs.words.split.Goals as goal

pub returns-then-at-bytes : goal.returns-then-at-bytes
returns-then-at-bytes c =
    let space = c.space_at-at.ensures in
    rw (take_rest c.args.bytes.now (c.space_at-at.result + 1))
    (words_at_space c.args.bytes.now c.space_at-at.result c.if-at-bytes.true space.before (space.found c.if-at-bytes.true))

pub returns-else-at-bytes : goal.returns-else-at-bytes
returns-else-at-bytes c = words_no_space c.args.bytes.now (λ k l. c.space_at-at.ensures.before k (omega arith))
