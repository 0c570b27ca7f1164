-- What is shown are the values with which the words start.
use Rattle.std.proofs.Common.{arith, ◌∙◌}
use Rattle.wfe_drive_rule.proofs.Shown.{length-shown, shown_at}
use Rattle.wfe_drive_rule.proofs.block.start_block.Goals as goal

pub returns-clause-starts : goal.returns-clause-starts
returns-clause-starts c =
    let block = c.loop-word.block.items in
    record {
      count = length-shown c.args.layout block;
      starts = λ word low. shown_at c.args.layout block word low ∙ c.loop-word.invariant.starts word (omega (arith, low, c.words-count.ensures, c.loop-word-test.false));
    }
