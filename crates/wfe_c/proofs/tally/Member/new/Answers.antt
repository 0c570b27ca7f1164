use Rattle.wfe_c.proofs.Counting.{opens}
use Rattle.wfe_c.proofs.tally.Member.new.Goals as goal

pub of_words-requires : goal.of_words-requires
of_words-requires c = opens
