use Rattle.std.proofs.Common.{rules}
use Rattle.wfe_c.proofs.Counting.{counts_one}
use Rattle.wfe_c.proofs.tally.Member.count.Goals as goal

pub fetch_add-requires : goal.fetch_add-requires
fetch_add-requires c = (search rules, search rules, counts_one _ _ _)
