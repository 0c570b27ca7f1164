use Rattle.std.proofs.Common.{rules}
use Rattle.wfe_c.proofs.Counting.{looks_on}
use Rattle.wfe_c.proofs.tally.Member.look.Goals as goal

pub load-requires : goal.load-requires
load-requires c = (search rules, search rules, looks_on _ _ _)
