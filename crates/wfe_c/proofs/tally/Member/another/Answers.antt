use Rattle.std.proofs.Common.{rules}
use Rattle.wfe_c.proofs.Counting.{comes_in}
use Rattle.wfe_c.proofs.tally.Member.another.Goals as goal

pub load_new_seat-looks-requires : goal.load_new_seat-looks-requires
load_new_seat-looks-requires c = (search rules, comes_in _)
