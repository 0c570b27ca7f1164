use Rattle.law_printed.proofs.ReadBack.Pieces.{printed_read}
use Rattle.law_printed.proofs.read_back.printed_is_read.Goals as goal

pub returns : goal.returns
returns c = printed_read
