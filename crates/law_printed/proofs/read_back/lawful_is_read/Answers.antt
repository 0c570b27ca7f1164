use Rattle.law_printed.proofs.ReadBack.Verdicts.{lawful_read}
use Rattle.law_printed.proofs.read_back.lawful_is_read.Goals as goal

pub returns : goal.returns
returns c = lawful_read
