use Rattle.law_printed.proofs.ReadBack.Verdicts.{lawful_only}
use Rattle.law_printed.proofs.read_back.lawful_is_only.Goals as goal

pub returns : goal.returns
returns c = lawful_only
