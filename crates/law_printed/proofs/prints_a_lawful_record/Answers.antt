use Rattle.law_printed.proofs.Done.{prints_lawful}
use Rattle.law_printed.proofs.prints_a_lawful_record.Goals as goal

pub returns : goal.returns
returns c = prints_lawful
