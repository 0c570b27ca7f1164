use Rattle.law_linear.proofs.Refused as refused
use Rattle.law_linear.proofs.get_that_puts_refused.Goals as goal

pub returns : goal.returns
returns c = refused.get_that_puts_refused
