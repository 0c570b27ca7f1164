use Rattle.law_linear.proofs.Search as search
use Rattle.law_linear.proofs.orders_are_found.Goals as goal

pub returns : goal.returns
returns c = search.orders_are_found
