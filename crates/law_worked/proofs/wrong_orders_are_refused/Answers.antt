use Rattle.law_worked.proofs.Worked.Orders.{wrong_orders_refused}
use Rattle.law_worked.proofs.wrong_orders_are_refused.Goals as goal

pub returns : goal.returns
returns c = wrong_orders_refused
