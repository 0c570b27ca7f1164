use Rattle.std.proofs.Common.{refl}
use Rattle.law_worked.proofs.Worked.Orders.{all_refused}
use Rattle.law_worked_later.specs.Copies.WrongOrders.{wrong_orders}
use Rattle.law_worked_later.proofs.copied.wrong_orders_are_refused.Goals as goal

pub returns : goal.returns
returns c = record { linear = all_refused wrong_orders refl; others = refl }
