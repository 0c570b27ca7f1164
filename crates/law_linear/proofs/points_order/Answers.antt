use Rattle.law_linear.proofs.Ordered as ordered
use Rattle.law_linear.proofs.points_order.Goals as goal

pub returns : goal.returns
returns c = ordered.points_order
