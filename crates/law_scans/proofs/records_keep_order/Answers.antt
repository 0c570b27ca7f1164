use Rattle.law_scans.proofs.Ordering.Ordered as ordered
use Rattle.law_scans.proofs.records_keep_order.Goals as goal

pub returns : goal.returns
returns c = ordered.records_keep_order
