use Rattle.law_scans.proofs.Ordering.Linked as linked
use Rattle.law_scans.proofs.records_link_nexts.Goals as goal

pub returns : goal.returns
returns c = linked.records_link_nexts
