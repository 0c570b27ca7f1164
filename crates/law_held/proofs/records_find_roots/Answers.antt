use Rattle.law_held.proofs.Roots.Finding as finding
use Rattle.law_held.proofs.records_find_roots.Goals as goal

pub returns : goal.returns
returns c = finding.records_find_roots
