use Rattle.law_held.proofs.Roots.Sources as sources
use Rattle.law_held.proofs.records_find_sources.Goals as goal

pub returns : goal.returns
returns c = sources.records_find_sources
