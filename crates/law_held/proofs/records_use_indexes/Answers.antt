use Rattle.law_held.proofs.Indexes.Indexing as indexing
use Rattle.law_held.proofs.records_use_indexes.Goals as goal

pub returns : goal.returns
returns c = indexing.records_use_indexes
