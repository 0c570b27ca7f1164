use Rattle.law_held.proofs.Indexes.Indexing as indexing
use Rattle.law_held.proofs.records_copy_rows.Goals as goal

pub returns : goal.returns
returns c = indexing.records_copy_rows
