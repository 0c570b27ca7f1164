use Rattle.law_reuse.proofs.Leaving.Records as books
use Rattle.law_reuse.proofs.record_places.Goals as goal

pub returns : goal.returns
returns c = books.record_places
