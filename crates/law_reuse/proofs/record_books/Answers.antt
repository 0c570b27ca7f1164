use Rattle.law_reuse.proofs.Lawful.Books as books
use Rattle.law_reuse.proofs.record_books.Goals as goal

pub returns : goal.returns
returns c = books.record_books
