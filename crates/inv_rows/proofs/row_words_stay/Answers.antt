use Rattle.inv_rows.proofs.Writers as writers
use Rattle.inv_rows.proofs.row_words_stay.Goals as goal

pub returns : goal.returns
returns c = writers.row_words_stay
