use Rattle.inv_rows.proofs.Covering.Requests.Known.{copying}
use Rattle.inv_rows.proofs.movers.copied_words_stay.Goals as goal

pub returns : goal.returns
returns c = copying
