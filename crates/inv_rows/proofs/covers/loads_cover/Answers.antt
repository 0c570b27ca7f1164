use Rattle.inv_rows.proofs.Covering.Held as held
use Rattle.inv_rows.proofs.covers.loads_cover.Goals as goal

pub returns : goal.returns
returns c = held.loads_cover
