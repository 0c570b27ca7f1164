use Rattle.wfe_cells.proofs.Stores.{none_lost}
use Rattle.wfe_cells.proofs.store.none_is_lost.Goals as goal

pub returns : goal.returns
returns c = none_lost
