use Rattle.inv_all.proofs.Inv.Places as places
use Rattle.inv_all.proofs.inv_places.Goals as goal

pub returns-clause-shows : goal.returns-clause-shows
returns-clause-shows c = places.inv_places

pub returns-clause-moves : goal.returns-clause-moves
returns-clause-moves c = places.inv_place_moves
