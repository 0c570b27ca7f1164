use Rattle.wfe_shared_cells.proofs.Numbers.{apart, told}
use Rattle.wfe_shared_cells.proofs.user.numbers_tell.Goals as goal

pub returns : goal.returns
returns c = record { apart = λ one other same. apart one other same; told = λ number place below. told number place below }
