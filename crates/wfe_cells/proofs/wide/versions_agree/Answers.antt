use Rattle.wfe_cells.proofs.Words as wide
use Rattle.wfe_cells.proofs.wide.versions_agree.Goals as goal

pub returns : goal.returns
returns c = wide.versions_agree
