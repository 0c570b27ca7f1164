-- Where each place word reads 0.
use Rattle.wfe_drive.proofs.Bare.{bare_gone}
use Rattle.wfe_drive.proofs.Reached.{first_bare}
use Rattle.wfe_drive.proofs.worlds.none_has_left.Goals as goal

pub returns-clause-gone : goal.returns-clause-gone
returns-clause-gone c table seat = bare_gone table seat

pub returns-clause-first : goal.returns-clause-first
returns-clause-first c layout = first_bare layout
