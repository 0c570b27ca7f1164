-- At the start each place word reads 0.
use Rattle.wfe_drive.proofs.Reached.{made_bare}
use Rattle.wfe_drive.proofs.engine.RigEngine.make.Goals as goal

pub returns : goal.returns
returns g c = made_bare c.args.layout c.new.result c.new.ensures
