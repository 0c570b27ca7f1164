-- No place word says that a seat has left.
use Rattle.std.proofs.Common.{sym}
use Rattle.wfe_drive.proofs.Bare.{bare_gone}
use Rattle.wfe_drive.proofs.engine.RigEngine.gone.Goals as goal

pub returns : goal.returns
returns g c = sym (bare_gone c.args.self.now c.args._seat)
