use Rattle.std.proofs.Common.{inr, refl}
use Rattle.wfe_server_replay.proofs.Outs.{part_line}
use Rattle.wfe_server_replay.proofs.serve.close.Goals as goal

pub returns-in-Err-clause-closed : goal.returns-in-Err-clause-closed
returns-in-Err-clause-closed g c = inr (refl, part_line _ _ _ c.args.watchers.now c.args.line.now c.in-Err.ensures.some)
