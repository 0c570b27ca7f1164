use Rattle.wfe_server_gen.proofs.Counted.{counts_grow}
use Rattle.wfe_server_gen.proofs.summary.Summary.count.Goals as goal

pub returns : goal.returns
returns c = counts_grow _ _ c.args.seat c.args.event.now c.add.ensures
