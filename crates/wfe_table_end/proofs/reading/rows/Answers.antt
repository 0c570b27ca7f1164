use Rattle.std.proofs.Common.{arith}
use Rattle.wfe_core.proofs.words.Bounds.{slots_few}
use Rattle.wfe_table_end.proofs.reading.rows.Goals as goal

pub overflow_add-result : goal.overflow_add-result
overflow_add-result c = rw c.config.ensures (omega (arith, slots_few c.args.layout c.requires))
