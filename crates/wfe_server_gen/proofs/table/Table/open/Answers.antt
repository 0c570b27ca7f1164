-- A table at its start.
use Rattle.std.proofs.Common.{rules}
use Rattle.wfe_server_gen.proofs.Staying.{reached_first}
use Rattle.wfe_server_gen.proofs.table.Table.open.Goals as goal

pub invariant_of-result : goal.invariant_of-result
invariant_of-result g c = reached_first _ (search rules)
