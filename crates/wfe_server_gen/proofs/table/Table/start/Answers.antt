-- No seat of the table has left.
use Rattle.std.proofs.Common.{rules}
use Rattle.wfe_server_gen.proofs.Staying.{reached_here, reached_start}
use Rattle.wfe_server_gen.proofs.table.Table.start.Goals as goal

pub start-requires-clause-here : goal.start-requires-clause-here
start-requires-clause-here g c = reached_here _ c.args.seat c.self.invariant (search rules)

pub invariant_of-self : goal.invariant_of-self
invariant_of-self g c = reached_start (g.E.Engine.table c.self.inside.engine) _ c.args.seat c.args.call c.self.invariant (search rules) (search rules) (search rules) c.requires.stays c.start.ensures
