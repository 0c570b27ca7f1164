use Rattle.wfe_core.specs.DeskHeld.{desk_of}
use Rattle.wfe_bucketmap_hold.specs.Lettings.{let_go_of}
use Rattle.wfe_bucketmap_hold.proofs.Lettings.{letting_fits}
use Rattle.wfe_bucketmap_hold.proofs.letting.LettingCallMachine.next_op.Goals as goal

pub let_op-requires-clause-index : goal.let_op-requires-clause-index
let_op-requires-clause-index g c =
    rw c.index.ensures (letting_fits (let_go_of c.args.self.now.let_go) c.args.post.now (desk_of c.args._desk.now) (rw c.in-None.is at c.requires.ready))
