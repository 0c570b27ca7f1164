use Rattle.std.proofs.Common.{◌≡◌, refl}
use Rattle.wfe_core.specs.Calls.{Rehold}
use Rattle.wfe_core.specs.Posts.{stands}
use Rattle.wfe_core.specs.Rounds.{letting}
use Rattle.wfe_core.specs.Steps.{holding}
use Rattle.wfe_bucketmap_hold.proofs.hold.HoldCallMachine.next_op.Goals as goal

pub returns-in-Some : goal.returns-in-Some
returns-in-Some g c =
    let post = c.args.post.now in
    let key = c.args.self.now.key in
    let lets : holding key post (stands post 2) ≡ letting (Rehold key) post = rw c.in-Some.is refl in
    rw c.in-Starts.is (rw lets (c.let_op.ensures (Rehold key) refl))
