use Rattle.std.proofs.Common.{◌≡◌, arith}
use Rattle.wfe_core.specs.Memory.{bump}
use Rattle.wfe_core.specs.defs.declared.event.Root.TheVariants.{Next}
use Rattle.wfe_iface.specs.Follows.{alone}
use Rattle.wfe_iface.proofs.Followed.{bumped, goes_alone}
use Rattle.wfe_iface.proofs.follow.FollowMachine.take.Goals as goal

pub invariant_of-self : goal.invariant_of-self
invariant_of-self g c =
    let base = g.S.Protect.Machine.phase c.in-Protecting.protect in
    let next = g.S.Protect.Machine.phase c.take.new.self in
    let more : c.saturating_add-self.result ≡ bump c.args.self.now.steps = bumped c.saturating_add-self.result c.args.self.now.steps (omega arith) c.saturating_add-self.ensures in
    let was : base ≡ alone c.args.self.now.index (Next c.args.self.now.parent) c.args.self.now.steps base = rw c.in-Protecting.is at c.args.self.now.protection in
    record {
      protection = rw more (goes_alone c.args.self.now.index (Next c.args.self.now.parent) c.args.self.now.steps base next c.args.post.now c.args.found was c.in_err-end-in-Protecting.ensures.outcome);
    }
