-- No call has begun.
use Rattle.wfe_leave.proofs.Kept.{first_from}
use Rattle.wfe_leave.proofs.rig.LeaveRig.new.Goals as goal

pub invariant_of-result : goal.invariant_of-result
invariant_of-result g c =
    let f = first_from c.in_ok-rig.rig c.args.layout c.in_ok-parts.parts.items c.config.result c.requires.layout c.in_ok-rig.ensures c.config.ensures c.in_ok-parts.ensures in
    f.leaving

pub returns : goal.returns
returns g c =
    let f = first_from c.in_ok-rig.rig c.args.layout c.in_ok-parts.parts.items c.config.result c.requires.layout c.in_ok-rig.ensures c.config.ensures c.in_ok-parts.ensures in
    f.is
