-- All seats have worked, and the table was closed with them.
use Rattle.wfe_uses.proofs.Calls.{all_fresh}
use Rattle.wfe_uses.proofs.Flowing.{hands_balance, hands_of}
use Rattle.wfe_uses.proofs.pipeline.hand_on.Goals as goal

pub work_all-requires-clause-fresh : goal.work_all-requires-clause-fresh
work_all-requires-clause-fresh g c κs within = all_fresh c.in-Ok.shared c.in-Ok.seats.items c.in-Ok.ensures.made.1

pub close-requires : goal.close-requires
close-requires g c =
    let parts = c.in_ok-parts.parts in
    record { of = hands_of c.in-Ok.shared c.in_ok-all.all.items parts.seats.items parts.sent.items parts.taken.items c.in_ok-all.ensures.len c.in_ok-all.ensures.each c.in_ok-parts.ensures }

pub returns-in-Ok-close : goal.returns-in-Ok-close
returns-in-Ok-close g c =
    let parts = c.in_ok-parts.parts in
    hands_balance c.in-Ok.shared c.in_ok-all.all.items parts.seats.items parts.sent.items parts.taken.items c.in-Ok-close.closed c.in_ok-all.ensures.len c.in_ok-all.ensures.each c.in_ok-parts.ensures c.in-Ok-close.ensures.closed
