-- No seat of a new table has made a call.
use Rattle.wfe_uses.proofs.Calls.{all_fresh}
use Rattle.wfe_uses.proofs.handover.hand_over.Goals as goal

pub pair_of-requires : goal.pair_of-requires
pair_of-requires g c = record { fresh = all_fresh c.in-Ok.shared c.in-Ok.seats.items c.in-Ok.ensures.made.1 }
