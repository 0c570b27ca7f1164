-- No seat of a new table has made a call.
use Rattle.wfe_uses.proofs.Calls.{all_fresh}
use Rattle.wfe_uses.proofs.snapshot.snapshot.Goals as goal

pub pair_of-requires : goal.pair_of-requires
pair_of-requires c = record { fresh = all_fresh c.in_ok-shared.shared c.in_ok-shared.seats.items c.in_ok-shared.ensures.new }
