-- The hands before these are taken apart.
use Rattle.std.proofs.Common.{vec_len}
use Rattle.wfe_uses.proofs.Parting.{IsPartedOf}
use Rattle.wfe_uses.proofs.pipeline.parted.Given as goal

abbrev pub invariant-loop-outcome : goal.invariant-loop-outcome
invariant-loop-outcome l = IsPartedOf l.fn.all.items l.all.items l.seats.items l.sent.items l.taken.items

abbrev pub decreases-loop-outcome : goal.decreases-loop-outcome
decreases-loop-outcome l = vec_len l.all
