-- The workers before these are taken apart.
use Rattle.std.proofs.Common.{vec_len}
use Rattle.wfe_server.proofs.Parting.{IsLeftOf}
use Rattle.wfe_server.proofs.threads.parted.Given as goal

abbrev pub invariant-loop-outcome : goal.invariant-loop-outcome
invariant-loop-outcome l = IsLeftOf l.fn.all.items l.all.items l.seats.items l.events.items

abbrev pub decreases-loop-outcome : goal.decreases-loop-outcome
decreases-loop-outcome l = vec_len l.all
