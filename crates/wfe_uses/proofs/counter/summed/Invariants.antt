-- The counters before these are taken apart.
use Rattle.std.proofs.Common.{vec_len}
use Rattle.wfe_uses.proofs.Parting.{IsSummedOf}
use Rattle.wfe_uses.proofs.counter.summed.Given as goal

abbrev pub invariant-loop-counter : goal.invariant-loop-counter
invariant-loop-counter l = IsSummedOf l.fn.all.items l.all.items l.seats.items l.total

abbrev pub decreases-loop-counter : goal.decreases-loop-counter
decreases-loop-counter l = vec_len l.all
