use Rattle.std.proofs.Common.{take, ◌≡◌}
use Rattle.wfe_watch.specs.Lists.{waiting_in_all}
use Rattle.wfe_watch.proofs.lists.ListCounter.total.Given as goal

-- the rows in the lists of the seats before this one
abbrev pub invariant-loop-place : goal.invariant-loop-place
invariant-loop-place l = l.rows ≡ waiting_in_all (take l.place l.self)
