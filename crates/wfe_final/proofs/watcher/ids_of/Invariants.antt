-- The ids of the deleters so far.
use Rattle.std.proofs.Common.{◌≡◌, map, take}
use Rattle.wfe_final.proofs.watcher.ids_of.Given as goal

abbrev pub invariant-loop-deleter : goal.invariant-loop-deleter
invariant-loop-deleter g l = l.ids.items ≡ map g.D.Deleter.identity (take l.deleter-index l.deleter-items)
