use Rattle.std.proofs.Common.{◌≡◌, take}
use Rattle.wfe_defs.specs.Pairs.{pairs_after, value_in}
use Rattle.wfe_defs.proofs.fold.fold_bucket.Given as goal

abbrev pub invariant-loop-change : goal.invariant-loop-change
invariant-loop-change l = l.found ≡ value_in (pairs_after (take l.change-index l.first)) l.key
