-- So many slots without a deleter.
use Rattle.std.proofs.Common.{◌≡◌, None, replicate}
use Rattle.wfe_final.proofs.finals.Finals.new.Given as goal

abbrev pub invariant-loop-slot : goal.invariant-loop-slot
invariant-loop-slot g l = l.deleters.items ≡ replicate l._slot None
