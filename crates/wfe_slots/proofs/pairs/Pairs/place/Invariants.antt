use Rattle.std.proofs.Common.{◌≡◌, take, None}
use Rattle.wfe_core.specs.defs.Pairs.{value_in}
use Rattle.wfe_slots.proofs.pairs.Pairs.place.Given as goal

abbrev pub invariant-loop-place : goal.invariant-loop-place
invariant-loop-place l = value_in (take l.place l.self) l.key ≡ None
