use Rattle.std.proofs.Common.{◌≡◌, ◌++◌, take, length}
use Rattle.wfe_check_map.proofs.lists.doubled.Given as goal

abbrev pub invariant-loop-place : goal.invariant-loop-place
invariant-loop-place l = record {
  so_far : l.lives.items ≡ l.initial.lives.items ++ take l.place l.initial.lives.items;
  many : l.many ≡ length l.initial.lives.items;
}
