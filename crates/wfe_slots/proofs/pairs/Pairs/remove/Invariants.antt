use Rattle.std.proofs.Common.{◌≡◌, ◌≤◌, length, take}
use Rattle.wfe_core.specs.defs.Pairs.{without_key}
use Rattle.wfe_slots.proofs.pairs.Pairs.remove.Given as goal

abbrev pub invariant-loop-place : goal.invariant-loop-place
invariant-loop-place l = record {
  rest : l.rest ≡ without_key (take l.place l.self) l.key;
  few : length l.rest ≤ l.place;
}
