-- Each life between the place and `at` stands one place lower, and `at` is the gap.
use Rattle.std.proofs.Common.{◌≡◌, ◌<◌, ◌-◌, length}
use Rattle.std.specs.List.{remove}
use Rattle.wfe_core.proofs.desk.close_gap.Given as goal

abbrev pub invariant-loop-at : goal.invariant-loop-at
invariant-loop-at l = record {
  long : length l.lives ≡ length l.initial.lives;
  within : l.at < length l.lives;
  moved : remove l.lives l.at ≡ remove l.initial.lives l.place;
}

abbrev pub decreases-loop-at : goal.decreases-loop-at
decreases-loop-at l = length l.initial.lives - l.at
