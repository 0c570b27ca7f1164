use Rattle.std.proofs.Common.{drop, length, ◌++◌, ◌+◌, ◌≡◌, ◌≤◌}
use Rattle.wfe_core.specs.Posts.{cleared_from}
use Rattle.wfe_drive_seat.proofs.letting.tell_cleared.Given as goal

-- Clear is told of the indexes before
abbrev pub invariant-loop-index : goal.invariant-loop-index
invariant-loop-index l = record {
  told : l.told ++ cleared_from l.index (drop l.index l.post.standing) ≡ cleared_from 2 (drop 2 l.post.standing);
  few : length l.told + 2 ≤ l.index;
}
