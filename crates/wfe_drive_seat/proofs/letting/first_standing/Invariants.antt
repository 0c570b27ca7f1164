use Rattle.std.proofs.Common.{drop, ◌≡◌}
use Rattle.wfe_core.specs.Posts.{standing_from}
use Rattle.wfe_drive_seat.proofs.letting.first_standing.Given as goal

-- nothing stands at the indexes before
abbrev pub invariant-loop-index : goal.invariant-loop-index
invariant-loop-index l = standing_from l.index (drop l.index l.post.standing) ≡ standing_from 2 (drop 2 l.post.standing)
