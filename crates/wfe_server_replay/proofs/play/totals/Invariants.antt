use Rattle.std.proofs.Common.{take, ◌≡◌}
use Rattle.wfe_server_replay.specs.Counts.{back_in_all, retired_in_all}
use Rattle.wfe_server_replay.proofs.play.totals.Given as goal

-- the sums over the seats before this one
abbrev pub invariant-loop-place : goal.invariant-loop-place
invariant-loop-place l = record {
  retired : l.retired ≡ retired_in_all (take l.place l.garbage);
  back : l.back ≡ back_in_all (take l.place l.garbage);
}
