use Rattle.std.proofs.Common.{drop, ◌≡◌}
use Rattle.wfe_server_replay.specs.Counts.{counted_all, listed_all}
use Rattle.wfe_server_replay.proofs.play.count_all.Given as goal

-- the events before this one are counted
abbrev pub invariant-loop-place : goal.invariant-loop-place
invariant-loop-place l = record {
  garbage : counted_all l.fn.garbage l.seat l.told ≡ counted_all l.garbage l.seat (drop l.place l.told);
  lists : listed_all l.fn.lists l.seat l.told ≡ listed_all l.lists l.seat (drop l.place l.told);
}
