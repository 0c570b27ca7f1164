-- The seat is the table's, and its log counts the key up as often as was counted.
use Rattle.std.proofs.Common.{◌≡◌, ◌≤◌}
use Rattle.wfe_table.specs.Public.{IsOf}
use Rattle.wfe_table.specs.rule.Views.{seat_of}
use Rattle.wfe_uses.specs.Counting.{Counts}
use Rattle.wfe_uses.proofs.counter.count_up.Given as goal

abbrev pub invariant-loop-turn : goal.invariant-loop-turn
invariant-loop-turn l = record {
  of : IsOf l.seat l.shared;
  counts : Counts l.key l.seat.track.local.log l.counts;
  number : seat_of l.seat.track ≡ seat_of l.fn.seat.track;
  most : l.counts ≤ l.times;
}
