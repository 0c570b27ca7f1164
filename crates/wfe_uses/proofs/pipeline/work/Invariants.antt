-- The seat is the table's, and its log has queued and taken these values.
use Rattle.std.proofs.Common.{◌≡◌}
use Rattle.wfe_table.specs.Public.{IsOf}
use Rattle.wfe_table.specs.rule.Views.{seat_of}
use Rattle.wfe_uses.specs.Flowing.{Moves}
use Rattle.wfe_uses.proofs.pipeline.work.Given as goal

abbrev pub invariant-loop-value : goal.invariant-loop-value
invariant-loop-value l = record {
  of : IsOf l.seat l.shared;
  moves : Moves l.seat.track.local.log l.sent.items l.taken.items;
  number : seat_of l.seat.track ≡ seat_of l.fn.seat.track;
}
