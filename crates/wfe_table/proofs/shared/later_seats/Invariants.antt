-- The seats after the first are made one after another, each out of the first handle.
use Rattle.std.proofs.Common.{[], ◌-◌, ◌≡◌, ◌≤◌}
use Rattle.std.specs.Prelude.{map}
use Rattle.std.specs.List.{range_with_len}
use Rattle.wfe_drive_rule.specs.Views.{bare_view, fresh_track}
use Rattle.wfe_table.specs.Public.{new_seat}
use Rattle.wfe_table.proofs.shared.later_seats.Given as goal

abbrev pub invariant-loop-number : goal.invariant-loop-number
invariant-loop-number l = record {
  ids : l.first.table_id ≡ l.fn.first.table_id;
  some : 1 ≤ l.number;
  counts : l.first.me ≡ (bare_view l.number (fresh_track l.layout 0), []);
  seats : l.seats.items ≡ map (new_seat (record { table = l.ledger.table_id; layout = l.layout })) (range_with_len 1 (l.number - 1));
}
