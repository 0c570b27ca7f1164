-- So far the first seats are in the handle, in order, and the others are left, the last one first.
use Rattle.std.proofs.Common.{All, ◌++◌, ◌≡◌}
use Rattle.std.specs.Prelude.{map, reverse}
use Rattle.wfe_drive_rule.specs.Handles.{IsGathered}
use Rattle.wfe_table.specs.Closing.{track_of}
use Rattle.wfe_table.specs.Public.{IsOf}
use Rattle.wfe_table.proofs.close.gathered.Given as goal

abbrev pub invariant-loop-seat : goal.invariant-loop-seat
invariant-loop-seat l = record {
  ids : l.handle.table_id ≡ l.fn.ledger.table_id;
  gathered : IsGathered l.handle.me;
  of : All (λ seat. IsOf seat (record { table = l.fn.ledger.table_id; layout = l.fn.ledger.key })) l.seats.items;
  tracks : l.handle.me.0.tracks ++ map track_of (reverse l.seats.items) ≡ map track_of l.fn.seats.items;
}

abbrev pub decreases-loop-seat : goal.decreases-loop-seat
decreases-loop-seat l = goal.left-loop-seat l
