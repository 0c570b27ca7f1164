-- There is a handle for each box that is left, and those after them have their seats.
use Rattle.std.proofs.Common.{All, length, ◌≤◌}
use Rattle.std.specs.List.{AllWithin}
use Rattle.wfe_c.specs.Opened.{IsSeated, IsSet}
use Rattle.wfe_c.proofs.opening.seat_all.Given as goal

abbrev pub invariant-loop-boxed : goal.invariant-loop-boxed
invariant-loop-boxed l = record {
  most : length l.made.items ≤ length l.seats;
  set : All (IsSet l.fn._config) l.made.items;
  seated : AllWithin (IsSeated l.fn._config) l.seats (length l.made.items) (length l.seats);
}

abbrev pub decreases-loop-boxed : goal.decreases-loop-boxed
decreases-loop-boxed l = goal.left-loop-boxed l
