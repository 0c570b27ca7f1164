-- All seats are the table's.
use Rattle.wfe_shifts.specs.OnTable.{IsStaffOf}
use Rattle.wfe_shifts.proofs.rounds.Given as goal

abbrev pub invariant-loop-round : goal.invariant-loop-round
invariant-loop-round g l = IsStaffOf l.staff l.shared
