use Rattle.std.proofs.Common.{◌≡◌, true, take}
use Rattle.std.specs.List.{list_all}
use Rattle.wfe_check_held.specs.Tests.{was_taken_at}
use Rattle.wfe_check_held.proofs.times.Times.had_no_room.Given as goal

-- the rows before this one were
abbrev pub invariant-loop-row : goal.invariant-loop-row
invariant-loop-row l = list_all (was_taken_at l.begun) (take l.row-index l.self.rows.items) ≡ true
