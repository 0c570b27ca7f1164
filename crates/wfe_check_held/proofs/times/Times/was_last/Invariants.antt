use Rattle.std.proofs.Common.{◌≡◌, false, take}
use Rattle.std.specs.List.{list_any}
use Rattle.wfe_check_held.specs.Tests.{was_last_at}
use Rattle.wfe_check_held.proofs.times.Times.was_last.Given as goal

-- the rows before this one were not
abbrev pub invariant-loop-row : goal.invariant-loop-row
invariant-loop-row l = list_any (was_last_at l.self l.seat l.last) (take l.row-index l.rows) ≡ false
