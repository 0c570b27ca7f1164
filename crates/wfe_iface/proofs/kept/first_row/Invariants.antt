use Rattle.std.proofs.Common.{◌≡◌}
use Rattle.std.specs.Prelude.{drop}
use Rattle.wfe_core.specs.Rounds.{first_row}
use Rattle.wfe_iface.proofs.kept.first_row.Given as goal

abbrev pub invariant-loop-row : goal.invariant-loop-row
invariant-loop-row l = first_row (drop l.row-index l.rows) ≡ first_row l.rows
