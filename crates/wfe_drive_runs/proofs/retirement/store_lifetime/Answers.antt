-- Lifetime words lie side by side.
use Rattle.std.proofs.Common.{arith, ◌≤◌}
use Rattle.wfe_drive_words.proofs.drive_cells.Lying.{life_dense}
use Rattle.wfe_drive_runs.proofs.retirement.store_lifetime.Goals as goal

pub dense-requires-clause-from : goal.dense-requires-clause-from
dense-requires-clause-from c = omega (arith, life_dense c.args.post.now.layout c.args.slot, c.life-word.ensures)
