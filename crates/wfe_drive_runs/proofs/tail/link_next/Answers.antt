-- Rows lie side by side.
use Rattle.std.proofs.Common.{arith, ◌<◌, ◌≤◌}
use Rattle.wfe_drive_words.proofs.drive_cells.Lying.{row_dense}
use Rattle.wfe_drive_runs.proofs.tail.link_next.Goals as goal

pub dense-requires-clause-from : goal.dense-requires-clause-from
dense-requires-clause-from c = omega (arith, row_dense c.args.post.now.layout c.args.tail 0, c.row-word.ensures)
