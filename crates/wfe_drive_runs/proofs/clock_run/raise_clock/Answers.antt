-- The clock lies alone.
use Rattle.std.proofs.Common.{arith, ◌<◌}
use Rattle.wfe_drive_words.proofs.drive_cells.Lying.{clock_alone}
use Rattle.wfe_drive_runs.proofs.clock_run.raise_clock.Goals as goal

pub alone-requires : goal.alone-requires
alone-requires c = omega (arith, clock_alone c.args.post.now.layout, c.clock-word.ensures)
