-- The clock lies alone.
use Rattle.std.proofs.Common.{arith, true, ◌<◌, ◌≡◌}
use Rattle.wfe_drive_cells.proofs.Lying.{clock_alone}
use Rattle.wfe_drive_words.proofs.path.load_clock.Goals as goal

pub alone-requires : goal.alone-requires
alone-requires c = omega (arith, clock_alone c.args.post.now.layout, c.clock-word.ensures)
