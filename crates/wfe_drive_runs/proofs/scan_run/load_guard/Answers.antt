-- The words of guards lie alone.
use Rattle.std.proofs.Common.{arith, ◌<◌}
use Rattle.wfe_drive_runs.proofs.Scanning.{guard_alone}
use Rattle.wfe_drive_runs.proofs.scan_run.load_guard.Goals as goal

pub alone-requires : goal.alone-requires
alone-requires c = omega (arith, guard_alone c.args.post.now.layout c.args.guard c.requires.there, c.guard_word-word.ensures)
