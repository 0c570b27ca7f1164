-- Interval words lie alone.
use Rattle.std.proofs.Common.{arith, true, ◌<◌, ◌≡◌}
use Rattle.wfe_drive_words.proofs.Cells.{own_interval}
use Rattle.wfe_drive_words.proofs.within.store_span.Goals as goal

pub alone-requires : goal.alone-requires
alone-requires c = omega (arith, own_interval c.args.post.now c.requires, c.interval-word.ensures)
