-- Index words lie alone.
use Rattle.std.proofs.Common.{arith, true, ◌<◌, ◌≡◌}
use Rattle.wfe_drive_words.proofs.Cells.{own_index}
use Rattle.wfe_drive_words.proofs.path.publish_as.Goals as goal

pub alone-requires : goal.alone-requires
alone-requires c = omega (arith, own_index c.args.post.now c.args.index c.requires.valid c.requires.index, c.index-word.ensures)
