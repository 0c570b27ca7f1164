-- The bars so far are of no row.
use Rattle.std.proofs.Common.{All}
use Rattle.wfe_draw_lives.specs.Scenes.{HasNoRow, OfNoRow}
use Rattle.wfe_draw_lives.proofs.standing.Standing.close.Given as goal

abbrev pub invariant-loop-place : goal.invariant-loop-place
invariant-loop-place l = HasNoRow l.fn.self → All OfNoRow l.bars.items
