-- The bars so far are those of the lives so far.
use Rattle.model_record.specs.Record.{Past}
use Rattle.wfe_draw_lives.specs.Scenes.{Draws, Shows}
use Rattle.wfe_draw_lives.proofs.scene.Scene.close.Given as goal

abbrev pub invariant-loop-life : goal.invariant-loop-life
invariant-loop-life l = (p : Past) → Shows l.fn.self p → Draws p l.bars.items
