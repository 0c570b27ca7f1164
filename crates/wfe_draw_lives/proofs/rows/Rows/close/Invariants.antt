-- The lives so far are lives of rows.
use Rattle.std.proofs.Common.{All}
use Rattle.model_record.specs.Record.{Past}
use Rattle.wfe_draw_lives.specs.Lives.{IsLife, Lived}
use Rattle.wfe_draw_lives.proofs.rows.Rows.close.Given as goal

abbrev pub invariant-loop-place : goal.invariant-loop-place
invariant-loop-place l = (p : Past) → Lived l.fn.self p → All (IsLife p) l.lives.items
