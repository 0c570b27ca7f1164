-- The rows are those after the entries still.
use Rattle.model_record.specs.Record.{Past}
use Rattle.wfe_draw_lives.specs.Lives.{Lived}
use Rattle.wfe_draw_lives.proofs.rows.Rows.scan.Given as goal

abbrev pub invariant-loop-place : goal.invariant-loop-place
invariant-loop-place l = (p : Past) → Lived l.initial.self p → Lived l.self p
