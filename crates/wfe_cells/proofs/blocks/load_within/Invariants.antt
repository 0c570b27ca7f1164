-- Attempts that failed have read, and nothing else; each was disturbed.
use Rattle.std.proofs.Common.{length, ◌≡◌}
use Rattle.wfe_table.specs.Public.{IsOf}
use Rattle.wfe_cells.specs.Only.{IsGet, IsOnly}
use Rattle.wfe_cells.specs.Reasons.{AllDisturbed, IsQuiet}
use Rattle.wfe_cells.proofs.blocks.load_within.Given as goal

abbrev pub invariant-loop-attempt : goal.invariant-loop-attempt
invariant-loop-attempt l = record {
  of : IsOf l.seat l.shared;
  quiet : IsQuiet l.fn.seat l.seat;
  only : IsOnly IsGet l.fn.seat l.seat;
  long : length l.words ≡ length l.fn.words;
  disturbed : AllDisturbed l.shared.layout l.cell (length l.fn.words) l.fn.seat l._attempt l.seat;
}
