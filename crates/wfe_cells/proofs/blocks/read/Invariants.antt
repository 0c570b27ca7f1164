-- The words so far are the object's, at its version.
use Rattle.std.proofs.Common.{length, ◌≡◌}
use Rattle.wfe_table.specs.Public.{IsOf}
use Rattle.wfe_table.specs.history.History.{record_of}
use Rattle.wfe_cells.specs.Only.{IsGet, IsOnly}
use Rattle.wfe_cells.specs.Reasons.{IsQuiet}
use Rattle.wfe_cells.specs.Wide.{HasWords}
use Rattle.wfe_cells.proofs.blocks.read.Given as goal

abbrev pub invariant-loop-word : goal.invariant-loop-word
invariant-loop-word l = record {
  of : IsOf l.seat l.shared;
  quiet : IsQuiet l.fn.seat l.seat;
  only : IsOnly IsGet l.fn.seat l.seat;
  length : length l.words ≡ length l.fn.words;
  words : HasWords l.shared.layout.config.buckets l.block l.version l.words l.word (record_of l.shared.layout l.seat.track.past);
}
