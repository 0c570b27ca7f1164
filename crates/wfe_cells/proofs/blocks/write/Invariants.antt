-- The words so far are put, at the bucket's version.
use Rattle.std.proofs.Common.{◌<◌, ◌≤◌}
use Rattle.wfe_table.specs.Public.{IsOf}
use Rattle.wfe_table.specs.all.Logs.Answered.{IsMet}
use Rattle.wfe_table.specs.all.Logs.Versions.{counts_of}
use Rattle.wfe_table.specs.history.History.{record_of}
use Rattle.wfe_cells.specs.Only.{IsOfWords, IsOnly}
use Rattle.wfe_cells.specs.Reasons.{IsQuiet}
use Rattle.wfe_cells.specs.Wide.{HasWords}
use Rattle.wfe_cells.proofs.blocks.write.Given as goal

abbrev pub invariant-loop-word : goal.invariant-loop-word
invariant-loop-word l = record {
  of : IsOf l.seat l.shared;
  quiet : IsQuiet l.fn.seat l.seat;
  only : IsOnly (IsOfWords l.shared.layout.config.buckets l.block) l.fn.seat l.seat;
  met : IsMet (counts_of (record_of l.shared.layout l.fn.seat.track.past)) (record_of l.shared.layout l.seat.track.past) l.block l.version;
  range : 0 < l.word → (1 ≤ l.version) × (l.version ≤ l.shared.layout.config.last_version);
  words : HasWords l.shared.layout.config.buckets l.block l.version l.words l.word (record_of l.shared.layout l.seat.track.past);
}
