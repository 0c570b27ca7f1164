use Rattle.wfe_trace.proofs.Lengths.{length-header_line, length-event_line, length-table_line, length-watch_line, length-count_line, length-bad_line, fits-in_range}
use Rattle.wfe_trace.proofs.law.record_lines_are_short.Goals as goal

pub returns : goal.returns
returns c = record {
  header = length-header_line;
  event = length-event_line;
  table = length-table_line;
  watch = length-watch_line;
  count = length-count_line;
  bad = length-bad_line;
  setting = fits-in_range;
}
