use Rattle.law_printed.proofs.Begins.{records_begin}
use Rattle.law_printed.proofs.records_begin_calls_of_their_lines.Goals as goal

pub returns : goal.returns
returns c = records_begin
