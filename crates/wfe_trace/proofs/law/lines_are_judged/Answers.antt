use Rattle.wfe_trace.proofs.Judged.{judged-read}
use Rattle.wfe_trace.proofs.Reasons.{reason_of}
use Rattle.wfe_trace.proofs.law.lines_are_judged.Goals as goal

pub returns : goal.returns
returns c = record { good = judged-read; bad = reason_of }
