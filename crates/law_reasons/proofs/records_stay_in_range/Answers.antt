use Rattle.law_reasons.proofs.Ranges.Records as ranges
use Rattle.law_reasons.proofs.records_stay_in_range.Goals as goal

pub returns : goal.returns
returns c = ranges.records_stay_in_range
