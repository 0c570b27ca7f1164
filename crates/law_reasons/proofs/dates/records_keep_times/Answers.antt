use Rattle.law_reasons.proofs.Eras.ClockTimes.Timely as timely
use Rattle.law_reasons.proofs.dates.records_keep_times.Goals as goal

pub returns : goal.returns
returns c = timely.records_keep_times
