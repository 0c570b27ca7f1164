use Rattle.law_all.proofs.Runs.Ticks as ticks
use Rattle.law_all.proofs.runs_tick.Goals as goal

pub returns : goal.returns
returns c = ticks.runs_tick
