use Rattle.inv_ends.proofs.Walks.Movers.{meeting_start, meeting_begin, meeting_kept, met_open, met_answered}
use Rattle.inv_ends.proofs.moves_meet_requests.Goals as goal

pub returns-clause-start : goal.returns-clause-start
returns-clause-start c = meeting_start

pub returns-clause-begin : goal.returns-clause-begin
returns-clause-begin c = meeting_begin

pub returns-clause-step : goal.returns-clause-step
returns-clause-step c = meeting_kept

pub returns-clause-seen : goal.returns-clause-seen
returns-clause-seen c = met_open

pub returns-clause-answered : goal.returns-clause-answered
returns-clause-answered c = met_answered
