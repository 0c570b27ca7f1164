use Rattle.model_history.proofs.History.Helping.{helper_stops_before_hand_over, movers_at_their_exchange, late_helper_meets_second_request}
use Rattle.model_history.proofs.runs_of_helpers.Goals as goal

pub returns-clause-helper_stops_before_hand_over : goal.returns-clause-helper_stops_before_hand_over
returns-clause-helper_stops_before_hand_over c = helper_stops_before_hand_over

pub returns-clause-movers_at_their_exchange : goal.returns-clause-movers_at_their_exchange
returns-clause-movers_at_their_exchange c = movers_at_their_exchange

pub returns-clause-late_helper_meets_second_request : goal.returns-clause-late_helper_meets_second_request
returns-clause-late_helper_meets_second_request c = late_helper_meets_second_request
