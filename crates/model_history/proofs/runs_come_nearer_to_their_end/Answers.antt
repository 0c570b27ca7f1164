use Rattle.model_history.proofs.History.Falls.{reader_tries_again, interval_rises, helper_is_stopped, clock_moves_under_a_request, table_is_full, head_moves}
use Rattle.model_history.proofs.runs_come_nearer_to_their_end.Goals as goal

pub returns-clause-reader_tries_again : goal.returns-clause-reader_tries_again
returns-clause-reader_tries_again c = reader_tries_again

pub returns-clause-interval_rises : goal.returns-clause-interval_rises
returns-clause-interval_rises c = interval_rises

pub returns-clause-helper_is_stopped : goal.returns-clause-helper_is_stopped
returns-clause-helper_is_stopped c = helper_is_stopped

pub returns-clause-clock_moves_under_a_request : goal.returns-clause-clock_moves_under_a_request
returns-clause-clock_moves_under_a_request c = clock_moves_under_a_request

pub returns-clause-table_is_full : goal.returns-clause-table_is_full
returns-clause-table_is_full c = table_is_full

pub returns-clause-head_moves : goal.returns-clause-head_moves
returns-clause-head_moves c = head_moves
