use Rattle.model_history.proofs.History.Readers.{put_then_get_under_hazard_eras, get_under_intervals, ends_under_intervals, reader_overtaken_tries_again, interval_is_raised}
use Rattle.model_history.proofs.runs_of_readers.Goals as goal

pub returns-clause-put_then_get_under_hazard_eras : goal.returns-clause-put_then_get_under_hazard_eras
returns-clause-put_then_get_under_hazard_eras c = put_then_get_under_hazard_eras

pub returns-clause-get_under_intervals : goal.returns-clause-get_under_intervals
returns-clause-get_under_intervals c = get_under_intervals

pub returns-clause-ends_under_intervals : goal.returns-clause-ends_under_intervals
returns-clause-ends_under_intervals c = ends_under_intervals

pub returns-clause-reader_overtaken_tries_again : goal.returns-clause-reader_overtaken_tries_again
returns-clause-reader_overtaken_tries_again c = reader_overtaken_tries_again

pub returns-clause-interval_is_raised : goal.returns-clause-interval_is_raised
returns-clause-interval_is_raised c = interval_is_raised
