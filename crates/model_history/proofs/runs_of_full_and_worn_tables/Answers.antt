use Rattle.model_history.proofs.History.Tables.{put_gives_back_in_its_own_scan, full_table_scans_and_tries_again, ends_in_a_full_table, full_bucket, last_era, removes, last_version, walks_read_whole_claim_words}
use Rattle.model_history.proofs.runs_of_full_and_worn_tables.Goals as goal

pub returns-clause-put_gives_back_in_its_own_scan : goal.returns-clause-put_gives_back_in_its_own_scan
returns-clause-put_gives_back_in_its_own_scan c = put_gives_back_in_its_own_scan

pub returns-clause-full_table_scans_and_tries_again : goal.returns-clause-full_table_scans_and_tries_again
returns-clause-full_table_scans_and_tries_again c = full_table_scans_and_tries_again

pub returns-clause-ends_in_a_full_table : goal.returns-clause-ends_in_a_full_table
returns-clause-ends_in_a_full_table c = ends_in_a_full_table

pub returns-clause-full_bucket : goal.returns-clause-full_bucket
returns-clause-full_bucket c = full_bucket

pub returns-clause-last_era : goal.returns-clause-last_era
returns-clause-last_era c = last_era

pub returns-clause-removes : goal.returns-clause-removes
returns-clause-removes c = removes

pub returns-clause-last_version : goal.returns-clause-last_version
returns-clause-last_version c = last_version

pub returns-clause-walks_read_whole_claim_words : goal.returns-clause-walks_read_whole_claim_words
returns-clause-walks_read_whole_claim_words c = walks_read_whole_claim_words
