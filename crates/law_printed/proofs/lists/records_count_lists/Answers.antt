use Rattle.law_printed.proofs.ListCounts.Fitting as fitting
use Rattle.law_printed.proofs.lists.records_count_lists.Goals as goal

pub returns : goal.returns
returns c = fitting.records_count_lists
