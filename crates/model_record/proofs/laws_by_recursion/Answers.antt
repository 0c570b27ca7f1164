use Rattle.model_record.proofs.Entries.{entries_of_each, each_of_entries}
use Rattle.model_record.proofs.laws_by_recursion.Goals as goal

pub returns-clause-published : goal.returns-clause-published
returns-clause-published c = entries_of_each

pub returns-clause-recursive : goal.returns-clause-recursive
returns-clause-recursive c = each_of_entries
