use Rattle.inv_ends.proofs.Ends.Lists.{adopts_alone, adopts_told, left_told, lists_told, marked_told, none_taken}
use Rattle.inv_ends.proofs.lists_are_told.Goals as goal

pub returns-clause-told : goal.returns-clause-told
returns-clause-told c = lists_told

pub returns-clause-left : goal.returns-clause-left
returns-clause-left c = left_told

pub returns-clause-adopts : goal.returns-clause-adopts
returns-clause-adopts c = adopts_told

pub returns-clause-alone : goal.returns-clause-alone
returns-clause-alone c = adopts_alone

pub returns-clause-none : goal.returns-clause-none
returns-clause-none c = none_taken

pub returns-clause-marked : goal.returns-clause-marked
returns-clause-marked c = marked_told
