use Rattle.inv_rows.proofs.Covering.Guards.{guards_fit, helpers_fit, helpers_first, handed_covers, handed_kept}
use Rattle.inv_rows.proofs.covers.guards_are_read.Goals as goal

pub returns-clause-own : goal.returns-clause-own
returns-clause-own c = guards_fit

pub returns-clause-helpers : goal.returns-clause-helpers
returns-clause-helpers c = helpers_fit

pub returns-clause-first : goal.returns-clause-first
returns-clause-first c = helpers_first

pub returns-clause-handed : goal.returns-clause-handed
returns-clause-handed c = handed_covers

pub returns-clause-kept : goal.returns-clause-kept
returns-clause-kept c = handed_kept
