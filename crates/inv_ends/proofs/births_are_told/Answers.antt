use Rattle.inv_ends.proofs.Told.Births.{given_start, given_begin, given_kept, retires_given}
use Rattle.inv_ends.proofs.births_are_told.Goals as goal

pub returns-clause-start : goal.returns-clause-start
returns-clause-start c = given_start

pub returns-clause-begin : goal.returns-clause-begin
returns-clause-begin c = given_begin

pub returns-clause-step : goal.returns-clause-step
returns-clause-step c = given_kept

pub returns-clause-retired : goal.returns-clause-retired
returns-clause-retired c = retires_given
