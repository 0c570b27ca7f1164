use Rattle.wfe_table.proofs.Ruled.{tables_meet}
use Rattle.wfe_table.proofs.facts.seats_meet_no_more_than_there_is.Goals as goal

pub returns : goal.returns
returns c = tables_meet
