-- The calls of all logs have one order.
use Rattle.law_all.proofs.Runs.Ordered as ordered
use Rattle.law_all.proofs.Whole.{histories_are_lawful}
use Rattle.law_all.specs.Runs.{RunsHaveOrder}

pub runs_have_order : RunsHaveOrder
runs_have_order layout items rest = ordered.runs_have_order layout items rest (histories_are_lawful layout items rest.valid).linear
