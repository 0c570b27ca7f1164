-- What was found tells which of the ends it is.
use Rattle.std.proofs.Common.{subst, ℕ}
use Rattle.wfe_core.specs.defs.declared.call.Answer.{Answer}
use Rattle.wfe_core.specs.defs.declared.call.Call.TheVariants as calls
use Rattle.wfe_core.specs.Keep.{not_taken}
use Rattle.wfe_table.specs.Calls.{IsMade}
use Rattle.wfe_table.proofs.Adopts.{adopted_before}
use Rattle.wfe_table.proofs.handover.adopt.Goals as goal

pub returns-in-Ok-clause-made : goal.returns-in-Ok-clause-made
returns-in-Ok-clause-made c = c.in-Ok.ensures.made

pub returns-in-Err-eq0-clause-made : goal.returns-in-Err-eq0-clause-made
returns-in-Err-eq0-clause-made c =
    subst (λ (found : ℕ). IsMade c.args.shared.now.layout c.args.seat.now c.take_place.new.seat (calls.Adopt c.args.place) (not_taken found)) c.in-Err-eq0.field-0-test
    c.in-Err-eq0.ensures.made.made

pub returns-in-Err-clause-made : goal.returns-in-Err-clause-made
returns-in-Err-clause-made c =
    subst (λ (answer : Answer). IsMade c.args.shared.now.layout c.args.seat.now c.take_place.new.seat (calls.Adopt c.args.place) answer) (adopted_before c.in-Err.field-0 c.in-Err.field-0-test.1)
    c.in-Err.ensures.made.made
