-- The put is known to its seat.
use Rattle.std.proofs.Common.{subst, sym}
use Rattle.wfe_core.specs.defs.declared.call.Answer.TheVariants as answers
use Rattle.wfe_core.specs.defs.declared.call.Call.TheVariants as calls
use Rattle.wfe_table.specs.Calls.{IsMade}
use Rattle.wfe_table.specs.Public.{SeatNow}
use Rattle.wfe_uses.proofs.Handing.{knows_put}
use Rattle.wfe_uses.proofs.handover.put_and_tell.Goals as goal

pub returns-in-Ok-clause-made : goal.returns-in-Ok-clause-made
returns-in-Ok-clause-made c = (
  c.in-Ok.done.clock,
  subst (λ (seat : SeatNow). IsMade c.args.shared.now.layout c.args.seat.now seat (calls.Put c.args.key c.args.value) (answers.Done c.in-Ok.done.version c.in-Ok.done.clock)) (sym c.news.ensures.same) c.in-Ok.ensures.made,
)

pub returns-in-Ok-clause-told : goal.returns-in-Ok-clause-told
returns-in-Ok-clause-told c = record {
  table = c.news.ensures.news.0;
  knows = knows_put c.args.shared.now.layout c.args.seat.now c.put.new.seat c.args.key c.args.value c.in-Ok.done.version c.in-Ok.done.clock c.news.result.past c.in-Ok.ensures.made c.news.ensures.news.1;
}
