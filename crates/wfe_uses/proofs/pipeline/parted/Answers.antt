-- A hand that is taken off the end is the next one.
use Rattle.std.proofs.Common.{ap, rules, ◌∙◌}
use Rattle.std.specs.Prelude.{reverse}
use Rattle.wfe_uses.proofs.Parting.{parted_more, parted_none, written_back}
use Rattle.wfe_uses.proofs.pipeline.parted.Goals as goal

pub loop-outcome-init : goal.loop-outcome-init
loop-outcome-init c =
    rw (c.new-seats.ensures.items, c.new-sent.ensures.items, c.new-taken.ensures.items) (parted_none c.args.all.items _ (written_back c.args.all.items c.reverse.new.self c.args.all.len (c.reverse.ensures.after ∙ ap reverse c.as_mut_slice.ensures.value) (search rules)))

pub loop-outcome-preserved : goal.loop-outcome-preserved
loop-outcome-preserved c =
    parted_more c.args.all.items c.loop-outcome.all.items c.pop.new.self.items c.in-Some.outcome c.in_ok-hand.hand c.loop-outcome.seats.items c.push.new.self.items c.loop-outcome.sent.items c.push-else-is_err.new.self.items c.loop-outcome.taken.items c.push-else-is_err-2.new.self.items c.loop-outcome.invariant
    (search rules) (search rules) (search rules) (search rules) (search rules)
