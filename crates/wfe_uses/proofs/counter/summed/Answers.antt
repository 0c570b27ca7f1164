-- A counter that is taken off the end is the next one.
use Rattle.std.proofs.Common.{ap, rules, ◌∙◌}
use Rattle.std.specs.Prelude.{reverse}
use Rattle.wfe_uses.proofs.Parting.{summed_more, summed_none, written_back}
use Rattle.wfe_uses.proofs.counter.summed.Goals as goal

pub loop-counter-init : goal.loop-counter-init
loop-counter-init c = rw c.new-seats.ensures.items (summed_none c.args.all.items _ (written_back c.args.all.items c.reverse.new.self c.args.all.len (c.reverse.ensures.after ∙ ap reverse c.as_mut_slice.ensures.value) (search rules)))

pub loop-counter-preserved : goal.loop-counter-preserved
loop-counter-preserved c =
    summed_more c.args.all.items c.loop-counter.all.items c.pop.new.self.items c.in-Some.counter c.loop-counter.seats.items c.push.new.self.items c.loop-counter.total c.in_ok-total.total c.loop-counter.invariant (search rules) (search rules) (search rules)
