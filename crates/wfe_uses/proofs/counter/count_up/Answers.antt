-- Each attempt adds its counts.
use Rattle.std.proofs.Common.{arith, refl, subst, sym, ◌+◌, ◌∙◌, ℕ}
use Rattle.wfe_uses.proofs.Counting.{counts_begun}
use Rattle.wfe_uses.specs.Counting.{Counts}
use Rattle.wfe_uses.proofs.counter.count_up.Goals as goal

pub loop-turn-init : goal.loop-turn-init
loop-turn-init c = record { of = c.requires.fresh.of; counts = counts_begun c.args.key c.args.seat.track.local.log c.requires.fresh.log; number = refl; most = omega arith }

pub loop-turn-preserved : goal.loop-turn-preserved
loop-turn-preserved c =
    let i = c.loop-turn.invariant in
    record {
      of = c.count_once-last.ensures.of;
      counts = subst (λ (n : ℕ). Counts c.args.key c.count_once-last.new.seat.track.local.log (c.loop-turn.counts + n)) (sym c.counts-counts.ensures.counts) (c.count_once-last.ensures.counts c.loop-turn.counts i.counts);
      number = c.count_once-last.ensures.number ∙ i.number;
      most = omega arith;
    }
