use Rattle.std.proofs.Common.{◌≡◌, ◌+◌, ◌-◌, length, sym, arith, ◌∙◌}
use Rattle.std.proofs.lemmas.List.{length-set}
use Rattle.wfe_core.proofs.Lists.{gap_moved, last_removed}
use Rattle.wfe_core.proofs.desk.close_gap.Goals as goal

pub loop-at-preserved : goal.loop-at-preserved
loop-at-preserved c =
    let l = c.loop-at in
    record {
      long = length-set l.lives l.at _ ∙ l.invariant.long;
      within = rw (length-set l.lives l.at _) c.loop-at-test.true;
      moved = gap_moved l.lives l.at _ c.loop-at-test.true ∙ l.invariant.moved;
    }

pub returns-clause-moved : goal.returns-clause-moved
returns-clause-moved c =
    let l = c.loop-at in
    let last : l.at + 1 ≡ length l.lives = omega (arith, c.loop-at-test.false, l.invariant.within) in
    let before : length c.args.lives.now - 1 ≡ l.at = omega (arith, last, l.invariant.long) in
    rw before (sym (last_removed l.lives l.at last) ∙ l.invariant.moved)
