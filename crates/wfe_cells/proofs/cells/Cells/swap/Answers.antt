-- Each attempt that was stale is one more.
use Rattle.std.proofs.Common.{arith, sym, ◌∙◌}
use Rattle.wfe_table.proofs.all.laws.records.defs.Facts.{false_not_true}
use Rattle.wfe_cells.specs.Calls.{is_stale}
use Rattle.wfe_cells.specs.Calls.AllStale.{NoneYet, OneMore}
use Rattle.wfe_cells.proofs.cells.Cells.swap.Goals as goal

pub loop-attempt-init : goal.loop-attempt-init
loop-attempt-init c = record { of = c.requires.of; stale = NoneYet }

pub loop-attempt-preserved : goal.loop-attempt-preserved
loop-attempt-preserved c =
    let loaded = c.load-seen.ensures.loaded in
    let tried = c.compare_swap-tried.result in
    record {
      of = c.compare_swap-tried.ensures.of;
      stale =
          OneMore c.loop-attempt._attempt c.loop-attempt.user c.compare_swap-tried.new.user c.load-seen.result tried c.loop-attempt.invariant.stale
          (record { mid = c.load-seen.new.user; loaded = loaded; swapped = c.compare_swap-tried.ensures.tried }) (sym c.came_between.ensures ∙ c.if-not-came_between.false);
    }

pub returns-then-not-came_between-clause-replaced : goal.returns-then-not-came_between-clause-replaced
returns-then-not-came_between-clause-replaced c =
    let tried = c.compare_swap-tried.result in
    record {
      attempts = c.loop-attempt._attempt;
      mid = c.loop-attempt.user;
      stale = c.loop-attempt.invariant.stale;
      last = record { mid = c.load-seen.new.user; loaded = c.load-seen.ensures.loaded; swapped = c.compare_swap-tried.ensures.tried };
      patient = λ yes. absurd (false_not_true (is_stale tried) (sym c.came_between.ensures ∙ c.if-not-came_between.true) yes);
    }

pub returns-clause-replaced : goal.returns-clause-replaced
returns-clause-replaced c = record {
  attempts = c.loop-attempt._attempt;
  mid = c.loop-attempt.user;
  stale = c.loop-attempt.invariant.stale;
  last = record { mid = c.load-seen-2.new.user; loaded = c.load-seen-2.ensures.loaded; swapped = c.compare_swap-tried-2.ensures.tried };
  patient = λ yes. omega (arith, c.loop-attempt-test.false, c.loop-attempt.auto._attempt-end);
}
