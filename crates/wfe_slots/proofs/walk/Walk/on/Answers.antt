use Rattle.std.proofs.Common.{arith, ◌∙◌, ◌-◌, sym}
use Rattle.wfe_slots.specs.Phases.{walk_of}
use Rattle.wfe_slots.proofs.Walks.{passed, found_free}
use Rattle.wfe_slots.proofs.walk.Walk.on.Goals as goal

pub returns-then-not-is_taken : goal.returns-then-not-is_taken
returns-then-not-is_taken c =
    found_free _ c.loop-left.left (c.loop-left.left - 1) _ _ _ (walk_of c.args.self.now) (omega (arith, c.loop-left-test.true)) c.slot_after-slot.ensures.next c.shown_at-shown.ensures (sym c.is_taken.ensures ∙ c.if-not-is_taken.true) ∙ c.loop-left.invariant.on

pub loop-left-preserved : goal.loop-left-preserved
loop-left-preserved c =
    record {
      slot = c.slot_after-slot.ensures.within;
      on =
          passed _ c.loop-left.left (c.loop-left.left - 1) _ _ _ (walk_of c.args.self.now) (omega (arith, c.loop-left-test.true)) c.slot_after-slot.ensures.next c.shown_at-shown.ensures (sym c.is_taken.ensures ∙ c.if-not-is_taken.false)
          ∙ c.loop-left.invariant.on;
    }
