use Rattle.std.proofs.Common.{arith, sym, ◌∙◌}
use Rattle.wfe_drive_cells.specs.Memory.{memory}
use Rattle.wfe_table_end.specs.Contents.{is_used}
use Rattle.wfe_table_end.proofs.Numbers.{numbers_with, numbers_without}
use Rattle.wfe_table_end.proofs.reading.read_used.Goals.{else-is_taken, then-is_taken+else-prove}
use Rattle.wfe_table_end.proofs.reading.read_used.Goals as goal

pub loop-slot-preserved : goal.loop-slot-preserved
loop-slot-preserved c =
    let test = is_used (memory c.args.layout c.args.words.now) in
    elim c.if-is_taken.branch [
      | then-is_taken+else-prove w ↦
          let items = rw (← w.is_ok-pushed.ensures.value, w.if-prove.false) at w.push.ensures.items in
          let longer = rw (← w.is_ok-pushed.ensures.value, w.if-prove.false) at w.push.ensures.len in
          record {
            read = rw (w.used-is, items, c.loop-slot.invariant.read) (sym (numbers_with test c.loop-slot.slot (sym c.is_taken.ensures ∙ w.if-is_taken.true)));
            count = rw w.used-is (omega (arith, longer, c.loop-slot.invariant.count));
            room = rw w.used-is (omega (arith, w.push.ensures.capacity, c.loop-slot.invariant.room));
          }
      | else-is_taken w ↦
          record {
            read = rw (w.used-is, c.loop-slot.invariant.read) (sym (numbers_without test c.loop-slot.slot (sym c.is_taken.ensures ∙ w.if-is_taken.false)));
            count = rw w.used-is (omega (arith, c.loop-slot.invariant.count));
            room = rw w.used-is c.loop-slot.invariant.room;
          }
    ]
