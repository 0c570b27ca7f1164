use Rattle.std.proofs.Common.{arith, sym}
use Rattle.std.proofs.lemmas.List.FromFn.{map-range_with_len_more}
use Rattle.wfe_core.proofs.words.Bounds.{pairs_few}
use Rattle.wfe_drive_cells.specs.Memory.{memory}
use Rattle.wfe_table_end.specs.Contents.{pair_in}
use Rattle.wfe_table_end.proofs.reading.read_pairs.Goals as goal

pub overflow_mul-pair : goal.overflow_mul-pair
overflow_mul-pair c = omega (arith, pairs_few c.args.layout c.requires.whole.valid)

pub overflow_add-pair : goal.overflow_add-pair
overflow_add-pair c = omega (arith, pairs_few c.args.layout c.requires.whole.valid)

pub overflow_mul-pair-in-loop-pair : goal.overflow_mul-pair-in-loop-pair
overflow_mul-pair-in-loop-pair c = omega (arith, pairs_few c.args.layout c.requires.whole.valid)

pub overflow_add-pair-in-loop-pair : goal.overflow_add-pair-in-loop-pair
overflow_add-pair-in-loop-pair c = omega (arith, pairs_few c.args.layout c.requires.whole.valid)

pub loop-pair-preserved : goal.loop-pair-preserved
loop-pair-preserved c =
    let items = rw (← c.is_ok-pushed.ensures.value, c.if-prove.false) at c.push.ensures.items in
    let longer = rw (← c.is_ok-pushed.ensures.value, c.if-prove.false) at c.push.ensures.len in
    record {
      read =
          rw (items, c.loop-pair.invariant.read, c.row_word-key.ensures, c.row_word-value.ensures)
          (sym (map-range_with_len_more (pair_in (memory c.args.layout c.args.words.now) c.args.slot) 0 c.loop-pair.pair c.loop-pair.pair (omega arith)));
      count = omega (arith, longer, c.loop-pair.invariant.count);
      room = omega (arith, c.push.ensures.capacity, c.loop-pair.invariant.room);
    }
