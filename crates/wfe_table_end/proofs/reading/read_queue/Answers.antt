use Rattle.std.proofs.Common.{append-nil, append_assoc, arith, suc, sym, ◌-◌, ◌+◌, ◌∙◌, ◌≡◌}
use Rattle.wfe_core.specs.words.Place.{row_count}
use Rattle.wfe_drive_cells.specs.Memory.{memory}
use Rattle.wfe_table_end.proofs.Items.{items_none, items_some}
use Rattle.wfe_table_end.proofs.reading.read_queue.Goals as goal

pub returns-then-next-eq0 : goal.returns-then-next-eq0
returns-then-next-eq0 c =
    let mem = memory c.args.layout c.args.words.now in
    let none = items_none mem (row_count c.args.layout - c.loop-turn._turn) c.loop-turn.slot (sym c.row_word-next.ensures ∙ c.if-next-eq0.true) in
    let read = rw (none, append-nil) at c.loop-turn.invariant.read in
    read

pub loop-turn-preserved : goal.loop-turn-preserved
loop-turn-preserved c =
    let mem = memory c.args.layout c.args.words.now in
    let left : row_count c.args.layout - c.loop-turn._turn ≡ suc (row_count c.args.layout - (c.loop-turn._turn + 1)) = omega (arith, c.rows-turn-end.ensures, c.loop-turn-test.true) in
    let some = items_some mem (row_count c.args.layout - (c.loop-turn._turn + 1)) c.loop-turn.slot c.row_word-next.result (sym c.row_word-next.ensures) c.if-next-eq0.false in
    let items = rw (← c.is_ok-pushed.ensures.value, c.if-prove.false) at c.push.ensures.items in
    let longer = rw (← c.is_ok-pushed.ensures.value, c.if-prove.false) at c.push.ensures.len in
    let read = rw (left, some) at c.loop-turn.invariant.read in
    record {
      read = rw (items, append_assoc, c.row_word-number.ensures, c.row_word-value.ensures) read;
      slot = omega (arith, c.requires.readable.nexts c.loop-turn.slot, c.row_word-next.ensures, c.if-next-eq0.false);
      count = omega (arith, longer, c.loop-turn.invariant.count);
      room = omega (arith, c.push.ensures.capacity, c.loop-turn.invariant.room);
    }
