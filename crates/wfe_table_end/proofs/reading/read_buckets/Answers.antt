use Rattle.std.proofs.Common.{arith, sym, [], ◌∷◌}
use Rattle.std.proofs.lemmas.List.{map-append}
use Rattle.std.proofs.lemmas.List.Elements.{All-take}
use Rattle.std.proofs.lemmas.List.FromFn.{map-range_with_len_more}
use Rattle.wfe_drive_cells.specs.Memory.{memory}
use Rattle.wfe_table_end.specs.Contents.{filling_in, filling_of}
use Rattle.wfe_table_end.specs.Room.{IsSpare}
use Rattle.wfe_table_end.proofs.reading.read_buckets.Goals as goal

pub loop-bucket-preserved : goal.loop-bucket-preserved
loop-bucket-preserved c =
    let items = rw (← c.is_ok-pushed.ensures.value, c.if-prove.false) at c.push.ensures.items in
    let longer = rw (← c.is_ok-pushed.ensures.value, c.if-prove.false) at c.push.ensures.len in
    record {
      read =
          rw (items, map-append filling_of c.loop-bucket.buckets.items (c.read_bucket.result ∷ []), c.loop-bucket.invariant.read, c.read_bucket.ensures)
          (sym (map-range_with_len_more (filling_in (memory c.args.layout c.args.words.now)) 0 c.loop-bucket.bucket c.loop-bucket.bucket (omega arith)));
      count = omega (arith, longer, c.loop-bucket.invariant.count);
      room = omega (arith, c.push.ensures.capacity, c.loop-bucket.invariant.room);
      spare = rw c.in-Some.ensures.rest (All-take (IsSpare c.args.layout) _ c.loop-bucket.spare.items c.loop-bucket.invariant.spare);
      spares = omega (arith, c.in-Some.ensures.cases, c.loop-bucket.invariant.spares);
    }
