-- By the invariant of a World what is read of its words stays within the table.
use Rattle.std.proofs.Common.{arith, length, refl, ℕ, ◌≤◌}
use Rattle.std.proofs.Math.Seq.{take-length}
use Rattle.law_reasons.specs.inv.Inv.{Inv}
use Rattle.law_reasons.proofs.inv.Inv.Tells.{inv_shows}
use Rattle.wfe_core.proofs.Ranges.{bounds_of}
use Rattle.wfe_core.specs.World.{World}
use Rattle.wfe_core.specs.defs.Pairs.{pairs_after}
use Rattle.wfe_core.specs.words.Place.Place.{Bucket, Head, Row}
use Rattle.wfe_table_end.specs.Contents.{IsReadable}

-- a bucket has no more pairs than a row has room for
pairs_fit : (w : World) (bucket : ℕ) → Inv w → length (pairs_after (w.book.changes bucket)) ≤ w.layout.config.pairs
pairs_fit w bucket a = rw (take-length (w.book.changes bucket)) at (a.known.bounded.pairs bucket (length (w.book.changes bucket)))

pub readable : (w : World) → Inv w → IsReadable w.layout w.mem
readable w a = record {
  clock = let b = bounds_of w.layout a.known.valid in omega (arith, a.known.eras.most, b.eras.1);
  roots = λ bucket. a.known.slots.words (Bucket bucket);
  counts = λ bucket slot h. let s = inv_shows w a in let shown = s.buckets bucket in omega (arith, shown.count slot h, pairs_fit w bucket a);
  some = let r = a.known.whole.both.rows in omega (arith, r.words.head, r.good.some);
  head = a.known.slots.words Head;
  nexts = λ slot. a.known.slots.words (Row slot 0) refl;
}
