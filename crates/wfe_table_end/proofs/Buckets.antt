-- A bucket's root shows the bucket at its last version.
use Rattle.std.proofs.Common.{Bool, List, [], arith, false, length, refl, sym, true, ℕ, ◌+◌, ◌-◌, ◌∙◌, ◌≡◌}
use Rattle.std.proofs.Math.Seq.{take-length}
use Rattle.std.proofs.lemmas.List.{nil_from_length}
use Rattle.std.proofs.lemmas.List.FromFn.{fill_by_all}
use Rattle.std.specs.Prelude.{◌==◌}
use Rattle.laws.specs.StructuresAt.{Filling, changes_of, filling_at}
use Rattle.laws.specs.records.Record.{Past}
use Rattle.law_reasons.specs.inv.Contents.Buckets.{BucketShows}
use Rattle.wfe_core.proofs.Facts.{one_less_one_more, zero_of_test}
use Rattle.wfe_core.specs.World.{World}
use Rattle.wfe_core.specs.defs.Pairs.{Pair, pairs_after}
use Rattle.wfe_core.specs.defs.declared.fold.Change.{Change}
use Rattle.wfe_core.specs.words.Place.Place.{Bucket}
use Rattle.wfe_table_end.specs.Contents.{filling_in, pair_in, pairs_in}
use Rattle.wfe_table_end.proofs.Fillings.{filling_none, filling_some}

-- a bucket after these changes
abbrev filling_after : List Change → Filling
filling_after changes = record { version = length changes; pairs = pairs_after changes }

last_filling : (p : Past) (bucket : ℕ) (changes : List Change) → changes_of bucket p ≡ changes → filling_at p bucket ≡ filling_after changes
last_filling p bucket changes h = rw (h, take-length changes) refl

pairs_shown : (w : World) (bucket slot : ℕ) → BucketShows w bucket → w.mem (Bucket bucket) ≡ slot + 1 → pairs_in w.mem slot ≡ pairs_after (w.book.changes bucket)
pairs_shown w bucket slot shows h =
    let pairs : List Pair = pairs_after (w.book.changes bucket) in
    rw (shows.count slot h)
    (sym (fill_by_all (pair_in w.mem slot) pairs (length pairs) (0, 0) refl (λ k low. pair_is (shows.keys slot k h low) (shows.values slot k h low))))
  where
    pair_is : {key value : ℕ} {pair : Pair} → key ≡ pair.0 → value ≡ pair.1 → pair ≡ (key, value)
    pair_is d e = rw (d, e) refl

root_shows : (w : World) (bucket : ℕ) (null : Bool) → (w.mem (Bucket bucket) == 0) ≡ null → BucketShows w bucket → filling_in w.mem bucket ≡ filling_after (w.book.changes bucket)
root_shows w bucket true e shows =
    let none : w.book.changes bucket ≡ [] = nil_from_length (w.book.changes bucket) (zero_of_test (length (w.book.changes bucket)) (sym shows.null ∙ e)) in
    rw none (filling_none w.mem bucket (zero_of_test (w.mem (Bucket bucket)) e))
root_shows w bucket false e shows =
    let slot : ℕ = w.mem (Bucket bucket) - 1 in
    let link : w.mem (Bucket bucket) ≡ slot + 1 = one_less_one_more (w.mem (Bucket bucket)) e in
    rw (filling_some w.mem bucket (w.mem (Bucket bucket)) refl (omega (arith, link)), shows.version slot link, pairs_shown w bucket slot shows link) refl

pub bucket_shown : (w : World) (p : Past) (bucket : ℕ) → BucketShows w bucket → changes_of bucket p ≡ w.book.changes bucket → filling_in w.mem bucket ≡ filling_at p bucket
bucket_shown w p bucket shows h = root_shows w bucket (w.mem (Bucket bucket) == 0) refl shows ∙ sym (last_filling p bucket (w.book.changes bucket) h)
