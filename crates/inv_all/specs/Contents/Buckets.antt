-- What the words show of each bucket, and what a change knows that finds its link still in the root.
use Rattle.std.specs.Prelude.{ℕ, ◌≡◌, ◌<◌, ◌+◌, ◌==◌, length}
use Rattle.inv_ends.specs.model.words.Place.Place.{Bucket, Row}
use Rattle.inv_ends.specs.model.defs.Pairs.{changed, pairs_after}
use Rattle.inv_ends.specs.model.Get.{key_place, value_place}
use Rattle.inv_ends.specs.model.Calls.{ChangeKept}
use Rattle.inv_ends.specs.model.World.{World}
use Rattle.inv_ends.specs.rows.Rows.{View}
use Rattle.inv_ends.specs.rows.Agree.{Agree}
use Rattle.inv_all.specs.Contents.Knows.{pair_at, Decided}
use Rattle.inv_all.specs.Contents.Contents.{Contents, ground_of}

-- the root is null where the bucket was not changed; else the row that it leads to has the number of changes, the number of
-- pairs, and the pairs that the changes make of none
pub record BucketShows (w : World) (b : ℕ) : Type 0 where
  pub null : (w.mem (Bucket b) == 0) ≡ (length (w.book.changes b) == 0)
  pub version : (s : ℕ) → w.mem (Bucket b) ≡ s + 1 → w.mem (Row s 1) ≡ length (w.book.changes b)
  pub count : (s : ℕ) → w.mem (Bucket b) ≡ s + 1 → w.mem (Row s 2) ≡ length (pairs_after (w.book.changes b))
  pub keys : (s k : ℕ) → w.mem (Bucket b) ≡ s + 1 → k < length (pairs_after (w.book.changes b)) → w.mem (Row s (key_place k)) ≡ (pair_at (pairs_after (w.book.changes b)) k).0
  pub values : (s k : ℕ) → w.mem (Bucket b) ≡ s + 1 → k < length (pairs_after (w.book.changes b)) → w.mem (Row s (value_place k)) ≡ (pair_at (pairs_after (w.book.changes b)) k).1

abbrev pub BucketsShow : Type 0
BucketsShow = (w : World) (v : View) (b : ℕ) → Agree w v → Contents w v → BucketShows w b

-- what it has decided is the bucket's last version, with its change
pub record IsLatest (w : World) (b : ℕ) (kept : ChangeKept) : Type 0 where
  pub version : kept.version ≡ length (w.book.changes b)
  pub pairs : kept.pairs ≡ changed (pairs_after (w.book.changes b)) kept.change

abbrev pub ChangesKnow : Type 0
ChangesKnow = (w : World) (v : View) (b : ℕ) (kept : ChangeKept) → Agree w v → Contents w v → Decided (ground_of w) kept → w.mem (Bucket b) ≡ kept.link → IsLatest w b kept
