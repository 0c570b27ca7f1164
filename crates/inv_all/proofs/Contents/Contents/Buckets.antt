-- The words of a bucket's row, from what is known of rows and what they show.
use Rattle.std.proofs.Common.{ℕ, ◌+◌, ◌≡◌, true, refl, ap, ◌∙◌, sym, subst, List, length}
use Rattle.std.specs.Prelude.{◌==◌}
use Rattle.inv_ends.specs.model.words.Place.Place.{Bucket}
use Rattle.inv_ends.specs.model.defs.Pairs.{Pair, pairs_after}
use Rattle.inv_ends.specs.model.defs.declared.event.Root.{Root}
use Rattle.inv_ends.specs.model.defs.declared.event.Root.TheVariants as roots
use Rattle.inv_ends.specs.model.World.{World}
use Rattle.inv_ends.specs.rows.Rows.{View, is_settled}
use Rattle.inv_ends.specs.rows.Rows.Status.{Linked}
use Rattle.inv_ends.specs.rows.Agree.{Agree}
use Rattle.inv_all.specs.Contents.Shelf.{pairs_by, Shows}
use Rattle.inv_all.specs.Contents.Contents.{Contents}
use Rattle.inv_all.specs.Contents.Buckets.{BucketsShow, ChangesKnow}
use Rattle.inv_all.proofs.Contents.Contents.Links.{all_pairs, exchange_latest}
use Rattle.inv_all.proofs.Contents.Contents.Reading.{version_shown, count_shown, key_shown, value_shown}
use Rattle.inv_all.proofs.Contents.Contents.Shelves.{Latest}

-- the row that a root leads to shows the bucket's last version
row_shows : (w : World) (v : View) (b s : ℕ) → Agree w v → Contents w v → w.mem (Bucket b) ≡ s + 1 → Shows w.mem s (length (w.book.changes b)) (pairs_after (w.book.changes b))
row_shows w v b s a c h =
    let linked : v.status s ≡ Linked b = a.good.roots b s (sym (a.words.roots b) ∙ h) in
    let settled : is_settled (v.status s) ≡ true = rw linked refl in
    let root : (w.book.row s).root ≡ roots.Bucket b = c.rows.root s b linked in
    let version : (w.book.row s).version ≡ length (w.book.changes b) = c.rows.latest s b linked in
    let pairs : pairs_by w.book.changes (w.book.row s).root (w.book.row s).version ≡ pairs_after (w.book.changes b) = ap (λ (x : Root). pairs_by w.book.changes x (w.book.row s).version) root ∙ ap (λ (k : ℕ). pairs_by w.book.changes (roots.Bucket b) k) version ∙ all_pairs w.book.changes b in
    subst (λ (ps : List Pair). Shows w.mem s (length (w.book.changes b)) ps) pairs (subst (λ (k : ℕ). Shows w.mem s k (pairs_by w.book.changes (w.book.row s).root (w.book.row s).version)) version (c.rows.shows s b settled root))

pub buckets_show : BucketsShow
buckets_show w v b a c = record {
  null = ap (λ (k : ℕ). k == 0) (a.words.roots b) ∙ c.rows.empty b;
  version = λ s h. version_shown w.mem s (length (w.book.changes b)) (pairs_after (w.book.changes b)) (row_shows w v b s a c h);
  count = λ s h. count_shown w.mem s (length (w.book.changes b)) (pairs_after (w.book.changes b)) (row_shows w v b s a c h);
  keys = λ s k h lt. key_shown w.mem s (length (w.book.changes b)) (pairs_after (w.book.changes b)) k lt (row_shows w v b s a c h);
  values = λ s k h lt. value_shown w.mem s (length (w.book.changes b)) (pairs_after (w.book.changes b)) k lt (row_shows w v b s a c h);
}

pub changes_know : ChangesKnow
changes_know w v b kept a c d h =
    let t : Latest (w.book.changes b) kept = exchange_latest w.layout.config.buckets w.layout.config.slots w.book w.mem v kept b a.good (sym (a.words.roots b) ∙ h) c.rows d in
    record { version = t.version; pairs = t.pairs }
