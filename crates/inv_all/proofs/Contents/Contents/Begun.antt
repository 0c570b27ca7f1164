-- At the start no row shows anything, and a call begins knowing nothing.
use Rattle.std.proofs.Common.{ℕ, ◌≡◌, ◌≤◌, ◌&&◌, Bool, true, false, arith, refl, subst}
use Rattle.std.proofs.lemmas.Bool.Decides.{nat_tests}
use Rattle.std.specs.Prelude.{◌==◌, nat_le, nat_lt, if◌then◌else◌}
use Rattle.inv_ends.specs.model.words.declared.config.Config.{Config}
use Rattle.inv_ends.specs.model.defs.declared.call.Call.{Call}
use Rattle.inv_ends.specs.model.defs.declared.call.Call.TheVariants as names
use Rattle.inv_ends.specs.model.defs.declared.event.Root.TheVariants as roots
use Rattle.inv_ends.specs.model.declared.post.Post.{Post}
use Rattle.inv_ends.specs.model.Locals.{Local, begun, begun_post, may_begin}
use Rattle.inv_ends.specs.model.Steps.{first_phase}
use Rattle.inv_ends.specs.model.Calls.{Why, Opens, FollowsHead, Fills, KeepAt, Looks, Keeping, Phase, Idle, Runs, Scans, Works}
use Rattle.inv_ends.specs.rows.Rows.Status.{Free, Linked, InQueue}
use Rattle.inv_ends.specs.rows.Agree.{first_status}
use Rattle.inv_ends.proofs.covers.Begun.{new_stands}
use Rattle.inv_all.specs.Contents.Shelf.{Shelf, shelf_of}
use Rattle.inv_all.specs.Contents.Knows.{Ground, Knows}
use Rattle.inv_all.specs.Contents.Contents.{KeptRows, ground_of, ContentsStart, ContentsBegin}
use Rattle.inv_all.proofs.Contents.Contents.Rounds.{why_plain, keep_plain, is_plain, plain_knows}
use Rattle.inv_all.proofs.Contents.Stands.Rounds.{why_free, keep_free, is_free, each_first}

no_bucket : (b : ℕ) → roots.Head ≡ roots.Bucket b → ⊥
no_bucket b h = cc

no_next : (p : ℕ) → roots.Head ≡ roots.Next p → ⊥
no_next p h = cc

unlinked : (slots s b : ℕ) → first_status slots s ≡ Linked b → ⊥
unlinked slots s b = by_slot (s == slots)
  where
    by_slot : (x : Bool) → (if x then InQueue else Free) ≡ Linked b → ⊥
    by_slot true h = cc
    by_slot false h = cc

pub contents_start : ContentsStart
contents_start layout valid = record {
  rows = record {
    shows = λ s b y r. absurd (no_bucket b r);
    within = λ s b y r. absurd (no_bucket b r);
    root = λ s b y. absurd (unlinked layout.config.slots s b y);
    latest = λ s b y. absurd (unlinked layout.config.slots s b y);
    items = λ s p y r. absurd (no_next p r);
    queued = λ s p y r. absurd (no_next p r);
    empty = λ b. refl;
  };
  seats = λ k. tt;
  kept = λ k j s low h. absurd (let no = new_stands k layout j s h in cc);
}

free_task_plain : (why : Why) → why_free why ≡ true → why_plain why ≡ true
free_task_plain (Opens task) h = refl
free_task_plain (FollowsHead head tail) h = refl
free_task_plain (Fills task) h = h
free_task_plain why h = refl

free_work_plain : (at : KeepAt) → keep_free at ≡ true → keep_plain at ≡ true
free_work_plain (Looks index key at) h = absurd (cc)
free_work_plain at h = refl

pub free_plain : (phase : Phase) → is_free phase ≡ true → is_plain phase ≡ true
free_plain Idle h = refl
free_plain (Runs why base) h = free_task_plain why h
free_plain (Scans later at) h = refl
free_plain (Works (Keeping at)) h = free_work_plain at h
free_plain (Works work) h = absurd (cc)

-- the index of a look is from 2 on
look_low : (config : Config) (index key : ℕ) (call : Call) → may_begin config call ≡ true → call ≡ names.Look index key → 2 ≤ index
look_low config index key call m c =
    let b : (nat_le 2 index && nat_lt index config.indexes) ≡ true = subst (λ (x : Call). may_begin config x ≡ true) c m in grind (arith, nat_tests)

-- a call knows nothing where it begins, but for a look: what stands is a row of a bucket
pub first_knows : (g : Ground) (config : Config) (call : Call) (post : Post) → may_begin config call ≡ true → KeptRows g.shelf post → Knows g (first_phase call post)
first_knows g config call post m k =
    each_first call post (λ (phase : Phase). Knows g phase)
    (λ phase h. plain_knows g phase (free_plain phase h))
    (λ index key slot c e. let row = k index slot (look_low config index key call m c) e in record { bucket = row.bucket; reads = row.root })

begun_at : (g : Ground) (i k : ℕ) (old new : Local) (same : Bool) → Knows g old.phase → Knows g new.phase → Knows g (if same then new else old).phase
begun_at g i k old new true p q = q
begun_at g i k old new false p q = p

kept_at : (a : Shelf) (i k : ℕ) (old new : Local) (same : Bool) → KeptRows a old.post → KeptRows a new.post → KeptRows a (if same then new else old).post
kept_at a i k old new true p q = q
kept_at a i k old new false p q = p

pub contents_begin : ContentsBegin
contents_begin w i call v m c =
    let post : Post = begun_post (w.seat i).post in
    let kept : KeptRows (shelf_of w.book) post = λ j s low h. c.kept i j s low h in
    record {
      rows = c.rows;
      seats = λ k. begun_at (ground_of w) i k (w.seat k) (begun (w.seat i) call) (k == i) (c.seats k) (first_knows (ground_of w) w.layout.config call post m kept);
      kept = λ k. kept_at (shelf_of w.book) i k (w.seat k) (begun (w.seat i) call) (k == i) (c.kept k) kept;
    }
