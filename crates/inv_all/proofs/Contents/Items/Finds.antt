-- What a step finds of a row's version, number and count of pairs is in range.
use Rattle.std.proofs.Common.{ℕ, ◌≡◌, ◌≤◌, ◌+◌, ◌%◌, true, arith, ap, sym, subst, ◌∙◌, length}
use Rattle.std.specs.Prelude.{◌==◌, take}
use Rattle.inv_ends.specs.model.words.Place.Place.{Row}
use Rattle.inv_ends.specs.model.defs.Pairs.{pairs_after}
use Rattle.inv_ends.specs.model.defs.declared.event.Root.{Root}
use Rattle.inv_ends.specs.model.defs.declared.event.Root.TheVariants as roots
use Rattle.inv_ends.specs.model.declared.post.Post.{Post}
use Rattle.inv_ends.specs.model.Calls.{ChangeKept, EnqueueKept, GetAt, FindVersion, FindCount, FindKey, FindValue, ChangeAt, LoadVersion, LoadCount, LoadKey, LoadValue, ExchangeRoot, EnqueueAt, LoadNumber, LoadNext, PassTail, ExchangeNext, ExchangeTail, DequeueAt, LoadTail, SwingTail, TakeNumber, TakeValue, ExchangeHead, Work, Getting, Changing, Enqueuing, Dequeuing, Phase, Works, KeepAt, Loosens, LoadHeld, StoreHeld, Looks, Misses, HideSpan, MarkLeft, TakeList, MarkTaken, Keeping}
use Rattle.inv_ends.specs.model.Get.{get_move}
use Rattle.inv_ends.specs.model.Memory.{found, place_in}
use Rattle.inv_ends.specs.model.World.{World}
use Rattle.inv_ends.proofs.model.Facts.{same_number}
use Rattle.inv_ends.specs.shapes.Slots.{work_finds, get_finds, change_finds, enqueue_finds, dequeue_finds, keep_finds}
use Rattle.inv_ends.specs.rows.Rows.{View, is_settled}
use Rattle.inv_ends.specs.rows.Queue.{Line}
use Rattle.inv_all.specs.Contents.Shelf.{shelf_of, pairs_by}
use Rattle.inv_all.specs.Contents.Contents.{Contents, ground_of}
use Rattle.inv_all.specs.Contents.Knows.{Knows, GetKnows, KeepKnows, ChangeKnows, get_reads, reads_in, work_reads, changes_in}
use Rattle.inv_all.proofs.Contents.Contents.Reading.{version_shown, count_shown}
use Rattle.inv_all.specs.Contents.Items.{Items}
use Rattle.inv_all.specs.Contents.Reads.{Reads}
use Rattle.inv_all.specs.Contents.Bounded.{Bounded}
use Rattle.inv_all.specs.Contents.Gives.{WorkFinds}
use Rattle.inv_all.proofs.Contents.Items.Follow.{finds_phase}
use Rattle.inv_ends.proofs.rows.Went.{WalksIn}

-- a settled row of a bucket shows a version and a count in range

version_in : (w : World) (v : View) (s b : ℕ) → Contents w v → Bounded w → is_settled (v.status s) ≡ true → (w.book.row s).root ≡ roots.Bucket b → w.mem (Row s 1) ≤ w.layout.config.last_version
version_in w v s b c o y e =
    let shown : w.mem (Row s 1) ≡ (w.book.row s).version = version_shown w.mem s (w.book.row s).version ((shelf_of w.book).pairs s) (c.rows.shows s b y e) in
    let low : (w.book.row s).version ≤ length (w.book.changes b) = c.rows.within s b y e in
    let most : length (w.book.changes b) ≤ w.layout.config.last_version = o.versions b in
    omega arith

count_in : (w : World) (v : View) (s b : ℕ) → Contents w v → Bounded w → is_settled (v.status s) ≡ true → (w.book.row s).root ≡ roots.Bucket b → w.mem (Row s 2) ≤ w.layout.config.pairs
count_in w v s b c o y e =
    let shown : w.mem (Row s 2) ≡ length ((shelf_of w.book).pairs s) = count_shown w.mem s (w.book.row s).version ((shelf_of w.book).pairs s) (c.rows.shows s b y e) in
    let pairs : length ((shelf_of w.book).pairs s) ≡ length (pairs_after (take (w.book.row s).version (w.book.changes b))) = ap (λ (r : Root). length (pairs_by w.book.changes r (w.book.row s).version)) e in
    let most : length (pairs_after (take (w.book.row s).version (w.book.changes b))) ≤ w.layout.config.pairs = o.pairs b (w.book.row s).version in
    rw (shown ∙ pairs) most

abbrev Settles : World → View → Work → Type 0
Settles w v work = (s : ℕ) → work_reads work s ≡ true → is_settled (v.status s) ≡ true

get_fits : (w : World) (v : View) (bucket key : ℕ) (at : GetAt) → Contents w v → Bounded w → ((s : ℕ) → get_reads at s ≡ true → is_settled (v.status s) ≡ true) → GetKnows (ground_of w) bucket key at
    → get_finds w.layout.config at (found (get_move at) (w.mem (place_in (get_move at))))
get_fits w v bucket key (FindVersion slot) c o y h = version_in w v slot bucket c o (y slot (same_number slot)) h
get_fits w v bucket key (FindCount slot version) c o y h = count_in w v slot bucket c o (y slot (same_number slot)) h.root
get_fits w v bucket key (FindKey slot version count pair) c o y h = tt
get_fits w v bucket key (FindValue slot version pair) c o y h = tt

keep_fits : (w : World) (v : View) (at : KeepAt) (post : Post) → Contents w v → Bounded w → Settles w v (Keeping at) → KeepKnows (ground_of w) at → keep_finds w.layout.config at (finds_phase w.mem (Works (Keeping at)) post)
keep_fits w v (Loosens let_go) post c o y h = tt
keep_fits w v (LoadHeld from index) post c o y h = tt
keep_fits w v (StoreHeld from index era) post c o y h = tt
keep_fits w v (Looks index key at) post c o y h = get_fits w v h.bucket key at c o (λ s e. y s e) h.reads
keep_fits w v (Misses index) post c o y h = tt
keep_fits w v HideSpan post c o y h = tt
keep_fits w v MarkLeft post c o y h = tt
keep_fits w v (TakeList place) post c o y h = tt
keep_fits w v (MarkTaken place count) post c o y h = tt

link_same : (kept : ChangeKept) (slot : ℕ) → kept.link ≡ slot + 1 → (kept.link == slot + 1) ≡ true
link_same kept slot e = rw e (same_number (slot + 1))

change_fits : (w : World) (v : View) (kept : ChangeKept) (at : ChangeAt) (post : Post) → Contents w v → Bounded w → Settles w v (Changing kept at) → ChangeKnows (ground_of w) kept at → change_finds w.layout.config at (finds_phase w.mem (Works (Changing kept at)) post)
change_fits w v kept (LoadVersion slot) post c o y h = version_in w v slot (changes_in (ground_of w) kept) c o (y slot (link_same kept slot h.link)) h.root
change_fits w v kept (LoadCount slot) post c o y h = count_in w v slot (changes_in (ground_of w) kept) c o (y slot (link_same kept slot h.row.link)) h.row.root
change_fits w v kept (LoadKey slot count) post c o y h = tt
change_fits w v kept (LoadValue slot count key) post c o y h = tt
change_fits w v kept (ExchangeRoot slot) post c o y h = tt

-- a row of the queue shows a number in range
number_in : (w : World) (v : View) (l : Line) (s : ℕ) → Items w v l → l.lined s ≡ true → w.mem (Row s 1) ≤ w.layout.config.last_version
number_in w v l s h y =
    let shown : w.mem (Row s 1) ≡ l.number s = h.rows.numbers s y in
    let low : l.number s ≤ length w.book.queued = h.rows.within s y in
    let room : length w.book.queued ≤ w.layout.config.last_version = h.rows.room in
    omega arith

enqueue_fits : (w : World) (v : View) (l : Line) (kept : EnqueueKept) (at : EnqueueAt) (post : Post) → Items w v l → WalksIn (Works (Enqueuing kept at)) v l w.mem → enqueue_finds w.layout.config at (finds_phase w.mem (Works (Enqueuing kept at)) post)
enqueue_fits w v l kept LoadNumber post h k = number_in w v l kept.tail h (k.stood kept.tail (same_number kept.tail))
enqueue_fits w v l kept LoadNext post h k = tt
enqueue_fits w v l kept (PassTail next) post h k = tt
enqueue_fits w v l kept (ExchangeNext slot) post h k = tt
enqueue_fits w v l kept (ExchangeTail slot) post h k = tt

dequeue_fits : (w : World) (v : View) (l : Line) (at : DequeueAt) (post : Post) → Items w v l → Reads (Works (Dequeuing at)) l w.book.queued → dequeue_finds w.layout.config at (finds_phase w.mem (Works (Dequeuing at)) post)
dequeue_fits w v l (LoadTail head) post h r = tt
dequeue_fits w v l (SwingTail head next) post h r = tt
dequeue_fits w v l (TakeNumber head next) post h r = number_in w v l next h (r.lined next (same_number next))
dequeue_fits w v l (TakeValue head next number) post h r = tt
dequeue_fits w v l (ExchangeHead head next number value) post h r = tt

work_fits : (w : World) (v : View) (l : Line) (work : Work) (post : Post) → Items w v l → Contents w v → Bounded w → WalksIn (Works work) v l w.mem → Reads (Works work) l w.book.queued → Settles w v work → Knows (ground_of w) (Works work) → work_finds w.layout.config work (finds_phase w.mem (Works work) post)
work_fits w v l (Getting key at) post h c o k r y g = get_fits w v (key % w.layout.config.buckets) key at c o (λ s e. y s e) g
work_fits w v l (Changing kept at) post h c o k r y g = change_fits w v kept at post c o y g
work_fits w v l (Enqueuing kept at) post h c o k r y g = enqueue_fits w v l kept at post h k
work_fits w v l (Dequeuing at) post h c o k r y g = dequeue_fits w v l at post h r
work_fits w v l (Keeping at) post h c o k r y g = keep_fits w v at post c o y g

pub work_finds_fit : WorkFinds
work_finds_fit w i v l work b h c o y e =
    subst (λ (p : Phase). work_finds w.layout.config work (finds_phase w.mem p (w.seat i).post)) (sym e)
    (work_fits w v l work (w.seat i).post h c o (subst (λ (p : Phase). WalksIn p v l w.mem) e (b.queue.walks i)) (subst (λ (p : Phase). Reads p l w.book.queued) e (h.seats i))
    (λ s u. y s (subst (λ (p : Phase). reads_in p s ≡ true) (sym e) u)) (subst (λ (p : Phase). Knows (ground_of w) p) e (c.seats i)))
