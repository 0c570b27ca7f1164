-- What a get has read is no older than its bucket was when its call began.
use Rattle.std.proofs.Common.{ℕ, None, Some, ◌≡◌, ◌≤◌, ◌<◌, ◌+◌, ◌-◌, ◌%◌, Bool, true, false, List, [], ◌∷◌, ◌++◌, length, refl, sym, ap, ◌∙◌, subst, arith, length-append}
use Rattle.std.proofs.lemmas.Bool.Decides.{nat_tests}
use Rattle.std.specs.Prelude.{◌==◌, nat_le, if◌then◌else◌}
use Rattle.inv_all.specs.model.words.Place.{Place}
use Rattle.inv_all.specs.model.words.Place.Place.{Clock, Bucket}
use Rattle.inv_all.specs.model.words.declared.layout.Layout.{Layout}
use Rattle.inv_all.specs.model.defs.declared.call.Call.{Call}
use Rattle.inv_all.specs.model.defs.declared.event.Event.{Event}
use Rattle.inv_all.specs.model.defs.declared.event.Event.TheVariants as events
use Rattle.inv_all.specs.model.defs.declared.event.Root.{Root}
use Rattle.inv_all.specs.model.defs.declared.event.Root.TheVariants as roots
use Rattle.inv_all.specs.model.defs.declared.fold.Change.{Change}
use Rattle.inv_all.specs.model.defs.declared.fold.Change.TheVariants as the_changes
use Rattle.inv_all.specs.model.declared.ends.ProtectEnd.TheVariants as protect_ends
use Rattle.inv_all.specs.model.declared.post.Post.{Post}
use Rattle.inv_all.specs.model.Book.{Book, booked, booked_all}
use Rattle.inv_all.specs.model.Change as alters
use Rattle.inv_all.specs.model.Enqueue as enqueues
use Rattle.inv_all.specs.model.Desks.{Desk}
use Rattle.inv_all.specs.model.Links.{link_place}
use Rattle.inv_all.specs.model.Locals.{Local, begun_post, turn, told_by, told_end}
use Rattle.inv_all.specs.model.Machine as machine
use Rattle.inv_all.specs.model.Posts.{counted, upper}
use Rattle.inv_all.specs.model.Rounds.{key_of}
use Rattle.inv_all.specs.model.Steps.{first_phase, phase_turn}
use Rattle.inv_all.specs.model.Phases.{Base, Ending, Ends, Protected}
use Rattle.inv_all.specs.model.Phases.Base.{Begin, Protect, Reload, Clear, Finish, Release, Allocate, Write, GiveUp, Retire, Move}
use Rattle.inv_all.specs.model.Calls.{Again, Changes, Enqueues, Gets, Opens, Why, LoadVersion, LoadCount, LoadKey, LoadValue, ExchangeRoot, LoadNumber, LoadNext, PassTail, ExchangeNext, ExchangeTail, Getting, Changing, Enqueuing, Dequeuing, Keeping, Phase, Idle, Runs, Scans, Works, CallTurn}
use Rattle.inv_all.specs.model.World.{World, begin, finds, is_busy, offered, start, step, told_in, list_in}
use Rattle.inv_all.specs.shapes.Frame.{phase_left}
use Rattle.inv_all.specs.model.words.Schemes.{is_wfe}
use Rattle.inv_all.specs.shapes.Seats.{root_by}
use Rattle.inv_all.specs.requests.Deals.{is_quiet}
use Rattle.inv_all.specs.requests.NextDeals.{next_deals}
use Rattle.inv_all.specs.requests.Standing.{Requests}
use Rattle.inv_all.specs.requests.Views.{View as Asked}
use Rattle.inv_all.specs.requests.Views.Deal.{Quiet}
use Rattle.inv_all.proofs.requests.Kept.{idle_of}
use Rattle.inv_all.specs.rows.Hands.{row_move}
use Rattle.inv_all.specs.rows.Queue.{Line}
use Rattle.inv_all.specs.rows.Rows.{View}
use Rattle.inv_all.specs.rows.Rows.Status.{Linked}
use Rattle.inv_all.specs.covers.Covers.{takes_or_frees}
use Rattle.inv_all.specs.covers.Held.{under}
use Rattle.inv_all.specs.ends.Origins.{Origins, link_of, loads_link}
use Rattle.inv_all.specs.ends.Tracked.{carries_in, root_in, Tracked, Carried, Given, Helped}
use Rattle.inv_all.proofs.ends.Origins.Came.{link_busy, helps_busy}
use Rattle.inv_all.proofs.ends.Origins.Ends.{end_good, end_root}
use Rattle.inv_all.proofs.ends.Origins.Kept.{origins_kept, origins_start, origins_begin, idle_deal}
use Rattle.inv_all.specs.Contents.Knows.{Ground, Knows, looks_in}
use Rattle.inv_all.specs.Contents.Shelf.{Shelf, shelf_of}
use Rattle.inv_all.proofs.Contents.Contents.Begun.{free_plain}
use Rattle.inv_all.proofs.Contents.Stands.Rounds.{each_first}
use Rattle.inv_all.proofs.Contents.Contents.Buckets.{buckets_show}
use Rattle.inv_all.proofs.Contents.Contents.Kept.{step_did, end_calm}
use Rattle.inv_all.proofs.Contents.Contents.Lasts.{on, knows_lasts}
use Rattle.inv_all.proofs.Contents.Contents.Machines.{rows_stay}
use Rattle.inv_all.proofs.Contents.Contents.Phases.{Beside, links_in, phase_beside}
use Rattle.inv_all.proofs.Contents.Contents.Rounds.{plain_knows, clearing_adds}
use Rattle.inv_all.proofs.Contents.Contents.Told.{SameBook, SameSlot, same_slot, claimed_book, claimed_append, calm_claimed}
use Rattle.inv_all.proofs.Contents.Contents.Views.{owned_stays}
use Rattle.inv_all.specs.Known.{Known}
use Rattle.inv_all.proofs.Inv.Rows.{rows_need}
use Rattle.inv_all.proofs.Inv.Whole.{contents_need, links_show, links_stay, origins_need}
use Rattle.inv_all.proofs.shapes.Frame.{seat_stays, begin_stays, begin_begins}
use Rattle.law_reuse.proofs.Lawful.Versions.{version_stays}
use Rattle.inv_all.proofs.covers.Held.{stepped_phase}
use Rattle.inv_all.proofs.model.Facts.{true_not_false}

-- a row of a bucket counts only if its version is no lower than what the bucket had before
abbrev pub since : (ℕ → ℕ) → Root → ℕ → Root
since base (roots.Bucket b) version = if nat_le (base b) version then roots.Bucket b else roots.Head
since base (roots.Next parent) version = roots.Next parent
since base roots.Head version = roots.Head
since base roots.Tail version = roots.Tail

abbrev pub shelf_since : (ℕ → ℕ) → Book → Shelf
shelf_since base book = record (shelf_of book) { root = λ s. since base (book.row s).root (book.row s).version }

-- a link of a bucket's root is null where the bucket had not been changed before, or leads to such a row
abbrev pub link_since : (ℕ → ℕ) → Book → Root → ℕ → Bool
link_since base book (roots.Bucket b) x = if x == 0 then base b == 0 else nat_le (base b) (book.row (x - 1)).version
link_since base book (roots.Next parent) x = true
link_since base book roots.Head x = true
link_since base book roots.Tail x = true

-- `base` says by seat and bucket how often the bucket had been changed when the seat's call began; a look may read an older row
pub record Current (base : ℕ → ℕ → ℕ) (w : World) (z : Asked) : Type 0 where
  pub low : (k b : ℕ) → base k b ≤ length (w.book.changes b)
  pub links : Origins (λ k. link_since (base k) w.book) w z
  pub knows : (k : ℕ) → looks_in (w.seat k).phase ≡ false → Knows (on w.layout.config.buckets (shelf_since (base k) w.book) w.mem) (w.seat k).phase

-- by root and version
since_by : (base : ℕ → ℕ) (c version b : ℕ) (most : Bool) → nat_le (base c) version ≡ most → ◌≡◌ {A = Root} (if most then roots.Bucket c else roots.Head) (roots.Bucket b) → (roots.Bucket c ≡ roots.Bucket b) × (base b ≤ version)
since_by base c version b true e h = let same : c ≡ b = cc in (h, subst (λ (x : ℕ). base x ≤ version) same (grind (arith, nat_tests)))
since_by base c version b false e h = absurd (cc)

pub since_is : (base : ℕ → ℕ) (root : Root) (version b : ℕ) → since base root version ≡ roots.Bucket b → (root ≡ roots.Bucket b) × (base b ≤ version)
since_is base (roots.Bucket c) version b h = since_by base c version b (nat_le (base c) version) refl h
since_is base (roots.Next parent) version b h = absurd (cc)
since_is base roots.Head version b h = absurd (cc)
since_is base roots.Tail version b h = absurd (cc)

since_back : (base : ℕ → ℕ) (root : Root) (version b : ℕ) → root ≡ roots.Bucket b → base b ≤ version → since base root version ≡ roots.Bucket b
since_back base root version b e m = let y : nat_le (base b) version ≡ true = grind (arith, nat_tests) in rw e (rw y refl)

slot_since : (base : ℕ → ℕ) (a b : Book) (s : ℕ) → SameSlot (shelf_of a) (shelf_of b) s → SameSlot (shelf_since base a) (shelf_since base b) s
slot_since base a b s h = record { root = rw (h.root, h.version) refl; version = h.version; pairs = h.pairs; value = h.value }

-- changes are only added
more_by : (xs ys : List Change) (one : Change) (same : Bool) → (same ≡ true → xs ≡ ys) → length ys ≤ length (if same then xs ++ one ∷ [] else ys)
more_by xs ys one true h = let e = ap length (h refl) in let l = length-append xs (one ∷ []) in omega arith
more_by xs ys one false h = omega arith

at_bucket : (a : Book) (b bucket : ℕ) → (b == bucket) ≡ true → a.changes bucket ≡ a.changes b
at_bucket a b bucket h = let same : b ≡ bucket = grind (arith, nat_tests) in ap (λ (x : ℕ). a.changes x) (sym same)

one_more : (a : Book) (b : ℕ) (event : Event) → length (a.changes b) ≤ length ((booked a event).changes b)
one_more a b (events.Put bucket version key value) = more_by (a.changes bucket) (a.changes b) (the_changes.Put key value) (b == bucket) (at_bucket a b bucket)
one_more a b (events.Removed bucket version key) = more_by (a.changes bucket) (a.changes b) (the_changes.Removed key) (b == bucket) (at_bucket a b bucket)
one_more a b (events.Link (roots.Bucket bucket) slot) = omega arith
one_more a b (events.Link (roots.Next parent) slot) = omega arith
one_more a b (events.Link roots.Head slot) = omega arith
one_more a b (events.Link roots.Tail slot) = omega arith
one_more a b event = omega arith

pub all_more : (a : Book) (b : ℕ) (told : List Event) → length (a.changes b) ≤ length ((booked_all a told).changes b)
all_more a b [] = omega arith
all_more a b (event ∷ told) = let h = one_more a b event in let k = all_more (booked a event) b told in omega arith

-- a root that is loaded is current
loads_free : (s : ℕ) (phase : Phase) (post : Post) (found : ℕ) → loads_link phase ≡ true → takes_or_frees (row_move phase post found) s ≡ false
loads_free s (Runs why (Protect aim index root steps at)) post found h = refl
loads_free s (Runs why (Move at)) post found h = refl
loads_free s Idle post found h = absurd (cc)
loads_free s (Runs why (Begin at)) post found h = absurd (cc)
loads_free s (Runs why (Reload parent index slot era steps)) post found h = absurd (cc)
loads_free s (Runs why (Clear rows index)) post found h = absurd (cc)
loads_free s (Runs why Finish) post found h = absurd (cc)
loads_free s (Runs why (Release index)) post found h = absurd (cc)
loads_free s (Runs why (Allocate at)) post found h = absurd (cc)
loads_free s (Runs why (Write slot row place)) post found h = absurd (cc)
loads_free s (Runs why (GiveUp slot)) post found h = absurd (cc)
loads_free s (Runs why (Retire at)) post found h = absurd (cc)
loads_free s (Scans later at) post found h = absurd (cc)
loads_free s (Works work) post found h = absurd (cc)

none_before : (base many : ℕ) → base ≤ many → (many == 0) ≡ true → (base == 0) ≡ true
none_before base many h e = grind (arith, nat_tests)

latest_here : (w : World) (v : View) (l : Line) (z : Asked) (base : ℕ → ℕ) (b s : ℕ) → Known w v l z → base b ≤ length (w.book.changes b) → w.mem (Bucket b) ≡ s + 1 → base b ≤ (w.book.row s).version
latest_here w v l z base b s a m e =
    let g = a.whole.both.rows in
    let t : v.status s ≡ Linked b = g.good.roots b s (sym (g.words.roots b) ∙ e) in
    let n = a.contents.rows.latest s b t in
    rw n m

latest_row : (w : World) (i : ℕ) (v : View) (l : Line) (z : Asked) (base : ℕ → ℕ) (b s : ℕ) → Known w v l z → base b ≤ length (w.book.changes b) → loads_link (w.seat i).phase ≡ true → w.mem (Bucket b) ≡ s + 1 → nat_le (base b) ((step w i).book.row s).version ≡ true
latest_row w i v l z base b s a m h e =
    let k = version_stays w i s (loads_free s (w.seat i).phase (w.seat i).post (finds w i) h) in
    let q : base b ≤ ((step w i).book.row s).version = rw k (latest_here w v l z base b s a m e) in
    grind (arith, nat_tests)

fresh_by : (w : World) (i : ℕ) (v : View) (l : Line) (z : Asked) (base : ℕ → ℕ) (b : ℕ) (null : Bool) → (w.mem (Bucket b) == 0) ≡ null → Known w v l z → base b ≤ length (w.book.changes b) → loads_link (w.seat i).phase ≡ true → (if null then base b == 0 else nat_le (base b) ((step w i).book.row (w.mem (Bucket b) - 1)).version) ≡ true
fresh_by w i v l z base b true e a m h = let n = (buckets_show w v b a.whole.both.rows a.contents).null in none_before (base b) (length (w.book.changes b)) m (sym n ∙ e)
fresh_by w i v l z base b false e a m h = latest_row w i v l z base b (w.mem (Bucket b) - 1) a m h (grind (arith, nat_tests))

fresh_since : (w : World) (i : ℕ) (v : View) (l : Line) (z : Asked) (base : ℕ → ℕ) (root : Root) → Known w v l z → ((b : ℕ) → base b ≤ length (w.book.changes b)) → loads_link (w.seat i).phase ≡ true → link_since base (step w i).book root (w.mem (link_place root)) ≡ true
fresh_since w i v l z base (roots.Bucket b) a m h = fresh_by w i v l z base b (w.mem (Bucket b) == 0) refl a (m b) h
fresh_since w i v l z base (roots.Next parent) a m h = refl
fresh_since w i v l z base roots.Head a m h = refl
fresh_since w i v l z base roots.Tail a m h = refl

-- and a link that is tracked stays so
stays_by : (w : World) (i k : ℕ) (v : View) (l : Line) (z : Asked) (base : ℕ → ℕ) (b x : ℕ) (null : Bool) → (x == 0) ≡ null → Known w v l z → root_in w k ≡ roots.Bucket b → Tracked w z k x → (if null then base b == 0 else nat_le (base b) (w.book.row (x - 1)).version) ≡ true → (if null then base b == 0 else nat_le (base b) ((step w i).book.row (x - 1)).version) ≡ true
stays_by w i k v l z base b x true e a r t g = g
stays_by w i k v l z base b x false e a r t g =
    let s : x ≡ x - 1 + 1 = grind (arith, nat_tests) in
    let u : under v.status (root_in w k) ≡ true = rw r refl in
    let f = links_stay w i k (x - 1) v l z (is_wfe w.layout.config.scheme) refl a (subst (λ (y : ℕ). Tracked w z k y) s t) u in
    rw (version_stays w i (x - 1) f) g

stays_since : (w : World) (i k : ℕ) (v : View) (l : Line) (z : Asked) (base : ℕ → ℕ) (root : Root) (x : ℕ) → Known w v l z → root_in w k ≡ root → Tracked w z k x → link_since base w.book root x ≡ true → link_since base (step w i).book root x ≡ true
stays_since w i k v l z base (roots.Bucket b) x a r t g = stays_by w i k v l z base b x (x == 0) refl a r t g
stays_since w i k v l z base (roots.Next parent) x a r t g = refl
stays_since w i k v l z base roots.Head x a r t g = refl
stays_since w i k v l z base roots.Tail x a r t g = refl

links_kept : (w : World) (i : ℕ) (v : View) (l : Line) (z next : Asked) (base : ℕ → ℕ → ℕ) → i < w.layout.config.seats → Known w v l z → next.deal ≡ next_deals w i z.deal → Current base w z → Origins (λ k. link_since (base k) (step w i).book) (step w i) next
links_kept w i v l z next base b a d c =
    origins_kept (λ k. link_since (base k) w.book) (λ k. link_since (base k) (step w i).book) w i z next (origins_need w i v l z b a) d
    (record {
      fresh = λ k h t. fresh_since w i v l z (base k) (root_in w k) a (c.low k) h;
      stays = λ k x t g. stays_since w i k v l z (base k) (root_in w k) x a refl t g;
    })
    c.links

-- what the seat that steps knows
link_version : (base : ℕ → ℕ) (book : Book) (b slot : ℕ) → link_since base book (roots.Bucket b) (slot + 1) ≡ true → base b ≤ (book.row slot).version
link_version base book b slot h = by_null (slot + 1 == 0) refl h
  where
    by_null : (null : Bool) → (slot + 1 == 0) ≡ null → (if null then base b == 0 else nat_le (base b) (book.row (slot + 1 - 1)).version) ≡ true → base b ≤ (book.row slot).version
    by_null true e g = absurd (grind (arith, nat_tests))
    by_null false e g =
        let same : slot + 1 - 1 ≡ slot = omega arith in
        let k : nat_le (base b) (book.row slot).version ≡ true = subst (λ (x : ℕ). nat_le (base b) (book.row x).version ≡ true) same g in
        grind (arith, nat_tests)

root_version : (base : ℕ → ℕ) (book : Book) (root : Root) (b slot : ℕ) → root ≡ roots.Bucket b → link_since base book root (slot + 1) ≡ true → base b ≤ (book.row slot).version
root_version base book root b slot e h = link_version base book b slot (subst (λ (r : Root). link_since base book r (slot + 1) ≡ true) e h)

-- so is a root now
current_by : (w : World) (v : View) (l : Line) (z : Asked) (base : ℕ → ℕ) (b : ℕ) (null : Bool) → (w.mem (Bucket b) == 0) ≡ null → Known w v l z → base b ≤ length (w.book.changes b) → (if null then base b == 0 else nat_le (base b) (w.book.row (w.mem (Bucket b) - 1)).version) ≡ true
current_by w v l z base b true e a m = let n = (buckets_show w v b a.whole.both.rows a.contents).null in none_before (base b) (length (w.book.changes b)) m (sym n ∙ e)
current_by w v l z base b false e a m =
    let q : base b ≤ (w.book.row (w.mem (Bucket b) - 1)).version = latest_here w v l z base b (w.mem (Bucket b) - 1) a m (grind (arith, nat_tests)) in
    grind (arith, nat_tests)

current_root : (w : World) (v : View) (l : Line) (z : Asked) (base : ℕ → ℕ) (root : Root) → Known w v l z → ((b : ℕ) → base b ≤ length (w.book.changes b)) → link_since base w.book root (w.mem (link_place root)) ≡ true
current_root w v l z base (roots.Bucket b) a m = current_by w v l z base b (w.mem (Bucket b) == 0) refl a (m b)
current_root w v l z base (roots.Next parent) a m = refl
current_root w v l z base roots.Head a m = refl
current_root w v l z base roots.Tail a m = refl

-- and so is the link with which a protection ends
pub ended_since : (w : World) (i : ℕ) (v : View) (l : Line) (z : Asked) (base : ℕ → ℕ → ℕ) (why : Why) (one : Base) (ending : Ending) (link : ℕ) → Known w v l z → Current base w z → (w.seat i).phase ≡ Runs why one → (machine.after one (counted (w.seat i).post) (finds w i)).outcome ≡ Ends ending → link_of ending ≡ Some link → link_since (base i) w.book (root_in w i) link ≡ true
ended_since w i v l z base why one ending link a c e o k = end_good (λ m. link_since (base m) w.book) w i z why one ending link c.links (current_root w v l z (base i) (root_in w i) a (c.low i)) e o k

held_since : (w : World) (i : ℕ) (v : View) (l : Line) (z : Asked) (base : ℕ → ℕ → ℕ) (why : Why) (one : Base) (b slot era : ℕ) → Known w v l z → Current base w z → (w.seat i).phase ≡ Runs why one → root_by w.layout.config.buckets why ≡ roots.Bucket b → (machine.after one (counted (w.seat i).post) (finds w i)).outcome ≡ Ends (Protected (protect_ends.Held slot era)) → base i b ≤ (w.book.row slot).version
held_since w i v l z base why one b slot era a c e r o =
    root_version (base i) w.book (root_in w i) b slot (end_root w i why one (Protected (protect_ends.Held slot era)) (slot + 1) a.seats e o refl ∙ r)
    (ended_since w i v l z base why one (Protected (protect_ends.Held slot era)) (slot + 1) a c e o refl)

own_turns : (w : World) (i : ℕ) (v : View) (l : Line) (z : Asked) (base : ℕ → ℕ → ℕ) → i < w.layout.config.seats → Known w v l z → Current base w z → links_in (w.seat i).phase (finds w i) ≡ false
    → Beside (on w.layout.config.buckets (shelf_since (base i) w.book) (step w i).mem) (turn (offered w i) (finds w i))
own_turns w i v l z base b a c n =
    let s = links_show w i v l z b a in
    let g = contents_need w i v l z b a in
    phase_beside w.layout.config.buckets (shelf_since (base i) w.book) w.mem (w.seat i).phase (w.seat i).post (counted (w.seat i).post) (offered w i).desk (list_in w i) (a.whole.both.rows.plays i).right n
    (record {
      gets = λ key one e slot era o. since_back (base i) (w.book.row slot).root (w.book.row slot).version (key % w.layout.config.buckets) (s.gets key slot era one e o) (held_since w i v l z base (Opens (Gets key)) one (key % w.layout.config.buckets) slot era a c e refl o);
      changes = λ kept one e slot era o. since_back (base i) (w.book.row slot).root (w.book.row slot).version (key_of kept.change % w.layout.config.buckets) (s.changes kept slot era one e o) (held_since w i v l z base (Opens (Changes kept)) one (key_of kept.change % w.layout.config.buckets) slot era a c e refl o);
    })
    (record {
      buckets = ap (λ (layout : Layout). layout.config.buckets) (a.seats.fits i).post.layout;
      lows = λ row bucket y r. let t = since_is (base i) (w.book.row row).root (w.book.row row).version bucket r in a.contents.rows.within row bucket (g.held i row y) t.0;
    })
    (λ row bucket y r. let t = since_is (base i) (w.book.row row).root (w.book.row row).version bucket r in a.contents.rows.shows row bucket (g.held i row y) t.0)
    (c.knows i)

-- a step that links a row leaves a phase that has read nothing of the map
linked_knows : (g : Ground) (phase : Phase) (post : Post) (desk : Desk) (word : ℕ) → links_in phase word ≡ true → Knows g (phase_left (phase_turn phase post desk word).outcome)
linked_knows g Idle post desk word h = absurd (cc)
linked_knows g (Runs why one) post desk word h = absurd (cc)
linked_knows g (Scans later at) post desk word h = absurd (cc)
linked_knows g (Works (Getting key at)) post desk word h = absurd (cc)
linked_knows g (Works (Dequeuing at)) post desk word h = absurd (cc)
linked_knows g (Works (Keeping at)) post desk word h = absurd (cc)
linked_knows g (Works (Changing kept (LoadVersion slot))) post desk word h = absurd (cc)
linked_knows g (Works (Changing kept (LoadCount slot))) post desk word h = absurd (cc)
linked_knows g (Works (Changing kept (LoadKey slot count))) post desk word h = absurd (cc)
linked_knows g (Works (Changing kept (LoadValue slot count key))) post desk word h = absurd (cc)
linked_knows g (Works (Changing kept (ExchangeRoot slot))) post desk word h = exchanged (word == kept.link)
  where
    exchanged : (same : Bool) → Knows g (phase_left (alters.exchanged kept slot post desk same).outcome)
    exchanged true = let c = clearing_adds (Changes (record kept { taken = None })) (alters.answer_done (kept.version + 1) kept.link) post desk (alters.told_linked kept slot post) in plain_knows g (phase_left (alters.exchanged kept slot post desk true).outcome) c.plain
    exchanged false = let c = clearing_adds (Changes kept) Again post desk [] in plain_knows g (phase_left (alters.exchanged kept slot post desk false).outcome) c.plain
linked_knows g (Works (Enqueuing kept LoadNumber)) post desk word h = absurd (cc)
linked_knows g (Works (Enqueuing kept LoadNext)) post desk word h = absurd (cc)
linked_knows g (Works (Enqueuing kept (PassTail next))) post desk word h = absurd (cc)
linked_knows g (Works (Enqueuing kept (ExchangeTail slot))) post desk word h = absurd (cc)
linked_knows g (Works (Enqueuing kept (ExchangeNext slot))) post desk word h = appended (word == 0)
  where
    appended : (same : Bool) → Knows g (phase_left (enqueues.appended kept slot post desk same).outcome)
    appended true = tt
    appended false = let c = clearing_adds (Enqueues kept) Again post desk [] in plain_knows g (phase_left (enqueues.appended kept slot post desk false).outcome) c.plain

own_knows : (w : World) (i : ℕ) (v : View) (l : Line) (z : Asked) (base : ℕ → ℕ → ℕ) (linking : Bool) → links_in (w.seat i).phase (finds w i) ≡ linking → i < w.layout.config.seats → Known w v l z → Current base w z
    → looks_in (phase_left (turn (offered w i) (finds w i)).outcome) ≡ false → Knows (on w.layout.config.buckets (shelf_since (base i) (step w i).book) (step w i).mem) (phase_left (turn (offered w i) (finds w i)).outcome)
own_knows w i v l z base true n b a c x = linked_knows (on w.layout.config.buckets (shelf_since (base i) (step w i).book) (step w i).mem) (w.seat i).phase (counted (w.seat i).post) (offered w i).desk (finds w i) n
own_knows w i v l z base false n b a c x =
    let t : CallTurn = turn (offered w i) (finds w i) in
    let k = own_turns w i v l z base b a c n in
    let same : SameBook w.book (step w i).book = claimed_book (shelf_since (base i) w.book) (told_by t) w.book (claimed_append (shelf_since (base i) w.book) t.told (told_end t.post t.outcome) k.calm (calm_claimed (shelf_since (base i) w.book) (told_end t.post t.outcome) (end_calm t.post t.outcome))) in
    knows_lasts w.layout.config.buckets (shelf_since (base i) w.book) (shelf_since (base i) (step w i).book) (step w i).mem (step w i).mem (phase_left t.outcome)
    (λ s y. slot_since (base i) w.book (step w i).book s (same_slot w.book (step w i).book s same)) (λ s q y low. refl) (k.knows x)

other_knows : (w : World) (i k : ℕ) (v : View) (l : Line) (z : Asked) (base : ℕ → ℕ → ℕ) → (k == i) ≡ false → i < w.layout.config.seats → Known w v l z → Current base w z → looks_in (w.seat k).phase ≡ false → Knows (on w.layout.config.buckets (shelf_since (base k) (step w i).book) (step w i).mem) (w.seat k).phase
other_knows w i k v l z base e b a c x =
    let g = a.whole.both.rows in
    let o = contents_need w i v l z b a in
    let d = step_did w i v (rows_need w i v l a.seats a.eras a.whole.both) o g a.contents in
    knows_lasts w.layout.config.buckets (shelf_since (base k) w.book) (shelf_since (base k) (step w i).book) w.mem (step w i).mem (w.seat k).phase
    (λ s y. slot_since (base k) w.book (step w i).book s (d.far s (o.held k s y)))
    (λ s q y low. rows_stay w.mem (w.seat i).phase (w.seat i).post s q (owned_stays w.layout.config.slots v i k (w.seat i).phase (w.seat k).phase (list_in w i) (list_in w k) s e g.good (g.plays i) (g.plays k) y) low)
    (c.knows k x)

knows_by : (w : World) (i k : ℕ) (v : View) (l : Line) (z : Asked) (base : ℕ → ℕ → ℕ) (same : Bool) → (k == i) ≡ same → i < w.layout.config.seats → Known w v l z → Current base w z → looks_in ((step w i).seat k).phase ≡ false → Knows (on w.layout.config.buckets (shelf_since (base k) (step w i).book) (step w i).mem) ((step w i).seat k).phase
knows_by w i k v l z base true e b a c =
    let one : k ≡ i = grind (arith, nat_tests) in
    subst (λ (m : ℕ). looks_in ((step w i).seat m).phase ≡ false → Knows (on w.layout.config.buckets (shelf_since (base m) (step w i).book) (step w i).mem) ((step w i).seat m).phase) (sym one)
    (subst (λ (p : Phase). looks_in p ≡ false → Knows (on w.layout.config.buckets (shelf_since (base i) (step w i).book) (step w i).mem) p) (sym (stepped_phase w i)) (own_knows w i v l z base (links_in (w.seat i).phase (finds w i)) refl b a c))
knows_by w i k v l z base false e b a c = subst (λ (o : Local). looks_in o.phase ≡ false → Knows (on w.layout.config.buckets (shelf_since (base k) (step w i).book) (step w i).mem) o.phase) (sym (seat_stays w i k e)) (other_knows w i k v l z base e b a c)

pub current_kept : (w : World) (i : ℕ) (v : View) (l : Line) (z next : Asked) (base : ℕ → ℕ → ℕ) → i < w.layout.config.seats → Known w v l z → next.deal ≡ next_deals w i z.deal → Current base w z → Current base (step w i) next
current_kept w i v l z next base b a d c = record {
  low = λ k bucket. let h = c.low k bucket in let m = all_more w.book bucket (told_in w i) in omega arith;
  links = links_kept w i v l z next base b a d c;
  knows = λ k. knows_by w i k v l z base (k == i) refl b a c;
}

-- where a call begins, its seat's buckets had been changed as often as now
abbrev pub base_begun : (ℕ → ℕ → ℕ) → World → ℕ → ℕ → ℕ → ℕ
base_begun base w i k b = if k == i then length (w.book.changes b) else base k b

pub idle_untracked : (w : World) (i : ℕ) (z : Asked) (x : ℕ) → is_busy w i ≡ false → Requests w z → Tracked w z i x → ⊥
idle_untracked w i z x b q (Carried h) =
    let g : carries_in (w.mem Clock) (upper (w.seat i).post.span) Idle x ≡ true = subst (λ (p : Phase). carries_in (w.mem Clock) (upper (w.seat i).post.span) p x ≡ true) (idle_of (w.seat i).phase b) h in cc
idle_untracked w i z x b q (Given h) = true_not_false (is_quiet (z.deal i)) (idle_deal w i z b q) (link_busy (z.deal i) x h)
idle_untracked w i z x b q (Helped m h) = true_not_false (is_quiet (z.deal i)) (idle_deal w i z b q) (helps_busy w.layout (w.mem Clock) i (w.seat m).phase (z.deal i) x h)

base_other : (base : ℕ → ℕ → ℕ) (w : World) (i k b : ℕ) → (k == i) ≡ false → base_begun base w i k b ≡ base k b
base_other base w i k b e = rw e refl

links_same : (one two : ℕ → ℕ) (book : Book) (root : Root) (x : ℕ) → ((b : ℕ) → two b ≡ one b) → link_since one book root x ≡ true → link_since two book root x ≡ true
links_same one two book (roots.Bucket b) x e h = rw (e b) h
links_same one two book (roots.Next parent) x e h = refl
links_same one two book roots.Head x e h = refl
links_same one two book roots.Tail x e h = refl

since_same : (one two : ℕ → ℕ) (root : Root) (version : ℕ) → ((b : ℕ) → two b ≡ one b) → since two root version ≡ since one root version
since_same one two (roots.Bucket b) version e = rw (e b) refl
since_same one two (roots.Next parent) version e = refl
since_same one two roots.Head version e = refl
since_same one two roots.Tail version e = refl

knows_same : (n : ℕ) (one two : ℕ → ℕ) (book : Book) (mem : Place → ℕ) (phase : Phase) → ((b : ℕ) → two b ≡ one b) → Knows (on n (shelf_since one book) mem) phase → Knows (on n (shelf_since two book) mem) phase
knows_same n one two book mem phase e h =
    knows_lasts n (shelf_since one book) (shelf_since two book) mem mem phase
    (λ s y. record { root = since_same one two (book.row s).root (book.row s).version e; version = refl; pairs = refl; value = refl }) (λ s q y low. refl) h

begun_links : (w : World) (i k x : ℕ) (z : Asked) (base : ℕ → ℕ → ℕ) (same : Bool) → (k == i) ≡ same → is_busy w i ≡ false → Requests w z → Current base w z → Tracked w z k x → link_since (base_begun base w i k) w.book (root_in w k) x ≡ true
begun_links w i k x z base true e b q c t = let one : k ≡ i = grind (arith, nat_tests) in absurd (idle_untracked w i z x b q (subst (λ (m : ℕ). Tracked w z m x) one t))
begun_links w i k x z base false e b q c t = links_same (base k) (base_begun base w i k) w.book (root_in w k) x (λ bucket. base_other base w i k bucket e) (c.links.tracked k x t)

begun_low : (w : World) (i k b : ℕ) (z : Asked) (base : ℕ → ℕ → ℕ) (same : Bool) → (k == i) ≡ same → Current base w z → (if same then length (w.book.changes b) else base k b) ≤ length (w.book.changes b)
begun_low w i k b z base true e c = omega arith
begun_low w i k b z base false e c = c.low k b

-- a call that begins knows nothing but what it looks at
first_knows : (g : Ground) (call : Call) (post : Post) → looks_in (first_phase call post) ≡ false → Knows g (first_phase call post)
first_knows g call post = each_first call post (λ (phase : Phase). looks_in phase ≡ false → Knows g phase) (λ phase h x. plain_knows g phase (free_plain phase h)) (λ index key slot c e x. absurd (cc))

begun_knows : (w : World) (i k : ℕ) (call : Call) (z : Asked) (base : ℕ → ℕ → ℕ) (same : Bool) → (k == i) ≡ same → Current base w z → looks_in ((begin w i call).seat k).phase ≡ false → Knows (on w.layout.config.buckets (shelf_since (base_begun base w i k) w.book) w.mem) ((begin w i call).seat k).phase
begun_knows w i k call z base true e c =
    let one : k ≡ i = grind (arith, nat_tests) in
    let f : ((begin w i call).seat k).phase ≡ first_phase call (begun_post (w.seat i).post) = ap (λ (m : ℕ). ((begin w i call).seat m).phase) one ∙ ap (λ (l : Local). l.phase) (begin_begins w i call) in
    subst (λ (p : Phase). looks_in p ≡ false → Knows (on w.layout.config.buckets (shelf_since (base_begun base w i k) w.book) w.mem) p) (sym f) (first_knows (on w.layout.config.buckets (shelf_since (base_begun base w i k) w.book) w.mem) call (begun_post (w.seat i).post))
begun_knows w i k call z base false e c =
    subst (λ (l : Local). looks_in l.phase ≡ false → Knows (on w.layout.config.buckets (shelf_since (base_begun base w i k) w.book) w.mem) l.phase) (sym (begin_stays w i k call e))
    (λ x. knows_same w.layout.config.buckets (base k) (base_begun base w i k) w.book w.mem (w.seat k).phase (λ bucket. base_other base w i k bucket e) (c.knows k x))

pub current_begin : (w : World) (i : ℕ) (call : Call) (z next : Asked) (base : ℕ → ℕ → ℕ) → is_busy w i ≡ false → Requests w z → next.deal ≡ z.deal → Current base w z → Current (base_begun base w i) (begin w i call) next
current_begin w i call z next base b q d c = record {
  low = λ k bucket. begun_low w i k bucket z base (k == i) refl c;
  links = origins_begin (λ k. link_since (base_begun base w i k) w.book) w i call z next b q d (record { tracked = λ k x t. begun_links w i k x z base (k == i) refl b q c t });
  knows = λ k. begun_knows w i k call z base (k == i) refl c;
}

pub current_start : (layout : Layout) (z : Asked) → ((k : ℕ) → z.deal k ≡ Quiet) → Current (λ k b. 0) (start layout) z
current_start layout z q = record { low = λ k b. omega arith; links = origins_start (λ k. link_since (λ b. 0) (start layout).book) layout z q; knows = λ k x. tt }

-- the same by another name of the counts
pub current_same : (one two : ℕ → ℕ → ℕ) (w : World) (z : Asked) → ((k b : ℕ) → two k b ≡ one k b) → Current one w z → Current two w z
current_same one two w z e c = record {
  low = λ k b. rw (e k b) (c.low k b);
  links = record { tracked = λ k x t. links_same (one k) (two k) w.book (root_in w k) x (e k) (c.links.tracked k x t) };
  knows = λ k x. knows_same w.layout.config.buckets (one k) (two k) w.book w.mem (w.seat k).phase (e k) (c.knows k x);
}
