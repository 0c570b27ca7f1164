-- A get tells a version that its bucket had when its call began, or a later one.
use Rattle.std.proofs.Common.{ℕ, ◌≡◌, ◌≤◌, ◌+◌, ◌%◌, Bool, true, false, List, [], ◌∷◌, ◌++◌, Option, Some, None, refl, sym, ◌∙◌, subst, arith}
use Rattle.std.proofs.lemmas.Bool.Decides.{nat_tests}
use Rattle.std.specs.Prelude.{◌==◌, ◌&&◌, nat_le, if◌then◌else◌}
use Rattle.inv_all.specs.model.words.declared.config.SchemeKind.{SchemeKind}
use Rattle.inv_all.specs.model.words.declared.config.SchemeKind.TheVariants.{He, Hp, Ibr, Wfe}
use Rattle.inv_all.specs.model.words.declared.layout.Layout.{Layout}
use Rattle.inv_all.specs.model.defs.declared.event.Event.{Event}
use Rattle.inv_all.specs.model.defs.declared.event.Event.TheVariants as events
use Rattle.inv_all.specs.model.defs.declared.event.Root.{Root}
use Rattle.inv_all.specs.model.defs.declared.event.Root.TheVariants as roots
use Rattle.inv_all.specs.model.defs.declared.fold.Change.{Change}
use Rattle.inv_all.specs.model.defs.declared.fold.Change.TheVariants as the_changes
use Rattle.inv_all.specs.model.declared.ends.ProtectEnd.TheVariants as protect_ends
use Rattle.inv_all.specs.model.declared.post.Post.{Post}
use Rattle.inv_all.specs.model.Book.{Book}
use Rattle.inv_all.specs.model.Change as alters
use Rattle.inv_all.specs.model.Enqueue as enqueues
use Rattle.inv_all.specs.model.Locals.{told_end}
use Rattle.inv_all.specs.model.Machine as machine
use Rattle.inv_all.specs.model.Posts.{counted, stands}
use Rattle.inv_all.specs.model.words.Schemes.{has_one_interval}
use Rattle.inv_all.specs.model.Rounds.{scheme_of, bucket_of, clear_post, clear_told}
use Rattle.inv_all.specs.model.Phases.{Base, Ending, Outcome, Goes, Ends}
use Rattle.inv_all.specs.model.Phases.Ending.{Done, Protected, Followed, Allocated, Retired, Clocked}
use Rattle.inv_all.specs.model.Calls.{Task, Gets, Changes, Holds, Enqueues, Dequeues, GetAt, FindVersion, FindCount, FindKey, FindValue, KeepAt, Loosens, LoadHeld, StoreHeld, Looks, Misses, HideSpan, MarkLeft, TakeList, MarkTaken, Work, Getting, Changing, Enqueuing, Dequeuing, Keeping, Why, Opens, Phase, Idle, Runs, Scans, Works}
use Rattle.inv_all.specs.model.World.{World, finds, offered, told_in}
use Rattle.inv_all.proofs.model.Frames.{after_same}
use Rattle.inv_all.proofs.model.Facts.{both}
use Rattle.inv_all.specs.requests.Views.{View as Asked}
use Rattle.inv_all.specs.rows.Queue.{Line}
use Rattle.inv_all.specs.rows.Rows.{View}
use Rattle.inv_all.specs.ends.Tracked.{root_in}
use Rattle.inv_all.specs.Contents.Knows.{Knows, GetKnows, FoundRow, looks_in}
use Rattle.inv_all.proofs.Contents.Contents.Lasts.{on}
use Rattle.inv_all.specs.Known.{Known}
use Rattle.inv_all.proofs.history.Passes.{Closing, First, copied_post, keep_post, work_post, scan_told, get_allows, ending_allows, why_allows, outcome_allows, work_allows, phase_allows, step_closes}
use Rattle.law_reuse.proofs.Lawful.Current.{Current, ended_since, shelf_since, since_is, link_since}
use Rattle.inv_all.proofs.history.AllOf.{all_of, of_along, of_weaker}
use Rattle.inv_all.proofs.history.MayTell.{work_all}
use Rattle.inv_all.proofs.Machines.{is_machine, is_still, machine_still, base_machine, scan_machine, clear_machine, cut_still, link_still, end_still}
use Rattle.inv_all.proofs.ends.Origins.Ends.{end_root}

-- among so many buckets, which had been changed so often
abbrev pub got_new : ℕ → (ℕ → ℕ) → Event → Bool
got_new n base (events.Got bucket version key value) = bucket == key % n && nat_le (base bucket) version
got_new n base event = true

still_new : (n : ℕ) (base : ℕ → ℕ) (event : Event) → is_still event ≡ true → got_new n base event ≡ true
still_new n base (events.Got bucket version key value) h = absurd (cc)
still_new n base event h = refl

still_news : (n : ℕ) (base : ℕ → ℕ) (told : List Event) → all_of is_still told ≡ true → all_of (got_new n base) told ≡ true
still_news n base told h = of_weaker is_still (got_new n base) told (still_new n base) h

change_new : (n : ℕ) (base : ℕ → ℕ) (bucket version : ℕ) (change : Change) → all_of (got_new n base) (alters.told_change bucket version change ∷ []) ≡ true
change_new n base bucket version (the_changes.Put key value) = refl
change_new n base bucket version (the_changes.Removed key) = refl

-- a step of this table has told nothing of the map and of the queue yet
record Before (layout : Layout) (post : Post) (told : List Event) : Type 0 where
  table : post.layout ≡ layout
  still : all_of is_still told ≡ true

record After (layout : Layout) (base : ℕ → ℕ) (post : Post) (told : List Event) : Type 0 where
  table : post.layout ≡ layout
  new : all_of (got_new layout.config.buckets base) told ≡ true

pub cleared_table : (scheme : SchemeKind) (post : Post) (index : ℕ) → (clear_post scheme post index).layout ≡ post.layout
cleared_table He post index = refl
cleared_table Ibr post index = refl
cleared_table Wfe post index = refl
cleared_table Hp post index = refl

-- a call on what is kept leaves a post of this table
copied_table : (index : ℕ) (post : Post) (o : Option ℕ) → (copied_post index post o).layout ≡ post.layout
copied_table index post None = refl
copied_table index post (Some slot) = refl

keep_table : (at : KeepAt) (post : Post) → (keep_post at post).layout ≡ post.layout
keep_table (Loosens let_go) post = refl
keep_table (LoadHeld from index) post = by (has_one_interval (scheme_of post))
  where
    by : (one : Bool) → (if one then copied_post index post (stands post from) else post).layout ≡ post.layout
    by true = copied_table index post (stands post from)
    by false = refl
keep_table (StoreHeld from index era) post = copied_table index post (stands post from)
keep_table (Looks index key at) post = refl
keep_table (Misses index) post = refl
keep_table HideSpan post = refl
keep_table MarkLeft post = refl
keep_table (TakeList place) post = refl
keep_table (MarkTaken place count) post = refl

pub work_table : (work : Work) (post : Post) → (work_post work post).layout ≡ post.layout
work_table (Keeping at) post = keep_table at post
work_table work post = refl

got_is : (n key version : ℕ) (base : ℕ → ℕ) (value : Option ℕ) → base (key % n) ≤ version → all_of (got_new n base) (events.Got (key % n) version key value ∷ []) ≡ true
got_is n key version base value h =
    let same : (key % n == key % n) ≡ true = grind (arith, nat_tests) in
    let most : nat_le (base (key % n)) version ≡ true = grind (arith, nat_tests) in
    both (key % n == key % n && nat_le (base (key % n)) version) true (both (key % n == key % n) (nat_le (base (key % n)) version) same most) refl

abbrev Allowed : Layout → (ℕ → ℕ) → ℕ → ℕ → Type 0
Allowed layout base key version = base (key % layout.config.buckets) ≤ version

got_closes : (layout : Layout) (base : ℕ → ℕ) (post : Post) (told : List Event) (key version : ℕ) (value : Option ℕ) → Allowed layout base key version → Before layout post told → After layout base post (told ++ events.Got (bucket_of post key) version key value ∷ [])
got_closes layout base post told key version value a h = record {
  table = h.table;
  new = of_along (got_new layout.config.buckets base) told (events.Got (bucket_of post key) version key value ∷ []) (still_news layout.config.buckets base told h.still)
      (subst (λ (table : Layout). all_of (got_new layout.config.buckets base) (events.Got (key % table.config.buckets) version key value ∷ []) ≡ true) (sym h.table) (got_is layout.config.buckets key version base value a));
}

new_closing : (layout : Layout) (base : ℕ → ℕ) → Closing (Before layout) (After layout base) (Allowed layout base)
new_closing layout base = record {
  weak = λ post told h. record { table = h.table; new = still_news layout.config.buckets base told h.still };
  gets = λ post told key version value a h. got_closes layout base post told key version value a h;
  changes = λ post kept slot h. record {
    table = h.table;
    new = of_along (got_new layout.config.buckets base) (alters.told_cut kept.link) (alters.told_change (alters.changed_bucket kept post) (kept.version + 1) kept.change ∷ [])
        (still_news layout.config.buckets base (alters.told_cut kept.link) (cut_still kept.link)) (change_new layout.config.buckets base (alters.changed_bucket kept post) (kept.version + 1) kept.change);
  };
  links = λ post root slot same h. record { table = h.table; new = still_news layout.config.buckets base (enqueues.told_link root slot same) (link_still root slot same) };
  queues = λ post tail slot number value h. record { table = h.table; new = refl };
  takes = λ post head next number value h. record { table = h.table; new = refl };
  leaves = λ post count h. record { table = h.table; new = refl };
  adopts = λ post place count h. record { table = h.table; new = refl };
  clears = λ post told index h. record {
    table = cleared_table (scheme_of post) post index ∙ h.table;
    new = of_along (got_new layout.config.buckets base) told (clear_told (scheme_of post) post index) h.new
        (still_news layout.config.buckets base (clear_told (scheme_of post) post index) (of_weaker is_machine is_still (clear_told (scheme_of post) post index) machine_still (clear_machine (scheme_of post) post index)));
  };
  ends = λ post told outcome h. record {
    table = h.table;
    new = of_along (got_new layout.config.buckets base) told (told_end post outcome) h.new (still_news layout.config.buckets base (told_end post outcome) (end_still post outcome));
  };
}

first_before : (layout : Layout) (phase : Phase) (post : Post) (found : ℕ) → post.layout ≡ layout → First (Before layout) phase post found
first_before layout Idle post found e = record { table = e; still = refl }
first_before layout (Runs why base) post found e = record {
  table = (after_same base post found).layout ∙ e;
  still = of_weaker is_machine is_still (machine.after base post found).told machine_still (base_machine base post found);
}
first_before layout (Scans later at) post found e = record { table = e; still = of_weaker is_machine is_still (scan_told at post found) machine_still (scan_machine at post found) }
first_before layout (Works work) post found e = record { table = work_table work post ∙ e; still = work_all is_still (λ index slot. refl) (λ from index slot. refl) (λ seat index era. refl) (λ seat. refl) (λ seat index link. refl) work post }

-- what a get knows allows the version that it tells
row_allows : (w : World) (base : ℕ → ℕ) (key slot version : ℕ) → FoundRow (on w.layout.config.buckets (shelf_since base w.book) w.mem) (key % w.layout.config.buckets) slot version → Allowed w.layout base key version
row_allows w base key slot version h =
    let t = since_is base (w.book.row slot).root (w.book.row slot).version (key % w.layout.config.buckets) h.root in
    let m = t.1 in
    subst (λ (x : ℕ). base (key % w.layout.config.buckets) ≤ x) (sym h.shown) m

get_knows : (w : World) (base : ℕ → ℕ) (key : ℕ) (at : GetAt) → GetKnows (on w.layout.config.buckets (shelf_since base w.book) w.mem) (key % w.layout.config.buckets) key at → get_allows (Allowed w.layout base) key at
get_knows w base key (FindVersion slot) h = tt
get_knows w base key (FindCount slot version) h = row_allows w base key slot version h
get_knows w base key (FindKey slot version count pair) h = row_allows w base key slot version h.row
get_knows w base key (FindValue slot version pair) h = row_allows w base key slot version h.row

work_knows : (w : World) (base : ℕ → ℕ) (work : Work) → (looks_in (Works work) ≡ false → Knows (on w.layout.config.buckets (shelf_since base w.book) w.mem) (Works work)) → work_allows (Allowed w.layout base) work
work_knows w base (Getting key at) h = get_knows w base key at (h refl)
work_knows w base (Changing kept at) h = tt
work_knows w base (Enqueuing kept at) h = tt
work_knows w base (Dequeuing at) h = tt
work_knows w base (Keeping at) h = tt

-- where its protection ends with null, the bucket had not been changed
none_at : (base : ℕ → ℕ) (book : Book) (b : ℕ) → link_since base book (roots.Bucket b) 0 ≡ true → base b ≤ 0
none_at base book b h = let g : (base b == 0) ≡ true = h in grind (arith, nat_tests)

pub null_at : (base : ℕ → ℕ) (book : Book) (root : Root) (b : ℕ) → root ≡ roots.Bucket b → link_since base book root 0 ≡ true → base b ≤ 0
null_at base book root b e h = none_at base book b (subst (λ (r : Root). link_since base book r 0 ≡ true) e h)

ending_knows : (w : World) (i : ℕ) (v : View) (l : Line) (z : Asked) (base : ℕ → ℕ → ℕ) (task : Task) (one : Base) (ending : Ending) → Known w v l z → Current base w z → (w.seat i).phase ≡ Runs (Opens task) one → (machine.after one (counted (w.seat i).post) (finds w i)).outcome ≡ Ends ending → ending_allows (Allowed w.layout (base i)) task ending
ending_knows w i v l z base (Gets key) one (Protected protect_ends.Null) a c e o =
    null_at (base i) w.book (root_in w i) (key % w.layout.config.buckets) (end_root w i (Opens (Gets key)) one (Protected protect_ends.Null) 0 a.seats e o refl) (ended_since w i v l z base (Opens (Gets key)) one (Protected protect_ends.Null) 0 a c e o refl)
ending_knows w i v l z base (Changes kept) one (Protected protect_ends.Null) a c e o = tt
ending_knows w i v l z base (Holds key) one (Protected protect_ends.Null) a c e o = tt
ending_knows w i v l z base (Enqueues kept) one (Protected protect_ends.Null) a c e o = tt
ending_knows w i v l z base Dequeues one (Protected protect_ends.Null) a c e o = tt
ending_knows w i v l z base task one (Protected (protect_ends.Held slot era)) a c e o = tt
ending_knows w i v l z base task one Done a c e o = tt
ending_knows w i v l z base task one (Followed end) a c e o = tt
ending_knows w i v l z base task one (Allocated end) a c e o = tt
ending_knows w i v l z base task one (Retired life) a c e o = tt
ending_knows w i v l z base task one (Clocked clock) a c e o = tt

why_knows : (w : World) (i : ℕ) (v : View) (l : Line) (z : Asked) (base : ℕ → ℕ → ℕ) (why : Why) (one : Base) (ending : Ending) → Known w v l z → Current base w z → (w.seat i).phase ≡ Runs why one → (machine.after one (counted (w.seat i).post) (finds w i)).outcome ≡ Ends ending → why_allows (Allowed w.layout (base i)) why ending
why_knows w i v l z base (Opens task) one ending a c e o = ending_knows w i v l z base task one ending a c e o
why_knows w i v l z base why one ending a c e o = tt

outcome_knows : (w : World) (i : ℕ) (v : View) (l : Line) (z : Asked) (base : ℕ → ℕ → ℕ) (why : Why) (one : Base) (outcome : Outcome) → Known w v l z → Current base w z → (w.seat i).phase ≡ Runs why one → (machine.after one (counted (w.seat i).post) (finds w i)).outcome ≡ outcome → outcome_allows (Allowed w.layout (base i)) why outcome
outcome_knows w i v l z base why one (Goes next) a c e o = tt
outcome_knows w i v l z base why one (Ends ending) a c e o = why_knows w i v l z base why one ending a c e o

phase_knows : (w : World) (i : ℕ) (v : View) (l : Line) (z : Asked) (base : ℕ → ℕ → ℕ) (phase : Phase) → Known w v l z → Current base w z → (w.seat i).phase ≡ phase → phase_allows (Allowed w.layout (base i)) phase (counted (w.seat i).post) (finds w i)
phase_knows w i v l z base Idle a c e = tt
phase_knows w i v l z base (Runs why one) a c e = outcome_knows w i v l z base why one (machine.after one (counted (w.seat i).post) (finds w i)).outcome a c e refl
phase_knows w i v l z base (Scans later at) a c e = tt
phase_knows w i v l z base (Works work) a c e = work_knows w (base i) work (subst (λ (p : Phase). looks_in p ≡ false → Knows (on w.layout.config.buckets (shelf_since (base i) w.book) w.mem) p) e (c.knows i))

pub told_new : (w : World) (i : ℕ) (v : View) (l : Line) (z : Asked) (base : ℕ → ℕ → ℕ) → Known w v l z → Current base w z → all_of (got_new w.layout.config.buckets (base i)) (told_in w i) ≡ true
told_new w i v l z base a c =
    let h = step_closes (Before w.layout) (After w.layout (base i)) (Allowed w.layout (base i)) (new_closing w.layout (base i)) (w.seat i).phase (counted (w.seat i).post) (offered w i).desk (finds w i)
    (phase_knows w i v l z base (w.seat i).phase a c refl) (first_before w.layout (w.seat i).phase (counted (w.seat i).post) (finds w i) (a.seats.fits i).post.layout) in
    h.new
