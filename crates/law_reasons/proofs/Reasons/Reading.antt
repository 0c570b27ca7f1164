-- What a change has read where it decides, and an enqueue, by the record: the pairs of a version current during its call, and a
-- number of the queue.
use Rattle.std.proofs.Common.{ℕ, ◌≡◌, ◌≤◌, ◌<◌, ◌+◌, ◌%◌, true, false, List, [], ◌∷◌, ◌++◌, length, take, refl, sym, ap, ◌∙◌, subst, arith}
use Rattle.std.proofs.lemmas.Bool.Decides.{nat_tests}
use Rattle.std.proofs.lemmas.List.{take_all}
use Rattle.std.specs.Prelude.{◌==◌, nat_lt}
use Rattle.law_scans.specs.inv.model.words.Place.Place.{Row}
use Rattle.law_scans.specs.inv.model.defs.Pairs.{Pair, pairs_after}
use Rattle.law_scans.specs.inv.model.defs.declared.event.Root.{Root}
use Rattle.law_scans.specs.inv.model.defs.declared.event.Root.TheVariants as roots
use Rattle.law_scans.specs.inv.model.defs.declared.fold.Change.{Change}
use Rattle.law_scans.specs.inv.model.declared.ends.ProtectEnd.TheVariants as protect_ends
use Rattle.law_scans.specs.inv.model.Change as alters
use Rattle.law_scans.specs.inv.model.Get as gets
use Rattle.law_scans.specs.inv.model.Machine as machine
use Rattle.law_scans.specs.inv.model.Posts.{counted}
use Rattle.law_scans.specs.inv.model.Rounds.{key_of}
use Rattle.law_scans.specs.inv.model.Phases.{Base, Ends}
use Rattle.law_scans.specs.inv.model.Phases.Ending.{Protected}
use Rattle.law_scans.specs.inv.model.Calls.{ChangeKept, EnqueueKept, LoadCount, LoadValue, LoadNext, Task, Changes, Opens, Changing, Enqueuing, Phase, Runs, Works}
use Rattle.law_scans.specs.inv.model.World.{World, finds}
use Rattle.law_scans.proofs.inv.model.Facts.{same_number, same_both}
use Rattle.law_scans.proofs.inv.Contents.Contents.Lasts.{on}
use Rattle.law_scans.proofs.inv.Contents.Contents.Lists.{take_next}
use Rattle.law_scans.proofs.inv.Contents.Contents.Reading.{count_shown, value_shown}
use Rattle.law_scans.specs.inv.Contents.Knows.{AtCount, AtValue, Knows, pair_at, reads_in, looks_in}
use Rattle.law_scans.specs.inv.Contents.Shelf.{pairs_by, shelf_of}
use Rattle.law_scans.proofs.inv.covers.Held.{finds_at}
use Rattle.law_scans.specs.inv.shapes.Seats.{root_by}
use Rattle.law_scans.proofs.inv.Inv.Whole.{contents_need}
use Rattle.law_scans.specs.inv.Known.{Known}
use Rattle.law_scans.proofs.inv.Contents.Items.Gives.{items_count}
use Rattle.law_scans.proofs.reuse.Lawful.Current.{Current, shelf_since, since, since_is}
use Rattle.law_scans.proofs.reuse.Lawful.Gots.{null_at}
use Rattle.law_scans.proofs.reuse.Lawful.Maps.{base_of}
use Rattle.law_scans.proofs.inv.ends.Origins.Ends.{end_root}
use Rattle.law_scans.proofs.reuse.Lawful.Current.{ended_since}
use Rattle.law_scans.specs.laws.StructuresAt.{queued_of, changes_of, count_of, begun_at, pairs_at}
use Rattle.law_scans.specs.inv.history.Record.{Past}
use Rattle.law_scans.specs.inv.ends.Tracked.{root_in}
use Rattle.law_scans.specs.inv.requests.Views.{View as Asked}
use Rattle.law_scans.specs.inv.rows.Queue.{Line, stands_on}
use Rattle.law_scans.specs.inv.rows.Rows.{View, is_settled}
use Rattle.law_scans.specs.inv.Contents.Reads.{numbers_in}
use Rattle.law_reasons.proofs.Reasons.Refusing.{ReadAt}
use Rattle.law_scans.proofs.inv.Contents.Contents.Turns.{empty_list}

-- a position of a history's record, and the World there
pub record Shown (w : World) (v : View) (l : Line) (z : Asked) (p : Past) : Type 0 where
  pub known : Known w v l z
  pub current : Current (base_of p) w z
  pub changes : (b : ℕ) → changes_of b p ≡ w.book.changes b
  pub queued : queued_of p ≡ w.book.queued

pub count_most : (w : World) (v : View) (l : Line) (z : Asked) (p : Past) (b : ℕ) → Shown w v l z p → count_of b p ≤ w.layout.config.last_version
count_most w v l z p b h = subst (λ (cs : List Change). length cs ≤ w.layout.config.last_version) (sym (h.changes b)) (h.known.bounded.versions b)

pairs_most : (w : World) (v : View) (l : Line) (z : Asked) (p : Past) (b version : ℕ) → Shown w v l z p → length (pairs_at b version p) ≤ w.layout.config.pairs
pairs_most w v l z p b version h = subst (λ (cs : List Change). length (pairs_after (take version cs)) ≤ w.layout.config.pairs) (sym (h.changes b)) (h.known.bounded.pairs b version)

-- a row of which the change goes on with what it has read
row_read : (w : World) (i : ℕ) (v : View) (l : Line) (z : Asked) (p : Past) (b slot version : ℕ) (pairs : List Pair) → i < w.layout.config.seats → Shown w v l z p → reads_in (w.seat i).phase slot ≡ true
    → since (base_of p i) (w.book.row slot).root (w.book.row slot).version ≡ roots.Bucket b → version ≡ (w.book.row slot).version → pairs ≡ (shelf_of w.book).pairs slot → ReadAt w.layout.config i b version pairs p
row_read w i v l z p b slot version pairs a h y s e q =
    let t = since_is (base_of p i) (w.book.row slot).root (w.book.row slot).version b s in
    let settled : is_settled (v.status slot) ≡ true = (contents_need w i v l z a h.known).held i slot y in
    let within : (w.book.row slot).version ≤ length (w.book.changes b) = h.known.contents.rows.within slot b settled t.0 in
    let shelf : (shelf_of w.book).pairs slot ≡ pairs_after (take (w.book.row slot).version (w.book.changes b)) = ap (λ (r : Root). pairs_by w.book.changes r (w.book.row slot).version) t.0 in
    record {
      low = subst (λ (n : ℕ). begun_at i b p ≤ n) (sym e) t.1;
      within = subst (λ (cs : List Change). version ≤ length cs) (sym (h.changes b)) (subst (λ (n : ℕ). n ≤ length (w.book.changes b)) (sym e) within);
      read = q ∙ shelf ∙ ap (λ (n : ℕ). pairs_after (take n (w.book.changes b))) (sym e) ∙ ap (λ (cs : List Change). pairs_after (take version cs)) (sym (h.changes b));
      most = count_most w v l z p b h;
      room = pairs_most w v l z p b version h;
    }

-- where the row has no pair
pub count_read : (w : World) (i : ℕ) (v : View) (l : Line) (z : Asked) (p : Past) (kept : ChangeKept) (slot : ℕ) → i < w.layout.config.seats → Shown w v l z p → (w.seat i).phase ≡ Works (Changing kept (LoadCount slot)) → nat_lt 0 (finds w i) ≡ false
    → ReadAt w.layout.config i (key_of kept.change % w.layout.config.buckets) kept.version kept.pairs p
count_read w i v l z p kept slot a h e none =
    let b : ℕ = key_of kept.change % w.layout.config.buckets in
    let k : AtCount (on w.layout.config.buckets (shelf_since (base_of p i) w.book) w.mem) kept slot = subst (λ (x : Phase). Knows (on w.layout.config.buckets (shelf_since (base_of p i) w.book) w.mem) x) e (h.current.knows i (ap looks_in e)) in
    let link = k.row.link in
    let own : (kept.link == slot + 1) ≡ true = grind (arith, nat_tests) in
    let y : reads_in (w.seat i).phase slot ≡ true = subst (λ (x : Phase). reads_in x slot ≡ true) (sym e) own in
    let t = since_is (base_of p i) (w.book.row slot).root (w.book.row slot).version b k.row.root in
    let settled : is_settled (v.status slot) ≡ true = (contents_need w i v l z a h.known).held i slot y in
    let many : w.mem (Row slot 2) ≡ length ((shelf_of w.book).pairs slot) = count_shown w.mem slot (w.book.row slot).version ((shelf_of w.book).pairs slot) (h.known.contents.rows.shows slot b settled t.0) in
    let found : finds w i ≡ w.mem (Row slot 2) = finds_at w i (Works (Changing kept (LoadCount slot))) e in
    let zero : length ((shelf_of w.book).pairs slot) ≡ 0 = grind (arith, nat_tests) in
    row_read w i v l z p b slot kept.version kept.pairs a h y k.row.root k.version (k.row.none ∙ sym (empty_list ((shelf_of w.book).pairs slot) zero))

-- where the last pair is read
last_read : (kept ps : List Pair) (key value : ℕ) → length kept < length ps → length ps ≤ length kept + 1 → kept ≡ take (length kept) ps → key ≡ (pair_at ps (length kept)).0 → value ≡ (pair_at ps (length kept)).1 → kept ++ (key, value) ∷ [] ≡ ps
last_read kept ps key value lt le e k v = rw (k, v) (ap (λ (l : List Pair). l ++ pair_at ps (length kept) ∷ []) e ∙ take_next ps (length kept) lt ∙ take_all (length kept + 1) ps le)

pub value_read : (w : World) (i : ℕ) (v : View) (l : Line) (z : Asked) (p : Past) (kept : ChangeKept) (slot count key : ℕ) → i < w.layout.config.seats → Shown w v l z p → (w.seat i).phase ≡ Works (Changing kept (LoadValue slot count key)) → nat_lt (length kept.pairs + 1) count ≡ false
    → ReadAt w.layout.config i (key_of kept.change % w.layout.config.buckets) kept.version (alters.with_read kept key (finds w i)).pairs p
value_read w i v l z p kept slot count key a h e none =
    let b : ℕ = key_of kept.change % w.layout.config.buckets in
    let k : AtValue (on w.layout.config.buckets (shelf_since (base_of p i) w.book) w.mem) kept slot count key = subst (λ (x : Phase). Knows (on w.layout.config.buckets (shelf_since (base_of p i) w.book) w.mem) x) e (h.current.knows i (ap looks_in e)) in
    let link = k.row.link in
    let own : (kept.link == slot + 1) ≡ true = grind (arith, nat_tests) in
    let y : reads_in (w.seat i).phase slot ≡ true = subst (λ (x : Phase). reads_in x slot ≡ true) (sym e) own in
    let t = since_is (base_of p i) (w.book.row slot).root (w.book.row slot).version b k.row.root in
    let settled : is_settled (v.status slot) ≡ true = (contents_need w i v l z a h.known).held i slot y in
    let counted : count ≡ length ((shelf_of w.book).pairs slot) = k.row.counted in
    let lt : length kept.pairs < length ((shelf_of w.book).pairs slot) = subst (λ (n : ℕ). length kept.pairs < n) counted k.row.more in
    let le : length ((shelf_of w.book).pairs slot) ≤ length kept.pairs + 1 = grind (arith, nat_tests) in
    let found : finds w i ≡ w.mem (Row slot (gets.value_place (length kept.pairs))) = finds_at w i (Works (Changing kept (LoadValue slot count key))) e in
    let value : finds w i ≡ (pair_at ((shelf_of w.book).pairs slot) (length kept.pairs)).1 = found ∙ value_shown w.mem slot (w.book.row slot).version ((shelf_of w.book).pairs slot) (length kept.pairs) lt (h.known.contents.rows.shows slot b settled t.0) in
    row_read w i v l z p b slot kept.version (alters.with_read kept key (finds w i)).pairs a h y k.row.root k.row.version
    (last_read kept.pairs ((shelf_of w.book).pairs slot) key (finds w i) lt le k.row.pairs k.own value)

-- where there is no row
pub null_base : (w : World) (i : ℕ) (v : View) (l : Line) (z : Asked) (p : Past) (task : Task) (base : Base) (b : ℕ) → Shown w v l z p → (w.seat i).phase ≡ Runs (Opens task) base → root_by w.layout.config.buckets (Opens task) ≡ roots.Bucket b
    → (machine.after base (counted (w.seat i).post) (finds w i)).outcome ≡ Ends (Protected protect_ends.Null) → begun_at i b p ≤ 0
null_base w i v l z p task base b h e r o =
    null_at (base_of p i) w.book (root_in w i) b (end_root w i (Opens task) base (Protected protect_ends.Null) 0 h.known.seats e o refl ∙ r) (ended_since w i v l z (base_of p) (Opens task) base (Protected protect_ends.Null) 0 h.known h.current e o refl)

pub null_read : (w : World) (i : ℕ) (v : View) (l : Line) (z : Asked) (p : Past) (kept : ChangeKept) (base : Base) → Shown w v l z p → (w.seat i).phase ≡ Runs (Opens (Changes kept)) base
    → (machine.after base (counted (w.seat i).post) (finds w i)).outcome ≡ Ends (Protected protect_ends.Null) → ReadAt w.layout.config i (key_of kept.change % w.layout.config.buckets) 0 [] p
null_read w i v l z p kept base h e o =
    let b : ℕ = key_of kept.change % w.layout.config.buckets in
    record {
      low = null_base w i v l z p (Changes kept) base b h e refl o;
      within = omega arith;
      read = refl;
      most = count_most w v l z p b h;
      room = pairs_most w v l z p b 0 h;
    }

-- what an enqueue has read of the tail's row
pub record NumberAt (last number : ℕ) (p : Past) : Type 0 where
  pub within : number ≤ length (queued_of p)
  pub most : length (queued_of p) ≤ last

pub number_read : (w : World) (i : ℕ) (v : View) (l : Line) (z : Asked) (p : Past) (kept : EnqueueKept) → Shown w v l z p → (w.seat i).phase ≡ Works (Enqueuing kept LoadNext) → NumberAt w.layout.config.last_version kept.number p
number_read w i v l z p kept h e =
    let number : l.number kept.tail ≡ kept.number = (h.known.items.seats i).numbers kept.tail kept.number (subst (λ (x : Phase). numbers_in x kept.tail kept.number ≡ true) (sym e) (same_both kept.tail kept.number)) in
    let lined : l.lined kept.tail ≡ true = (h.known.whole.both.queue.walks i).stood kept.tail (subst (λ (x : Phase). stands_on x kept.tail ≡ true) (sym e) (same_number kept.tail)) in
    let within : l.number kept.tail ≤ length w.book.queued = h.known.items.rows.within kept.tail lined in
    record {
      within = subst (λ (all : List ℕ). kept.number ≤ length all) (sym h.queued) (subst (λ (n : ℕ). n ≤ length w.book.queued) number within);
      most = subst (λ (all : List ℕ). length all ≤ w.layout.config.last_version) (sym h.queued) (items_count w v l h.known.whole.both h.known.items).queued;
    }
