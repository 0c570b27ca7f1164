-- What a seat knows lasts while the rows that it reads show the same, and the words of its own row stay.
use Rattle.std.proofs.Common.{ℕ, ◌+◌, ◌%◌, ◌≤◌, ◌≡◌, Bool, true, ◌∙◌, sym}
use Rattle.std.specs.Prelude.{◌==◌}
use Rattle.inv_ends.specs.model.words.Place.{Place}
use Rattle.inv_ends.specs.model.words.Place.Place.{Row}
use Rattle.inv_ends.specs.model.Phases.{Base}
use Rattle.inv_ends.specs.model.Phases.Base.{Begin, Protect, Reload, Clear, Finish, Release, Allocate, Write, GiveUp, Retire, Move}
use Rattle.inv_ends.specs.model.Calls.{EnqueueKept, EnqueueAt, LoadNumber, LoadNext, PassTail, ExchangeNext, ExchangeTail, ChangeKept, Gets, Changes, Holds, Enqueues, Dequeues, Opens, FollowsHead, Fills, ClearsNext, Clears, Finishes, GivesUp, Retires, Tidies, Advances, Releases, GetAt, FindVersion, FindCount, FindKey, FindValue, ChangeAt, LoadVersion, LoadCount, LoadKey, LoadValue, ExchangeRoot, Getting, Changing, Enqueuing, Dequeuing, Phase, Idle, Runs, Scans, Works, KeepAt, Looks, Keeping}
use Rattle.inv_ends.proofs.model.Facts.{same_number, same_test}
use Rattle.inv_all.specs.Contents.Shelf.{Shelf}
use Rattle.inv_all.specs.Contents.Knows.{ItemKnows, EnqueueKnows, enqueue_owns, Ground, Knows, GetKnows, KeepKnows, ChangeKnows, FillKnows, FoundRow, AtRow, AtKey, Decided, reads_in, get_reads, keep_reads, owns_in, base_owns, change_owns}
use Rattle.inv_all.proofs.Contents.Contents.Told.{SameSlot}

abbrev pub on : ℕ → Shelf → (Place → ℕ) → Ground
on n shelf mem = record { buckets = n; shelf = shelf; mem = mem }

-- the words that a seat owns stay
abbrev pub OwnStays : (ℕ → Bool) → (Place → ℕ) → (Place → ℕ) → Type 0
OwnStays owns m k = (s q : ℕ) → owns s ≡ true → 1 ≤ q → k (Row s q) ≡ m (Row s q)

abbrev pub ReadStays : (ℕ → Bool) → Shelf → Shelf → Type 0
ReadStays reads a b = (s : ℕ) → reads s ≡ true → SameSlot a b s

found_lasts : (n : ℕ) (a b : Shelf) (m k : Place → ℕ) (bucket slot version : ℕ) → SameSlot a b slot → FoundRow (on n a m) bucket slot version → FoundRow (on n b k) bucket slot version
found_lasts n a b m k bucket slot version e h = record { root = e.root ∙ h.root; shown = h.shown ∙ sym e.version }

get_lasts : (n : ℕ) (a b : Shelf) (m k : Place → ℕ) (bucket key : ℕ) (at : GetAt) → ReadStays (get_reads at) a b → GetKnows (on n a m) bucket key at → GetKnows (on n b k) bucket key at
get_lasts n a b m k bucket key (FindVersion slot) e h = (e slot (same_number slot)).root ∙ h
get_lasts n a b m k bucket key (FindCount slot version) e h = found_lasts n a b m k bucket slot version (e slot (same_number slot)) h
get_lasts n a b m k bucket key (FindKey slot version count pair) e h =
    let same : SameSlot a b slot = e slot (same_number slot) in
    record { row = found_lasts n a b m k bucket slot version same h.row; counted = rw same.pairs h.counted; more = h.more; value = rw same.pairs h.value }
get_lasts n a b m k bucket key (FindValue slot version pair) e h =
    let same : SameSlot a b slot = e slot (same_number slot) in
    record { row = found_lasts n a b m k bucket slot version same h.row; more = rw same.pairs h.more; value = rw same.pairs h.value }

pub decided_lasts : (n : ℕ) (a b : Shelf) (m k : Place → ℕ) (kept : ChangeKept) → ReadStays (λ s. kept.link == s + 1) a b → Decided (on n a m) kept → Decided (on n b k) kept
decided_lasts n a b m k kept e h = record {
  fresh = h.fresh;
  none = h.none;
  root = λ s l. (e s (same_test kept.link (s + 1) l)).root ∙ h.root s l;
  version = λ s l. h.version s l ∙ sym (e s (same_test kept.link (s + 1) l)).version;
  pairs = λ s l. rw (e s (same_test kept.link (s + 1) l)).pairs (h.pairs s l);
}

row_lasts : (n : ℕ) (a b : Shelf) (m k : Place → ℕ) (kept : ChangeKept) (slot : ℕ) → ReadStays (λ s. kept.link == s + 1) a b → AtRow (on n a m) kept slot → AtRow (on n b k) kept slot
row_lasts n a b m k kept slot e h = record { link = h.link; root = (e slot (same_test kept.link (slot + 1) h.link)).root ∙ h.root; none = h.none }

key_lasts : (n : ℕ) (a b : Shelf) (m k : Place → ℕ) (kept : ChangeKept) (slot count : ℕ) → ReadStays (λ s. kept.link == s + 1) a b → AtKey (on n a m) kept slot count → AtKey (on n b k) kept slot count
key_lasts n a b m k kept slot count e h =
    let same : SameSlot a b slot = e slot (same_test kept.link (slot + 1) h.link) in
    record { link = h.link; root = same.root ∙ h.root; version = h.version ∙ sym same.version; counted = rw same.pairs h.counted; more = h.more; pairs = rw same.pairs h.pairs }

change_lasts : (n : ℕ) (a b : Shelf) (m k : Place → ℕ) (kept : ChangeKept) (at : ChangeAt) → ReadStays (λ s. kept.link == s + 1) a b → OwnStays (change_owns at) m k → ChangeKnows (on n a m) kept at → ChangeKnows (on n b k) kept at
change_lasts n a b m k kept (LoadVersion slot) e o h = row_lasts n a b m k kept slot e h
change_lasts n a b m k kept (LoadCount slot) e o h =
    record { row = row_lasts n a b m k kept slot e h.row; version = h.version ∙ sym (e slot (same_test kept.link (slot + 1) h.row.link)).version }
change_lasts n a b m k kept (LoadKey slot count) e o h = key_lasts n a b m k kept slot count e h
change_lasts n a b m k kept (LoadValue slot count key) e o h =
    record { row = key_lasts n a b m k kept slot count e h.row; own = rw (e slot (same_test kept.link (slot + 1) h.row.link)).pairs h.own }
change_lasts n a b m k kept (ExchangeRoot slot) e o h =
    record { decided = decided_lasts n a b m k kept e h.decided; words = λ q x y. o slot q (same_number slot) x ∙ h.words q x y }

fill_lasts : (n : ℕ) (a b : Shelf) (m k : Place → ℕ) (kept : ChangeKept) (base : Base) → ReadStays (λ s. kept.link == s + 1) a b → OwnStays (base_owns base) m k → FillKnows (on n a m) kept base → FillKnows (on n b k) kept base
fill_lasts n a b m k kept (Begin at) e o h = decided_lasts n a b m k kept e h
fill_lasts n a b m k kept (Protect aim index root steps at) e o h = decided_lasts n a b m k kept e h
fill_lasts n a b m k kept (Reload parent index slot era steps) e o h = decided_lasts n a b m k kept e h
fill_lasts n a b m k kept (Clear rows index) e o h = decided_lasts n a b m k kept e h
fill_lasts n a b m k kept Finish e o h = decided_lasts n a b m k kept e h
fill_lasts n a b m k kept (Release index) e o h = decided_lasts n a b m k kept e h
fill_lasts n a b m k kept (Allocate at) e o h = decided_lasts n a b m k kept e h
fill_lasts n a b m k kept (Write slot row place) e o h =
    record { decided = decided_lasts n a b m k kept e h.decided; same = h.same; words = λ q x y. o slot q (same_number slot) x ∙ h.words q x y }
fill_lasts n a b m k kept (GiveUp slot) e o h = decided_lasts n a b m k kept e h
fill_lasts n a b m k kept (Retire at) e o h = decided_lasts n a b m k kept e h
fill_lasts n a b m k kept (Move at) e o h = decided_lasts n a b m k kept e h

item_lasts : (n : ℕ) (a b : Shelf) (m k : Place → ℕ) (kept : EnqueueKept) (base : Base) → OwnStays (base_owns base) m k → ItemKnows (on n a m) kept base → ItemKnows (on n b k) kept base
item_lasts n a b m k kept (Begin at) o h = tt
item_lasts n a b m k kept (Protect aim index root steps at) o h = tt
item_lasts n a b m k kept (Reload parent index slot era steps) o h = tt
item_lasts n a b m k kept (Clear rows index) o h = tt
item_lasts n a b m k kept Finish o h = tt
item_lasts n a b m k kept (Release index) o h = tt
item_lasts n a b m k kept (Allocate at) o h = tt
item_lasts n a b m k kept (Write slot row place) o h = record { same = h.same; words = λ q x y. o slot q (same_number slot) x ∙ h.words q x y }
item_lasts n a b m k kept base o h = tt

enqueue_lasts : (n : ℕ) (a b : Shelf) (m k : Place → ℕ) (kept : EnqueueKept) (at : EnqueueAt) → OwnStays (enqueue_owns at) m k → EnqueueKnows (on n a m) kept at → EnqueueKnows (on n b k) kept at
enqueue_lasts n a b m k kept LoadNumber o h = tt
enqueue_lasts n a b m k kept LoadNext o h = tt
enqueue_lasts n a b m k kept (PassTail next) o h = tt
enqueue_lasts n a b m k kept (ExchangeNext slot) o h = λ q x y. o slot q (same_number slot) x ∙ h q x y
enqueue_lasts n a b m k kept (ExchangeTail slot) o h = tt

keep_lasts : (n : ℕ) (a b : Shelf) (m k : Place → ℕ) (at : KeepAt) → ReadStays (keep_reads at) a b → KeepKnows (on n a m) at → KeepKnows (on n b k) at
keep_lasts n a b m k (Looks index key at) e h = record { bucket = h.bucket; reads = get_lasts n a b m k h.bucket key at e h.reads }
keep_lasts n a b m k at e h = tt

pub knows_lasts : (n : ℕ) (a b : Shelf) (m k : Place → ℕ) (phase : Phase) → ReadStays (reads_in phase) a b → OwnStays (owns_in phase) m k → Knows (on n a m) phase → Knows (on n b k) phase
knows_lasts n a b m k Idle e o h = tt
knows_lasts n a b m k (Runs (Opens task) base) e o h = tt
knows_lasts n a b m k (Runs (FollowsHead head tail) base) e o h = tt
knows_lasts n a b m k (Runs (Fills (Gets key)) base) e o h = tt
knows_lasts n a b m k (Runs (Fills (Changes kept)) base) e o h = fill_lasts n a b m k kept base e o h
knows_lasts n a b m k (Runs (Fills (Holds key)) base) e o h = tt
knows_lasts n a b m k (Runs (Fills (Enqueues kept)) base) e o h = item_lasts n a b m k kept base o h
knows_lasts n a b m k (Runs (Fills Dequeues) base) e o h = tt
knows_lasts n a b m k (Runs (ClearsNext next) base) e o h = tt
knows_lasts n a b m k (Runs (Clears task next) base) e o h = tt
knows_lasts n a b m k (Runs (Finishes task next) base) e o h = tt
knows_lasts n a b m k (Runs (GivesUp answer) base) e o h = tt
knows_lasts n a b m k (Runs (Retires answer) base) e o h = tt
knows_lasts n a b m k (Runs (Tidies later) base) e o h = tt
knows_lasts n a b m k (Runs Advances base) e o h = tt
knows_lasts n a b m k (Runs (Releases let_go) base) e o h = tt
knows_lasts n a b m k (Scans later at) e o h = tt
knows_lasts n a b m k (Works (Getting key at)) e o h = get_lasts n a b m k (key % n) key at e h
knows_lasts n a b m k (Works (Changing kept at)) e o h = change_lasts n a b m k kept at e o h
knows_lasts n a b m k (Works (Enqueuing kept at)) e o h = enqueue_lasts n a b m k kept at o h
knows_lasts n a b m k (Works (Dequeuing at)) e o h = tt
knows_lasts n a b m k (Works (Keeping at)) e o h = keep_lasts n a b m k at e h
