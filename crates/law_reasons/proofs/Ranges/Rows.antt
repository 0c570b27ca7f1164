-- The rows and buckets that a step's links, cuts and moves of rows tell are those of the table.
use Rattle.std.proofs.Common.{ℕ, ◌≡◌, ◌≤◌, ◌+◌, ◌-◌, ◌%◌, Bool, true, false, List, [], ◌∷◌, ◌++◌, refl, sym, subst, arith}
use Rattle.std.proofs.Math.Nat.{mod-lt}
use Rattle.std.proofs.lemmas.Bool.Decides.{nat_tests}
use Rattle.std.specs.List.{filter}
use Rattle.std.specs.Prelude.{◌==◌, ◌&&◌, nat_le, nat_lt, if◌then◌else◌}
use Rattle.law_scans.specs.inv.model.words.Place.{is_valid}
use Rattle.law_scans.specs.inv.model.words.declared.config.Config.{Config}
use Rattle.law_scans.specs.inv.model.words.declared.layout.Layout.{Layout}
use Rattle.law_scans.specs.inv.model.defs.declared.event.Event.{Event}
use Rattle.law_scans.specs.inv.model.defs.declared.event.Event.TheVariants as events
use Rattle.law_scans.specs.inv.model.defs.declared.event.Root.{Root}
use Rattle.law_scans.specs.inv.model.defs.declared.event.Root.TheVariants as roots
use Rattle.law_scans.specs.inv.model.defs.declared.fold.Change.{Change}
use Rattle.law_scans.specs.inv.model.defs.declared.fold.Change.TheVariants as changes
use Rattle.law_scans.specs.inv.model.declared.post.Post.{Post}
use Rattle.law_scans.specs.inv.model.Allocate.{is_claimed}
use Rattle.law_scans.specs.inv.model.Change.{changed_bucket, told_change, told_cut}
use Rattle.law_scans.specs.inv.model.Desks.{Desk}
use Rattle.law_scans.specs.inv.model.Enqueue.{told_link}
use Rattle.law_scans.specs.inv.model.Calls.{ChangeKept, EnqueueKept, ReadGuard, GiveBack, Getting, Changing, Enqueuing, Dequeuing, Keeping, ChangeAt, ExchangeRoot, EnqueueAt, PassTail, ExchangeNext, ExchangeTail, DequeueAt, SwingTail, ExchangeHead, Work, Why, Phase, Idle, Runs, Scans, Works}
use Rattle.law_scans.specs.inv.model.Phases.{Base}
use Rattle.law_scans.specs.inv.model.Phases.AllocateAt.{ClaimSlot}
use Rattle.law_scans.specs.inv.model.Phases.RetireAt.{StoreRetired}
use Rattle.law_scans.specs.inv.model.Phases.Base.{Allocate, GiveUp, Retire}
use Rattle.law_scans.specs.inv.model.Posts.{counted}
use Rattle.law_scans.specs.inv.model.Rounds.{key_of}
use Rattle.law_scans.specs.inv.model.World.{World, finds}
use Rattle.law_scans.proofs.inv.model.Facts.{both, and_true, first_of, le_test, rest_of}
use Rattle.law_scans.proofs.inv.model.Ranges.{bounds_of}
use Rattle.law_scans.specs.inv.rows.Rows.RowMove.{Stays, Claims}
use Rattle.law_scans.specs.inv.rows.Hands.{base_row}
use Rattle.law_scans.specs.inv.ends.Told.{birth_in, row_events}
use Rattle.law_scans.specs.inv.shapes.Seats.{PhaseFits, Run}
use Rattle.law_scans.specs.inv.shapes.Slots.{BaseIn, PhaseIn, WorkIn, ChangeIn}
use Rattle.law_scans.proofs.inv.history.AllOf.{all_of, of_along}
use Rattle.law_scans.proofs.reuse.shapes.SlotCalls.{link_row}
use Rattle.law_scans.proofs.Placing.Fronts.{linked_front, change_front, enqueue_front, dequeue_front, queued_front, taken_front, work_front}
use Rattle.law_scans.proofs.Placing.Marks.{is_marked, marks, tells, marks_told}
use Rattle.law_scans.specs.laws.HistoryTable.{is_root}

-- of the events of rows and links; changes of the map are told with their key's bucket, which the law of the map says
abbrev pub rows_in : Config → Event → Bool
rows_in c (events.Give slot birth) = nat_le slot c.slots
rows_in c (events.Unused slot) = nat_le slot c.slots
rows_in c (events.Link root slot) = is_root c root && nat_le slot c.slots
rows_in c (events.Cut slot) = nat_le slot c.slots
rows_in c (events.Retire slot birth retire) = nat_le slot c.slots
rows_in c (events.Back slot) = nat_le slot c.slots
rows_in c event = true

abbrev pub AllIn : Config → List Event → Type 0
AllIn c told = all_of (rows_in c) told ≡ true

middle : (a b c : Bool) → (a && b && c) ≡ true → b ≡ true
middle a true c h = refl
middle true false c h = absurd (cc)
middle false false c h = absurd (cc)

-- a machine
claims_in : (c : Config) (slot birth : ℕ) (taken : Bool) → nat_le slot c.slots ≡ true → AllIn c (row_events birth (if taken then Stays else Claims slot))
claims_in c slot birth true h = refl
claims_in c slot birth false h = and_true (nat_le slot c.slots) h

base_in : (layout : Layout) (why : Why) (base : Base) (post : Post) (found : ℕ) → Run layout why base post → BaseIn layout base → AllIn layout.config (row_events (birth_in (Runs why base)) (base_row base found))
base_in layout why (Allocate (ClaimSlot birth walk)) post found r h = claims_in layout.config walk.slot birth (is_claimed found walk.slot) (middle (nat_le walk.start layout.config.slots) (nat_le walk.slot layout.config.slots) (nat_le walk.left layout.config.slots) r.fits)
base_in layout why (Allocate at) post found r h = refl
base_in layout why (GiveUp slot) post found r h = and_true (nat_le slot layout.config.slots) (le_test slot layout.config.slots h)
base_in layout why (Retire (StoreRetired slot birth retire)) post found r h = and_true (nat_le slot layout.config.slots) (le_test slot layout.config.slots h)
base_in layout why (Retire at) post found r h = refl
base_in layout why base post found r h = refl

-- a change
bucket_low : (layout : Layout) (kept : ChangeKept) (post : Post) → is_valid layout ≡ true → post.layout ≡ layout → nat_lt (changed_bucket kept post) layout.config.buckets ≡ true
bucket_low layout kept post d t = subst (λ (table : Layout). nat_lt (key % table.config.buckets) layout.config.buckets ≡ true) (sym t) (let m = mod-lt key (let b = (bounds_of layout d).buckets in b.0) in grind (arith, nat_tests))
  where
    key : ℕ
    key = key_of kept.change

cut_in : (c : Config) (link : ℕ) → link ≤ c.slots + 1 → AllIn c (told_cut link)
cut_in c link h = by (link == 0)
  where
    by : (none : Bool) → AllIn c (if none then [] else events.Cut (link - 1) ∷ [])
    by true = refl
    by false = and_true (nat_le (link - 1) c.slots) (le_test (link - 1) c.slots (link_row c.slots link h))

altered_in : (c : Config) (bucket version : ℕ) (change : Change) → AllIn c (told_change bucket version change ∷ [])
altered_in c bucket version (changes.Put key value) = refl
altered_in c bucket version (changes.Removed key) = refl

linked_in : (layout : Layout) (kept : ChangeKept) (slot : ℕ) (post : Post) (same : Bool) → is_valid layout ≡ true → post.layout ≡ layout → ChangeIn layout.config kept → slot ≤ layout.config.slots → AllIn layout.config (linked_front kept slot post same)
linked_in layout kept slot post true d t k h =
    let c : Config = layout.config in
    both (nat_lt (changed_bucket kept post) c.buckets && nat_le slot c.slots) (all_of (rows_in c) (told_cut kept.link ++ told_change (changed_bucket kept post) (kept.version + 1) kept.change ∷ []))
    (both (nat_lt (changed_bucket kept post) c.buckets) (nat_le slot c.slots) (bucket_low layout kept post d t) (le_test slot c.slots h))
    (of_along (rows_in c) (told_cut kept.link) (told_change (changed_bucket kept post) (kept.version + 1) kept.change ∷ []) (cut_in c kept.link k.link) (altered_in c (changed_bucket kept post) (kept.version + 1) kept.change))
linked_in layout kept slot post false d t k h = refl

change_in : (layout : Layout) (kept : ChangeKept) (at : ChangeAt) (post : Post) (found : ℕ) → is_valid layout ≡ true → post.layout ≡ layout → WorkIn layout.config (Changing kept at) → AllIn layout.config (change_front kept at post found)
change_in layout kept (ExchangeRoot slot) post found d t w = linked_in layout kept slot post (found == kept.link) d t w.0 w.1.0
change_in layout kept at post found d t w = refl

-- the queue
link_in : (c : Config) (root : Root) (slot : ℕ) (same : Bool) → is_root c root ≡ true → slot ≤ c.slots → AllIn c (told_link root slot same)
link_in c root slot true r h = and_true (is_root c root && nat_le slot c.slots) (both (is_root c root) (nat_le slot c.slots) r (le_test slot c.slots h))
link_in c root slot false r h = refl

queued_in : (c : Config) (kept : EnqueueKept) (slot : ℕ) (same : Bool) → kept.tail ≤ c.slots → slot ≤ c.slots → AllIn c (queued_front kept slot same)
queued_in c kept slot true t h = and_true (nat_le kept.tail c.slots && nat_le slot c.slots) (both (nat_le kept.tail c.slots) (nat_le slot c.slots) (le_test kept.tail c.slots t) (le_test slot c.slots h))
queued_in c kept slot false t h = refl

enqueue_in : (c : Config) (kept : EnqueueKept) (at : EnqueueAt) (found : ℕ) → WorkIn c (Enqueuing kept at) → AllIn c (enqueue_front kept at found)
enqueue_in c kept (PassTail next) found w = link_in c roots.Tail (next - 1) (found == kept.tail + 1) refl (link_row c.slots next w.1.1)
enqueue_in c kept (ExchangeNext slot) found w = queued_in c kept slot (found == 0) w.0.tail w.1.0
enqueue_in c kept (ExchangeTail slot) found w = link_in c roots.Tail slot (found == kept.tail + 1) refl w.1.0
enqueue_in c kept at found w = refl

taken_in : (c : Config) (head next number value : ℕ) (same : Bool) → head ≤ c.slots → next ≤ c.slots → AllIn c (taken_front head next number value same)
taken_in c head next number value true h n = both (nat_le next c.slots) (nat_le head c.slots && true) (le_test next c.slots n) (and_true (nat_le head c.slots) (le_test head c.slots h))
taken_in c head next number value false h n = refl

dequeue_in : (c : Config) (at : DequeueAt) (found : ℕ) → WorkIn c (Dequeuing at) → AllIn c (dequeue_front at found)
dequeue_in c (SwingTail head next) found w = link_in c roots.Tail next (found == head + 1) refl w.1
dequeue_in c (ExchangeHead head next number value) found w = taken_in c head next number value (found == head + 1) w.0 w.1
dequeue_in c at found w = refl

work_in : (layout : Layout) (work : Work) (post : Post) (found : ℕ) → is_valid layout ≡ true → post.layout ≡ layout → WorkIn layout.config work → AllIn layout.config (work_front work post found)
work_in layout (Getting key at) post found d t w = refl
work_in layout (Changing kept at) post found d t w = change_in layout kept at post found d t w
work_in layout (Enqueuing kept at) post found d t w = enqueue_in layout.config kept at found w
work_in layout (Dequeuing at) post found d t w = dequeue_in layout.config at found w
work_in layout (Keeping at) post found d t w = refl

-- a step
marks_in : (layout : Layout) (phase : Phase) (post : Post) (desk : Desk) (found : ℕ) → is_valid layout ≡ true → post.layout ≡ layout → PhaseFits layout post phase → PhaseIn layout desk phase → AllIn layout.config (marks phase post found)
marks_in layout Idle post desk found d t f h = refl
marks_in layout (Runs why base) post desk found d t f h = base_in layout why base post found f h.1
marks_in layout (Scans later (ReadGuard number)) post desk found d t f h = refl
marks_in layout (Scans later (GiveBack place slot)) post desk found d t f h = and_true (nat_le slot layout.config.slots) (le_test slot layout.config.slots h.1.slot_in)
marks_in layout (Works work) post desk found d t f h = work_in layout work (counted post) found d t h

unmarked_in : (c : Config) (event : Event) → is_marked event ≡ false → rows_in c event ≡ true
unmarked_in c (events.Give slot birth) h = absurd (cc)
unmarked_in c (events.Unused slot) h = absurd (cc)
unmarked_in c (events.Link root slot) h = absurd (cc)
unmarked_in c (events.Cut slot) h = absurd (cc)
unmarked_in c (events.Retire slot birth retire) h = absurd (cc)
unmarked_in c (events.Back slot) h = absurd (cc)
unmarked_in c event h = refl

filtered_one : (ok kind : Event → Bool) (event : Event) (told : List Event) (loud : Bool) → kind event ≡ loud → ((e : Event) → kind e ≡ false → ok e ≡ true) → (all_of ok (filter kind told) ≡ true → all_of ok told ≡ true) → all_of ok (if loud then event ∷ filter kind told else filter kind told) ≡ true → (ok event && all_of ok told) ≡ true
filtered_one ok kind event told true e q f h = both (ok event) (all_of ok told) (first_of (ok event) (all_of ok (filter kind told)) h) (f (rest_of (ok event) (all_of ok (filter kind told)) h))
filtered_one ok kind event told false e q f h = both (ok event) (all_of ok told) (q event e) (f h)

pub filtered_all : (ok kind : Event → Bool) → ((e : Event) → kind e ≡ false → ok e ≡ true) → (told : List Event) → all_of ok (filter kind told) ≡ true → all_of ok told ≡ true
filtered_all ok kind q [] h = refl
filtered_all ok kind q (event ∷ told) h = filtered_one ok kind event told (kind event) refl q (filtered_all ok kind q told) h

pub step_rows : (w : World) (i : ℕ) → is_valid w.layout ≡ true → (w.seat i).post.layout ≡ w.layout → PhaseFits w.layout (w.seat i).post (w.seat i).phase → PhaseIn w.layout (w.seat i).desk (w.seat i).phase → AllIn w.layout.config (tells w i)
step_rows w i d t f h =
    filtered_all (rows_in w.layout.config) is_marked (unmarked_in w.layout.config) (tells w i)
    (subst (λ (told : List Event). AllIn w.layout.config told) (sym (marks_told w i)) (marks_in w.layout (w.seat i).phase (w.seat i).post (w.seat i).desk (finds w i) d t f h))
