-- What a step tells of rows, links and changes is what its move of rows says, and so is what its seat has in hand.
use Rattle.std.proofs.Common.{ℕ, ◌≡◌, ◌+◌, ◌-◌, Bool, true, false, List, [], ◌∷◌, ◌++◌, refl, arith}
use Rattle.std.proofs.lemmas.Bool.Decides.{nat_tests}
use Rattle.std.specs.Prelude.{◌==◌, if◌then◌else◌}
use Rattle.law_reuse.specs.inv.model.words.Place.{Place}
use Rattle.law_reuse.specs.inv.model.words.Place.Place.{Head, Bucket}
use Rattle.law_reuse.specs.inv.model.defs.declared.call.Answer.{Answer}
use Rattle.law_reuse.specs.inv.model.defs.declared.call.Call.{Call}
use Rattle.law_reuse.specs.inv.model.defs.declared.event.Event.{Event}
use Rattle.law_reuse.specs.inv.model.defs.declared.event.Event.TheVariants as events
use Rattle.law_reuse.specs.inv.model.defs.declared.event.Root.TheVariants as roots
use Rattle.law_reuse.specs.inv.model.defs.declared.fold.Change.{Change}
use Rattle.law_reuse.specs.inv.model.defs.declared.fold.Change.TheVariants as changes
use Rattle.law_reuse.specs.inv.model.defs.declared.lifetime.Lifetime.{Lifetime}
use Rattle.law_reuse.specs.inv.model.declared.post.Post.{Post}
use Rattle.law_reuse.specs.inv.model.Allocate.{is_claimed}
use Rattle.law_reuse.specs.inv.model.Change.{told_change, changed_bucket}
use Rattle.law_reuse.specs.inv.model.Enqueue.{told_link}
use Rattle.law_reuse.specs.inv.model.Desks.{Desk}
use Rattle.law_reuse.specs.inv.model.Memory as memory
use Rattle.law_reuse.specs.inv.model.Memory.{place_in}
use Rattle.law_reuse.specs.inv.model.Phases.{Base, Walk}
use Rattle.law_reuse.specs.inv.model.Phases.AllocateAt.{ClaimSlot, StoreLife}
use Rattle.law_reuse.specs.inv.model.Phases.RetireAt.{LoadLife, LoadRetire, StoreRetired}
use Rattle.law_reuse.specs.inv.model.Phases.Base.{Allocate, GiveUp, Retire}
use Rattle.law_reuse.specs.inv.model.Posts.{counted}
use Rattle.law_reuse.specs.inv.model.Steps.{phase_move, phase_turn}
use Rattle.law_reuse.specs.inv.model.Calls.{Task, Gets, Changes, Holds, Enqueues, Dequeues, ChangeKept, EnqueueKept, LoadVersion, LoadCount, LoadKey, LoadValue, ExchangeRoot, LoadNumber, LoadNext, PassTail, ExchangeNext, ExchangeTail, LoadTail, SwingTail, TakeNumber, TakeValue, ExchangeHead, Getting, Changing, Enqueuing, Dequeuing, Keeping, KeepAt, TakeList, ReadGuard, GiveBack, Why, Fills, GivesUp, Retires, Phase, Idle, Runs, Scans, Works, Answers}
use Rattle.law_reuse.specs.inv.rows.Hands.{hand_of, hand_in, hand_why, hand_base, is_right, runs_right, is_plain, base_row, keep_row, linked_row, row_move}
use Rattle.law_reuse.specs.inv.rows.Rows.{Hand, RowMove}
use Rattle.law_reuse.specs.inv.rows.Rows.Hand.{Empty, New, Taken, Old, Known, Dated}
use Rattle.law_reuse.specs.inv.rows.Rows.RowMove.{Stays, Claims, Bears, Drops, Links, Replaces, Appends, Pops, Reads, Seals, Lists, Returns, Adopts}
use Rattle.law_reuse.specs.inv.ends.Told.{row_events}
use Rattle.law_reuse.proofs.AnswersTold.Owed.{owed}
use Rattle.law_reuse.proofs.inv.history.AllOf.{all_of}
use Rattle.law_scans.proofs.Placing.Fronts.{linked_front, queued_front, taken_front}
use Rattle.law_scans.proofs.Placing.Marks.{marks}
use Rattle.law_reuse.proofs.inv.rows.Runs.{taken_slot}

-- what a seat has in hand before a move of rows
abbrev pub HandFits : RowMove → Hand → Type 0
HandFits Stays h = Unit {0}
HandFits (Claims slot) h = h ≡ Empty
HandFits (Bears slot birth) h = h ≡ New slot
HandFits (Drops slot) h = h ≡ Taken slot
HandFits (Links bucket slot) h = h ≡ Taken slot
HandFits (Replaces bucket slot old) h = h ≡ Taken slot
HandFits (Appends slot) h = h ≡ Taken slot
HandFits (Pops slot next) h = h ≡ Empty
HandFits (Reads slot birth) h = h ≡ Old slot
HandFits (Seals slot birth retire) h = h ≡ Known slot birth
HandFits (Lists slot birth retire) h = h ≡ Dated slot birth retire
HandFits (Returns slot) h = Unit {0}
HandFits (Adopts from) h = Unit {0}

-- a machine that handles rows has its row in hand
pub why_hand : (why : Why) (b : Base) → runs_right why b ≡ true → is_plain b ≡ false → hand_why why b ≡ hand_base b
why_hand (Fills task) b r h = refl
why_hand (GivesUp answer) b r h = refl
why_hand (Retires answer) b r h = refl
why_hand why b r h = absurd (cc)

claim_hand : (slot : ℕ) (taken : Bool) (h : Hand) → h ≡ Empty → HandFits (if taken then Stays else Claims slot) h
claim_hand slot true h e = tt
claim_hand slot false h e = e

base_hand : (b : Base) (found : ℕ) (h : Hand) → (is_plain b ≡ false → h ≡ hand_base b) → HandFits (base_row b found) h
base_hand (Allocate (ClaimSlot birth walk)) found h e = claim_hand walk.slot (is_claimed found walk.slot) h (e refl)
base_hand (Allocate (StoreLife birth slot)) found h e = e refl
base_hand (GiveUp slot) found h e = e refl
base_hand (Retire (LoadLife slot)) found h e = e refl
base_hand (Retire (LoadRetire slot birth)) found h e = e refl
base_hand (Retire (StoreRetired slot birth retire)) found h e = e refl
base_hand base found h e = tt

linked_hand : (bucket slot link : ℕ) (h : Hand) (null : Bool) → h ≡ Taken slot → HandFits (if null then Links bucket slot else Replaces bucket slot (link - 1)) h
linked_hand bucket slot link h true e = e
linked_hand bucket slot link h false e = e

exchange_hand : (bucket slot link : ℕ) (h : Hand) (same : Bool) → h ≡ Taken slot → HandFits (if same then linked_row bucket slot link else Stays) h
exchange_hand bucket slot link h true e = linked_hand bucket slot link h (link == 0) e
exchange_hand bucket slot link h false e = tt

append_hand : (slot : ℕ) (h : Hand) (same : Bool) → h ≡ Taken slot → HandFits (if same then Appends slot else Stays) h
append_hand slot h true e = e
append_hand slot h false e = tt

pop_hand : (head next : ℕ) (same : Bool) → HandFits (if same then Pops head next else Stays) Empty
pop_hand head next true = refl
pop_hand head next false = tt

-- a list that is taken over asks for nothing in hand
adopts_hand : (place : ℕ) (h : Hand) (left : Bool) → HandFits (if left then Adopts place else Stays) h
adopts_hand place h true = tt
adopts_hand place h false = tt

keep_hand : (at : KeepAt) (found : ℕ) (h : Hand) → HandFits (keep_row at found) h
keep_hand (TakeList place) found h = adopts_hand place h (found == 1)
keep_hand at found h = tt

pub hand_fits : (phase : Phase) (post : Post) (found : ℕ) (list : List Lifetime) → is_right phase list ≡ true → HandFits (row_move phase post found) (hand_in phase)
hand_fits Idle post found list r = tt
hand_fits (Runs why b) post found list r = base_hand b found (hand_why why b) (why_hand why b r)
hand_fits (Scans later (ReadGuard number)) post found list r = tt
hand_fits (Scans later (GiveBack place slot)) post found list r = tt
hand_fits (Works (Getting key at)) post found list r = tt
hand_fits (Works (Keeping at)) post found list r = keep_hand at found (hand_in (Works (Keeping at)))
hand_fits (Works (Changing kept (LoadVersion slot))) post found list r = tt
hand_fits (Works (Changing kept (LoadCount slot))) post found list r = tt
hand_fits (Works (Changing kept (LoadKey slot count))) post found list r = tt
hand_fits (Works (Changing kept (LoadValue slot count key))) post found list r = tt
hand_fits (Works (Changing kept (ExchangeRoot slot))) post found list r = exchange_hand (changed_bucket kept post) slot kept.link (hand_of kept.taken) (found == kept.link) (taken_slot kept.taken slot r)
hand_fits (Works (Enqueuing kept LoadNumber)) post found list r = tt
hand_fits (Works (Enqueuing kept LoadNext)) post found list r = tt
hand_fits (Works (Enqueuing kept (PassTail next))) post found list r = tt
hand_fits (Works (Enqueuing kept (ExchangeNext slot))) post found list r = append_hand slot (hand_of kept.taken) (found == 0) (taken_slot kept.taken slot r)
hand_fits (Works (Enqueuing kept (ExchangeTail slot))) post found list r = tt
hand_fits (Works (Dequeuing (LoadTail head))) post found list r = tt
hand_fits (Works (Dequeuing (SwingTail head next))) post found list r = tt
hand_fits (Works (Dequeuing (TakeNumber head next))) post found list r = tt
hand_fits (Works (Dequeuing (TakeValue head next number))) post found list r = tt
hand_fits (Works (Dequeuing (ExchangeHead head next number value))) post found list r = pop_hand head next (found == head + 1)

-- the event of a change of this bucket, and its version
abbrev pub is_change_of : ℕ → Event → Bool
is_change_of bucket (events.Put other version key value) = other == bucket
is_change_of bucket (events.Removed other version key) = other == bucket
is_change_of bucket event = false

-- a link to the tail tells nothing of rows, and neither does a row that goes back
abbrev pub is_passing : Event → Bool
is_passing (events.Link roots.Tail slot) = true
is_passing (events.Back slot) = true
is_passing event = false

-- the operation finds the word of this place
pub record FindsAt (m : memory.Move) (root : Place) : Type 0 where
  pub place : place_in m ≡ root
  pub word : (x : ℕ) → memory.found m x ≡ x

pub record Claiming (phase : Phase) (slot : ℕ) (told : List Event) : Type 0 where
  pub birth : ℕ
  pub is : told ≡ events.Give slot birth ∷ []
  pub owes : (n : ℕ) (call : Call) → owed n call phase ≡ []

pub record Linking (m : memory.Move) (found bucket slot : ℕ) (told : List Event) : Type 0 where
  pub change : Event
  pub is : told ≡ events.Link (roots.Bucket bucket) slot ∷ change ∷ []
  pub of : is_change_of bucket change ≡ true
  pub finds : FindsAt m (Bucket bucket)
  pub null : found ≡ 0

pub record Replacing (m : memory.Move) (found bucket slot old : ℕ) (told : List Event) : Type 0 where
  pub change : Event
  pub is : told ≡ events.Link (roots.Bucket bucket) slot ∷ events.Cut old ∷ change ∷ []
  pub of : is_change_of bucket change ≡ true
  pub finds : FindsAt m (Bucket bucket)
  pub row : found ≡ old + 1

pub record Appending (slot : ℕ) (told : List Event) : Type 0 where
  pub parent : ℕ
  pub number : ℕ
  pub value : ℕ
  pub is : told ≡ events.Link (roots.Next parent) slot ∷ events.Queued number value ∷ []

pub record Popping (m : memory.Move) (found slot next : ℕ) (told : List Event) : Type 0 where
  pub number : ℕ
  pub value : ℕ
  pub is : told ≡ events.Link roots.Head next ∷ events.Cut slot ∷ events.Taken number value ∷ []
  pub finds : FindsAt m Head
  pub row : found ≡ slot + 1

-- the call ends with this step
pub record Ending (phase : Phase) (post : Post) (found slot : ℕ) (told : List Event) : Type 0 where
  pub is : told ≡ events.Unused slot ∷ []
  pub ends : (desk : Desk) → (answer : Answer) × ((phase_turn phase post desk found).outcome ≡ Answers answer)

abbrev pub Shape : Phase → Post → ℕ → RowMove → List Event → Type 0
Shape phase post found Stays told = all_of is_passing told ≡ true
Shape phase post found (Claims slot) told = Claiming phase slot told
Shape phase post found (Bears slot birth) told = told ≡ []
Shape phase post found (Drops slot) told = Ending phase (counted post) found slot told
Shape phase post found (Links bucket slot) told = Linking (phase_move phase post) found bucket slot told
Shape phase post found (Replaces bucket slot old) told = Replacing (phase_move phase post) found bucket slot old told
Shape phase post found (Appends slot) told = Appending slot told
Shape phase post found (Pops slot next) told = Popping (phase_move phase post) found slot next told
Shape phase post found (Reads slot birth) told = told ≡ []
Shape phase post found (Seals slot birth retire) told = told ≡ []
Shape phase post found (Lists slot birth retire) told = told ≡ events.Retire slot birth retire ∷ []
Shape phase post found (Returns slot) told = told ≡ events.Back slot ∷ []
Shape phase post found (Adopts from) told = told ≡ []

claim_owes : (why : Why) (birth : ℕ) (walk : Walk) (n : ℕ) (call : Call) → runs_right why (Allocate (ClaimSlot birth walk)) ≡ true → owed n call (Runs why (Allocate (ClaimSlot birth walk))) ≡ []
claim_owes (Fills task) birth walk n call r = refl
claim_owes why birth walk n call r = absurd (cc)

claim_shape : (why : Why) (birth : ℕ) (walk : Walk) (post : Post) (found : ℕ) (taken : Bool) → runs_right why (Allocate (ClaimSlot birth walk)) ≡ true
    → Shape (Runs why (Allocate (ClaimSlot birth walk))) post found (if taken then Stays else Claims walk.slot) (row_events birth (if taken then Stays else Claims walk.slot))
claim_shape why birth walk post found true r = refl
claim_shape why birth walk post found false r = record { birth = birth; is = refl; owes = λ n call. claim_owes why birth walk n call r }

no_fill : (task : Task) (slot : ℕ) → runs_right (Fills task) (GiveUp slot) ≡ true → false ≡ true
no_fill (Gets key) slot r = r
no_fill (Changes kept) slot r = r
no_fill (Holds key) slot r = r
no_fill (Enqueues kept) slot r = r
no_fill Dequeues slot r = r

give_up_shape : (why : Why) (slot : ℕ) (post : Post) (found : ℕ) → runs_right why (GiveUp slot) ≡ true → Shape (Runs why (GiveUp slot)) post found (Drops slot) (events.Unused slot ∷ [])
give_up_shape (GivesUp answer) slot post found r = record { is = refl; ends = λ desk. (answer, refl) }
give_up_shape (Fills task) slot post found r = let x = no_fill task slot r in absurd (cc)
give_up_shape why slot post found r = absurd (cc)

run_shape : (why : Why) (b : Base) (post : Post) (found : ℕ) → runs_right why b ≡ true → Shape (Runs why b) post found (row_move (Runs why b) post found) (marks (Runs why b) post found)
run_shape why (Allocate (ClaimSlot birth walk)) post found r = claim_shape why birth walk post found (is_claimed found walk.slot) r
run_shape why (GiveUp slot) post found r = give_up_shape why slot post found r
run_shape why (Retire (LoadLife slot)) post found r = refl
run_shape why base post found r = refl

same_bucket : (bucket version : ℕ) (change : Change) → is_change_of bucket (told_change bucket version change) ≡ true
same_bucket bucket version (changes.Put key value) = grind (arith, nat_tests)
same_bucket bucket version (changes.Removed key) = grind (arith, nat_tests)

found_null : (found link : ℕ) → (found == link) ≡ true → (link == 0) ≡ true → found ≡ 0
found_null found link a b = grind (arith, nat_tests)

found_row : (found link : ℕ) → (found == link) ≡ true → (link == 0) ≡ false → found ≡ link - 1 + 1
found_row found link a b = grind (arith, nat_tests)

linked_shape : (kept : ChangeKept) (slot : ℕ) (post : Post) (found : ℕ) (null : Bool) → (found == kept.link) ≡ true → (kept.link == 0) ≡ null
    → Shape (Works (Changing kept (ExchangeRoot slot))) post found (if null then Links (changed_bucket kept post) slot else Replaces (changed_bucket kept post) slot (kept.link - 1))
    (events.Link (roots.Bucket (changed_bucket kept post)) slot ∷ (if null then [] else events.Cut (kept.link - 1) ∷ []) ++ told_change (changed_bucket kept post) (kept.version + 1) kept.change ∷ [])
linked_shape kept slot post found true a b = record {
  change = told_change (changed_bucket kept post) (kept.version + 1) kept.change;
  is = refl;
  of = same_bucket (changed_bucket kept post) (kept.version + 1) kept.change;
  finds = record { place = refl; word = λ x. refl };
  null = found_null found kept.link a b;
}
linked_shape kept slot post found false a b = record {
  change = told_change (changed_bucket kept post) (kept.version + 1) kept.change;
  is = refl;
  of = same_bucket (changed_bucket kept post) (kept.version + 1) kept.change;
  finds = record { place = refl; word = λ x. refl };
  row = found_row found kept.link a b;
}

exchange_shape : (kept : ChangeKept) (slot : ℕ) (post : Post) (found : ℕ) (same : Bool) → (found == kept.link) ≡ same → Shape (Works (Changing kept (ExchangeRoot slot))) post found (if same then linked_row (changed_bucket kept post) slot kept.link else Stays) (linked_front kept slot (counted post) same)
exchange_shape kept slot post found true e = linked_shape kept slot post found (kept.link == 0) e refl
exchange_shape kept slot post found false e = refl

append_shape : (kept : EnqueueKept) (slot : ℕ) (post : Post) (found : ℕ) (same : Bool) → Shape (Works (Enqueuing kept (ExchangeNext slot))) post found (if same then Appends slot else Stays) (queued_front kept slot same)
append_shape kept slot post found true = record { parent = kept.tail; number = kept.number + 1; value = kept.value; is = refl }
append_shape kept slot post found false = refl

pop_shape : (head next number value : ℕ) (post : Post) (found : ℕ) (same : Bool) → (found == head + 1) ≡ same → Shape (Works (Dequeuing (ExchangeHead head next number value))) post found (if same then Pops head next else Stays) (taken_front head next number value same)
pop_shape head next number value post found true e = record { number = number; value = value; is = refl; finds = record { place = refl; word = λ x. refl }; row = grind (arith, nat_tests) }
pop_shape head next number value post found false e = refl

link_passing : (slot : ℕ) (same : Bool) → all_of is_passing (told_link roots.Tail slot same) ≡ true
link_passing slot true = refl
link_passing slot false = refl

adopts_shape : (place : ℕ) (post : Post) (found : ℕ) (left : Bool) → Shape (Works (Keeping (TakeList place))) post found (if left then Adopts place else Stays) []
adopts_shape place post found true = refl
adopts_shape place post found false = refl

keep_shape : (at : KeepAt) (post : Post) (found : ℕ) → Shape (Works (Keeping at)) post found (keep_row at found) []
keep_shape (TakeList place) post found = adopts_shape place post found (found == 1)
keep_shape at post found = refl

pub shape_of : (phase : Phase) (post : Post) (found : ℕ) (list : List Lifetime) → is_right phase list ≡ true → Shape phase post found (row_move phase post found) (marks phase post found)
shape_of Idle post found list r = refl
shape_of (Runs why b) post found list r = run_shape why b post found r
shape_of (Scans later (ReadGuard number)) post found list r = refl
shape_of (Scans later (GiveBack place slot)) post found list r = refl
shape_of (Works (Getting key at)) post found list r = refl
shape_of (Works (Keeping at)) post found list r = keep_shape at post found
shape_of (Works (Changing kept (LoadVersion slot))) post found list r = refl
shape_of (Works (Changing kept (LoadCount slot))) post found list r = refl
shape_of (Works (Changing kept (LoadKey slot count))) post found list r = refl
shape_of (Works (Changing kept (LoadValue slot count key))) post found list r = refl
shape_of (Works (Changing kept (ExchangeRoot slot))) post found list r = exchange_shape kept slot post found (found == kept.link) refl
shape_of (Works (Enqueuing kept LoadNumber)) post found list r = refl
shape_of (Works (Enqueuing kept LoadNext)) post found list r = refl
shape_of (Works (Enqueuing kept (PassTail next))) post found list r = link_passing (next - 1) (found == kept.tail + 1)
shape_of (Works (Enqueuing kept (ExchangeNext slot))) post found list r = append_shape kept slot post found (found == 0)
shape_of (Works (Enqueuing kept (ExchangeTail slot))) post found list r = link_passing slot (found == kept.tail + 1)
shape_of (Works (Dequeuing (LoadTail head))) post found list r = refl
shape_of (Works (Dequeuing (SwingTail head next))) post found list r = link_passing next (found == head + 1)
shape_of (Works (Dequeuing (TakeNumber head next))) post found list r = refl
shape_of (Works (Dequeuing (TakeValue head next number))) post found list r = refl
shape_of (Works (Dequeuing (ExchangeHead head next number value))) post found list r = pop_shape head next number value post found (found == head + 1) refl
