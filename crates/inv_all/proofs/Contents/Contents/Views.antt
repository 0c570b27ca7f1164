-- Which seat may write the words of a row, and what a step that links no row leaves of the rows.
use Rattle.std.proofs.Common.{ℕ, ◌+◌, ◌≡◌, Bool, true, false, arith, refl, ap, ◌∙◌, sym, subst, List}
use Rattle.std.proofs.lemmas.Bool.Decides.{nat_tests}
use Rattle.std.specs.Prelude.{◌==◌, if◌then◌else◌}
use Rattle.inv_ends.specs.model.defs.declared.lifetime.Lifetime.{Lifetime}
use Rattle.inv_ends.specs.model.declared.post.Post.{Post}
use Rattle.inv_ends.specs.model.Allocate.{is_claimed}
use Rattle.inv_ends.specs.model.Memory.{upd}
use Rattle.inv_ends.specs.model.Phases.{AllocateAt, RetireAt, Base}
use Rattle.inv_ends.specs.model.Phases.AllocateAt.{LoadBirth, ClaimSlot, StoreLife}
use Rattle.inv_ends.specs.model.Phases.RetireAt.{LoadLife, LoadRetire, StoreRetired}
use Rattle.inv_ends.specs.model.Phases.Base.{Begin, Protect, Reload, Clear, Finish, Release, Allocate, Write, GiveUp, Retire, Move}
use Rattle.inv_ends.specs.model.Calls.{EnqueueKept, ChangeKept, Why, Opens, FollowsHead, Fills, ClearsNext, Clears, Finishes, GivesUp, Retires, Tidies, Advances, Releases, ScanAt, ReadGuard, GiveBack, ChangeAt, LoadVersion, LoadCount, LoadKey, LoadValue, ExchangeRoot, EnqueueAt, LoadNumber, LoadNext, PassTail, ExchangeNext, ExchangeTail, DequeueAt, LoadTail, SwingTail, TakeNumber, TakeValue, ExchangeHead, Work, Getting, Changing, Enqueuing, Dequeuing, Phase, Idle, Runs, Scans, Works, Keeping, TakeList, KeepAt}
use Rattle.inv_ends.proofs.model.Facts.{number_is, false_by}
use Rattle.inv_ends.specs.rows.Rows.{Status, View, Good, RowMove, made, is_settled}
use Rattle.inv_ends.specs.rows.Rows.Hand.{Taken}
use Rattle.inv_ends.specs.rows.Rows.Status.{Free, Claimed, Born, Linked, InQueue, Cut, Sealed, Listed}
use Rattle.inv_ends.specs.rows.Rows.RowMove.{Stays, Claims, Bears, Drops, Links, Replaces, Appends, Pops, Reads, Seals, Lists, Returns, Adopts}
use Rattle.inv_ends.specs.rows.Hands.{is_plain, runs_right, hand_base, base_row, allocate_row, retire_row, scan_row, row_move, change_row, enqueue_row, dequeue_row, keep_row, work_row}
use Rattle.inv_ends.specs.rows.Agree.{Plays}
use Rattle.inv_ends.proofs.rows.Fits.{MoveFits}
use Rattle.inv_ends.proofs.rows.Steps.{of_taken}
use Rattle.inv_all.specs.Contents.Knows.{base_owns, owns_in}
use Rattle.inv_ends.proofs.rows.Made.{passed_linked, passed_settled}
use Rattle.inv_all.proofs.Contents.Contents.Machines.{writes_in}
use Rattle.inv_all.proofs.Contents.Contents.Phases.{change_links, work_links, links_in}
use Rattle.inv_all.proofs.Contents.Contents.Steps.{joins}
use Rattle.inv_ends.proofs.rows.Runs.{taken_slot}

-- a machine that writes a row has it in hand
base_taken : (base : Base) (s : ℕ) → base_owns base s ≡ true → hand_base base ≡ Taken s
base_taken (Begin at) s h = absurd (cc)
base_taken (Protect aim index root steps at) s h = absurd (cc)
base_taken (Reload parent index slot era steps) s h = absurd (cc)
base_taken (Clear rows index) s h = absurd (cc)
base_taken Finish s h = absurd (cc)
base_taken (Release index) s h = absurd (cc)
base_taken (Allocate at) s h = absurd (cc)
base_taken (Write slot row place) s h = ap Taken (number_is slot s h)
base_taken base s h = absurd (cc)

plain_owns : (base : Base) (s : ℕ) → is_plain base ≡ true → base_owns base s ≡ true → ⊥
plain_owns (Begin at) s p h = cc
plain_owns (Protect aim index root steps at) s p h = cc
plain_owns (Reload parent index slot era steps) s p h = cc
plain_owns (Clear rows index) s p h = cc
plain_owns Finish s p h = cc
plain_owns (Release index) s p h = cc
plain_owns (Allocate at) s p h = cc
plain_owns (Write slot row place) s p h = cc
plain_owns (GiveUp slot) s p h = cc
plain_owns (Retire at) s p h = cc
plain_owns (Move at) s p h = cc

why_taken : (v : View) (i : ℕ) (why : Why) (base : Base) (list : List Lifetime) (s : ℕ) → Plays i (Runs why base) list v → runs_right why base ≡ true → base_owns base s ≡ true → v.hand i ≡ Taken s
why_taken v i (Opens task) base list s p r h = absurd (plain_owns base s r h)
why_taken v i (FollowsHead head tail) base list s p r h = absurd (plain_owns base s r h)
why_taken v i (Fills task) base list s p r h = p.hand ∙ base_taken base s h
why_taken v i (ClearsNext next) base list s p r h = absurd (plain_owns base s r h)
why_taken v i (Clears task next) base list s p r h = absurd (plain_owns base s r h)
why_taken v i (Finishes task next) base list s p r h = absurd (plain_owns base s r h)
why_taken v i (GivesUp answer) base list s p r h = p.hand ∙ base_taken base s h
why_taken v i (Retires answer) base list s p r h = p.hand ∙ base_taken base s h
why_taken v i (Tidies later) base list s p r h = absurd (plain_owns base s r h)
why_taken v i Advances base list s p r h = absurd (plain_owns base s r h)
why_taken v i (Releases let_go) base list s p r h = absurd (plain_owns base s r h)

-- the row whose words a seat writes is its own
pub writer_born : (slots : ℕ) (v : View) (i : ℕ) (phase : Phase) (list : List Lifetime) (s : ℕ) → Good slots v → Plays i phase list v → writes_in phase s ≡ true → v.status s ≡ Born i
writer_born slots v i Idle list s g p h = absurd (cc)
writer_born slots v i (Runs why base) list s g p h = of_taken slots v i s g (why_taken v i why base list s p p.right h)
writer_born slots v i (Scans later at) list s g p h = absurd (cc)
writer_born slots v i (Works work) list s g p h = absurd (cc)

why_owned : (v : View) (i : ℕ) (why : Why) (base : Base) (list : List Lifetime) (s : ℕ) → Plays i (Runs why base) list v → owns_in (Runs why base) s ≡ true → v.hand i ≡ Taken s
why_owned v i (Opens task) base list s p h = absurd (cc)
why_owned v i (FollowsHead head tail) base list s p h = absurd (cc)
why_owned v i (Fills task) base list s p h = p.hand ∙ base_taken base s h
why_owned v i why base list s p h = absurd (cc)

change_owned : (v : View) (i : ℕ) (kept : ChangeKept) (at : ChangeAt) (list : List Lifetime) (s : ℕ) → Plays i (Works (Changing kept at)) list v → owns_in (Works (Changing kept at)) s ≡ true → v.hand i ≡ Taken s
change_owned v i kept (LoadVersion slot) list s p h = absurd (cc)
change_owned v i kept (LoadCount slot) list s p h = absurd (cc)
change_owned v i kept (LoadKey slot count) list s p h = absurd (cc)
change_owned v i kept (LoadValue slot count key) list s p h = absurd (cc)
change_owned v i kept (ExchangeRoot slot) list s p h = p.hand ∙ taken_slot kept.taken slot p.right ∙ ap Taken (number_is slot s h)

enqueue_owned : (v : View) (i : ℕ) (kept : EnqueueKept) (at : EnqueueAt) (list : List Lifetime) (s : ℕ) → Plays i (Works (Enqueuing kept at)) list v → owns_in (Works (Enqueuing kept at)) s ≡ true → v.hand i ≡ Taken s
enqueue_owned v i kept LoadNumber list s p h = absurd (cc)
enqueue_owned v i kept LoadNext list s p h = absurd (cc)
enqueue_owned v i kept (PassTail next) list s p h = absurd (cc)
enqueue_owned v i kept (ExchangeNext slot) list s p h = p.hand ∙ taken_slot kept.taken slot p.right ∙ ap Taken (number_is slot s h)
enqueue_owned v i kept (ExchangeTail slot) list s p h = absurd (cc)

work_owned : (v : View) (i : ℕ) (work : Work) (list : List Lifetime) (s : ℕ) → Plays i (Works work) list v → owns_in (Works work) s ≡ true → v.hand i ≡ Taken s
work_owned v i (Getting key at) list s p h = absurd (cc)
work_owned v i (Changing kept at) list s p h = change_owned v i kept at list s p h
work_owned v i (Enqueuing kept at) list s p h = enqueue_owned v i kept at list s p h
work_owned v i (Dequeuing at) list s p h = absurd (cc)
work_owned v i (Keeping at) list s p h = absurd (cc)

pub owner_born : (slots : ℕ) (v : View) (i : ℕ) (phase : Phase) (list : List Lifetime) (s : ℕ) → Good slots v → Plays i phase list v → owns_in phase s ≡ true → v.status s ≡ Born i
owner_born slots v i Idle list s g p h = absurd (cc)
owner_born slots v i (Runs why base) list s g p h = of_taken slots v i s g (why_owned v i why base list s p h)
owner_born slots v i (Scans later at) list s g p h = absurd (cc)
owner_born slots v i (Works work) list s g p h = of_taken slots v i s g (work_owned v i work list s p h)

born_seat : (x : Status) (i k : ℕ) → x ≡ Born i → x ≡ Born k → i ≡ k
born_seat x i k h e = cc

-- no seat writes a row that is settled, or that another seat owns
pub settled_stays : (slots : ℕ) (v : View) (i : ℕ) (phase : Phase) (list : List Lifetime) (s : ℕ) → Good slots v → Plays i phase list v → is_settled (v.status s) ≡ true → writes_in phase s ≡ false
settled_stays slots v i phase list s g p h = false_by (writes_in phase s) (λ w. unsettled (v.status s) i h (writer_born slots v i phase list s g p w))
  where
    unsettled : (x : Status) (j : ℕ) → is_settled x ≡ true → x ≡ Born j → ⊥
    unsettled x j y e = let no : is_settled x ≡ false = rw e refl in cc

pub owned_stays : (slots : ℕ) (v : View) (i k : ℕ) (phase other : Phase) (list more : List Lifetime) (s : ℕ) → (k == i) ≡ false → Good slots v → Plays i phase list v → Plays k other more v → owns_in other s ≡ true → writes_in phase s ≡ false
owned_stays slots v i k phase other list more s d g p q h =
    false_by (writes_in phase s) (λ w. apart i k d (born_seat (v.status s) i k (writer_born slots v i phase list s g p w) (owner_born slots v k other more s g q h)))
  where
    apart : (a b : ℕ) → (b == a) ≡ false → a ≡ b → ⊥
    apart a b x e = grind (arith, nat_tests)

-- what a move that links no row leaves
pub record Keeps (v u : View) : Type 0 where
  pub settled : (s : ℕ) → is_settled (u.status s) ≡ true → is_settled (v.status s) ≡ true
  pub linked : (s b : ℕ) → u.status s ≡ Linked b → v.status s ≡ Linked b
  pub root : (b : ℕ) → u.root b ≡ v.root b

abbrev pub is_settling : RowMove → Bool
is_settling Stays = false
is_settling (Claims slot) = false
is_settling (Bears slot birth) = false
is_settling (Drops slot) = false
is_settling (Links bucket slot) = true
is_settling (Replaces bucket slot old) = true
is_settling (Appends slot) = true
is_settling (Pops slot next) = false
is_settling (Reads slot birth) = false
is_settling (Seals slot birth retire) = false
is_settling (Lists slot birth retire) = false
is_settling (Returns slot) = false
is_settling (Adopts from) = false

abbrev is_linked : Status → Bool
is_linked Free = false
is_linked (Claimed by) = false
is_linked (Born by) = false
is_linked (Linked bucket) = true
is_linked InQueue = false
is_linked (Cut by) = false
is_linked (Sealed by retire) = false
is_linked (Listed by retire) = false

put_settled : (f : ℕ → Status) (slot : ℕ) (x : Status) (s : ℕ) → (is_settled x ≡ true → is_settled (f slot) ≡ true) → is_settled (upd f slot x s) ≡ true → is_settled (f s) ≡ true
put_settled f slot x s k = by_slot (s == slot) refl
  where
    by_slot : (y : Bool) → (s == slot) ≡ y → is_settled (upd f slot x s) ≡ true → is_settled (f s) ≡ true
    by_slot true e h = subst (λ (n : ℕ). is_settled (f n) ≡ true) (sym (number_is s slot e)) (k (subst (λ (y : Bool). is_settled (if y then x else f s) ≡ true) e h))
    by_slot false e h = subst (λ (y : Bool). is_settled (if y then x else f s) ≡ true) e h

put_linked : (f : ℕ → Status) (slot : ℕ) (x : Status) (s b : ℕ) → is_linked x ≡ false → upd f slot x s ≡ Linked b → f s ≡ Linked b
put_linked f slot x s b k = by_slot (s == slot) refl
  where
    by_slot : (y : Bool) → (s == slot) ≡ y → upd f slot x s ≡ Linked b → f s ≡ Linked b
    by_slot true e h = let is : x ≡ Linked b = subst (λ (y : Bool). (if y then x else f s) ≡ Linked b) e h in let yes : is_linked x ≡ true = rw is refl in absurd (cc)
    by_slot false e h = subst (λ (y : Bool). (if y then x else f s) ≡ Linked b) e h

keeps_put : (v u : View) (slot : ℕ) (x : Status) → u.status ≡ upd v.status slot x → u.root ≡ v.root → (is_settled x ≡ true → is_settled (v.status slot) ≡ true) → is_linked x ≡ false → Keeps v u
keeps_put v u slot x e r h k = record {
  settled = λ s y. put_settled v.status slot x s h (subst (λ (f : ℕ → Status). is_settled (f s) ≡ true) e y);
  linked = λ s b y. put_linked v.status slot x s b k (subst (λ (f : ℕ → Status). f s ≡ Linked b) e y);
  root = λ b. ap (λ (f : ℕ → ℕ). f b) r;
}

settled_by : (x y : Status) → x ≡ y → is_settled y ≡ true → is_settled x ≡ true
settled_by x y e h = rw e h

pub keeps_made : (i : ℕ) (v : View) (m : RowMove) → MoveFits i v m → is_settling m ≡ false → Keeps v (made i v m)
keeps_made i v Stays f h = record { settled = λ s y. y; linked = λ s b y. y; root = λ b. refl }
keeps_made i v (Claims slot) f h = keeps_put v (made i v (Claims slot)) slot (Claimed i) refl refl (λ y. absurd (cc)) refl
keeps_made i v (Bears slot birth) f h = keeps_put v (made i v (Bears slot birth)) slot (Born i) refl refl (λ y. absurd (cc)) refl
keeps_made i v (Drops slot) f h = keeps_put v (made i v (Drops slot)) slot Free refl refl (λ y. absurd (cc)) refl
keeps_made i v (Links bucket slot) f h = absurd (cc)
keeps_made i v (Replaces bucket slot old) f h = absurd (cc)
keeps_made i v (Appends slot) f h = absurd (cc)
keeps_made i v (Pops slot next) f h = keeps_put v (made i v (Pops slot next)) slot (Cut i) refl refl (λ y. settled_by (v.status slot) InQueue f refl) refl
keeps_made i v (Reads slot birth) f h = record { settled = λ s y. y; linked = λ s b y. y; root = λ b. refl }
keeps_made i v (Seals slot birth retire) f h = keeps_put v (made i v (Seals slot birth retire)) slot (Sealed i retire) refl refl (λ y. settled_by (v.status slot) (Cut i) f refl) refl
keeps_made i v (Lists slot birth retire) f h = keeps_put v (made i v (Lists slot birth retire)) slot (Listed i retire) refl refl (λ y. settled_by (v.status slot) (Sealed i retire) f refl) refl
keeps_made i v (Returns slot) f h = keeps_put v (made i v (Returns slot)) slot Free refl refl (λ y. absurd (cc)) refl
keeps_made i v (Adopts from) f h = record { settled = λ s y. sym (passed_settled from i (v.status s)) ∙ y; linked = λ s b y. passed_linked from i b (v.status s) y; root = λ b. refl }

-- a step that links no row makes such a move
claim_unlinks : (slot : ℕ) (shown : Bool) → is_settling (if shown then Stays else Claims slot) ≡ false
claim_unlinks slot true = refl
claim_unlinks slot false = refl

allocate_unlinks : (at : AllocateAt) (word : ℕ) → is_settling (allocate_row at word) ≡ false
allocate_unlinks LoadBirth word = refl
allocate_unlinks (ClaimSlot birth walk) word = claim_unlinks walk.slot (is_claimed word walk.slot)
allocate_unlinks (StoreLife birth slot) word = refl

retire_unlinks : (at : RetireAt) (word : ℕ) → is_settling (retire_row at word) ≡ false
retire_unlinks (LoadLife slot) word = refl
retire_unlinks (LoadRetire slot birth) word = refl
retire_unlinks (StoreRetired slot birth retire) word = refl

base_unlinks : (base : Base) (word : ℕ) → is_settling (base_row base word) ≡ false
base_unlinks (Begin at) word = refl
base_unlinks (Protect aim index root steps at) word = refl
base_unlinks (Reload parent index slot era steps) word = refl
base_unlinks (Clear rows index) word = refl
base_unlinks Finish word = refl
base_unlinks (Release index) word = refl
base_unlinks (Allocate at) word = allocate_unlinks at word
base_unlinks (Write slot row place) word = refl
base_unlinks (GiveUp slot) word = refl
base_unlinks (Retire at) word = retire_unlinks at word
base_unlinks (Move at) word = refl

change_unlinks : (kept : ChangeKept) (at : ChangeAt) (post : Post) (word : ℕ) → change_links kept at word ≡ false → is_settling (change_row kept at post word) ≡ false
change_unlinks kept (LoadVersion slot) post word h = refl
change_unlinks kept (LoadCount slot) post word h = refl
change_unlinks kept (LoadKey slot count) post word h = refl
change_unlinks kept (LoadValue slot count key) post word h = refl
change_unlinks kept (ExchangeRoot slot) post word h = rw h refl

enqueue_unlinks : (at : EnqueueAt) (word : ℕ) → joins at word ≡ false → is_settling (enqueue_row at word) ≡ false
enqueue_unlinks LoadNumber word h = refl
enqueue_unlinks LoadNext word h = refl
enqueue_unlinks (PassTail next) word h = refl
enqueue_unlinks (ExchangeNext slot) word h = rw h refl
enqueue_unlinks (ExchangeTail slot) word h = refl

pop_unlinks : (head next : ℕ) (same : Bool) → is_settling (if same then Pops head next else Stays) ≡ false
pop_unlinks head next true = refl
pop_unlinks head next false = refl

dequeue_unlinks : (at : DequeueAt) (word : ℕ) → is_settling (dequeue_row at word) ≡ false
dequeue_unlinks (LoadTail head) word = refl
dequeue_unlinks (SwingTail head next) word = refl
dequeue_unlinks (TakeNumber head next) word = refl
dequeue_unlinks (TakeValue head next number) word = refl
dequeue_unlinks (ExchangeHead head next number value) word = pop_unlinks head next (word == head + 1)

take_unlinks : (place : ℕ) (left : Bool) → is_settling (if left then Adopts place else Stays) ≡ false
take_unlinks place true = refl
take_unlinks place false = refl

keep_unlinks : (at : KeepAt) (word : ℕ) → is_settling (keep_row at word) ≡ false
keep_unlinks (TakeList place) word = take_unlinks place (word == 1)
keep_unlinks at word = refl

work_unlinks : (work : Work) (post : Post) (word : ℕ) → work_links work word ≡ false → is_settling (work_row work post word) ≡ false
work_unlinks (Getting key at) post word h = refl
work_unlinks (Changing kept at) post word h = change_unlinks kept at post word h
work_unlinks (Enqueuing kept at) post word h = enqueue_unlinks at word h
work_unlinks (Dequeuing at) post word h = dequeue_unlinks at word
work_unlinks (Keeping at) post word h = keep_unlinks at word

scan_unlinks : (at : ScanAt) → is_settling (scan_row at) ≡ false
scan_unlinks (ReadGuard number) = refl
scan_unlinks (GiveBack place slot) = refl

pub unlinks : (phase : Phase) (post : Post) (word : ℕ) → links_in phase word ≡ false → is_settling (row_move phase post word) ≡ false
unlinks Idle post word h = refl
unlinks (Runs why base) post word h = base_unlinks base word
unlinks (Scans later at) post word h = scan_unlinks at
unlinks (Works work) post word h = work_unlinks work post word h
