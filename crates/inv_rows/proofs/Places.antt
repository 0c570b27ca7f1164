-- Place words: which steps change them, and how.
use Rattle.std.proofs.Common.{ℕ, ◌+◌, ◌-◌, ◌<◌, ◌≡◌, Bool, true, false, arith, refl, sym, ap, ◌∙◌}
use Rattle.std.proofs.lemmas.Bool.Decides.{nat_tests}
use Rattle.std.specs.Prelude.{◌==◌, nat_lt, if◌then◌else◌, bit_or, bit_and}
use Rattle.wfe_core.specs.words.Place.{Place, same}
use Rattle.wfe_core.specs.words.Place.Place.{Clock, Helper, Index, Interval, Request, Bucket, Head, Tail, Claim, Life, Row, PlaceOf}
use Rattle.wfe_core.specs.defs.declared.event.Root.{Root}
use Rattle.wfe_core.specs.declared.post.Post.{Post}
use Rattle.wfe_core.specs.Memory as memory
use Rattle.wfe_core.specs.Memory.{Move, Load, Store, Cas, Or, And, change, place_in, written}
use Rattle.wfe_core.specs.Phases.{Base, BeginAt, ProtectAt, AllocateAt, RetireAt, MoveAt}
use Rattle.wfe_core.specs.Phases.BeginAt.{LoadLower, PublishSpan}
use Rattle.wfe_core.specs.Phases.ProtectAt.{LoadClock, PublishEra, LoadLink, CheckClock, PublishRequest, LoadOwnClock, PublishHelper, LoadOwnLink, CheckOwnClock, AnswerOwn, LoadAnswer, TakeAnswer, WithdrawRequest, WithdrawHelper, LoadWithin, CheckUpper, RaiseUpper, ByHazard}
use Rattle.wfe_core.specs.Phases.HazardAt.{FirstLink, PublishLink, CheckLink}
use Rattle.wfe_core.specs.Phases.AllocateAt.{LoadBirth, ClaimSlot, StoreLife}
use Rattle.wfe_core.specs.Phases.RetireAt.{LoadLife, LoadRetire, StoreRetired}
use Rattle.wfe_core.specs.Phases.MoveAt.{LoadEra, LoadRequest, ShowEra, LoadAsked, CheckEra, AnswerAsked, LoadReserved, HandOver, HideEra, HideLate, ExchangeClock}
use Rattle.wfe_core.specs.Phases.Base.{Begin, Protect, Reload, Clear, Finish, Release, Allocate, Write, GiveUp, Retire, Move as Moves}
use Rattle.wfe_core.specs.Machine as machine
use Rattle.wfe_core.specs.Machine.{base_move}
use Rattle.wfe_core.specs.Get as gets
use Rattle.wfe_core.specs.Keep as keeps
use Rattle.wfe_core.specs.Change as alters
use Rattle.wfe_core.specs.Enqueue as enqueues
use Rattle.wfe_core.specs.Dequeue as dequeues
use Rattle.wfe_core.specs.Desks.{Desk}
use Rattle.wfe_core.specs.Steps.{phase_move, phase_turn, work_move, work_turn}
use Rattle.wfe_core.specs.Scan as scan
use Rattle.wfe_core.specs.Allocate.{is_claimed}
use Rattle.wfe_core.specs.Calls.{ChangeKept, EnqueueKept, ScanAt, ReadGuard, GiveBack, GetAt, FindVersion, FindCount, FindKey, FindValue, ChangeAt, LoadVersion, LoadCount, LoadKey, LoadValue, ExchangeRoot, EnqueueAt, LoadNumber, LoadNext, PassTail, ExchangeNext, ExchangeTail, DequeueAt, LoadTail, SwingTail, TakeNumber, TakeValue, ExchangeHead, Work, Getting, Changing, Enqueuing, Dequeuing, Phase, Idle, Runs, Scans, Works, KeepAt, Loosens, LoadHeld, StoreHeld, Looks, Misses, HideSpan, MarkLeft, TakeList, MarkTaken, Keeping, CallOutcome}
use Rattle.wfe_core.specs.Locals.{busy_in}
use Rattle.wfe_core.proofs.Facts.{no_truth, number_is}
use Rattle.inv_rows.specs.Rows.{RowMove}
use Rattle.inv_rows.specs.Rows.RowMove.{Stays, Claims, Bears, Drops, Links, Replaces, Appends, Pops, Reads, Seals, Lists, Returns, Adopts}
use Rattle.inv_rows.specs.Hands.{base_row, row_move, linked_row, change_row, enqueue_row, dequeue_row, keep_row, work_row, scan_row, allocate_row, retire_row}
use Rattle.inv_rows.specs.Agree.{Present}
use Rattle.inv_rows.proofs.Words.{put_other, missed}
use Rattle.inv_rows.proofs.Quiet.{phase_of}

-- an operation that may change a place word
abbrev pub is_place_word : Place → Bool
is_place_word Clock = false
is_place_word (Helper seat) = false
is_place_word (Index seat index) = false
is_place_word (Interval seat) = false
is_place_word (Request seat) = false
is_place_word (Bucket bucket) = false
is_place_word Head = false
is_place_word Tail = false
is_place_word (Claim word) = false
is_place_word (Life slot) = false
is_place_word (Row slot place) = false
is_place_word (PlaceOf seat) = true

abbrev pub is_placing : Move → Bool
is_placing (Load place) = false
is_placing (Store place value) = is_place_word place
is_placing (Cas place old new) = is_place_word place
is_placing (Or place bits) = is_place_word place
is_placing (And place bits) = is_place_word place

place_apart : (k : ℕ) (p : Place) → is_place_word p ≡ false → same (PlaceOf k) p ≡ false
place_apart k Clock h = refl
place_apart k (Helper i) h = refl
place_apart k (Index i j) h = refl
place_apart k (Interval i) h = refl
place_apart k (Request i) h = refl
place_apart k (Bucket c) h = refl
place_apart k Head h = refl
place_apart k Tail h = refl
place_apart k (Claim v) h = refl
place_apart k (Life t) h = refl
place_apart k (Row t q) h = refl
place_apart k (PlaceOf i) h = absurd (no_truth (sym h))

pub unplaced : (mem : Place → ℕ) (m : Move) (k : ℕ) → is_placing m ≡ false → written mem m (PlaceOf k) ≡ mem (PlaceOf k)
unplaced mem (Load place) k h = refl
unplaced mem (Store place value) k h = put_other mem place (PlaceOf k) value (place_apart k place h)
unplaced mem (Cas place old new) k h = put_other mem place (PlaceOf k) (change (Cas place old new) (mem place)) (place_apart k place h)
unplaced mem (Or place bits) k h = put_other mem place (PlaceOf k) (bit_or (mem place) bits) (place_apart k place h)
unplaced mem (And place bits) k h = put_other mem place (PlaceOf k) (bit_and (mem place) bits) (place_apart k place h)

protect_places : (index : ℕ) (root : Root) (at : ProtectAt) (post : Post) → is_placing (machine.protect_move index root at post) ≡ false
protect_places index root (LoadClock tries) post = refl
protect_places index root (PublishEra era tries) post = refl
protect_places index root (LoadLink era tries) post = refl
protect_places index root (CheckClock era tries link) post = refl
protect_places index root PublishRequest post = refl
protect_places index root LoadOwnClock post = refl
protect_places index root (PublishHelper first era last) post = refl
protect_places index root (LoadOwnLink first era last) post = refl
protect_places index root (CheckOwnClock first era last link) post = refl
protect_places index root (AnswerOwn first era link) post = refl
protect_places index root (LoadAnswer first) post = refl
protect_places index root (TakeAnswer link era) post = refl
protect_places index root (WithdrawRequest link era) post = refl
protect_places index root (WithdrawHelper link era) post = refl
protect_places index root LoadWithin post = refl
protect_places index root (CheckUpper link) post = refl
protect_places index root (RaiseUpper era) post = refl
protect_places index root (ByHazard FirstLink) post = refl
protect_places index root (ByHazard (PublishLink link)) post = refl
protect_places index root (ByHazard (CheckLink link)) post = refl

move_places : (at : MoveAt) (post : Post) → is_placing (machine.move_move at post) ≡ false
move_places (LoadEra helps) post = refl
move_places (LoadRequest era seat shows) post = refl
move_places (ShowEra era seat tag index root) post = refl
move_places (LoadAsked era seat tag index root) post = refl
move_places (CheckEra era seat tag index root link) post = refl
move_places (AnswerAsked era seat tag index root link) post = refl
move_places (LoadReserved era seat tag index root link) post = refl
move_places (HandOver era seat tag index root link old) post = refl
move_places (HideEra era) post = refl
move_places (HideLate seen) post = refl
move_places (ExchangeClock era) post = refl

begin_places : (at : BeginAt) (post : Post) → is_placing (machine.begin_move at post) ≡ false
begin_places LoadLower post = refl
begin_places (PublishSpan era) post = refl

allocate_places : (at : AllocateAt) → is_placing (machine.allocate_move at) ≡ false
allocate_places LoadBirth = refl
allocate_places (ClaimSlot birth walk) = refl
allocate_places (StoreLife birth slot) = refl

retire_places : (at : RetireAt) → is_placing (machine.retire_move at) ≡ false
retire_places (LoadLife slot) = refl
retire_places (LoadRetire slot birth) = refl
retire_places (StoreRetired slot birth retire) = refl

pub base_places : (base : Base) (post : Post) → is_placing (base_move base post) ≡ false
base_places (Begin at) post = begin_places at post
base_places (Protect aim index root steps at) post = protect_places index root at post
base_places (Reload parent index slot era steps) post = refl
base_places (Clear rows index) post = refl
base_places Finish post = refl
base_places (Release index) post = refl
base_places (Allocate at) post = allocate_places at
base_places (Write slot row place) post = refl
base_places (GiveUp slot) post = refl
base_places (Retire at) post = retire_places at
base_places (Moves at) post = move_places at post

pub get_places : (at : GetAt) → is_placing (gets.get_move at) ≡ false
get_places (FindVersion slot) = refl
get_places (FindCount slot version) = refl
get_places (FindKey slot version count pair) = refl
get_places (FindValue slot version pair) = refl

pub change_places : (kept : ChangeKept) (at : ChangeAt) (post : Post) → is_placing (alters.change_move kept at post) ≡ false
change_places kept (LoadVersion slot) post = refl
change_places kept (LoadCount slot) post = refl
change_places kept (LoadKey slot count) post = refl
change_places kept (LoadValue slot count key) post = refl
change_places kept (ExchangeRoot slot) post = refl

pub enqueue_places : (kept : EnqueueKept) (at : EnqueueAt) → is_placing (enqueues.enqueue_move kept at) ≡ false
enqueue_places kept LoadNumber = refl
enqueue_places kept LoadNext = refl
enqueue_places kept (PassTail next) = refl
enqueue_places kept (ExchangeNext slot) = refl
enqueue_places kept (ExchangeTail slot) = refl

pub dequeue_places : (at : DequeueAt) → is_placing (dequeues.dequeue_move at) ≡ false
dequeue_places (LoadTail head) = refl
dequeue_places (SwingTail head next) = refl
dequeue_places (TakeNumber head next) = refl
dequeue_places (TakeValue head next number) = refl
dequeue_places (ExchangeHead head next number value) = refl

-- the move takes the list of this seat over
abbrev pub adopts : RowMove → ℕ → Bool
adopts Stays k = false
adopts (Claims slot) k = false
adopts (Bears slot birth) k = false
adopts (Drops slot) k = false
adopts (Links bucket slot) k = false
adopts (Replaces bucket slot old) k = false
adopts (Appends slot) k = false
adopts (Pops slot next) k = false
adopts (Reads slot birth) k = false
adopts (Seals slot birth retire) k = false
adopts (Lists slot birth retire) k = false
adopts (Returns slot) k = false
adopts (Adopts from) k = k == from

-- a place word after a step of seat i, which was busy: a word that is 0 stays so, but for the own one of a seat that leaves;
-- a list that is taken over stays so; and a list is taken over where the move says so
pub record Placed (i : ℕ) (mem after : Place → ℕ) (m : RowMove) (outcome : CallOutcome) : Type 0 where
  pub zero : (k : ℕ) → (k == i) ≡ false → mem (PlaceOf k) ≡ 0 → after (PlaceOf k) ≡ 0
  pub taken : (k : ℕ) → 1 < mem (PlaceOf k) → 1 < after (PlaceOf k)
  pub left : (k : ℕ) → adopts m k ≡ false → nat_lt 1 (after (PlaceOf k)) ≡ nat_lt 1 (mem (PlaceOf k))
  pub gone : (k : ℕ) → adopts m k ≡ true → (mem (PlaceOf k) ≡ 1) × (nat_lt 1 (after (PlaceOf k)) ≡ true)
  pub here : busy_in (phase_of outcome) ≡ true → after (PlaceOf i) ≡ 0

-- only a list that is taken over is adopted
adopts_if : (b : Bool) (x y : RowMove) (k : ℕ) → adopts x k ≡ false → adopts y k ≡ false → adopts (if b then x else y) k ≡ false
adopts_if true x y k h g = h
adopts_if false x y k h g = g

allocate_adopts : (at : AllocateAt) (found k : ℕ) → adopts (allocate_row at found) k ≡ false
allocate_adopts LoadBirth found k = refl
allocate_adopts (ClaimSlot birth walk) found k = adopts_if (is_claimed found walk.slot) Stays (Claims walk.slot) k refl refl
allocate_adopts (StoreLife birth slot) found k = refl

retire_adopts : (at : RetireAt) (found k : ℕ) → adopts (retire_row at found) k ≡ false
retire_adopts (LoadLife slot) found k = refl
retire_adopts (LoadRetire slot birth) found k = refl
retire_adopts (StoreRetired slot birth retire) found k = refl

base_adopts : (base : Base) (found k : ℕ) → adopts (base_row base found) k ≡ false
base_adopts (Begin at) found k = refl
base_adopts (Protect aim index root steps at) found k = refl
base_adopts (Reload parent index slot era steps) found k = refl
base_adopts (Clear rows index) found k = refl
base_adopts Finish found k = refl
base_adopts (Release index) found k = refl
base_adopts (Allocate at) found k = allocate_adopts at found k
base_adopts (Write slot row place) found k = refl
base_adopts (GiveUp slot) found k = refl
base_adopts (Retire at) found k = retire_adopts at found k
base_adopts (Moves at) found k = refl

change_adopts : (kept : ChangeKept) (at : ChangeAt) (post : Post) (found k : ℕ) → adopts (change_row kept at post found) k ≡ false
change_adopts kept (LoadVersion slot) post found k = refl
change_adopts kept (LoadCount slot) post found k = refl
change_adopts kept (LoadKey slot count) post found k = refl
change_adopts kept (LoadValue slot count key) post found k = refl
change_adopts kept (ExchangeRoot slot) post found k =
    let b : ℕ = alters.changed_bucket kept post in
    adopts_if (found == kept.link) (linked_row b slot kept.link) Stays k (adopts_if (kept.link == 0) (Links b slot) (Replaces b slot (kept.link - 1)) k refl refl) refl

enqueue_adopts : (at : EnqueueAt) (found k : ℕ) → adopts (enqueue_row at found) k ≡ false
enqueue_adopts LoadNumber found k = refl
enqueue_adopts LoadNext found k = refl
enqueue_adopts (PassTail next) found k = refl
enqueue_adopts (ExchangeNext slot) found k = adopts_if (found == 0) (Appends slot) Stays k refl refl
enqueue_adopts (ExchangeTail slot) found k = refl

dequeue_adopts : (at : DequeueAt) (found k : ℕ) → adopts (dequeue_row at found) k ≡ false
dequeue_adopts (LoadTail head) found k = refl
dequeue_adopts (SwingTail head next) found k = refl
dequeue_adopts (TakeNumber head next) found k = refl
dequeue_adopts (TakeValue head next number) found k = refl
dequeue_adopts (ExchangeHead head next number value) found k = adopts_if (found == head + 1) (Pops head next) Stays k refl refl

scan_adopts : (at : ScanAt) (k : ℕ) → adopts (scan_row at) k ≡ false
scan_adopts (ReadGuard number) k = refl
scan_adopts (GiveBack place slot) k = refl

-- a step that writes no place word
placed_plain : (i : ℕ) (mem : Place → ℕ) (m : Move) (r : RowMove) (outcome : CallOutcome) → mem (PlaceOf i) ≡ 0 → is_placing m ≡ false → ((k : ℕ) → adopts r k ≡ false) → Placed i mem (written mem m) r outcome
placed_plain i mem m r outcome z h a = record {
  zero = λ k e u. unplaced mem m k h ∙ u;
  taken = λ k u. rw (unplaced mem m k h) u;
  left = λ k e. ap (nat_lt 1) (unplaced mem m k h);
  gone = λ k e. absurd (no_truth (sym (a k) ∙ e));
  here = λ b. unplaced mem m i h ∙ z;
}

-- a seat's own place is marked as left: its call ends with that
placed_left : (i : ℕ) (mem : Place → ℕ) (post : Post) (outcome : CallOutcome) → post.seat ≡ i → mem (PlaceOf i) ≡ 0 → busy_in (phase_of outcome) ≡ false → Placed i mem (written mem (Store (PlaceOf post.seat) 1)) Stays outcome
placed_left i mem post outcome s z b = record {
  zero = λ k e u. grind (arith, nat_tests, s, u);
  taken = λ k u. grind (arith, nat_tests, s, u, z);
  left = λ k e. grind (arith, nat_tests, s, z);
  gone = λ k e. absurd (no_truth e);
  here = λ h. absurd (no_truth (sym b ∙ h));
}

-- a list is taken over where one was left
placed_takes : (i : ℕ) (mem : Place → ℕ) (place : ℕ) (outcome : CallOutcome) (left : Bool) → (mem (PlaceOf place) == 1) ≡ left → mem (PlaceOf i) ≡ 0 → Placed i mem (written mem (Cas (PlaceOf place) 1 2)) (if left then Adopts place else Stays) outcome
placed_takes i mem place outcome true e z = record {
  zero = λ k h u. grind (arith, nat_tests, e, u);
  taken = λ k u. grind (arith, nat_tests, e, u);
  left = λ k h. grind (arith, nat_tests, e, h);
  gone = λ k h. let same : k ≡ place = number_is k place h in (ap (λ (x : ℕ). mem (PlaceOf x)) same ∙ number_is (mem (PlaceOf place)) 1 e, grind (arith, nat_tests, e, h));
  here = λ b. grind (arith, nat_tests, e, z);
}
placed_takes i mem place outcome false e z = record {
  zero = λ k h u. missed mem (PlaceOf place) (PlaceOf k) 1 2 e ∙ u;
  taken = λ k u. rw (missed mem (PlaceOf place) (PlaceOf k) 1 2 e) u;
  left = λ k h. ap (nat_lt 1) (missed mem (PlaceOf place) (PlaceOf k) 1 2 e);
  gone = λ k h. absurd (no_truth h);
  here = λ b. missed mem (PlaceOf place) (PlaceOf i) 1 2 e ∙ z;
}

-- a list that was taken over is marked so
placed_marks : (i : ℕ) (mem : Place → ℕ) (place : ℕ) (outcome : CallOutcome) → mem (PlaceOf i) ≡ 0 → 1 < mem (PlaceOf place) → Placed i mem (written mem (Store (PlaceOf place) 3)) Stays outcome
placed_marks i mem place outcome z t = record {
  zero = λ k h u. grind (arith, nat_tests, t, u);
  taken = λ k u. grind (arith, nat_tests, t, u);
  left = λ k h. grind (arith, nat_tests, t);
  gone = λ k h. absurd (no_truth h);
  here = λ b. grind (arith, nat_tests, t, z);
}

-- a step of a seat that is busy
keep_placed : (i : ℕ) (mem : Place → ℕ) (at : KeepAt) (post next : Post) (desk : Desk) → post.seat ≡ i → Present mem i (Works (Keeping at)) → Placed i mem (written mem (keeps.keep_move at post)) (keep_row at (memory.found (keeps.keep_move at post) (mem (place_in (keeps.keep_move at post))))) (keeps.keep_turn at next desk (memory.found (keeps.keep_move at post) (mem (place_in (keeps.keep_move at post))))).outcome
keep_placed i mem (Loosens let_go) post next desk s p = placed_plain i mem (keeps.keep_move (Loosens let_go) post) Stays _ (p.here refl) refl (λ k. refl)
keep_placed i mem (LoadHeld from index) post next desk s p = placed_plain i mem (keeps.keep_move (LoadHeld from index) post) Stays _ (p.here refl) refl (λ k. refl)
keep_placed i mem (StoreHeld from index era) post next desk s p = placed_plain i mem (keeps.keep_move (StoreHeld from index era) post) Stays _ (p.here refl) refl (λ k. refl)
keep_placed i mem (Looks index key at) post next desk s p = placed_plain i mem (gets.get_move at) Stays _ (p.here refl) (get_places at) (λ k. refl)
keep_placed i mem (Misses index) post next desk s p = placed_plain i mem (keeps.keep_move (Misses index) post) Stays _ (p.here refl) refl (λ k. refl)
keep_placed i mem HideSpan post next desk s p = placed_plain i mem (keeps.keep_move HideSpan post) Stays _ (p.here refl) refl (λ k. refl)
keep_placed i mem MarkLeft post next desk s p = placed_left i mem post _ s (p.here refl) refl
keep_placed i mem (TakeList place) post next desk s p = placed_takes i mem place _ (mem (PlaceOf place) == 1) refl (p.here refl)
keep_placed i mem (MarkTaken place count) post next desk s p = placed_marks i mem place _ (p.here refl) (p.marks place count refl)

work_placed : (i : ℕ) (mem : Place → ℕ) (work : Work) (post next : Post) (desk : Desk) → post.seat ≡ i → Present mem i (Works work) → Placed i mem (written mem (work_move work post)) (work_row work post (memory.found (work_move work post) (mem (place_in (work_move work post))))) (work_turn work next desk (memory.found (work_move work post) (mem (place_in (work_move work post))))).outcome
work_placed i mem (Getting key at) post next desk s p = placed_plain i mem (gets.get_move at) Stays _ (p.here refl) (get_places at) (λ k. refl)
work_placed i mem (Changing kept at) post next desk s p =
    placed_plain i mem (alters.change_move kept at post) (change_row kept at post (memory.found (alters.change_move kept at post) (mem (place_in (alters.change_move kept at post))))) _ (p.here refl) (change_places kept at post) (change_adopts kept at post _)
work_placed i mem (Enqueuing kept at) post next desk s p =
    placed_plain i mem (enqueues.enqueue_move kept at) (enqueue_row at (memory.found (enqueues.enqueue_move kept at) (mem (place_in (enqueues.enqueue_move kept at))))) _ (p.here refl) (enqueue_places kept at) (enqueue_adopts at _)
work_placed i mem (Dequeuing at) post next desk s p =
    placed_plain i mem (dequeues.dequeue_move at) (dequeue_row at (memory.found (dequeues.dequeue_move at) (mem (place_in (dequeues.dequeue_move at))))) _ (p.here refl) (dequeue_places at) (dequeue_adopts at _)
work_placed i mem (Keeping at) post next desk s p = keep_placed i mem at post next desk s p

pub scan_places : (at : ScanAt) (post : Post) → is_placing (scan.scan_move at post) ≡ false
scan_places (ReadGuard number) post = refl
scan_places (GiveBack place slot) post = refl

pub phase_placed : (i : ℕ) (mem : Place → ℕ) (phase : Phase) (post next : Post) (desk : Desk) → busy_in phase ≡ true → post.seat ≡ i → Present mem i phase → Placed i mem (written mem (phase_move phase post)) (row_move phase post (memory.found (phase_move phase post) (mem (place_in (phase_move phase post))))) (phase_turn phase next desk (memory.found (phase_move phase post) (mem (place_in (phase_move phase post))))).outcome
phase_placed i mem Idle post next desk b s p = absurd (no_truth b)
phase_placed i mem (Runs why base) post next desk b s p =
    placed_plain i mem (base_move base post) (base_row base (memory.found (base_move base post) (mem (place_in (base_move base post))))) _ (p.here refl) (base_places base post) (base_adopts base _)
phase_placed i mem (Scans later at) post next desk b s p = placed_plain i mem (scan.scan_move at post) (scan_row at) _ (p.here refl) (scan_places at post) (scan_adopts at)
phase_placed i mem (Works work) post next desk b s p = work_placed i mem work post next desk s p
