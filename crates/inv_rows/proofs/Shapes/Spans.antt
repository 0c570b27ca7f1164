-- A seat's interval word is written by that seat alone.
use Rattle.std.proofs.Common.{ℕ, ◌≡◌, true, false, refl, sym, subst, arith}
use Rattle.std.proofs.lemmas.Bool.Decides.{nat_tests}
use Rattle.std.specs.Prelude.{◌==◌}
use Rattle.wfe_core.specs.words.Place.{Place}
use Rattle.wfe_core.specs.words.Place.Place.{Interval}
use Rattle.wfe_core.specs.defs.declared.event.Root.{Root}
use Rattle.wfe_core.specs.declared.post.Post.{Post}
use Rattle.wfe_core.specs.Memory.{written, put}
use Rattle.wfe_core.specs.Posts.{withdrawn_all}
use Rattle.wfe_core.specs.Phases.{BeginAt, HazardAt, ProtectAt, AllocateAt, RetireAt, MoveAt, Base}
use Rattle.wfe_core.specs.Phases.BeginAt.{LoadLower, PublishSpan}
use Rattle.wfe_core.specs.Phases.ProtectAt.{RaiseUpper, ByHazard}
use Rattle.wfe_core.specs.Phases.HazardAt.{FirstLink}
use Rattle.wfe_core.specs.Phases.AllocateAt.{LoadBirth}
use Rattle.wfe_core.specs.Phases.RetireAt.{LoadLife}
use Rattle.wfe_core.specs.Phases.MoveAt.{LoadEra}
use Rattle.wfe_core.specs.Phases.Base.{Begin, Protect, Reload, Clear, Finish, Release, Allocate, Write, GiveUp, Retire, Move as Moves}
use Rattle.wfe_core.specs.Machine.{begin_move, hazard_move, protect_move, allocate_move, retire_move, move_move, base_move}
use Rattle.wfe_core.specs.Get.{get_move}
use Rattle.wfe_core.specs.Change.{change_move}
use Rattle.wfe_core.specs.Enqueue.{enqueue_move}
use Rattle.wfe_core.specs.Dequeue.{dequeue_move}
use Rattle.wfe_core.specs.Keep.{keep_move}
use Rattle.wfe_core.specs.Scan.{scan_move}
use Rattle.wfe_core.specs.Steps.{work_move, phase_move}
use Rattle.wfe_core.specs.Calls.{ChangeKept, EnqueueKept, GetAt, FindVersion, ChangeAt, LoadVersion, EnqueueAt, LoadNumber, DequeueAt, LoadTail, KeepAt, Loosens, LoadHeld, StoreHeld, Looks, Misses, HideSpan, MarkLeft, TakeList, MarkTaken, Work, Getting, Changing, Enqueuing, Dequeuing, Keeping, ScanAt, ReadGuard, GiveBack, Phase, Idle, Runs, Scans, Works}
use Rattle.inv_rows.specs.Shapes.Frame.{bared}

-- the own word
pub own_span : (mem : Place → ℕ) (seat k value : ℕ) → seat ≡ k → put mem (Interval seat) value (Interval k) ≡ value
own_span mem seat k value e = let t : (k == seat) ≡ true = grind (arith, nat_tests) in rw t refl

other_span : (mem : Place → ℕ) (seat k value : ℕ) → (k == seat) ≡ false → put mem (Interval seat) value (Interval k) ≡ mem (Interval k)
other_span mem seat k value e = rw e refl

begin_span : (mem : Place → ℕ) (k : ℕ) (at : BeginAt) (post : Post) → (k == post.seat) ≡ false → written mem (begin_move at post) (Interval k) ≡ mem (Interval k)
begin_span mem k LoadLower post e = refl
begin_span mem k (PublishSpan era) post e = other_span mem post.seat k _ e

hazard_span : (mem : Place → ℕ) (k index : ℕ) (root : Root) (at : HazardAt) (post : Post) → written mem (hazard_move index root at post) (Interval k) ≡ mem (Interval k)
hazard_span mem k index root FirstLink post = refl
hazard_span mem k index root at post = refl

protect_span : (mem : Place → ℕ) (k index : ℕ) (root : Root) (at : ProtectAt) (post : Post) → (k == post.seat) ≡ false → written mem (protect_move index root at post) (Interval k) ≡ mem (Interval k)
protect_span mem k index root (RaiseUpper era) post e = other_span mem post.seat k _ e
protect_span mem k index root (ByHazard at) post e = hazard_span mem k index root at post
protect_span mem k index root at post e = refl

allocate_span : (mem : Place → ℕ) (k : ℕ) (at : AllocateAt) → written mem (allocate_move at) (Interval k) ≡ mem (Interval k)
allocate_span mem k LoadBirth = refl
allocate_span mem k at = refl

retire_span : (mem : Place → ℕ) (k : ℕ) (at : RetireAt) → written mem (retire_move at) (Interval k) ≡ mem (Interval k)
retire_span mem k (LoadLife slot) = refl
retire_span mem k at = refl

move_span : (mem : Place → ℕ) (k : ℕ) (at : MoveAt) (post : Post) → written mem (move_move at post) (Interval k) ≡ mem (Interval k)
move_span mem k (LoadEra helps) post = refl
move_span mem k at post = refl

base_span : (mem : Place → ℕ) (k : ℕ) (base : Base) (post : Post) → (k == post.seat) ≡ false → written mem (base_move base post) (Interval k) ≡ mem (Interval k)
base_span mem k (Begin at) post e = begin_span mem k at post e
base_span mem k (Protect aim index root steps at) post e = protect_span mem k index root at post e
base_span mem k (Reload parent index slot era steps) post e = refl
base_span mem k (Clear rows index) post e = refl
base_span mem k Finish post e = other_span mem post.seat k 0 e
base_span mem k (Release index) post e = other_span mem post.seat k 0 e
base_span mem k (Allocate at) post e = allocate_span mem k at
base_span mem k (Write slot row place) post e = refl
base_span mem k (GiveUp slot) post e = refl
base_span mem k (Retire at) post e = retire_span mem k at
base_span mem k (Moves at) post e = move_span mem k at post

get_span : (mem : Place → ℕ) (k : ℕ) (at : GetAt) → written mem (get_move at) (Interval k) ≡ mem (Interval k)
get_span mem k (FindVersion slot) = refl
get_span mem k at = refl

change_span : (mem : Place → ℕ) (k : ℕ) (kept : ChangeKept) (at : ChangeAt) (post : Post) → written mem (change_move kept at post) (Interval k) ≡ mem (Interval k)
change_span mem k kept (LoadVersion slot) post = refl
change_span mem k kept at post = refl

enqueue_span : (mem : Place → ℕ) (k : ℕ) (kept : EnqueueKept) (at : EnqueueAt) → written mem (enqueue_move kept at) (Interval k) ≡ mem (Interval k)
enqueue_span mem k kept LoadNumber = refl
enqueue_span mem k kept at = refl

dequeue_span : (mem : Place → ℕ) (k : ℕ) (at : DequeueAt) → written mem (dequeue_move at) (Interval k) ≡ mem (Interval k)
dequeue_span mem k (LoadTail head) = refl
dequeue_span mem k at = refl

keep_span : (mem : Place → ℕ) (k : ℕ) (at : KeepAt) (post : Post) → (k == post.seat) ≡ false → written mem (keep_move at post) (Interval k) ≡ mem (Interval k)
keep_span mem k (Loosens let_go) post e = refl
keep_span mem k (LoadHeld from index) post e = refl
keep_span mem k (StoreHeld from index era) post e = refl
keep_span mem k (Looks index key at) post e = get_span mem k at
keep_span mem k (Misses index) post e = refl
keep_span mem k HideSpan post e = other_span mem post.seat k 0 e
keep_span mem k MarkLeft post e = refl
keep_span mem k (TakeList place) post e = refl
keep_span mem k (MarkTaken place count) post e = refl

-- a call's own step writes the own alone, and only where all is let go
pub work_span : (mem : Place → ℕ) (k : ℕ) (work : Work) (post : Post) → (k == post.seat) ≡ false → written mem (work_move work post) (Interval k) ≡ mem (Interval k)
work_span mem k (Getting key at) post e = get_span mem k at
work_span mem k (Changing kept at) post e = change_span mem k kept at post
work_span mem k (Enqueuing kept at) post e = enqueue_span mem k kept at
work_span mem k (Dequeuing at) post e = dequeue_span mem k at
work_span mem k (Keeping at) post e = keep_span mem k at post e

-- the interval word after a step of a call's own is what it was, or none stands
keep_left : (Q : ℕ → Post → Type 0) (mem : Place → ℕ) (k : ℕ) (at : KeepAt) (post : Post) → post.seat ≡ k → Q (mem (Interval k)) post → Q 0 (withdrawn_all post)
    → Q (written mem (keep_move at post) (Interval k)) (bared (Keeping at) post)
keep_left Q mem k (Loosens let_go) post e h n = h
keep_left Q mem k (LoadHeld from index) post e h n = h
keep_left Q mem k (StoreHeld from index era) post e h n = h
keep_left Q mem k (Looks index key at) post e h n = subst (λ (word : ℕ). Q word post) (sym (get_span mem k at)) h
keep_left Q mem k (Misses index) post e h n = h
keep_left Q mem k HideSpan post e h n = subst (λ (word : ℕ). Q word (withdrawn_all post)) (sym (own_span mem post.seat k 0 e)) n
keep_left Q mem k MarkLeft post e h n = h
keep_left Q mem k (TakeList place) post e h n = h
keep_left Q mem k (MarkTaken place count) post e h n = h

pub work_left : (Q : ℕ → Post → Type 0) (mem : Place → ℕ) (k : ℕ) (work : Work) (post : Post) → post.seat ≡ k → Q (mem (Interval k)) post → Q 0 (withdrawn_all post)
    → Q (written mem (work_move work post) (Interval k)) (bared work post)
work_left Q mem k (Getting key at) post e h n = subst (λ (word : ℕ). Q word post) (sym (get_span mem k at)) h
work_left Q mem k (Changing kept at) post e h n = subst (λ (word : ℕ). Q word post) (sym (change_span mem k kept at post)) h
work_left Q mem k (Enqueuing kept at) post e h n = subst (λ (word : ℕ). Q word post) (sym (enqueue_span mem k kept at)) h
work_left Q mem k (Dequeuing at) post e h n = subst (λ (word : ℕ). Q word post) (sym (dequeue_span mem k at)) h
work_left Q mem k (Keeping at) post e h n = keep_left Q mem k at post e h n

pub scan_span : (mem : Place → ℕ) (k : ℕ) (at : ScanAt) (post : Post) → written mem (scan_move at post) (Interval k) ≡ mem (Interval k)
scan_span mem k (ReadGuard number) post = refl
scan_span mem k (GiveBack place slot) post = refl

-- no step of another seat writes it
pub phase_span : (mem : Place → ℕ) (k : ℕ) (phase : Phase) (post : Post) → (k == post.seat) ≡ false → written mem (phase_move phase post) (Interval k) ≡ mem (Interval k)
phase_span mem k Idle post e = refl
phase_span mem k (Runs why base) post e = base_span mem k base post e
phase_span mem k (Scans later at) post e = scan_span mem k at post
phase_span mem k (Works work) post e = work_span mem k work post e
