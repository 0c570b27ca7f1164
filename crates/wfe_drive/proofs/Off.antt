-- A step of a call of a seat that stays is on no place word.
use Rattle.std.proofs.Common.{Bool, ap, false, refl, true, ℕ, ◌≡◌}
use Rattle.wfe_core.specs.words.Place.{Place}
use Rattle.wfe_core.specs.defs.declared.call.Call.{Call}
use Rattle.wfe_core.specs.defs.declared.event.Guard.{Guard}
use Rattle.wfe_core.specs.defs.declared.event.Guard.TheVariants as guards
use Rattle.wfe_core.specs.defs.declared.event.Root.{Root}
use Rattle.wfe_core.specs.defs.declared.event.Root.TheVariants as roots
use Rattle.wfe_core.specs.declared.post.Post.{Post}
use Rattle.wfe_core.specs.Calls.{ChangeAt, ChangeKept, DequeueAt, EnqueueAt, EnqueueKept, GetAt, KeepAt, Phase, ScanAt}
use Rattle.wfe_core.specs.Calls.GetAt.{FindVersion}
use Rattle.wfe_core.specs.Calls.ChangeAt.{LoadVersion}
use Rattle.wfe_core.specs.Calls.DequeueAt.{LoadTail}
use Rattle.wfe_core.specs.Calls.EnqueueAt.{LoadNumber}
use Rattle.wfe_core.specs.Calls.KeepAt.{HideSpan, LoadHeld, Loosens, Looks, MarkLeft, MarkTaken, Misses, StoreHeld, TakeList}
use Rattle.wfe_core.specs.Calls.Phase.{Idle, Runs, Scans, Works}
use Rattle.wfe_core.specs.Calls.ScanAt.{GiveBack, ReadGuard}
use Rattle.wfe_core.specs.Calls.Work.{Changing, Dequeuing, Enqueuing, Getting, Keeping}
use Rattle.wfe_core.specs.Change.{change_move}
use Rattle.wfe_core.specs.Dequeue.{dequeue_move}
use Rattle.wfe_core.specs.Enqueue.{enqueue_move}
use Rattle.wfe_core.specs.Get.{get_move}
use Rattle.wfe_core.specs.Guards.{guard_at, guard_by, guard_place, own_guard}
use Rattle.wfe_core.specs.Keep.{keep_move, own_place}
use Rattle.wfe_core.specs.Links.{link_place}
use Rattle.wfe_core.specs.Machine.{allocate_move, base_move, begin_move, hazard_move, move_move, protect_move, retire_move}
use Rattle.wfe_core.specs.Memory.{Move, place_in}
use Rattle.wfe_core.specs.Phases.{AllocateAt, Base, BeginAt, HazardAt, MoveAt, ProtectAt, RetireAt}
use Rattle.wfe_core.specs.Phases.AllocateAt.{LoadBirth}
use Rattle.wfe_core.specs.Phases.Base.{Allocate, Begin, Move as Moves, Protect, Retire}
use Rattle.wfe_core.specs.Phases.BeginAt.{LoadLower}
use Rattle.wfe_core.specs.Phases.HazardAt.{CheckLink, FirstLink, PublishLink}
use Rattle.wfe_core.specs.Phases.MoveAt.{LoadAsked, LoadEra}
use Rattle.wfe_core.specs.Phases.ProtectAt.{ByHazard, LoadLink, LoadOwnLink, LoadWithin}
use Rattle.wfe_core.specs.Phases.RetireAt.{LoadLife}
use Rattle.wfe_core.specs.Rounds.{scheme_of}
use Rattle.wfe_core.specs.Scan.{scan_move}
use Rattle.wfe_core.specs.Steps.{phase_move}
use Rattle.wfe_core.specs.Locals.{busy_in, move, stays}
use Rattle.wfe_core.specs.World.{World}
use Rattle.law_reuse.proofs.AnswersTold.Owed.{Serves}
use Rattle.wfe_drive.specs.Bare.{is_of_seat}
use Rattle.wfe_drive.specs.Reached.{StaysIn}
use Rattle.wfe_drive.proofs.Staying.{right_serves}

root_off : (root : Root) → is_of_seat (link_place root) ≡ false
root_off (roots.Bucket bucket) = refl
root_off roots.Head = refl
root_off roots.Tail = refl
root_off (roots.Next slot) = refl

guard_off : (guard : Guard) → is_of_seat (guard_place guard) ≡ false
guard_off (guards.Helper seat) = refl
guard_off (guards.Index seat index) = refl
guard_off (guards.Whole seat) = refl

hazard_off : (index : ℕ) (root : Root) (at : HazardAt) (post : Post) → is_of_seat (place_in (hazard_move index root at post)) ≡ false
hazard_off index root FirstLink post = root_off root
hazard_off index root (PublishLink link) post = refl
hazard_off index root (CheckLink link) post = root_off root

protect_off : (index : ℕ) (root : Root) (at : ProtectAt) (post : Post) → is_of_seat (place_in (protect_move index root at post)) ≡ false
protect_off index root (LoadLink era tries) post = root_off root
protect_off index root (LoadOwnLink first era last) post = root_off root
protect_off index root LoadWithin post = root_off root
protect_off index root (ByHazard at) post = hazard_off index root at post
protect_off index root at post = refl

begin_off : (at : BeginAt) (post : Post) → is_of_seat (place_in (begin_move at post)) ≡ false
begin_off LoadLower post = refl
begin_off at post = refl

allocate_off : (at : AllocateAt) → is_of_seat (place_in (allocate_move at)) ≡ false
allocate_off LoadBirth = refl
allocate_off at = refl

retire_off : (at : RetireAt) → is_of_seat (place_in (retire_move at)) ≡ false
retire_off (LoadLife slot) = refl
retire_off at = refl

move_off : (at : MoveAt) (post : Post) → is_of_seat (place_in (move_move at post)) ≡ false
move_off (LoadAsked era seat tag index root) post = root_off root
move_off at post = refl

base_off : (base : Base) (post : Post) → is_of_seat (place_in (base_move base post)) ≡ false
base_off (Begin at) post = begin_off at post
base_off (Protect aim index root steps at) post = protect_off index root at post
base_off (Allocate at) post = allocate_off at
base_off (Retire at) post = retire_off at
base_off (Moves at) post = move_off at post
base_off base post = refl

scan_off : (at : ScanAt) (post : Post) → is_of_seat (place_in (scan_move at post)) ≡ false
scan_off (ReadGuard number) post = guard_off (guard_at post.layout.config number)
scan_off (GiveBack place slot) post = refl

get_off : (at : GetAt) → is_of_seat (place_in (get_move at)) ≡ false
get_off (FindVersion slot) = refl
get_off at = refl

change_off : (kept : ChangeKept) (at : ChangeAt) (post : Post) → is_of_seat (place_in (change_move kept at post)) ≡ false
change_off kept (LoadVersion slot) post = refl
change_off kept at post = refl

enqueue_off : (kept : EnqueueKept) (at : EnqueueAt) → is_of_seat (place_in (enqueue_move kept at)) ≡ false
enqueue_off kept LoadNumber = refl
enqueue_off kept at = refl

dequeue_off : (at : DequeueAt) → is_of_seat (place_in (dequeue_move at)) ≡ false
dequeue_off (LoadTail head) = refl
dequeue_off at = refl

keep_off : (call : Call) (at : KeepAt) (post : Post) → stays call ≡ true → Serves call (Works (Keeping at)) → is_of_seat (place_in (keep_move at post)) ≡ false
keep_off call MarkLeft post s v = let no : stays call ≡ false = ap stays v in absurd (cc)
keep_off call (TakeList place) post s v = let no : stays call ≡ false = ap stays v in absurd (cc)
keep_off call (MarkTaken place count) post s v = let no : stays call ≡ false = ap stays v in absurd (cc)
keep_off call (Looks index key at) post s v = get_off at
keep_off call (LoadHeld from index) post s v = guard_off (own_guard (scheme_of post) post.seat from)
keep_off call (Misses index) post s v = guard_off (own_guard (scheme_of post) post.seat index)
keep_off call (Loosens let_go) post s v = refl
keep_off call (StoreHeld from index era) post s v = refl
keep_off call HideSpan post s v = refl

phase_off : (call : Call) (phase : Phase) (post : Post) → stays call ≡ true → (busy_in phase ≡ true → Serves call phase) → is_of_seat (place_in (phase_move phase post)) ≡ false
phase_off call Idle post s v = refl
phase_off call (Runs why base) post s v = base_off base post
phase_off call (Scans later at) post s v = scan_off at post
phase_off call (Works (Getting key at)) post s v = get_off at
phase_off call (Works (Changing kept at)) post s v = change_off kept at post
phase_off call (Works (Enqueuing kept at)) post s v = enqueue_off kept at
phase_off call (Works (Dequeuing at)) post s v = dequeue_off at
phase_off call (Works (Keeping at)) post s v = keep_off call at post s (v refl)

pub move_place : (w : World) (k : ℕ) → StaysIn w k → is_of_seat (place_in (move (w.seat k))) ≡ false
move_place w k g = phase_off (w.seat k).call (w.seat k).phase (w.seat k).post g.call (right_serves w k g)
