-- What machines tell, and which words of rows they write.
use Rattle.std.proofs.Common.{ℕ, ◌≤◌, ◌≡◌, Bool, true, false, ◌&&◌, arith, refl, List}
use Rattle.std.proofs.lemmas.Bool.Decides.{nat_tests}
use Rattle.std.specs.Prelude.{◌==◌, Option, Some, None}
use Rattle.inv_ends.specs.model.words.Place.{Place, same}
use Rattle.inv_ends.specs.model.words.Place.Place.{Row}
use Rattle.inv_ends.specs.model.words.Packed.{reservation_word}
use Rattle.inv_ends.specs.model.defs.declared.event.Event.{Event}
use Rattle.inv_ends.specs.model.defs.declared.event.Root.{Root}
use Rattle.inv_ends.specs.model.defs.declared.event.Root.TheVariants as roots
use Rattle.inv_ends.specs.model.declared.post.Post.{Post}
use Rattle.inv_ends.specs.model.Allocate as allocates
use Rattle.inv_ends.specs.model.Machine as machine
use Rattle.inv_ends.specs.model.Machine.{base_move}
use Rattle.inv_ends.specs.model.Memory as memory
use Rattle.inv_ends.specs.model.Memory.{bump, written}
use Rattle.inv_ends.specs.model.MoveClock as movers
use Rattle.inv_ends.specs.model.Protect as protects
use Rattle.inv_ends.specs.model.Posts.{stands, cleared, reserves_index, reserves_helper, reserves_span, publishes_index}
use Rattle.inv_ends.specs.model.Phases.{Aim, Alone, Follows, BeginAt, ProtectAt, AllocateAt, RetireAt, MoveAt, Walk, Base, Turn}
use Rattle.inv_ends.specs.model.Phases.BeginAt.{LoadLower, PublishSpan}
use Rattle.inv_ends.specs.model.Phases.ProtectAt.{LoadClock, PublishEra, LoadLink, CheckClock, PublishRequest, LoadOwnClock, PublishHelper, LoadOwnLink, CheckOwnClock, AnswerOwn, LoadAnswer, TakeAnswer, WithdrawRequest, WithdrawHelper, LoadWithin, CheckUpper, RaiseUpper, ByHazard}
use Rattle.inv_ends.specs.model.Phases.HazardAt.{FirstLink, PublishLink, CheckLink}
use Rattle.inv_ends.specs.model.Phases.AllocateAt.{LoadBirth, ClaimSlot, StoreLife}
use Rattle.inv_ends.specs.model.Phases.RetireAt.{LoadLife, LoadRetire, StoreRetired}
use Rattle.inv_ends.specs.model.Phases.MoveAt.{LoadEra, LoadRequest, ShowEra, LoadAsked, CheckEra, AnswerAsked, LoadReserved, HandOver, HideEra, HideLate, ExchangeClock}
use Rattle.inv_ends.specs.model.Phases.Base.{Begin, Protect, Reload, Clear, Finish, Release, Allocate, Write, GiveUp, Retire, Move}
use Rattle.inv_ends.specs.model.Scan as scan
use Rattle.inv_ends.specs.model.Steps.{phase_move, work_move}
use Rattle.inv_ends.specs.model.Calls.{EnqueueKept, EnqueueAt, LoadNumber, LoadNext, PassTail, ExchangeNext, ExchangeTail, ScanAt, ReadGuard, GiveBack, Work, Getting, Changing, Enqueuing, Dequeuing, Phase, Idle, Runs, Scans, Works, Keeping}
use Rattle.inv_all.specs.Contents.Knows.{base_owns}
use Rattle.inv_all.proofs.Contents.Contents.Told.{all_calm, calm_append}
use Rattle.inv_ends.specs.model.Enqueue as enqueues
use Rattle.inv_ends.proofs.rows.Writers.{dequeue_stays, get_stays, change_stays, keep_stays}

abbrev pub Tells : Turn → Type 0
Tells t = all_calm t.told ≡ true

held_calm : (index : ℕ) (root : Root) (link n : ℕ) → all_calm (protects.told_held index root link n) ≡ true
held_calm index (roots.Next parent) link n = grind arith
held_calm index (roots.Bucket bucket) link n = grind arith
held_calm index roots.Head link n = grind arith
held_calm index roots.Tail link n = grind arith

concluded_calm : (aim : Aim) (index : ℕ) (root : Root) (n link era : ℕ) (post : Post) (told : List Event) → all_calm told ≡ true → Tells (protects.concluded aim index root n link era post told)
concluded_calm Alone index root n link era post told h = h
concluded_calm Follows index root n link era post told h = by_link (link == 0) refl
  where
    by_link : (x : Bool) → (link == 0) ≡ x → Tells (protects.concluded Follows index root n link era post told)
    by_link true e = rw e h
    by_link false e = rw e h

protected_calm : (aim : Aim) (index : ℕ) (root : Root) (n link era : ℕ) (post : Post) → Tells (protects.protected aim index root n link era post)
protected_calm aim index root n link era post = concluded_calm aim index root n link era (protects.held_post post index root link) (protects.told_held index root link n) (held_calm index root link n)

protect_calm : (aim : Aim) (index : ℕ) (root : Root) (n : ℕ) (at : ProtectAt) (post : Post) (found : ℕ) → Tells (machine.protect_turn aim index root n at post found)
protect_calm aim index root n (LoadClock tries) post found = refl
protect_calm aim index root n (PublishEra era tries) post found = refl
protect_calm aim index root n (LoadLink era tries) post found = refl
protect_calm aim index root n (CheckClock era tries link) post found = grind (arith, protected_calm aim index root n link era post)
protect_calm aim index root n PublishRequest post found = refl
protect_calm aim index root n LoadOwnClock post found = refl
protect_calm aim index root n (PublishHelper first era last) post found = refl
protect_calm aim index root n (LoadOwnLink first era last) post found = refl
protect_calm aim index root n (CheckOwnClock first era last link) post found = grind arith
protect_calm aim index root n (AnswerOwn first era link) post found = grind arith
protect_calm aim index root n (LoadAnswer first) post found = refl
protect_calm aim index root n (TakeAnswer link era) post found = calm_append (reserves_index post index era) (protects.told_held index root link n) refl (held_calm index root link n)
protect_calm aim index root n (WithdrawRequest link era) post found = refl
protect_calm aim index root n (WithdrawHelper link era) post found = concluded_calm aim index root n link era post (reserves_helper post 0) refl
protect_calm aim index root n LoadWithin post found = refl
protect_calm aim index root n (CheckUpper link) post found = grind (arith, protected_calm aim index root n link found post)
protect_calm aim index root n (RaiseUpper era) post found = refl
protect_calm aim index root n (ByHazard FirstLink) post found = grind (arith, protected_calm aim index root n found 0 post)
protect_calm aim index root n (ByHazard (PublishLink link)) post found = refl
protect_calm aim index root n (ByHazard (CheckLink link)) post found = grind (arith, protected_calm aim index root n found 0 post)

move_calm : (at : MoveAt) (post : Post) (found : ℕ) → Tells (machine.move_turn at post found)
move_calm (LoadEra helps) post found = grind arith
move_calm (LoadRequest era seat shows) post found = refl
move_calm (ShowEra era seat tag index root) post found = refl
move_calm (LoadAsked era seat tag index root) post found = refl
move_calm (CheckEra era seat tag index root link) post found = grind arith
move_calm (AnswerAsked era seat tag index root link) post found = grind arith
move_calm (LoadReserved era seat tag index root link) post found = grind arith
move_calm (HandOver era seat tag index root link old) post found = handed (found == reservation_word (record { era = old; tag = tag }))
  where
    handed : (same : Bool) → Tells (movers.after_hand_over era seat tag index old post same)
    handed true = refl
    handed false = refl
move_calm (HideEra era) post found = refl
move_calm (HideLate seen) post found = refl
move_calm (ExchangeClock era) post found = grind arith

begin_calm : (at : BeginAt) (post : Post) (found : ℕ) → Tells (machine.begin_turn at post found)
begin_calm LoadLower post found = refl
begin_calm (PublishSpan era) post found = refl

walking_calm : (birth : ℕ) (post : Post) (x : Option Walk) → Tells (allocates.walking birth post x)
walking_calm birth post None = refl
walking_calm birth post (Some walk) = refl

allocate_calm : (at : AllocateAt) (post : Post) (found : ℕ) → Tells (machine.allocate_turn at post found)
allocate_calm LoadBirth post found = refl
allocate_calm (ClaimSlot birth walk) post found = by_shown (allocates.is_claimed found walk.slot) refl
  where
    by_shown : (x : Bool) → allocates.is_claimed found walk.slot ≡ x → Tells (machine.allocate_turn (ClaimSlot birth walk) post found)
    by_shown true e = rw e (walking_calm birth post (allocates.walk_past post.layout.config.slots walk found))
    by_shown false e = rw e refl
allocate_calm (StoreLife birth slot) post found = refl

retire_calm : (at : RetireAt) (post : Post) (found : ℕ) → Tells (machine.retire_turn at post found)
retire_calm (LoadLife slot) post found = refl
retire_calm (LoadRetire slot birth) post found = refl
retire_calm (StoreRetired slot birth retire) post found = refl

pub cleared_calm : (index : ℕ) (x : Option ℕ) → all_calm (cleared index x) ≡ true
cleared_calm index None = refl
cleared_calm index (Some slot) = refl

pub shown_calm : (rows : Bool) (post : Post) (index number : ℕ) → all_calm (publishes_index rows post index number) ≡ true
shown_calm true post index number = refl
shown_calm false post index number = refl

pub base_calm : (base : Base) (post : Post) (found : ℕ) → Tells (machine.after base post found)
base_calm (Begin at) post found = begin_calm at post found
base_calm (Protect aim index root steps at) post found = protect_calm aim index root (bump steps) at post found
base_calm (Reload parent index slot era steps) post found = grind arith
base_calm (Clear rows index) post found = calm_append (cleared index (stands post index)) (publishes_index rows post index 0) (cleared_calm index (stands post index)) (shown_calm rows post index 0)
base_calm Finish post found = refl
base_calm (Release index) post found = calm_append (cleared index (stands post index)) (reserves_span post None) (cleared_calm index (stands post index)) refl
base_calm (Allocate at) post found = allocate_calm at post found
base_calm (Write slot row place) post found = grind arith
base_calm (GiveUp slot) post found = refl
base_calm (Retire at) post found = retire_calm at post found
base_calm (Move at) post found = move_calm at post found

-- the words of rows from place 1 on are stored by nothing but the writing of a row

abbrev is_row : Place → Bool
is_row (Row slot place) = true
is_row place = false

abbrev writes_row : memory.Move → Bool
writes_row (memory.Load place) = false
writes_row (memory.Store place value) = is_row place
writes_row (memory.Cas place old new) = is_row place
writes_row (memory.Or place bits) = is_row place
writes_row (memory.And place bits) = is_row place

row_apart : (s q : ℕ) (p : Place) → is_row p ≡ false → same (Row s q) p ≡ false
row_apart s q (Row t r) h = absurd (cc)
row_apart s q p h = refl

row_word_stays : (mem : Place → ℕ) (m : memory.Move) (s q : ℕ) → writes_row m ≡ false → written mem m (Row s q) ≡ mem (Row s q)
row_word_stays mem (memory.Load place) s q h = refl
row_word_stays mem (memory.Store place value) s q h = rw (row_apart s q place h) refl
row_word_stays mem (memory.Cas place old new) s q h = rw (row_apart s q place h) refl
row_word_stays mem (memory.Or place bits) s q h = rw (row_apart s q place h) refl
row_word_stays mem (memory.And place bits) s q h = rw (row_apart s q place h) refl

protect_writes : (index : ℕ) (root : Root) (at : ProtectAt) (post : Post) → writes_row (machine.protect_move index root at post) ≡ false
protect_writes index root (LoadClock tries) post = refl
protect_writes index root (ByHazard FirstLink) post = refl
protect_writes index root (ByHazard at) post = refl
protect_writes index root at post = refl

move_writes : (at : MoveAt) (post : Post) → writes_row (machine.move_move at post) ≡ false
move_writes (LoadEra helps) post = refl
move_writes at post = refl

begin_writes : (at : BeginAt) (post : Post) → writes_row (machine.begin_move at post) ≡ false
begin_writes LoadLower post = refl
begin_writes (PublishSpan era) post = refl

allocate_writes : (at : AllocateAt) → writes_row (machine.allocate_move at) ≡ false
allocate_writes LoadBirth = refl
allocate_writes (ClaimSlot birth walk) = refl
allocate_writes (StoreLife birth slot) = refl

retire_writes : (at : RetireAt) → writes_row (machine.retire_move at) ≡ false
retire_writes (LoadLife slot) = refl
retire_writes (LoadRetire slot birth) = refl
retire_writes (StoreRetired slot birth retire) = refl

-- a machine that writes no word of slot s leaves them
base_row_stays : (mem : Place → ℕ) (base : Base) (post : Post) (s q : ℕ) → base_owns base s ≡ false → written mem (base_move base post) (Row s q) ≡ mem (Row s q)
base_row_stays mem (Begin at) post s q h = row_word_stays mem (machine.begin_move at post) s q (begin_writes at post)
base_row_stays mem (Protect aim index root steps at) post s q h = row_word_stays mem (machine.protect_move index root at post) s q (protect_writes index root at post)
base_row_stays mem (Reload parent index slot era steps) post s q h = refl
base_row_stays mem (Clear rows index) post s q h = refl
base_row_stays mem Finish post s q h = refl
base_row_stays mem (Release index) post s q h = refl
base_row_stays mem (Allocate at) post s q h = row_word_stays mem (machine.allocate_move at) s q (allocate_writes at)
base_row_stays mem (Write slot row place) post s q h = let other : (s == slot && q == place) ≡ false = grind (arith, nat_tests) in rw other refl
base_row_stays mem (GiveUp slot) post s q h = refl
base_row_stays mem (Retire at) post s q h = row_word_stays mem (machine.retire_move at) s q (retire_writes at)
base_row_stays mem (Move at) post s q h = row_word_stays mem (machine.move_move at post) s q (move_writes at post)

-- the seat writes a word of slot s from place 1 on
abbrev pub writes_in : Phase → ℕ → Bool
writes_in Idle s = false
writes_in (Runs why base) s = base_owns base s
writes_in (Scans later at) s = false
writes_in (Works work) s = false

pub enqueue_stays : (mem : Place → ℕ) (kept : EnqueueKept) (at : EnqueueAt) (s q : ℕ) → 1 ≤ q → written mem (enqueues.enqueue_move kept at) (Row s q) ≡ mem (Row s q)
enqueue_stays mem kept LoadNumber s q low = refl
enqueue_stays mem kept LoadNext s q low = refl
enqueue_stays mem kept (PassTail next) s q low = refl
enqueue_stays mem kept (ExchangeNext slot) s q low = let other : (s == kept.tail && q == 0) ≡ false = grind (arith, nat_tests) in rw other refl
enqueue_stays mem kept (ExchangeTail slot) s q low = refl

work_stays : (mem : Place → ℕ) (work : Work) (post : Post) (s q : ℕ) → 1 ≤ q → written mem (work_move work post) (Row s q) ≡ mem (Row s q)
work_stays mem (Getting key at) post s q low = get_stays mem at s q
work_stays mem (Changing kept at) post s q low = change_stays mem kept at post s q
work_stays mem (Enqueuing kept at) post s q low = enqueue_stays mem kept at s q low
work_stays mem (Dequeuing at) post s q low = dequeue_stays mem at s q
work_stays mem (Keeping at) post s q low = keep_stays mem at post s q

scan_stays : (mem : Place → ℕ) (at : ScanAt) (post : Post) (s q : ℕ) → written mem (scan.scan_move at post) (Row s q) ≡ mem (Row s q)
scan_stays mem (ReadGuard number) post s q = refl
scan_stays mem (GiveBack place slot) post s q = refl

pub rows_stay : (mem : Place → ℕ) (phase : Phase) (post : Post) (s q : ℕ) → writes_in phase s ≡ false → 1 ≤ q → written mem (phase_move phase post) (Row s q) ≡ mem (Row s q)
rows_stay mem Idle post s q h low = refl
rows_stay mem (Runs why base) post s q h low = base_row_stays mem base post s q h
rows_stay mem (Scans later at) post s q h low = scan_stays mem at post s q
rows_stay mem (Works work) post s q h low = work_stays mem work post s q low
