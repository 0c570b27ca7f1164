-- Each step of a seat is on a word of the table.
use Rattle.std.proofs.Common.{ℕ, ◌≡◌, ◌≤◌, ◌<◌, ◌+◌, ◌-◌, ◌*◌, ◌/◌, ◌%◌, Bool, true, false, length, refl, sym, subst, arith}
use Rattle.std.proofs.lemmas.Bool.Decides.{nat_tests}
use Rattle.std.proofs.Math.Nat.{div-lt_iff_lt-mul, mod-lt}
use Rattle.std.specs.Prelude.{◌&&◌, nat_lt, nat_le, if◌then◌else◌}
use Rattle.wfe_core.specs.words.Place.{has, is_valid, claim_word}
use Rattle.wfe_core.specs.words.Place.Place.{Clock, Index, Bucket, Claim, Life, Row}
use Rattle.wfe_core.specs.words.declared.config.SchemeKind.{SchemeKind}
use Rattle.wfe_core.specs.words.declared.config.SchemeKind.TheVariants.{He, Hp, Ibr, Wfe}
use Rattle.wfe_core.specs.words.declared.layout.Layout.{Layout}
use Rattle.wfe_core.specs.defs.declared.event.Guard.{Guard}
use Rattle.wfe_core.specs.defs.declared.event.Guard.TheVariants as guard_names
use Rattle.wfe_core.specs.defs.declared.event.Root.{Root}
use Rattle.wfe_core.specs.declared.post.Post.{Post}
use Rattle.wfe_core.specs.Desks.{Desk}
use Rattle.wfe_core.specs.Memory.{place_in}
use Rattle.wfe_core.specs.Guards.{index_at, guard_by, guard_at, guards_by, guard_place}
use Rattle.wfe_core.specs.Links.{link_place}
use Rattle.wfe_core.proofs.Ranges.{bounds_of}
use Rattle.wfe_core.specs.Rounds.{key_of, scheme_of}
use Rattle.wfe_core.specs.WriteRow.{first_written, last_written}
use Rattle.wfe_core.specs.Phases.{Aim, BeginAt, ProtectAt, AllocateAt, RetireAt, MoveAt, RowOf, MapRow, QueueRow, Base}
use Rattle.wfe_core.specs.Phases.BeginAt.{LoadLower, PublishSpan}
use Rattle.wfe_core.specs.Phases.ProtectAt.{LoadClock, PublishEra, LoadLink, CheckClock, PublishRequest, LoadOwnClock, PublishHelper, LoadOwnLink, CheckOwnClock, AnswerOwn, LoadAnswer, TakeAnswer, WithdrawRequest, WithdrawHelper, LoadWithin, CheckUpper, RaiseUpper, ByHazard}
use Rattle.wfe_core.specs.Phases.HazardAt.{FirstLink, PublishLink, CheckLink}
use Rattle.wfe_core.specs.Phases.AllocateAt.{LoadBirth, ClaimSlot, StoreLife}
use Rattle.wfe_core.specs.Phases.RetireAt.{LoadLife, LoadRetire, StoreRetired}
use Rattle.wfe_core.specs.Phases.MoveAt.{LoadEra, LoadRequest, ShowEra, LoadAsked, CheckEra, AnswerAsked, LoadReserved, HandOver, HideEra, HideLate, ExchangeClock}
use Rattle.wfe_core.specs.Phases.Base.{Begin, Protect, Reload, Clear, Finish, Release, Allocate, Write, GiveUp, Retire, Move as Moves}
use Rattle.wfe_core.specs.Machine.{begin_move, protect_move, allocate_move, retire_move, move_move, base_move}
use Rattle.wfe_core.specs.Get.{get_move}
use Rattle.wfe_core.specs.Change.{change_move}
use Rattle.wfe_core.specs.Enqueue.{enqueue_move}
use Rattle.wfe_core.specs.Dequeue.{dequeue_move}
use Rattle.wfe_core.specs.Keep.{keep_move, own_place}
use Rattle.wfe_core.specs.Scan.{scan_move}
use Rattle.wfe_core.specs.Steps.{work_move, phase_move}
use Rattle.wfe_core.specs.Locals.{move}
use Rattle.wfe_core.specs.World.{World}
use Rattle.wfe_core.specs.Calls.{ChangeKept, EnqueueKept, GetAt, FindVersion, FindCount, FindKey, FindValue, ChangeAt, LoadVersion, LoadCount, LoadKey, LoadValue, ExchangeRoot, EnqueueAt, LoadNumber, LoadNext, PassTail, ExchangeNext, ExchangeTail, DequeueAt, LoadTail, SwingTail, TakeNumber, TakeValue, ExchangeHead, Work, Getting, Changing, Enqueuing, Dequeuing, KeepAt, Loosens, LoadHeld, StoreHeld, Looks, Misses, HideSpan, MarkLeft, TakeList, MarkTaken, Keeping, ScanAt, ReadGuard, GiveBack, Why, Phase, Idle, Runs, Scans, Works}
use Rattle.inv_rows.specs.Shapes.Seats.{index_by, allocate_fits, move_fits, scan_fits, Run, PhaseFits, Seats}
use Rattle.wfe_core.specs.words.Schemes.{helps}
use Rattle.inv_rows.specs.Shapes.Eras.{RootNeeds, move_eras, base_eras, PhaseEras, Eras}
use Rattle.inv_rows.specs.Shapes.Slots.{RowIn, RetireIn, BaseIn, GetIn, WhyIn, WorkIn, ScanIn, PhaseIn, Slots}
use Rattle.inv_rows.proofs.Shapes.Written.{index_in_seat, root_there}
use Rattle.wfe_core.proofs.Schemes.{each_guard}
use Rattle.wfe_core.proofs.Facts.{lt_test}

-- a seat with these words is there
record Seated (layout : Layout) (post : Post) : Type 0 where
  valid : is_valid layout ≡ true
  layout_is : post.layout ≡ layout
  below : post.seat < layout.config.seats

index_there : (layout : Layout) (seat index : ℕ) → seat < layout.config.seats → index < layout.config.indexes → has layout (Index seat index) ≡ true
index_there layout seat index a b = grind (arith, nat_tests)

pub index_below : (layout : Layout) (why : Why) (index : ℕ) → is_valid layout ≡ true → WhyIn layout.config why → index ≡ index_by why → index < layout.config.indexes
index_below layout why index v y e = let b = bounds_of layout v in let f = index_in_seat layout.config why b.indexes.0 y in omega arith

claim_there : (layout : Layout) (slot : ℕ) → slot ≤ layout.config.slots → has layout (Claim (claim_word slot)) ≡ true
claim_there layout slot h = let a : slot / 64 < (layout.config.slots + 64) / 64 = omega arith in grind (arith, nat_tests)

life_there : (layout : Layout) (slot : ℕ) → slot ≤ layout.config.slots → has layout (Life slot) ≡ true
life_there layout slot h = grind (arith, nat_tests)

row_there : (layout : Layout) (slot place : ℕ) → slot ≤ layout.config.slots → place < 3 + 2 * layout.config.pairs → has layout (Row slot place) ≡ true
row_there layout slot place a b = grind (arith, nat_tests)

protect_there : (layout : Layout) (why : Why) (aim : Aim) (index : ℕ) (root : Root) (n : ℕ) (at : ProtectAt) (post : Post) → Seated layout post → Run layout why (Protect aim index root n at) post → WhyIn layout.config why → RootNeeds layout root
    → has layout (place_in (protect_move index root at post)) ≡ true
protect_there layout why aim index root n at post s r y d = by at
  where
    link : has layout (link_place root) ≡ true
    link = let b = bounds_of layout s.valid in root_there layout why root b.buckets.0 r.shape.of d

    own : has layout (Index post.seat index) ≡ true
    own = index_there layout post.seat index s.below (index_below layout why index s.valid y r.shape.at)

    here : nat_lt post.seat layout.config.seats ≡ true
    here = lt_test post.seat layout.config.seats s.below

    by : (x : ProtectAt) → has layout (place_in (protect_move index root x post)) ≡ true
    by (LoadClock tries) = refl
    by (PublishEra era tries) = own
    by (LoadLink era tries) = link
    by (CheckClock era tries found) = refl
    by PublishRequest = here
    by LoadOwnClock = refl
    by (PublishHelper first era last) = here
    by (LoadOwnLink first era last) = link
    by (CheckOwnClock first era last found) = refl
    by (AnswerOwn first era found) = here
    by (LoadAnswer first) = here
    by (TakeAnswer found era) = own
    by (WithdrawRequest found era) = here
    by (WithdrawHelper found era) = here
    by LoadWithin = link
    by (CheckUpper found) = refl
    by (RaiseUpper era) = here
    by (ByHazard FirstLink) = link
    by (ByHazard (PublishLink found)) = own
    by (ByHazard (CheckLink found)) = link

begin_there : (layout : Layout) (at : BeginAt) (post : Post) → Seated layout post → has layout (place_in (begin_move at post)) ≡ true
begin_there layout LoadLower post s = refl
begin_there layout (PublishSpan era) post s = lt_test post.seat layout.config.seats s.below

allocate_there : (layout : Layout) (at : AllocateAt) → allocate_fits layout.config.slots at ≡ true → has layout (place_in (allocate_move at)) ≡ true
allocate_there layout LoadBirth f = refl
allocate_there layout (ClaimSlot birth walk) f = claim_there layout walk.slot (grind (arith, nat_tests))
allocate_there layout (StoreLife birth slot) f = life_there layout slot (grind (arith, nat_tests))

retire_there : (layout : Layout) (at : RetireAt) → RetireIn layout.config.slots at → has layout (place_in (retire_move at)) ≡ true
retire_there layout (LoadLife slot) h = life_there layout slot h
retire_there layout (LoadRetire slot birth) h = refl
retire_there layout (StoreRetired slot birth retire) h = life_there layout slot h

pub asked_seat : (s : SchemeKind) (seat seats : ℕ) → (helps s && nat_lt seat seats) ≡ true → seat < seats
asked_seat s seat seats h = grind (arith, nat_tests)

move_there : (layout : Layout) (clock : ℕ) (at : MoveAt) (post : Post) → Seated layout post → move_fits layout.config.scheme layout.config.seats at ≡ true → move_eras layout clock at → has layout (place_in (move_move at post)) ≡ true
move_there layout clock (LoadEra helps) post s f e = refl
move_there layout clock (LoadRequest era seat shows) post s f e = lt_test seat layout.config.seats (asked_seat layout.config.scheme seat layout.config.seats f)
move_there layout clock (ShowEra era seat tag index root) post s f e = lt_test post.seat layout.config.seats s.below
move_there layout clock (LoadAsked era seat tag index root) post s f e = e.asked.there
move_there layout clock (CheckEra era seat tag index root link) post s f e = refl
move_there layout clock (AnswerAsked era seat tag index root link) post s f e = lt_test seat layout.config.seats (asked_seat layout.config.scheme seat layout.config.seats f)
move_there layout clock (LoadReserved era seat tag index root link) post s f e = index_there layout seat index (asked_seat layout.config.scheme seat layout.config.seats f) e.asked.at
move_there layout clock (HandOver era seat tag index root link old) post s f e = index_there layout seat index (asked_seat layout.config.scheme seat layout.config.seats f) e.helps.asked.at
move_there layout clock (HideEra era) post s f e = lt_test post.seat layout.config.seats s.below
move_there layout clock (HideLate seen) post s f e = lt_test post.seat layout.config.seats s.below
move_there layout clock (ExchangeClock era) post s f e = refl

written_there : (layout : Layout) (slot : ℕ) (row : RowOf) (place : ℕ) → slot ≤ layout.config.slots → (nat_le (first_written row) place && nat_le place (last_written row)) ≡ true → RowIn layout.config row → has layout (Row slot place) ≡ true
written_there layout slot (MapRow version pairs) place a f m = row_there layout slot place a (grind (arith, nat_tests))
written_there layout slot (QueueRow number value) place a f m = row_there layout slot place a (grind (arith, nat_tests))

base_there : (layout : Layout) (clock : ℕ) (why : Why) (base : Base) (post : Post) → Seated layout post → Run layout why base post → base_eras layout clock post base → WhyIn layout.config why → BaseIn layout base
    → has layout (place_in (base_move base post)) ≡ true
base_there layout clock why (Begin at) post s r e y h = begin_there layout at post s
base_there layout clock why (Protect aim index root steps at) post s r e y h = protect_there layout why aim index root steps at post s r y h.root_in
base_there layout clock why (Reload parent index slot era steps) post s r e y h = refl
base_there layout clock why (Clear rows index) post s r e y h = index_there layout post.seat index s.below (index_below layout why index s.valid y r.shape)
base_there layout clock why Finish post s r e y h = lt_test post.seat layout.config.seats s.below
base_there layout clock why (Release index) post s r e y h = lt_test post.seat layout.config.seats s.below
base_there layout clock why (Allocate at) post s r e y h = allocate_there layout at r.fits
base_there layout clock why (Write slot row place) post s r e y h = written_there layout slot row place h.0 r.fits h.1
base_there layout clock why (GiveUp slot) post s r e y h = claim_there layout slot h
base_there layout clock why (Retire at) post s r e y h = retire_there layout at h
base_there layout clock why (Moves at) post s r e y h = move_there layout clock at post s r.fits e

-- guards
index_at_there : (layout : Layout) (k : ℕ) → 1 ≤ layout.config.indexes → k < layout.config.seats * layout.config.indexes → has layout (guard_place (index_at layout.config k)) ≡ true
index_at_there layout k b h = index_there layout (k / layout.config.indexes) (k % layout.config.indexes) ((div-lt_iff_lt-mul b).1 h) (mod-lt k b)

guard_there : (layout : Layout) (k : ℕ) (s : SchemeKind) → 1 ≤ layout.config.indexes → k < guards_by s layout.config → has layout (guard_place (guard_by s layout.config k)) ≡ true
guard_there layout k He b h = index_at_there layout k b h
guard_there layout k Ibr b h = lt_test k layout.config.seats h
guard_there layout k Hp b h = index_at_there layout k b h
guard_there layout k Wfe b h = by (nat_lt k layout.config.seats) refl
  where
    by : (x : Bool) → nat_lt k layout.config.seats ≡ x → has layout (guard_place (if x then guard_names.Helper k else index_at layout.config (k - layout.config.seats))) ≡ true
    by true e = e
    by false e = index_at_there layout (k - layout.config.seats) b (grind (arith, nat_tests))

scan_there : (layout : Layout) (desk : Desk) (at : ScanAt) (post : Post) → Seated layout post → scan_fits layout.config at ≡ true → ScanIn layout.config.slots desk at → has layout (place_in (scan_move at post)) ≡ true
scan_there layout desk (ReadGuard number) post s f h = let b = bounds_of layout s.valid in
    subst (λ (t : Layout). has layout (guard_place (guard_at t.config number)) ≡ true) (sym s.layout_is) (guard_there layout number layout.config.scheme (let i = b.indexes.0 in omega arith) (grind (arith, nat_tests)))
scan_there layout desk (GiveBack place slot) post s f h = claim_there layout slot h.slot_in

-- a row has more than its first three words
three_there : (layout : Layout) (slot place : ℕ) → slot ≤ layout.config.slots → place < 3 → has layout (Row slot place) ≡ true
three_there layout slot place a b = row_there layout slot place a (omega arith)

get_there : (layout : Layout) (at : GetAt) → GetIn layout.config at → has layout (place_in (get_move at)) ≡ true
get_there layout (FindVersion slot) h = three_there layout slot 1 h (omega arith)
get_there layout (FindCount slot version) h = three_there layout slot 2 h (omega arith)
get_there layout (FindKey slot version count pair) h = row_there layout slot (3 + 2 * pair) h.0 (let a = h.1 in let b = h.2 in omega arith)
get_there layout (FindValue slot version pair) h = row_there layout slot (4 + 2 * pair) h.0 (let a = h.1 in omega arith)

bucket_in : (layout : Layout) (post : Post) (key : ℕ) → is_valid layout ≡ true → post.layout ≡ layout → has layout (Bucket (key % post.layout.config.buckets)) ≡ true
bucket_in layout post key v e = subst (λ (t : Layout). has layout (Bucket (key % t.config.buckets)) ≡ true) (sym e)
    (let b = bounds_of layout v in let c = b.buckets.0 in let d : key % layout.config.buckets < layout.config.buckets = mod-lt key c in grind (arith, nat_tests))

change_there : (layout : Layout) (kept : ChangeKept) (at : ChangeAt) (post : Post) → Seated layout post → WorkIn layout.config (Changing kept at) → has layout (place_in (change_move kept at post)) ≡ true
change_there layout kept (LoadVersion slot) post s h = three_there layout slot 1 h.1.0 (omega arith)
change_there layout kept (LoadCount slot) post s h = three_there layout slot 2 h.1.0 (omega arith)
change_there layout kept (LoadKey slot count) post s h = row_there layout slot (3 + 2 * length kept.pairs) h.1.0 (let a = h.1.1 in let b = h.1.2 in omega arith)
change_there layout kept (LoadValue slot count key) post s h = row_there layout slot (4 + 2 * length kept.pairs) h.1.0 (let a = h.1.1 in let b = h.1.2 in omega arith)
change_there layout kept (ExchangeRoot slot) post s h = bucket_in layout post (key_of kept.change) s.valid s.layout_is

enqueue_there : (layout : Layout) (kept : EnqueueKept) (at : EnqueueAt) → WorkIn layout.config (Enqueuing kept at) → has layout (place_in (enqueue_move kept at)) ≡ true
enqueue_there layout kept LoadNumber h = three_there layout kept.tail 1 h.0.tail (omega arith)
enqueue_there layout kept LoadNext h = three_there layout kept.tail 0 h.0.tail (omega arith)
enqueue_there layout kept (PassTail next) h = refl
enqueue_there layout kept (ExchangeNext slot) h = three_there layout kept.tail 0 h.0.tail (omega arith)
enqueue_there layout kept (ExchangeTail slot) h = refl

dequeue_there : (layout : Layout) (at : DequeueAt) → WorkIn layout.config (Dequeuing at) → has layout (place_in (dequeue_move at)) ≡ true
dequeue_there layout (LoadTail head) h = refl
dequeue_there layout (SwingTail head next) h = refl
dequeue_there layout (TakeNumber head next) h = three_there layout next 1 h.1 (omega arith)
dequeue_there layout (TakeValue head next number) h = three_there layout next 2 h.1 (omega arith)
dequeue_there layout (ExchangeHead head next number value) h = refl

own_there : (layout : Layout) (post : Post) (index : ℕ) → Seated layout post → index < layout.config.indexes → has layout (own_place post index) ≡ true
own_there layout post index s b =
    each_guard (scheme_of post) post.seat index (λ (guard : Guard). has layout (guard_place guard) ≡ true) (index_there layout post.seat index s.below b) (lt_test post.seat layout.config.seats s.below)

keep_there : (layout : Layout) (at : KeepAt) (post : Post) → Seated layout post → WorkIn layout.config (Keeping at) → has layout (place_in (keep_move at post)) ≡ true
keep_there layout (Loosens let_go) post s h = lt_test post.seat layout.config.seats s.below
keep_there layout (LoadHeld from index) post s h = own_there layout post from s (let a = h.rises in let b = h.below in omega arith)
keep_there layout (StoreHeld from index era) post s h = index_there layout post.seat index s.below h.below
keep_there layout (Looks index key at) post s h = get_there layout at h.1
keep_there layout (Misses index) post s h = own_there layout post index s h.below
keep_there layout HideSpan post s h = lt_test post.seat layout.config.seats s.below
keep_there layout MarkLeft post s h = lt_test post.seat layout.config.seats s.below
keep_there layout (TakeList place) post s h = lt_test place layout.config.seats h
keep_there layout (MarkTaken place count) post s h = lt_test place layout.config.seats h

work_there : (layout : Layout) (work : Work) (post : Post) → Seated layout post → WorkIn layout.config work → has layout (place_in (work_move work post)) ≡ true
work_there layout (Getting key at) post s h = get_there layout at h
work_there layout (Changing kept at) post s h = change_there layout kept at post s h
work_there layout (Enqueuing kept at) post s h = enqueue_there layout kept at h
work_there layout (Dequeuing at) post s h = dequeue_there layout at h
work_there layout (Keeping at) post s h = keep_there layout at post s h

phase_there : (layout : Layout) (clock : ℕ) (desk : Desk) (phase : Phase) (post : Post) → Seated layout post → PhaseFits layout post phase → PhaseEras layout clock post phase → PhaseIn layout desk phase
    → has layout (place_in (phase_move phase post)) ≡ true
phase_there layout clock desk Idle post s r e h = refl
phase_there layout clock desk (Runs why base) post s r e h = base_there layout clock why base post s r e h.0 h.1
phase_there layout clock desk (Scans later at) post s r e h = scan_there layout desk at post s r h.1
phase_there layout clock desk (Works work) post s r e h = work_there layout work post s h

-- a step is on a word of the table
pub place_there : (w : World) (i : ℕ) → is_valid w.layout ≡ true → i < w.layout.config.seats → Seats w → Eras w → Slots w → has w.layout (place_in (move (w.seat i))) ≡ true
place_there w i v b s e h = let q = (s.fits i).post in
    phase_there w.layout (w.mem Clock) (w.seat i).desk (w.seat i).phase (w.seat i).post (record { valid = v; layout_is = q.layout; below = let t = q.seat in omega arith }) (s.fits i).phase (e.seats i).phase (h.seats i).phase
