-- Which guards' words a step leaves as they are.
use Rattle.std.proofs.Common.{ℕ, ◌≡◌, ap, true, false, arith, refl, Bool, not}
use Rattle.std.proofs.lemmas.Bool.Decides.{nat_tests}
use Rattle.std.specs.Prelude.{◌==◌, ◌&&◌}
use Rattle.inv_rows.specs.words.Place.{Place, same}
use Rattle.inv_rows.specs.words.Place.Place.{Index, Interval}
use Rattle.inv_rows.specs.words.declared.config.Config.{Config}
use Rattle.inv_rows.specs.words.declared.config.SchemeKind.{SchemeKind}
use Rattle.inv_rows.specs.defs.declared.event.Guard.{Guard}
use Rattle.inv_rows.specs.defs.declared.event.Root.{Root}
use Rattle.inv_rows.specs.defs.declared.shown.Shown.{Shown}
use Rattle.inv_rows.specs.defs.Shown as values
use Rattle.inv_rows.specs.model.declared.post.Post.{Post}
use Rattle.inv_rows.specs.model.Guards.{guard_place, eras_in, linked_row, published, own_guard}
use Rattle.inv_rows.specs.model.Memory.{Move as Act, Load, Store, Cas, Or, And, written}
use Rattle.inv_rows.specs.model.Phases.{BeginAt, ProtectAt, AllocateAt, RetireAt, MoveAt, Base}
use Rattle.inv_rows.specs.model.Phases.BeginAt.{LoadLower, PublishSpan}
use Rattle.inv_rows.specs.model.Phases.ProtectAt.{PublishEra, TakeAnswer, RaiseUpper, ByHazard}
use Rattle.inv_rows.specs.model.Phases.HazardAt.{FirstLink, PublishLink, CheckLink}
use Rattle.inv_rows.specs.model.Phases.AllocateAt.{LoadBirth}
use Rattle.inv_rows.specs.model.Phases.RetireAt.{LoadLife}
use Rattle.inv_rows.specs.model.Phases.MoveAt.{LoadEra, HandOver}
use Rattle.inv_rows.specs.model.Phases.Base.{Begin, Protect, Reload, Clear, Finish, Release, Allocate, Write, GiveUp, Retire, Move}
use Rattle.inv_rows.specs.model.Machine.{begin_move, protect_move, allocate_move, retire_move, move_move, base_move}
use Rattle.inv_rows.specs.model.Scan.{scan_move}
use Rattle.inv_rows.specs.model.Get.{get_move}
use Rattle.inv_rows.specs.model.Change.{change_move}
use Rattle.inv_rows.specs.model.Enqueue.{enqueue_move}
use Rattle.inv_rows.specs.model.Dequeue.{dequeue_move}
use Rattle.inv_rows.specs.model.Keep.{keep_move}
use Rattle.inv_rows.specs.model.Steps.{phase_move, work_move}
use Rattle.inv_rows.specs.model.Calls.{ChangeKept, EnqueueKept, ScanAt, ReadGuard, GiveBack, GetAt, FindVersion, ChangeAt, LoadVersion, EnqueueAt, LoadNumber, DequeueAt, LoadTail, KeepAt, Loosens, LoadHeld, StoreHeld, Looks, Misses, HideSpan, MarkLeft, TakeList, MarkTaken, Work, Getting, Changing, Enqueuing, Dequeuing, Keeping, Phase}
use Rattle.inv_rows.specs.model.Locals.{move}
use Rattle.inv_rows.specs.model.World.{World, step}
use Rattle.inv_rows.specs.words.Schemes.{helps, publishes_rows}
use Rattle.inv_rows.specs.Shapes.Seats.{move_fits, base_fits}
use Rattle.inv_rows.specs.Covering.Covers.{eras_shown, shown, Widens}
use Rattle.inv_rows.proofs.model.Schemes.{each_guard}

-- the operation leaves the word of the place
abbrev pub keeps : Act → Place → Bool
keeps (Load place) p = true
keeps (Store place value) p = not (same p place)
keeps (Cas place old new) p = not (same p place)
keeps (Or place bits) p = not (same p place)
keeps (And place bits) p = not (same p place)

pub kept_word : (mem : Place → ℕ) (m : Act) (p : Place) → keeps m p ≡ true → written mem m p ≡ mem p
kept_word mem (Load place) p h = refl
kept_word mem (Store place value) p h = let e : same p place ≡ false = grind (arith, nat_tests) in rw e refl
kept_word mem (Cas place old new) p h = let e : same p place ≡ false = grind (arith, nat_tests) in rw e refl
kept_word mem (Or place bits) p h = let e : same p place ≡ false = grind (arith, nat_tests) in rw e refl
kept_word mem (And place bits) p h = let e : same p place ≡ false = grind (arith, nat_tests) in rw e refl

pub shown_kept : (w : World) (i : ℕ) (guard : Guard) → keeps (move (w.seat i)) (guard_place guard) ≡ true → shown (step w i) guard ≡ shown w guard
shown_kept w i guard h = ap (published (publishes_rows w.layout.config.scheme) guard) (kept_word w.mem (move (w.seat i)) (guard_place guard) h)

pub eras_kept : (w : World) (i : ℕ) (guard : Guard) → keeps (move (w.seat i)) (guard_place guard) ≡ true → eras_shown (step w i) guard ≡ eras_shown w guard
eras_kept w i guard h = ap (eras_in guard) (kept_word w.mem (move (w.seat i)) (guard_place guard) h)

-- where no rows are published they are the eras, and else the row
pub eras_are_shown : (w : World) (guard : Guard) → publishes_rows w.layout.config.scheme ≡ false → shown w guard ≡ values.shown (eras_shown w guard)
eras_are_shown w guard f = ap (λ (rows : Bool). published rows guard (w.mem (guard_place guard))) f

pub rows_are_shown : (w : World) (guard : Guard) → publishes_rows w.layout.config.scheme ≡ true → shown w guard ≡ values.shown_row (linked_row (w.mem (guard_place guard)))
rows_are_shown w guard f = ap (λ (rows : Bool). published rows guard (w.mem (guard_place guard))) f

pub move_is : (w : World) (i : ℕ) (phase : Phase) → (w.seat i).phase ≡ phase → move (w.seat i) ≡ phase_move phase (w.seat i).post
move_is w i phase e = ap (λ (p : Phase). phase_move p (w.seat i).post) e

pub keeps_at : (w : World) (i : ℕ) (phase : Phase) (place : Place) → (w.seat i).phase ≡ phase → keeps (phase_move phase (w.seat i).post) place ≡ true → keeps (move (w.seat i)) place ≡ true
keeps_at w i phase place e h = rw (move_is w i phase e) h

pub widens_same : (x y : Shown) → y ≡ x → Widens x y
widens_same x y e life h = rw e h

-- the step of a machine that changes what an own guard publishes
abbrev pub stores_protect : ProtectAt → Bool
stores_protect (PublishEra era tries) = true
stores_protect (TakeAnswer link era) = true
stores_protect (RaiseUpper era) = true
stores_protect (ByHazard (PublishLink link)) = true
stores_protect at = false

abbrev pub stores_begin : BeginAt → Bool
stores_begin LoadLower = false
stores_begin (PublishSpan era) = true

abbrev pub stores_guard : Base → Bool
stores_guard (Begin at) = stores_begin at
stores_guard (Protect aim index root steps at) = stores_protect at
stores_guard (Clear rows index) = true
stores_guard Finish = true
stores_guard (Release index) = true
stores_guard base = false

-- the index whose word a step of a call's own stores; the interval word is that of all indexes
abbrev pub keep_stores : KeepAt → ℕ → Bool
keep_stores (StoreHeld from index era) j = j == index
keep_stores HideSpan j = true
keep_stores at j = false

abbrev pub work_stores : Work → ℕ → Bool
work_stores (Keeping at) j = keep_stores at j
work_stores work j = false

-- the words of other seats: index words
pub begin_index : (k j : ℕ) (at : BeginAt) (post : Post) → (k == post.seat) ≡ false → keeps (begin_move at post) (Index k j) ≡ true
begin_index k j LoadLower post e = refl
begin_index k j (PublishSpan era) post e = refl

protect_index : (k j : ℕ) (index : ℕ) (root : Root) (at : ProtectAt) (post : Post) → (k == post.seat) ≡ false → keeps (protect_move index root at post) (Index k j) ≡ true
protect_index k j index root (PublishEra era tries) post e = rw e refl
protect_index k j index root (TakeAnswer link era) post e = rw e refl
protect_index k j index root (ByHazard FirstLink) post e = refl
protect_index k j index root (ByHazard (PublishLink link)) post e = rw e refl
protect_index k j index root (ByHazard (CheckLink link)) post e = refl
protect_index k j index root at post e = refl

move_index : (k j : ℕ) (scheme : SchemeKind) (seats : ℕ) (at : MoveAt) (post : Post) → helps scheme ≡ false → move_fits scheme seats at ≡ true → keeps (move_move at post) (Index k j) ≡ true
move_index k j scheme seats (HandOver era seat tag index root link old) post n f = absurd (grind (arith, nat_tests))
move_index k j scheme seats at post n f = refl

pub allocate_index : (k j : ℕ) (at : AllocateAt) → keeps (allocate_move at) (Index k j) ≡ true
allocate_index k j LoadBirth = refl
allocate_index k j at = refl

pub retire_index : (k j : ℕ) (at : RetireAt) → keeps (retire_move at) (Index k j) ≡ true
retire_index k j (LoadLife slot) = refl
retire_index k j at = refl

pub base_index : (k j : ℕ) (config : Config) (base : Base) (post : Post) → helps config.scheme ≡ false → base_fits config base ≡ true → (k == post.seat) ≡ false → keeps (base_move base post) (Index k j) ≡ true
base_index k j config (Begin at) post n f e = begin_index k j at post e
base_index k j config (Protect aim index root steps at) post n f e = protect_index k j index root at post e
base_index k j config (Reload parent index slot era steps) post n f e = refl
base_index k j config (Clear rows index) post n f e = rw e refl
base_index k j config Finish post n f e = refl
base_index k j config (Release index) post n f e = refl
base_index k j config (Allocate at) post n f e = allocate_index k j at
base_index k j config (Write slot row place) post n f e = refl
base_index k j config (GiveUp slot) post n f e = refl
base_index k j config (Retire at) post n f e = retire_index k j at
base_index k j config (Move at) post n f e = move_index k j config.scheme config.seats at post n f

change_index : (k j : ℕ) (kept : ChangeKept) (at : ChangeAt) (post : Post) → keeps (change_move kept at post) (Index k j) ≡ true
change_index k j kept (LoadVersion slot) post = refl
change_index k j kept at post = refl

enqueue_index : (k j : ℕ) (kept : EnqueueKept) (at : EnqueueAt) → keeps (enqueue_move kept at) (Index k j) ≡ true
enqueue_index k j kept LoadNumber = refl
enqueue_index k j kept at = refl

dequeue_index : (k j : ℕ) (at : DequeueAt) → keeps (dequeue_move at) (Index k j) ≡ true
dequeue_index k j (LoadTail head) = refl
dequeue_index k j at = refl

get_index : (k j : ℕ) (at : GetAt) → keeps (get_move at) (Index k j) ≡ true
get_index k j (FindVersion slot) = refl
get_index k j at = refl

-- where a copy stores, it stores an index word of its own seat
keep_index : (k j : ℕ) (at : KeepAt) (post : Post) → (k == post.seat && keep_stores at j) ≡ false → keeps (keep_move at post) (Index k j) ≡ true
keep_index k j (Loosens let_go) post e = refl
keep_index k j (LoadHeld from index) post e = refl
keep_index k j (StoreHeld from index era) post e = rw e refl
keep_index k j (Looks index key at) post e = get_index k j at
keep_index k j (Misses index) post e = refl
keep_index k j HideSpan post e = refl
keep_index k j MarkLeft post e = refl
keep_index k j (TakeList place) post e = refl
keep_index k j (MarkTaken place count) post e = refl

pub work_index : (k j : ℕ) (work : Work) (post : Post) → (k == post.seat && work_stores work j) ≡ false → keeps (work_move work post) (Index k j) ≡ true
work_index k j (Getting key at) post e = get_index k j at
work_index k j (Changing kept at) post e = change_index k j kept at post
work_index k j (Enqueuing kept at) post e = enqueue_index k j kept at
work_index k j (Dequeuing at) post e = dequeue_index k j at
work_index k j (Keeping at) post e = keep_index k j at post e

pub scan_index : (k j : ℕ) (at : ScanAt) (post : Post) → keeps (scan_move at post) (Index k j) ≡ true
scan_index k j (ReadGuard number) post = refl
scan_index k j (GiveBack place slot) post = refl

quiet_protect_index : (k j : ℕ) (index : ℕ) (root : Root) (at : ProtectAt) (post : Post) → stores_protect at ≡ false → keeps (protect_move index root at post) (Index k j) ≡ true
quiet_protect_index k j index root (PublishEra era tries) post e = absurd (cc)
quiet_protect_index k j index root (TakeAnswer link era) post e = absurd (cc)
quiet_protect_index k j index root (RaiseUpper era) post e = absurd (cc)
quiet_protect_index k j index root (ByHazard FirstLink) post e = refl
quiet_protect_index k j index root (ByHazard (PublishLink link)) post e = absurd (cc)
quiet_protect_index k j index root (ByHazard (CheckLink link)) post e = refl
quiet_protect_index k j index root at post e = refl

quiet_base_index : (k j : ℕ) (config : Config) (base : Base) (post : Post) → helps config.scheme ≡ false → base_fits config base ≡ true → stores_guard base ≡ false → keeps (base_move base post) (Index k j) ≡ true
quiet_base_index k j config (Begin LoadLower) post n f e = refl
quiet_base_index k j config (Begin (PublishSpan era)) post n f e = absurd (cc)
quiet_base_index k j config (Protect aim index root steps at) post n f e = quiet_protect_index k j index root at post e
quiet_base_index k j config (Reload parent index slot era steps) post n f e = refl
quiet_base_index k j config (Clear rows index) post n f e = absurd (cc)
quiet_base_index k j config Finish post n f e = absurd (cc)
quiet_base_index k j config (Release index) post n f e = absurd (cc)
quiet_base_index k j config (Allocate at) post n f e = allocate_index k j at
quiet_base_index k j config (Write slot row place) post n f e = refl
quiet_base_index k j config (GiveUp slot) post n f e = refl
quiet_base_index k j config (Retire at) post n f e = retire_index k j at
quiet_base_index k j config (Move at) post n f e = move_index k j config.scheme config.seats at post n f

-- the words of other seats: interval words
begin_span : (k : ℕ) (at : BeginAt) (post : Post) → (k == post.seat) ≡ false → keeps (begin_move at post) (Interval k) ≡ true
begin_span k LoadLower post e = refl
begin_span k (PublishSpan era) post e = rw e refl

protect_span : (k : ℕ) (index : ℕ) (root : Root) (at : ProtectAt) (post : Post) → (k == post.seat) ≡ false → keeps (protect_move index root at post) (Interval k) ≡ true
protect_span k index root (RaiseUpper era) post e = rw e refl
protect_span k index root (ByHazard FirstLink) post e = refl
protect_span k index root (ByHazard at) post e = refl
protect_span k index root at post e = refl

move_span : (k : ℕ) (scheme : SchemeKind) (seats : ℕ) (at : MoveAt) (post : Post) → helps scheme ≡ false → move_fits scheme seats at ≡ true → keeps (move_move at post) (Interval k) ≡ true
move_span k scheme seats (LoadEra helps) post n f = refl
move_span k scheme seats at post n f = refl

allocate_span : (k : ℕ) (at : AllocateAt) → keeps (allocate_move at) (Interval k) ≡ true
allocate_span k LoadBirth = refl
allocate_span k at = refl

retire_span : (k : ℕ) (at : RetireAt) → keeps (retire_move at) (Interval k) ≡ true
retire_span k (LoadLife slot) = refl
retire_span k at = refl

base_span : (k : ℕ) (config : Config) (base : Base) (post : Post) → helps config.scheme ≡ false → base_fits config base ≡ true → (k == post.seat) ≡ false → keeps (base_move base post) (Interval k) ≡ true
base_span k config (Begin at) post n f e = begin_span k at post e
base_span k config (Protect aim index root steps at) post n f e = protect_span k index root at post e
base_span k config (Reload parent index slot era steps) post n f e = refl
base_span k config (Clear rows index) post n f e = refl
base_span k config Finish post n f e = rw e refl
base_span k config (Release index) post n f e = rw e refl
base_span k config (Allocate at) post n f e = allocate_span k at
base_span k config (Write slot row place) post n f e = refl
base_span k config (GiveUp slot) post n f e = refl
base_span k config (Retire at) post n f e = retire_span k at
base_span k config (Move at) post n f e = move_span k config.scheme config.seats at post n f

change_span : (k : ℕ) (kept : ChangeKept) (at : ChangeAt) (post : Post) → keeps (change_move kept at post) (Interval k) ≡ true
change_span k kept (LoadVersion slot) post = refl
change_span k kept at post = refl

enqueue_span : (k : ℕ) (kept : EnqueueKept) (at : EnqueueAt) → keeps (enqueue_move kept at) (Interval k) ≡ true
enqueue_span k kept LoadNumber = refl
enqueue_span k kept at = refl

dequeue_span : (k : ℕ) (at : DequeueAt) → keeps (dequeue_move at) (Interval k) ≡ true
dequeue_span k (LoadTail head) = refl
dequeue_span k at = refl

get_span : (k : ℕ) (at : GetAt) → keeps (get_move at) (Interval k) ≡ true
get_span k (FindVersion slot) = refl
get_span k at = refl

-- what is let go with the interval
abbrev pub keep_hides : KeepAt → Bool
keep_hides HideSpan = true
keep_hides at = false

abbrev pub work_hides : Work → Bool
work_hides (Keeping at) = keep_hides at
work_hides work = false

keep_span : (k : ℕ) (at : KeepAt) (post : Post) → (k == post.seat && keep_hides at) ≡ false → keeps (keep_move at post) (Interval k) ≡ true
keep_span k (Loosens let_go) post e = refl
keep_span k (LoadHeld from index) post e = refl
keep_span k (StoreHeld from index era) post e = refl
keep_span k (Looks index key at) post e = get_span k at
keep_span k (Misses index) post e = refl
keep_span k HideSpan post e = let o : (k == post.seat) ≡ false = grind (arith, nat_tests) in rw o refl
keep_span k MarkLeft post e = refl
keep_span k (TakeList place) post e = refl
keep_span k (MarkTaken place count) post e = refl

pub work_span : (k : ℕ) (work : Work) (post : Post) → (k == post.seat && work_hides work) ≡ false → keeps (work_move work post) (Interval k) ≡ true
work_span k (Getting key at) post e = get_span k at
work_span k (Changing kept at) post e = change_span k kept at post
work_span k (Enqueuing kept at) post e = enqueue_span k kept at
work_span k (Dequeuing at) post e = dequeue_span k at
work_span k (Keeping at) post e = keep_span k at post e

scan_span : (k : ℕ) (at : ScanAt) (post : Post) → keeps (scan_move at post) (Interval k) ≡ true
scan_span k (ReadGuard number) post = refl
scan_span k (GiveBack place slot) post = refl

quiet_protect_span : (k : ℕ) (index : ℕ) (root : Root) (at : ProtectAt) (post : Post) → stores_protect at ≡ false → keeps (protect_move index root at post) (Interval k) ≡ true
quiet_protect_span k index root (PublishEra era tries) post e = absurd (cc)
quiet_protect_span k index root (TakeAnswer link era) post e = absurd (cc)
quiet_protect_span k index root (RaiseUpper era) post e = absurd (cc)
quiet_protect_span k index root (ByHazard FirstLink) post e = refl
quiet_protect_span k index root (ByHazard at) post e = refl
quiet_protect_span k index root at post e = refl

quiet_base_span : (k : ℕ) (config : Config) (base : Base) (post : Post) → helps config.scheme ≡ false → base_fits config base ≡ true → stores_guard base ≡ false → keeps (base_move base post) (Interval k) ≡ true
quiet_base_span k config (Begin LoadLower) post n f e = refl
quiet_base_span k config (Begin (PublishSpan era)) post n f e = absurd (cc)
quiet_base_span k config (Protect aim index root steps at) post n f e = quiet_protect_span k index root at post e
quiet_base_span k config (Reload parent index slot era steps) post n f e = refl
quiet_base_span k config (Clear rows index) post n f e = absurd (cc)
quiet_base_span k config Finish post n f e = absurd (cc)
quiet_base_span k config (Release index) post n f e = absurd (cc)
quiet_base_span k config (Allocate at) post n f e = allocate_span k at
quiet_base_span k config (Write slot row place) post n f e = refl
quiet_base_span k config (GiveUp slot) post n f e = refl
quiet_base_span k config (Retire at) post n f e = retire_span k at
quiet_base_span k config (Move at) post n f e = move_span k config.scheme config.seats at post n f

-- the guard of an index, by the scheme
pub base_other : (scheme : SchemeKind) (k j : ℕ) (config : Config) (base : Base) (post : Post) → helps config.scheme ≡ false → base_fits config base ≡ true → (k == post.seat) ≡ false → keeps (base_move base post) (guard_place (own_guard scheme k j)) ≡ true
base_other scheme k j config base post n f e =
    each_guard scheme k j (λ (g : Guard). keeps (base_move base post) (guard_place g) ≡ true)
    (base_index k j config base post n f e)
    (base_span k config base post n f e)

pub base_quiet : (scheme : SchemeKind) (k j : ℕ) (config : Config) (base : Base) (post : Post) → helps config.scheme ≡ false → base_fits config base ≡ true → stores_guard base ≡ false → keeps (base_move base post) (guard_place (own_guard scheme k j)) ≡ true
base_quiet scheme k j config base post n f e =
    each_guard scheme k j (λ (g : Guard). keeps (base_move base post) (guard_place g) ≡ true)
    (quiet_base_index k j config base post n f e)
    (quiet_base_span k config base post n f e)

pub scan_quiet : (scheme : SchemeKind) (k j : ℕ) (at : ScanAt) (post : Post) → keeps (scan_move at post) (guard_place (own_guard scheme k j)) ≡ true
scan_quiet scheme k j at post = each_guard scheme k j (λ (g : Guard). keeps (scan_move at post) (guard_place g) ≡ true) (scan_index k j at post) (scan_span k at post)

keep_hides_stores : (own : Bool) (at : KeepAt) (j : ℕ) → (own && keep_stores at j) ≡ false → (own && keep_hides at) ≡ false
keep_hides_stores own HideSpan j e = e
keep_hides_stores true at j e = refl
keep_hides_stores false at j e = refl

hides_stores : (own : Bool) (work : Work) (j : ℕ) → (own && work_stores work j) ≡ false → (own && work_hides work) ≡ false
hides_stores own (Keeping at) j e = keep_hides_stores own at j e
hides_stores true work j e = refl
hides_stores false work j e = refl

pub work_quiet : (scheme : SchemeKind) (k j : ℕ) (work : Work) (post : Post) → (k == post.seat && work_stores work j) ≡ false → keeps (work_move work post) (guard_place (own_guard scheme k j)) ≡ true
work_quiet scheme k j work post e = each_guard scheme k j (λ (g : Guard). keeps (work_move work post) (guard_place g) ≡ true) (work_index k j work post e) (work_span k work post (hides_stores (k == post.seat) work j e))
