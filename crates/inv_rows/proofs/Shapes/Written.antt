-- What an operation writes decodes, and the clock rises by at most one.
use Rattle.std.proofs.Common.{ℕ, ◌≡◌, ◌≤◌, ◌<◌, ◌+◌, ◌%◌, Bool, true, false, refl, ap, sym, subst, arith}
use Rattle.std.proofs.lemmas.Bool.Decides.{nat_tests}
use Rattle.std.specs.Prelude.{◌==◌, nat_lt, if◌then◌else◌}
use Rattle.wfe_core.specs.words.Place.{Place, same, has, is_valid}
use Rattle.wfe_core.specs.words.Place.Place.{Clock, Bucket, Row}
use Rattle.wfe_core.specs.words.Packed.{halves, request_word}
use Rattle.wfe_core.specs.words.declared.layout.Layout.{Layout}
use Rattle.wfe_core.specs.words.declared.packed.Request.TheVariants as requests
use Rattle.wfe_core.proofs.words.Places.{same_one}
use Rattle.wfe_core.specs.defs.declared.event.Root.{Root}
use Rattle.wfe_core.specs.declared.post.Post.{Post}
use Rattle.wfe_core.proofs.Ranges.{bounds_of}
use Rattle.wfe_core.specs.Links.{link_place, link_number}
use Rattle.wfe_core.specs.Memory.{Move, Load, Store, Cas, Or, And, place_in, change, written}
use Rattle.wfe_core.specs.Posts.{helper_word, shown_word, tag_of}
use Rattle.wfe_core.specs.Rounds.{index_of, key_of, scheme_of}
use Rattle.wfe_core.specs.words.Schemes.{publishes_rows}
use Rattle.wfe_core.proofs.words.Schemes.{helps_not_rows}
use Rattle.inv_rows.proofs.Shapes.Indexes.{eras_shown, link_shown, nothing_held, number_shown}
use Rattle.inv_rows.proofs.Shapes.Tries.{clear_rows, helps_plain, tries_plain}
use Rattle.wfe_core.specs.words.declared.config.Config.{Config}
use Rattle.wfe_core.specs.Phases.{Aim, BeginAt, HazardAt, ProtectAt, AllocateAt, RetireAt, MoveAt, Base}
use Rattle.wfe_core.specs.Phases.BeginAt.{LoadLower, PublishSpan}
use Rattle.wfe_core.specs.Phases.ProtectAt.{LoadClock, PublishEra, LoadLink, CheckClock, PublishRequest, LoadOwnClock, PublishHelper, LoadOwnLink, CheckOwnClock, AnswerOwn, LoadAnswer, TakeAnswer, WithdrawRequest, WithdrawHelper, ByHazard}
use Rattle.wfe_core.specs.Phases.HazardAt.{FirstLink, PublishLink, CheckLink}
use Rattle.wfe_core.specs.Phases.AllocateAt.{LoadBirth, ClaimSlot, StoreLife}
use Rattle.wfe_core.specs.Phases.RetireAt.{LoadLife, LoadRetire, StoreRetired}
use Rattle.wfe_core.specs.Phases.MoveAt.{LoadEra, LoadRequest, ShowEra, LoadAsked, CheckEra, AnswerAsked, LoadReserved, HandOver, HideEra, HideLate, ExchangeClock}
use Rattle.wfe_core.specs.Phases.Base.{Begin, Protect, Reload, Clear, Finish, Release, Allocate, Write, GiveUp, Retire, Move as Moves}
use Rattle.wfe_core.specs.Machine.{begin_move, hazard_move, protect_move, allocate_move, retire_move, move_move, base_move}
use Rattle.wfe_core.specs.Get.{get_move}
use Rattle.wfe_core.specs.Change.{change_move}
use Rattle.wfe_core.specs.Enqueue.{enqueue_move}
use Rattle.wfe_core.specs.Dequeue.{dequeue_move}
use Rattle.wfe_core.specs.Keep.{keep_move}
use Rattle.wfe_core.specs.Scan.{scan_move}
use Rattle.wfe_core.specs.Steps.{work_move, phase_move}
use Rattle.wfe_core.specs.Calls.{Task, Gets, Changes, Holds, Enqueues, Dequeues, ChangeKept, EnqueueKept, GetAt, FindVersion, ChangeAt, LoadVersion, EnqueueAt, LoadNumber, DequeueAt, LoadTail, KeepAt, Loosens, LoadHeld, StoreHeld, Looks, Misses, HideSpan, MarkLeft, TakeList, MarkTaken, Work, Getting, Changing, Enqueuing, Dequeuing, Keeping, ScanAt, ReadGuard, GiveBack, Why, Opens, FollowsHead, Clears, Releases, Phase, Idle, Runs, Scans, Works}
use Rattle.inv_rows.specs.Shapes.Seats.{index_by, move_fits, task_root, root_by, Kind, ToFollow, kind_of, protects, reloads, Run, PhaseFits}
use Rattle.inv_rows.specs.Shapes.Slots.{WhyIn}
use Rattle.inv_rows.specs.Shapes.Eras.{EraIn, LinkIn, HeldIn, HelperIn, IndexIn, ShownIn, hazard_needs, RequestIn, Lives, WordIn, MoveIn, ClockIn, base_eras, work_eras, PhaseEras, protect_eras, allocate_eras, retire_eras, move_eras, RootNeeds, protect_needs, move_needs, base_needs, phase_needs}

-- the operation's word after it
word_change : (layout : Layout) (clock : ℕ) (m : Move) (word : ℕ) → MoveIn layout clock m → WordIn layout clock (place_in m) word → WordIn layout clock (place_in m) (change m word)
word_change layout clock (Load place) word h e = e
word_change layout clock (Store place value) word h e = h
word_change layout clock (Cas place old new) word h e = at (word == old)
  where
    at : (b : Bool) → WordIn layout clock place (if b then new else word)
    at true = h
    at false = e
word_change layout clock (Or place bits) word h e = h _
word_change layout clock (And place bits) word h e = h _

-- the other words stay
word_by : (layout : Layout) (clock : ℕ) (mem : Place → ℕ) (place : Place) (value : ℕ) (other : Place) (b : Bool) → same other place ≡ b → WordIn layout clock place value → WordIn layout clock other (mem other) → WordIn layout clock other (if b then value else mem other)
word_by layout clock mem place value other true e h g = subst (λ (p : Place). WordIn layout clock p value) (sym (same_one other place e)) h
word_by layout clock mem place value other false e h g = g

pub words_written : (layout : Layout) (clock : ℕ) (mem : Place → ℕ) (m : Move) → MoveIn layout clock m → ((place : Place) → WordIn layout clock place (mem place)) → (place : Place) → WordIn layout clock place (written mem m place)
words_written layout clock mem (Load at) h e place = e place
words_written layout clock mem (Store at value) h e place = word_by layout clock mem at value place (same place at) refl h (e place)
words_written layout clock mem (Cas at old new) h e place = word_by layout clock mem at (change (Cas at old new) (mem at)) place (same place at) refl (word_change layout clock (Cas at old new) (mem at) h (e at)) (e place)
words_written layout clock mem (Or at bits) h e place = word_by layout clock mem at (change (Or at bits) (mem at)) place (same place at) refl (word_change layout clock (Or at bits) (mem at) h (e at)) (e place)
words_written layout clock mem (And at bits) h e place = word_by layout clock mem at (change (And at bits) (mem at)) place (same place at) refl (word_change layout clock (And at bits) (mem at) h (e at)) (e place)

no_helper : 0 ≡ helper_word 0
unfolding halves
no_helper = refl

pub helper_in : (clock era : ℕ) → era ≤ clock → HelperIn clock (helper_word era)
helper_in clock era h = record { era = era; is = refl; most = h }

pub nothing_shown : (clock : ℕ) → HelperIn clock 0
nothing_shown clock = record { era = 0; is = no_helper; most = omega arith }

pub nothing_asked : (layout : Layout) (clock : ℕ) → RequestIn layout clock 0
nothing_asked layout clock = record { request = requests.Idle; is = refl; fits = tt }

-- the index of a task, of a protection, and of what a machine is run for
task_few : (task : Task) → index_of task ≤ 2
task_few (Gets key) = omega arith
task_few (Changes kept) = omega arith
task_few (Holds key) = omega arith
task_few (Enqueues kept) = omega arith
task_few Dequeues = omega arith

pub index_few : (why : Why) → protects (kind_of why) ≡ true → index_by why ≤ 2
index_few (Opens task) h = task_few task
index_few (FollowsHead head tail) h = omega arith
index_few why h = absurd (cc)

pub index_in_seat : (config : Config) (why : Why) → 3 ≤ config.indexes → WhyIn config why → index_by why < config.indexes
index_in_seat config (Opens task) b y = let f = task_few task in omega arith
index_in_seat config (Clears task next) b y = let f = task_few task in omega arith
index_in_seat config (Releases let_go) b y = y.below
index_in_seat config why b y = omega arith

pub reloads_protect : (k : Kind) → reloads k ≡ true → protects k ≡ true
reloads_protect ToFollow h = refl
reloads_protect k h = absurd (cc)

bucket_there : (layout : Layout) (key : ℕ) → 1 ≤ layout.config.buckets → has layout (Bucket (key % layout.config.buckets)) ≡ true
bucket_there layout key b = let c : key % layout.config.buckets < layout.config.buckets = omega arith in grind (arith, nat_tests)

pub task_there : (layout : Layout) (task : Task) → 1 ≤ layout.config.buckets → has layout (link_place (task_root layout.config.buckets task)) ≡ true
task_there layout (Gets key) b = bucket_there layout key b
task_there layout (Changes kept) b = bucket_there layout (key_of kept.change) b
task_there layout (Holds key) b = bucket_there layout key b
task_there layout (Enqueues kept) b = refl
task_there layout Dequeues b = refl

next_there : (layout : Layout) (slot : ℕ) → slot ≤ layout.config.slots → has layout (Row slot 0) ≡ true
next_there layout slot h = grind (arith, nat_tests)

root_by_there : (layout : Layout) (why : Why) → 1 ≤ layout.config.buckets → RootNeeds layout (root_by layout.config.buckets why) → has layout (link_place (root_by layout.config.buckets why)) ≡ true
root_by_there layout (Opens task) b n = task_there layout task b
root_by_there layout (FollowsHead head tail) b n = next_there layout head n
root_by_there layout why b n = refl

-- the root of a protection is a word of the table
pub root_there : (layout : Layout) (why : Why) (root : Root) → 1 ≤ layout.config.buckets → root ≡ root_by layout.config.buckets why → RootNeeds layout root → has layout (link_place root) ≡ true
root_there layout why root b e n = subst (λ (r : Root). has layout (link_place r) ≡ true) (sym e) (root_by_there layout why b (subst (RootNeeds layout) e n))

answer_in_word : (layout : Layout) (clock link era : ℕ) → LinkIn layout link → EraIn clock era → RequestIn layout clock (request_word (requests.Answered link era))
answer_in_word layout clock link era l e = record { request = requests.Answered link era; is = refl; fits = record { link_in = l; era_in = e } }

pub index_in : (clock era tag word : ℕ) → word ≡ halves era tag → era ≤ clock → tag < 4294967296 → IndexIn clock word
index_in clock era tag word e m f = record { era = era; tag = tag; is = e; most = m; few = f }

hazard_in : (layout : Layout) (clock index : ℕ) (root : Root) (at : HazardAt) (post : Post) → publishes_rows layout.config.scheme ≡ true → hazard_needs at layout → MoveIn layout clock (hazard_move index root at post)
hazard_in layout clock index root FirstLink post f d = tt
hazard_in layout clock index root (PublishLink link) post f d = link_shown (publishes_rows layout.config.scheme) layout clock link f d
hazard_in layout clock index root (CheckLink link) post f d = tt

protect_in : (layout : Layout) (clock : ℕ) (v : is_valid layout ≡ true) (why : Why) (aim : Aim) (index : ℕ) (root : Root) (n : ℕ) (at : ProtectAt) (post : Post) → post.layout ≡ layout → tag_of post index < 4294967295
    → Run layout why (Protect aim index root n at) post → protect_eras clock post at → protect_needs at layout root → MoveIn layout clock (protect_move index root at post)
protect_in layout clock v why aim index root n (LoadClock tries) post l t r e d = tt
protect_in layout clock v why aim index root n (PublishEra era tries) post l t r e d =
    eras_shown (publishes_rows layout.config.scheme) layout clock _ (tries_plain layout.config.scheme layout.config.tries tries r.fits) (index_in clock era (tag_of post index) _ refl e.most (omega arith))
protect_in layout clock v why aim index root n (LoadLink era tries) post l t r e d = tt
protect_in layout clock v why aim index root n (CheckClock era tries link) post l t r e d = tt
protect_in layout clock v why aim index root n PublishRequest post l t r e d = let b = bounds_of layout v in let i = b.indexes.0 in let f = index_few why r.suited in let a = r.shape.at in
    record { request = requests.Pending (tag_of post index) index (link_number post.layout root); is = refl; fits = record { root = root; is = ap (λ (t : Layout). link_number t root) l; fits = record { few = t; at = omega arith; there = root_there layout why root b.buckets.0 r.shape.of d } } }
protect_in layout clock v why aim index root n LoadOwnClock post l t r e d = tt
protect_in layout clock v why aim index root n (PublishHelper first era last) post l t r e d = helper_in clock era e.most
protect_in layout clock v why aim index root n (LoadOwnLink first era last) post l t r e d = tt
protect_in layout clock v why aim index root n (CheckOwnClock first era last link) post l t r e d = tt
protect_in layout clock v why aim index root n (AnswerOwn first era link) post l t r e d = let b = e.began in let s = e.rises in answer_in_word layout clock link era d (record { some = omega arith; most = e.most })
protect_in layout clock v why aim index root n (LoadAnswer first) post l t r e d = tt
protect_in layout clock v why aim index root n (TakeAnswer link era) post l t r e d =
    eras_shown (publishes_rows layout.config.scheme) layout clock _ (helps_not_rows layout.config.scheme r.fits) (index_in clock era (tag_of post index + 1) _ refl e (omega arith))
protect_in layout clock v why aim index root n (WithdrawRequest link era) post l t r e d = nothing_asked layout clock
protect_in layout clock v why aim index root n (WithdrawHelper link era) post l t r e d = nothing_shown clock
protect_in layout clock v why aim index root n (ByHazard at) post l t r e d = hazard_in layout clock index root at post r.fits d
protect_in layout clock v why aim index root n at post l t r e d = tt

move_in : (layout : Layout) (clock : ℕ) (at : MoveAt) (post : Post) → move_fits layout.config.scheme layout.config.seats at ≡ true → move_eras layout clock at → move_needs at layout → MoveIn layout clock (move_move at post)
move_in layout clock (LoadEra helps) post g e d = tt
move_in layout clock (LoadRequest era seat shows) post g e d = tt
move_in layout clock (ShowEra era seat tag index root) post g e d = helper_in clock era e.mover.era_in.most
move_in layout clock (LoadAsked era seat tag index root) post g e d = tt
move_in layout clock (CheckEra era seat tag index root link) post g e d = tt
move_in layout clock (AnswerAsked era seat tag index root link) post g e d = answer_in_word layout clock link era d e.mover.era_in
move_in layout clock (LoadReserved era seat tag index root link) post g e d = tt
move_in layout clock (HandOver era seat tag index root link old) post g e d = let f = e.helps.asked.few in
    eras_shown (publishes_rows layout.config.scheme) layout clock _ (helps_plain layout.config.scheme (nat_lt seat layout.config.seats) g) (index_in clock era (tag + 1) _ refl e.helps.mover.era_in.most (omega arith))
move_in layout clock (HideEra era) post g e d = nothing_shown clock
move_in layout clock (HideLate seen) post g e d = nothing_shown clock
move_in layout clock (ExchangeClock era) post g e d = tt

begin_in : (layout : Layout) (clock : ℕ) (at : BeginAt) (post : Post) → MoveIn layout clock (begin_move at post)
begin_in layout clock LoadLower post = tt
begin_in layout clock (PublishSpan era) post = tt

allocate_in : (layout : Layout) (clock : ℕ) (at : AllocateAt) → allocate_eras clock at → MoveIn layout clock (allocate_move at)
allocate_in layout clock LoadBirth e = tt
allocate_in layout clock (ClaimSlot birth walk) e = λ word. tt
allocate_in layout clock (StoreLife birth slot) e = Lives birth 0 refl (record { born = e; over = omega arith; later = λ h. absurd (omega arith) })

retire_in : (layout : Layout) (clock : ℕ) (at : RetireAt) → retire_eras clock at → MoveIn layout clock (retire_move at)
retire_in layout clock (LoadLife slot) e = tt
retire_in layout clock (LoadRetire slot birth) e = tt
retire_in layout clock (StoreRetired slot birth retire) e = let a = e.later in let b = e.most in
    Lives birth retire refl (record { born = record { some = e.born; most = omega arith }; over = e.most; later = λ h. e.later })

clear_in : (layout : Layout) (clock : ℕ) (rows : Bool) (index : ℕ) (post : Post) → rows ≡ publishes_rows layout.config.scheme → tag_of post index < 4294967295 → ShownIn (publishes_rows layout.config.scheme) layout clock (shown_word rows post index 0)
clear_in layout clock rows index post e t =
    subst (λ (b : Bool). ShownIn b layout clock (shown_word rows post index 0)) e (number_shown rows layout clock post index 0 t (nothing_held rows layout clock))

base_in : (layout : Layout) (clock : ℕ) (v : is_valid layout ≡ true) (mem : Place → ℕ) (why : Why) (base : Base) (post : Post) → post.layout ≡ layout → ((index : ℕ) → tag_of post index < 4294967295)
    → Run layout why base post → base_eras layout clock post base → base_needs base layout mem → MoveIn layout clock (base_move base post)
base_in layout clock v mem why (Begin at) post l t r e d = begin_in layout clock at post
base_in layout clock v mem why (Protect aim index root steps at) post l t r e d = protect_in layout clock v why aim index root steps at post l (t index) r e d
base_in layout clock v mem why (Reload parent index slot era steps) post l t r e d = tt
base_in layout clock v mem why (Clear rows index) post l t r e d = clear_in layout clock rows index post (clear_rows layout.config.scheme rows r.fits) (t index)
base_in layout clock v mem why Finish post l t r e d = tt
base_in layout clock v mem why (Release index) post l t r e d = tt
base_in layout clock v mem why (Allocate at) post l t r e d = allocate_in layout clock at e
base_in layout clock v mem why (Write slot row place) post l t r e d = tt
base_in layout clock v mem why (GiveUp slot) post l t r e d = λ word. tt
base_in layout clock v mem why (Retire at) post l t r e d = retire_in layout clock at e
base_in layout clock v mem why (Moves at) post l t r e d = move_in layout clock at post r.fits e d

held_in : (layout : Layout) (clock index number : ℕ) (post : Post) → post.layout ≡ layout → tag_of post index < 4294967295 → HeldIn (publishes_rows layout.config.scheme) layout clock number
    → ShownIn (publishes_rows layout.config.scheme) layout clock (shown_word (publishes_rows (scheme_of post)) post index number)
held_in layout clock index number post l t h =
    subst (λ (s : Layout). ShownIn (publishes_rows layout.config.scheme) layout clock (shown_word (publishes_rows s.config.scheme) post index number)) (sym l) (number_shown (publishes_rows layout.config.scheme) layout clock post index number t h)

get_in : (layout : Layout) (clock : ℕ) (at : GetAt) → MoveIn layout clock (get_move at)
get_in layout clock (FindVersion slot) = tt
get_in layout clock at = tt

change_in : (layout : Layout) (clock : ℕ) (kept : ChangeKept) (at : ChangeAt) (post : Post) → MoveIn layout clock (change_move kept at post)
change_in layout clock kept (LoadVersion slot) post = tt
change_in layout clock kept at post = tt

enqueue_in : (layout : Layout) (clock : ℕ) (kept : EnqueueKept) (at : EnqueueAt) → MoveIn layout clock (enqueue_move kept at)
enqueue_in layout clock kept LoadNumber = tt
enqueue_in layout clock kept at = tt

dequeue_in : (layout : Layout) (clock : ℕ) (at : DequeueAt) → MoveIn layout clock (dequeue_move at)
dequeue_in layout clock (LoadTail head) = tt
dequeue_in layout clock at = tt

keep_in : (layout : Layout) (clock : ℕ) (at : KeepAt) (post : Post) → post.layout ≡ layout → ((index : ℕ) → tag_of post index < 4294967295) → work_eras layout clock (Keeping at) → MoveIn layout clock (keep_move at post)
keep_in layout clock (Loosens let_go) post l t e = tt
keep_in layout clock (LoadHeld from index) post l t e = tt
keep_in layout clock (StoreHeld from index era) post l t e = held_in layout clock index era post l (t index) e
keep_in layout clock (Looks index key at) post l t e = get_in layout clock at
keep_in layout clock (Misses index) post l t e = tt
keep_in layout clock HideSpan post l t e = tt
keep_in layout clock MarkLeft post l t e = tt
keep_in layout clock (TakeList place) post l t e = tt
keep_in layout clock (MarkTaken place count) post l t e = tt

work_in : (layout : Layout) (clock : ℕ) (work : Work) (post : Post) → post.layout ≡ layout → ((index : ℕ) → tag_of post index < 4294967295) → work_eras layout clock work → MoveIn layout clock (work_move work post)
work_in layout clock (Getting key at) post l t e = get_in layout clock at
work_in layout clock (Changing kept at) post l t e = change_in layout clock kept at post
work_in layout clock (Enqueuing kept at) post l t e = enqueue_in layout clock kept at
work_in layout clock (Dequeuing at) post l t e = dequeue_in layout clock at
work_in layout clock (Keeping at) post l t e = keep_in layout clock at post l t e

scan_in : (layout : Layout) (clock : ℕ) (at : ScanAt) (post : Post) → MoveIn layout clock (scan_move at post)
scan_in layout clock (ReadGuard number) post = tt
scan_in layout clock (GiveBack place slot) post = λ word. tt

-- what a step writes
pub phase_in : (layout : Layout) (clock : ℕ) (v : is_valid layout ≡ true) (mem : Place → ℕ) (phase : Phase) (post : Post) → post.layout ≡ layout → ((index : ℕ) → tag_of post index < 4294967295)
    → PhaseFits layout post phase → PhaseEras layout clock post phase → phase_needs phase layout mem → MoveIn layout clock (phase_move phase post)
phase_in layout clock v mem Idle post l t r e d = tt
phase_in layout clock v mem (Runs why base) post l t r e d = base_in layout clock v mem why base post l t r e d
phase_in layout clock v mem (Scans later at) post l t r e d = scan_in layout clock at post
phase_in layout clock v mem (Works work) post l t r e d = work_in layout clock work post l t e

-- the clock
clock_stays : (last clock : ℕ) → clock ≤ last → ClockIn last clock clock
clock_stays last clock m = record { rises = omega arith; most = m }

clock_exchanged : (last clock era : ℕ) → clock ≤ last → era < last → ClockIn last clock (if clock == era then era + 1 else clock)
clock_exchanged last clock era m l = by (clock == era) refl
  where
    by : (b : Bool) → (clock == era) ≡ b → ClockIn last clock (if b then era + 1 else clock)
    by true e = record { rises = grind (arith, nat_tests); most = omega arith }
    by false e = clock_stays last clock m

hazard_clock : (last : ℕ) (mem : Place → ℕ) (index : ℕ) (root : Root) (at : HazardAt) (post : Post) → mem Clock ≤ last → ClockIn last (mem Clock) (written mem (hazard_move index root at post) Clock)
hazard_clock last mem index root FirstLink post m = clock_stays last (mem Clock) m
hazard_clock last mem index root at post m = clock_stays last (mem Clock) m

protect_clock : (last : ℕ) (mem : Place → ℕ) (index : ℕ) (root : Root) (at : ProtectAt) (post : Post) → mem Clock ≤ last → ClockIn last (mem Clock) (written mem (protect_move index root at post) Clock)
protect_clock last mem index root (LoadClock tries) post m = clock_stays last (mem Clock) m
protect_clock last mem index root (ByHazard at) post m = hazard_clock last mem index root at post m
protect_clock last mem index root at post m = clock_stays last (mem Clock) m

begin_clock : (last : ℕ) (mem : Place → ℕ) (at : BeginAt) (post : Post) → mem Clock ≤ last → ClockIn last (mem Clock) (written mem (begin_move at post) Clock)
begin_clock last mem LoadLower post m = clock_stays last (mem Clock) m
begin_clock last mem at post m = clock_stays last (mem Clock) m

allocate_clock : (last : ℕ) (mem : Place → ℕ) (at : AllocateAt) → mem Clock ≤ last → ClockIn last (mem Clock) (written mem (allocate_move at) Clock)
allocate_clock last mem LoadBirth m = clock_stays last (mem Clock) m
allocate_clock last mem at m = clock_stays last (mem Clock) m

retire_clock : (last : ℕ) (mem : Place → ℕ) (at : RetireAt) → mem Clock ≤ last → ClockIn last (mem Clock) (written mem (retire_move at) Clock)
retire_clock last mem (LoadLife slot) m = clock_stays last (mem Clock) m
retire_clock last mem at m = clock_stays last (mem Clock) m

move_clock : (layout : Layout) (mem : Place → ℕ) (at : MoveAt) (post : Post) → mem Clock ≤ layout.config.last_era → move_eras layout (mem Clock) at → ClockIn layout.config.last_era (mem Clock) (written mem (move_move at post) Clock)
move_clock layout mem (ExchangeClock era) post m e = clock_exchanged layout.config.last_era (mem Clock) era m e.left
move_clock layout mem at post m e = clock_stays layout.config.last_era (mem Clock) m

base_clock : (layout : Layout) (mem : Place → ℕ) (base : Base) (post : Post) → mem Clock ≤ layout.config.last_era → base_eras layout (mem Clock) post base → ClockIn layout.config.last_era (mem Clock) (written mem (base_move base post) Clock)
base_clock layout mem (Begin at) post m e = begin_clock layout.config.last_era mem at post m
base_clock layout mem (Protect aim index root steps at) post m e = protect_clock layout.config.last_era mem index root at post m
base_clock layout mem (Reload parent index slot era steps) post m e = clock_stays layout.config.last_era (mem Clock) m
base_clock layout mem (Clear rows index) post m e = clock_stays layout.config.last_era (mem Clock) m
base_clock layout mem Finish post m e = clock_stays layout.config.last_era (mem Clock) m
base_clock layout mem (Release index) post m e = clock_stays layout.config.last_era (mem Clock) m
base_clock layout mem (Allocate at) post m e = allocate_clock layout.config.last_era mem at m
base_clock layout mem (Write slot row place) post m e = clock_stays layout.config.last_era (mem Clock) m
base_clock layout mem (GiveUp slot) post m e = clock_stays layout.config.last_era (mem Clock) m
base_clock layout mem (Retire at) post m e = retire_clock layout.config.last_era mem at m
base_clock layout mem (Moves at) post m e = move_clock layout mem at post m e

get_keeps : (place : Place) (mem : Place → ℕ) (at : GetAt) → written mem (get_move at) place ≡ mem place
get_keeps place mem (FindVersion slot) = refl
get_keeps place mem at = refl

change_clock : (mem : Place → ℕ) (kept : ChangeKept) (at : ChangeAt) (post : Post) → written mem (change_move kept at post) Clock ≡ mem Clock
change_clock mem kept (LoadVersion slot) post = refl
change_clock mem kept at post = refl

enqueue_clock : (mem : Place → ℕ) (kept : EnqueueKept) (at : EnqueueAt) → written mem (enqueue_move kept at) Clock ≡ mem Clock
enqueue_clock mem kept LoadNumber = refl
enqueue_clock mem kept at = refl

dequeue_clock : (mem : Place → ℕ) (at : DequeueAt) → written mem (dequeue_move at) Clock ≡ mem Clock
dequeue_clock mem (LoadTail head) = refl
dequeue_clock mem at = refl

keep_clock : (mem : Place → ℕ) (at : KeepAt) (post : Post) → written mem (keep_move at post) Clock ≡ mem Clock
keep_clock mem (Loosens let_go) post = refl
keep_clock mem (LoadHeld from index) post = refl
keep_clock mem (StoreHeld from index era) post = refl
keep_clock mem (Looks index key at) post = get_keeps Clock mem at
keep_clock mem (Misses index) post = refl
keep_clock mem HideSpan post = refl
keep_clock mem MarkLeft post = refl
keep_clock mem (TakeList place) post = refl
keep_clock mem (MarkTaken place count) post = refl

work_clock : (mem : Place → ℕ) (work : Work) (post : Post) → written mem (work_move work post) Clock ≡ mem Clock
work_clock mem (Getting key at) post = get_keeps Clock mem at
work_clock mem (Changing kept at) post = change_clock mem kept at post
work_clock mem (Enqueuing kept at) post = enqueue_clock mem kept at
work_clock mem (Dequeuing at) post = dequeue_clock mem at
work_clock mem (Keeping at) post = keep_clock mem at post

scan_clock : (mem : Place → ℕ) (at : ScanAt) (post : Post) → written mem (scan_move at post) Clock ≡ mem Clock
scan_clock mem (ReadGuard number) post = refl
scan_clock mem (GiveBack place slot) post = refl

pub phase_clock : (layout : Layout) (mem : Place → ℕ) (phase : Phase) (post : Post) → mem Clock ≤ layout.config.last_era → PhaseEras layout (mem Clock) post phase → ClockIn layout.config.last_era (mem Clock) (written mem (phase_move phase post) Clock)
phase_clock layout mem Idle post m e = clock_stays layout.config.last_era (mem Clock) m
phase_clock layout mem (Runs why base) post m e = base_clock layout mem base post m e
phase_clock layout mem (Scans later at) post m e = subst (ClockIn layout.config.last_era (mem Clock)) (sym (scan_clock mem at post)) (clock_stays layout.config.last_era (mem Clock) m)
phase_clock layout mem (Works work) post m e = subst (ClockIn layout.config.last_era (mem Clock)) (sym (work_clock mem work post)) (clock_stays layout.config.last_era (mem Clock) m)
