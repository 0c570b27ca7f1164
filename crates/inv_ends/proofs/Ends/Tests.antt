-- What a machine or a step on what is kept tells that a test of events may be true of: what its try, its answer, its reload or
-- its copy makes stand, and what it clears.
use Rattle.std.proofs.Common.{ℕ, ◌+◌, Bool, true, false, ◌≡◌, ◌∙◌, refl, ap, arith}
use Rattle.std.proofs.lemmas.Bool.Decides.{nat_tests}
use Rattle.std.proofs.lemmas.List.Folds.{list_any-append}
use Rattle.std.specs.List.{list_any, list_all}
use Rattle.inv_rows.specs.defs.declared.event.Event.TheVariants as events
use Rattle.inv_rows.specs.defs.declared.call.ClockMove.TheVariants as moves
use Rattle.inv_rows.specs.model.Allocate.{after_claim_slot, is_claimed, walk_past, walking}
use Rattle.inv_rows.specs.model.Calls.{KeepAt, Phase, Work}
use Rattle.inv_rows.specs.model.Calls.KeepAt.{HideSpan, LoadHeld, Loosens, Looks, MarkLeft, MarkTaken, Misses, StoreHeld, TakeList}
use Rattle.inv_rows.specs.model.Calls.Work.{Changing, Dequeuing, Enqueuing, Getting, Keeping}
use Rattle.inv_rows.specs.model.Calls.Phase.{Idle, Runs, Scans, Works}
use Rattle.inv_rows.specs.model.Calls.ScanAt.{GiveBack, ReadGuard}
use Rattle.inv_rows.specs.model.Locals.{turn}
use Rattle.inv_rows.specs.model.Machine.{after, allocate_turn, begin_turn, move_turn, protect_turn, retire_turn}
use Rattle.inv_rows.specs.model.Memory.{bump}
use Rattle.inv_rows.specs.model.MoveClock.{after_hand_over}
use Rattle.inv_rows.specs.model.Phases.{Aim, AllocateAt, Base, BeginAt, Ending, HazardAt, MoveAt, ProtectAt, RetireAt, Walk, ends, goes}
use Rattle.inv_rows.specs.model.Phases.AllocateAt.{ClaimSlot, LoadBirth, StoreLife}
use Rattle.inv_rows.specs.model.Phases.Base.{Allocate, Begin, Clear, Finish, GiveUp, Move, Protect, Release, Reload, Retire, Write}
use Rattle.inv_rows.specs.model.Phases.BeginAt.{LoadLower, PublishSpan}
use Rattle.inv_rows.specs.model.Phases.Ending.{Clocked}
use Rattle.inv_rows.specs.model.Phases.MoveAt.{AnswerAsked, CheckEra, ExchangeClock, HandOver, HideEra, HideLate, LoadAsked, LoadEra, LoadRequest, LoadReserved, ShowEra}
use Rattle.inv_rows.specs.model.Phases.ProtectAt.{AnswerOwn, ByHazard, CheckClock, CheckOwnClock, CheckUpper, LoadAnswer, LoadClock, LoadLink, LoadOwnClock, LoadOwnLink, LoadWithin, PublishEra, PublishHelper, PublishRequest, RaiseUpper, TakeAnswer, WithdrawHelper, WithdrawRequest}
use Rattle.inv_rows.specs.model.Phases.HazardAt.{FirstLink, PublishLink, CheckLink}
use Rattle.inv_rows.specs.model.Phases.RetireAt.{LoadLife, LoadRetire, StoreRetired}
use Rattle.inv_rows.specs.model.Posts.{cleared, cleared_from, counted, publishes_index, reserves_helper, reserves_span, stands, upper}
use Rattle.inv_rows.specs.model.Protect.{held_post, protected, told_held}
use Rattle.inv_rows.specs.model.Rounds.{let_index, scheme_of}
use Rattle.inv_rows.specs.model.Guards.{guard_at}
use Rattle.inv_rows.specs.model.Scan.{reads_guard}
use Rattle.inv_rows.specs.model.SlowPath.{asking, own_request}
use Rattle.inv_rows.specs.model.World.{World, finds, offered, told_in}
use Rattle.inv_rows.specs.model.WriteRow.{last_written}
use Rattle.inv_rows.specs.model.declared.post.Post.{Post}
use Rattle.inv_rows.specs.defs.declared.event.Event.{Event}
use Rattle.inv_rows.specs.defs.declared.event.Guard.{Guard}
use Rattle.inv_rows.specs.defs.declared.event.Root.{Root}
use Rattle.inv_rows.specs.defs.declared.lifetime.Interval.{Interval}
use Rattle.inv_ends.proofs.Told.Rows.{concluded_told, own_post, own_told, step_adds}
use Rattle.inv_ends.proofs.Told.Turns.{Adds, is_later}
use Rattle.inv_rows.proofs.model.Facts.{and_false, or_false}
use Rattle.inv_rows.specs.words.Packed.{read_reservation}
use Rattle.inv_rows.specs.words.Schemes.{has_one_interval, publishes_rows}
use Rattle.model_history.proofs.Passes.{copied_told, keep_told, work_told}
use Rattle.std.specs.Prelude.{List, [], ◌∷◌, ◌++◌, drop, Option, Some, None, if◌then◌else◌, ◌==◌, ◌&&◌, ◌||◌}

-- a test that is false of guards, eras, rows and scans
pub record Calm (p : Event → Bool) : Type 0 where
  pub reserve : (guard : Guard) (span : Option Interval) → p (events.Reserve guard span) ≡ false
  pub hazard : (guard : Guard) (slot : Option ℕ) → p (events.Hazard guard slot) ≡ false
  pub saw : (guard : Guard) (slot : Option ℕ) → p (events.Saw guard slot) ≡ false
  pub read : (guard : Guard) (span : Option Interval) → p (events.Read guard span) ≡ false
  pub era : (era : ℕ) → p (events.Era era) ≡ false
  pub give : (slot birth : ℕ) → p (events.Give slot birth) ≡ false
  pub unused : (slot : ℕ) → p (events.Unused slot) ≡ false
  pub retire : (slot birth retire : ℕ) → p (events.Retire slot birth retire) ≡ false
  pub back : (slot : ℕ) → p (events.Back slot) ≡ false

-- what a phase shows of a test
abbrev pub hazard_shows : (Event → Bool) → ℕ → Root → ℕ → HazardAt → ℕ → Bool
hazard_shows p index root n FirstLink found = (found == 0) && list_any p (told_held index root found n)
hazard_shows p index root n (PublishLink link) found = false
hazard_shows p index root n (CheckLink link) found = (found == link || found == 0) && list_any p (told_held index root found n)

abbrev pub at_shows : (Event → Bool) → ℕ → Root → ℕ → Post → ProtectAt → ℕ → Bool
at_shows p index root n post (CheckClock era tries link) found = (found == era) && list_any p (told_held index root link n)
at_shows p index root n post (TakeAnswer link era) found = list_any p (told_held index root link n)
at_shows p index root n post (CheckUpper link) found = (found == upper post.span) && list_any p (told_held index root link n)
at_shows p index root n post (ByHazard at) found = hazard_shows p index root n at found
at_shows p index root n post at found = false

abbrev pub base_shows : (Event → Bool) → Post → Base → ℕ → Bool
base_shows p post (Protect aim index root steps at) found = at_shows p index root (bump steps) post at found
base_shows p post (Reload parent index slot era steps) found = (found == parent + 1) && p (events.Held index slot (bump steps))
base_shows p post (Clear rows index) found = list_any p (cleared index (stands post index))
base_shows p post (Release index) found = list_any p (cleared index (stands post index))
base_shows p post base found = false

protected_any : (p : Event → Bool) (aim : Aim) (index : ℕ) (root : Root) (n link era : ℕ) (post : Post) → list_any p (protected aim index root n link era post).told ≡ list_any p (told_held index root link n)
protected_any p aim index root n link era post = ap (list_any p) (concluded_told aim index root n link era (held_post post index root link) (told_held index root link n))

check_any : (p : Event → Bool) (aim : Aim) (index : ℕ) (root : Root) (n era link : ℕ) (post : Post) (next : Base) (same : Bool) → list_any p (if same then protected aim index root n link era post else goes post [] next).told ≡ (same && list_any p (told_held index root link n))
check_any p aim index root n era link post next true = protected_any p aim index root n link era post
check_any p aim index root n era link post next false = refl

either_any : (p : Event → Bool) (post : Post) (a b : Base) (same : Bool) → list_any p (if same then goes post [] a else goes post [] b).told ≡ false
either_any p post a b true = refl
either_any p post a b false = refl

ends_any : (p : Event → Bool) (post : Post) (a : Ending) (b : Base) (same : Bool) → list_any p (if same then ends post [] a else goes post [] b).told ≡ false
ends_any p post a b true = refl
ends_any p post a b false = refl

one_any : (p : Event → Bool) (e : Event) (es : List Event) → p e ≡ false → list_any p (e ∷ es) ≡ list_any p es
one_any p e es h = rw h refl

-- an index word that publishes something else
shown_any : (p : Event → Bool) (rows : Bool) (post : Post) (index number : ℕ) → Calm p → list_any p (publishes_index rows post index number) ≡ false
shown_any p true post index number c = one_any p _ [] (c.hazard _ _)
shown_any p false post index number c = one_any p _ [] (c.reserve _ _)

pub read_any : (p : Event → Bool) (rows : Bool) (guard : Guard) (word : ℕ) → Calm p → list_any p (reads_guard rows guard word ∷ []) ≡ false
read_any p true guard word c = one_any p _ [] (c.saw _ _)
read_any p false guard word c = one_any p _ [] (c.read _ _)

protect_any : (p : Event → Bool) (aim : Aim) (index : ℕ) (root : Root) (n : ℕ) (at : ProtectAt) (post : Post) (found : ℕ) → Calm p → list_any p (protect_turn aim index root n at post found).told ≡ at_shows p index root n post at found
protect_any p aim index root n (LoadClock tries) post found c = refl
protect_any p aim index root n (PublishEra era tries) post found c = one_any p _ [] (c.reserve _ _)
protect_any p aim index root n (LoadLink era tries) post found c = refl
protect_any p aim index root n (CheckClock era tries link) post found c = check_any p aim index root n era link post _ (found == era)
protect_any p aim index root n PublishRequest post found c = refl
protect_any p aim index root n LoadOwnClock post found c = refl
protect_any p aim index root n (PublishHelper first era last) post found c = one_any p _ [] (c.reserve _ _)
protect_any p aim index root n (LoadOwnLink first era last) post found c = refl
protect_any p aim index root n (CheckOwnClock first era last link) post found c = either_any p post _ _ (found == era)
protect_any p aim index root n (AnswerOwn first era link) post found c = either_any p post _ _ (found == own_request post index root)
protect_any p aim index root n (LoadAnswer first) post found c = refl
protect_any p aim index root n (TakeAnswer link era) post found c = one_any p _ (told_held index root link n) (c.reserve _ _)
protect_any p aim index root n (WithdrawRequest link era) post found c = refl
protect_any p aim index root n (WithdrawHelper link era) post found c =
    ap (list_any p) (concluded_told aim index root n link era post (reserves_helper post 0)) ∙ one_any p _ [] (c.reserve _ _)
protect_any p aim index root n LoadWithin post found c = refl
protect_any p aim index root n (CheckUpper link) post found c = check_any p aim index root n found link post _ (found == upper post.span)
protect_any p aim index root n (RaiseUpper era) post found c = one_any p _ [] (c.reserve _ _)
protect_any p aim index root n (ByHazard FirstLink) post found c = check_any p aim index root n 0 found post _ (found == 0)
protect_any p aim index root n (ByHazard (PublishLink link)) post found c = one_any p _ [] (c.hazard _ _)
protect_any p aim index root n (ByHazard (CheckLink link)) post found c = check_any p aim index root n 0 found post _ (found == link || found == 0)

begin_any : (p : Event → Bool) (at : BeginAt) (post : Post) (found : ℕ) → Calm p → list_any p (begin_turn at post found).told ≡ false
begin_any p LoadLower post found c = refl
begin_any p (PublishSpan era) post found c = one_any p _ [] (c.reserve _ _)

walking_any : (p : Event → Bool) (birth : ℕ) (post : Post) (x : Option Walk) → list_any p (walking birth post x).told ≡ false
walking_any p birth post None = refl
walking_any p birth post (Some walk) = refl

claim_any : (p : Event → Bool) (birth : ℕ) (walk : Walk) (post : Post) (found : ℕ) (taken : Bool) → is_claimed found walk.slot ≡ taken → Calm p → list_any p (after_claim_slot birth walk post found).told ≡ false
claim_any p birth walk post found true e c = rw e (walking_any p birth post (walk_past post.layout.config.slots walk found))
claim_any p birth walk post found false e c = rw e (one_any p _ [] (c.give walk.slot birth))

allocate_any : (p : Event → Bool) (at : AllocateAt) (post : Post) (found : ℕ) → Calm p → list_any p (allocate_turn at post found).told ≡ false
allocate_any p LoadBirth post found c = refl
allocate_any p (ClaimSlot birth walk) post found c = claim_any p birth walk post found (is_claimed found walk.slot) refl c
allocate_any p (StoreLife birth slot) post found c = refl

retire_any : (p : Event → Bool) (at : RetireAt) (post : Post) (found : ℕ) → Calm p → list_any p (retire_turn at post found).told ≡ false
retire_any p (LoadLife slot) post found c = refl
retire_any p (LoadRetire slot birth) post found c = refl
retire_any p (StoreRetired slot birth retire) post found c = one_any p _ [] (c.retire slot birth retire)

clock_any : (p : Event → Bool) (era found : ℕ) (post : Post) (same : Bool) → Calm p → list_any p (if same then ends post (events.Era (era + 1) ∷ []) (Clocked (moves.Moved (era + 1))) else ends post [] (Clocked (moves.Other found))).told ≡ false
clock_any p era found post true c = one_any p _ [] (c.era (era + 1))
clock_any p era found post false c = refl

hand_any : (p : Event → Bool) (era seat tag index old : ℕ) (post : Post) (same : Bool) → Calm p → list_any p (after_hand_over era seat tag index old post same).told ≡ false
hand_any p era seat tag index old post true c = one_any p _ [] (c.reserve _ _)
hand_any p era seat tag index old post false c = refl

move_any : (p : Event → Bool) (at : MoveAt) (post : Post) (found : ℕ) → Calm p → list_any p (move_turn at post found).told ≡ false
move_any p (LoadEra helps) post found c = ends_any p post _ _ (found == post.layout.config.last_era)
move_any p (LoadRequest era seat shows) post found c = refl
move_any p (ShowEra era seat tag index root) post found c = one_any p _ [] (c.reserve _ _)
move_any p (LoadAsked era seat tag index root) post found c = refl
move_any p (CheckEra era seat tag index root link) post found c = either_any p post _ _ (found == era)
move_any p (AnswerAsked era seat tag index root link) post found c = either_any p post _ _ (found == asking post.layout tag index root)
move_any p (LoadReserved era seat tag index root link) post found c = either_any p post _ _ ((read_reservation found).tag == tag)
move_any p (HandOver era seat tag index root link old) post found c = hand_any p era seat tag index old post _ c
move_any p (HideEra era) post found c = one_any p _ [] (c.reserve _ _)
move_any p (HideLate seen) post found c = one_any p _ [] (c.reserve _ _)
move_any p (ExchangeClock era) post found c = clock_any p era found post (found == era) c

reload_any : (p : Event → Bool) (e : Event) (post next : Post) (a b : Ending) (same : Bool) → list_any p (if same then ends next (e ∷ []) a else ends post [] b).told ≡ (same && p e)
reload_any p e post next a b true = last (p e) where
  last : (x : Bool) → (x || false) ≡ x
  last true = refl
  last false = refl
reload_any p e post next a b false = refl

-- more events that do not pass the test
pub any_more : (p : Event → Bool) (told more : List Event) → list_any p more ≡ false → list_any p (told ++ more) ≡ list_any p told
any_more p [] more h = h
any_more p (e ∷ es) more h = rw (any_more p es more h) refl

cleared_any : (p : Event → Bool) (index : ℕ) (x : Option ℕ) (a : List Event) → list_any p a ≡ false → list_any p (cleared index x ++ a) ≡ list_any p (cleared index x)
cleared_any p index None a h = h
cleared_any p index (Some slot) a h = rw h refl

-- what a machine tells, by a test
pub base_any : (p : Event → Bool) (base : Base) (post : Post) (found : ℕ) → Calm p → list_any p (after base post found).told ≡ base_shows p post base found
base_any p (Begin at) post found c = begin_any p at post found c
base_any p (Protect aim index root steps at) post found c = protect_any p aim index root (bump steps) at post found c
base_any p (Reload parent index slot era steps) post found c = reload_any p _ post _ _ _ (found == parent + 1)
base_any p (Clear rows index) post found c = cleared_any p index (stands post index) _ (shown_any p rows post index 0 c)
base_any p Finish post found c = one_any p _ [] (c.reserve _ _)
base_any p (Release index) post found c = cleared_any p index (stands post index) _ (one_any p _ [] (c.reserve _ _))
base_any p (Allocate at) post found c = allocate_any p at post found c
base_any p (Write slot row place) post found c = ends_any p post _ _ (place == last_written row)
base_any p (GiveUp slot) post found c = one_any p _ [] (c.unused slot)
base_any p (Retire at) post found c = retire_any p at post found c
base_any p (Move at) post found c = move_any p at post found c

-- the same of a step on what is kept
abbrev pub copied_shows : (Event → Bool) → (from index : ℕ) → Post → Option ℕ → Bool
copied_shows p from index post None = false
copied_shows p from index post (Some slot) = list_any p (cleared index (stands post index)) || p (events.Copied from index slot)

abbrev pub keep_shows : (Event → Bool) → Post → KeepAt → Bool
keep_shows p post (Loosens let_go) = list_any p (cleared (let_index let_go) (stands post (let_index let_go)))
keep_shows p post (LoadHeld from index) = has_one_interval (scheme_of post) && copied_shows p from index post (stands post from)
keep_shows p post (StoreHeld from index era) = copied_shows p from index post (stands post from)
keep_shows p post HideSpan = list_any p (cleared_from 2 (drop 2 post.standing))
keep_shows p post at = false

abbrev pub work_shows : (Event → Bool) → Post → Work → Bool
work_shows p post (Keeping at) = keep_shows p post at
work_shows p post work = false

abbrev pub phase_shows : (Event → Bool) → Post → Phase → ℕ → Bool
phase_shows p post (Runs why base) found = base_shows p post base found
phase_shows p post (Works work) found = work_shows p post work
phase_shows p post phase found = false

copied_any : (p : Event → Bool) (from index : ℕ) (post : Post) (reserved : List Event) (x : Option ℕ) → list_any p reserved ≡ false → list_any p (copied_told from index post reserved x) ≡ copied_shows p from index post x
copied_any p from index post reserved None h = refl
copied_any p from index post reserved (Some slot) h =
    let c : List Event = cleared index (stands post index) in
    list_any-append p (c ++ reserved) (events.Copied from index slot ∷ [])
    ∙ ap (λ (b : Bool). b || list_any p (events.Copied from index slot ∷ [])) (cleared_any p index (stands post index) reserved h)
    ∙ ap (λ (b : Bool). list_any p c || b) (or_false (p (events.Copied from index slot)))

load_held_any : (p : Event → Bool) (from index : ℕ) (post : Post) (one : Bool) → list_any p (if one then copied_told from index post [] (stands post from) else []) ≡ (one && copied_shows p from index post (stands post from))
load_held_any p from index post true = copied_any p from index post [] (stands post from) refl
load_held_any p from index post false = refl

pub keep_any : (p : Event → Bool) (at : KeepAt) (post : Post) → Calm p → list_any p (keep_told at post) ≡ keep_shows p post at
keep_any p (Loosens let_go) post c = refl
keep_any p (LoadHeld from index) post c = load_held_any p from index post (has_one_interval (scheme_of post))
keep_any p (StoreHeld from index era) post c = copied_any p from index post (publishes_index (publishes_rows (scheme_of post)) post index era) (stands post from) (shown_any p (publishes_rows (scheme_of post)) post index era c)
keep_any p (Looks index key at) post c = refl
keep_any p (Misses index) post c = refl
keep_any p HideSpan post c = any_more p (cleared_from 2 (drop 2 post.standing)) (reserves_span post None) (one_any p _ [] (c.reserve _ _))
keep_any p MarkLeft post c = refl
keep_any p (TakeList place) post c = refl
keep_any p (MarkTaken place count) post c = refl

work_any : (p : Event → Bool) (work : Work) (post : Post) → Calm p → list_any p (work_told work post) ≡ work_shows p post work
work_any p (Getting key at) post c = refl
work_any p (Changing kept at) post c = refl
work_any p (Enqueuing kept at) post c = refl
work_any p (Dequeuing at) post c = refl
work_any p (Keeping at) post c = keep_any p at post c

pub own_any : (p : Event → Bool) (phase : Phase) (post : Post) (found : ℕ) → Calm p → list_any p (own_told phase post found) ≡ phase_shows p post phase found
own_any p Idle post found c = refl
own_any p (Runs why base) post found c = base_any p base post found c
own_any p (Scans later (ReadGuard number)) post found c = read_any p (publishes_rows (scheme_of post)) (guard_at post.layout.config number) found c
own_any p (Scans later (GiveBack place slot)) post found c = one_any p _ [] (c.back slot)
own_any p (Works work) post found c = work_any p work post c

-- a test that is false of what is let go and of what is copied is false of a step of a call's own
pub none_cleared : (p : Event → Bool) (index : ℕ) (x : Option ℕ) → ((index slot : ℕ) → p (events.Clear index slot) ≡ false) → list_any p (cleared index x) ≡ false
none_cleared p index None c = refl
none_cleared p index (Some slot) c = rw (c index slot) refl

-- nor is it true of all that is let go
pub none_left : (p : Event → Bool) (index : ℕ) (rows : List (Option ℕ)) → ((index slot : ℕ) → p (events.Clear index slot) ≡ false) → list_any p (cleared_from index rows) ≡ false
none_left p index [] c = refl
none_left p index (row ∷ rows) c = any_more p (cleared index row) (cleared_from (index + 1) rows) (none_left p (index + 1) rows c) ∙ none_cleared p index row c

none_copied : (p : Event → Bool) (from index : ℕ) (post : Post) (x : Option ℕ) → ((index slot : ℕ) → p (events.Clear index slot) ≡ false) → ((from index slot : ℕ) → p (events.Copied from index slot) ≡ false) → copied_shows p from index post x ≡ false
none_copied p from index post None c d = refl
none_copied p from index post (Some slot) c d = rw (none_cleared p index (stands post index) c, d from index slot) refl

none_kept : (p : Event → Bool) (at : KeepAt) (post : Post) → ((index slot : ℕ) → p (events.Clear index slot) ≡ false) → ((from index slot : ℕ) → p (events.Copied from index slot) ≡ false) → keep_shows p post at ≡ false
none_kept p (Loosens let_go) post c d = none_cleared p (let_index let_go) (stands post (let_index let_go)) c
none_kept p (LoadHeld from index) post c d = rw (none_copied p from index post (stands post from) c d) (and_false (has_one_interval (scheme_of post)))
none_kept p (StoreHeld from index era) post c d = none_copied p from index post (stands post from) c d
none_kept p HideSpan post c d = none_left p 2 (drop 2 post.standing) c
none_kept p at post c d = refl

pub none_worked : (p : Event → Bool) (work : Work) (post : Post) → ((index slot : ℕ) → p (events.Clear index slot) ≡ false) → ((from index slot : ℕ) → p (events.Copied from index slot) ≡ false) → work_shows p post work ≡ false
none_worked p (Keeping at) post c d = none_kept p at post c d
none_worked p work post c d = refl

-- no later event passes the test
none_later : (p : Event → Bool) (more : List Event) → ((e : Event) → is_later e ≡ true → p e ≡ false) → list_all is_later more ≡ true → list_any p more ≡ false
none_later p [] f h = refl
none_later p (e ∷ es) f h = let a : is_later e ≡ true = grind (arith, nat_tests) in let b : list_all is_later es ≡ true = grind (arith, nat_tests) in rw (f e a) (none_later p es f b)

-- what a step tells, by a test that is false of what comes after a machine
pub step_any : (p : Event → Bool) (w : World) (i : ℕ) → Calm p → ((e : Event) → is_later e ≡ true → p e ≡ false) → list_any p (told_in w i) ≡ phase_shows p (counted (w.seat i).post) (w.seat i).phase (finds w i)
step_any p w i c f =
    let x : Adds (own_post (w.seat i).phase (counted (w.seat i).post) (finds w i)) (own_told (w.seat i).phase (counted (w.seat i).post) (finds w i)) (turn (offered w i) (finds w i)) = step_adds w i in
    ap (list_any p) x.is ∙ any_more p (own_told (w.seat i).phase (counted (w.seat i).post) (finds w i)) x.more (none_later p x.more f x.later) ∙ own_any p (w.seat i).phase (counted (w.seat i).post) (finds w i) c
