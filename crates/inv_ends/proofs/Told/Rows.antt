-- What a step tells of rows is its move of rows.
use Rattle.inv_rows.specs.defs.declared.event.Guard.{Guard}
use Rattle.std.proofs.Common.{ℕ, ◌+◌, ◌-◌, Bool, true, false, ◌≡◌, ◌∙◌, sym, refl, ap, arith, ◌≤◌}
use Rattle.std.proofs.lemmas.Bool.Decides.{nat_tests}
use Rattle.std.proofs.lemmas.List.Elements.{filter-append}
use Rattle.std.specs.List.{filter, list_any, list_all}
use Rattle.inv_rows.specs.model.Memory as memory
use Rattle.inv_rows.specs.model.Scan as scans
use Rattle.inv_rows.specs.defs.declared.event.Event.TheVariants as events
use Rattle.inv_rows.specs.defs.declared.event.Root.TheVariants as roots
use Rattle.inv_rows.specs.defs.declared.call.ClockMove.TheVariants as moves
use Rattle.inv_rows.specs.model.Allocate.{after_claim_slot, is_claimed, walk_past, walking}
use Rattle.inv_rows.specs.model.Calls.{AfterScan, ChangeKept, KeepAt, Phase, Why, Work}
use Rattle.inv_rows.specs.model.Calls.AfterScan.{Answered, Counted, Repeated}
use Rattle.inv_rows.specs.model.Calls.ChangeAt.{ExchangeRoot, LoadCount, LoadKey, LoadValue, LoadVersion}
use Rattle.inv_rows.specs.model.Calls.DequeueAt.{ExchangeHead, LoadTail, SwingTail, TakeNumber, TakeValue}
use Rattle.inv_rows.specs.model.Calls.EnqueueAt.{ExchangeNext, ExchangeTail, LoadNext, LoadNumber, PassTail}
use Rattle.inv_rows.specs.model.Calls.KeepAt.{HideSpan, LoadHeld, Loosens, Looks, MarkLeft, MarkTaken, Misses, StoreHeld, TakeList}
use Rattle.inv_rows.specs.model.Calls.Phase.{Idle, Runs, Scans, Works}
use Rattle.inv_rows.specs.model.Calls.ScanAt.{GiveBack, ReadGuard}
use Rattle.inv_rows.specs.model.Calls.Why.{Advances, Clears, ClearsNext, Fills, Finishes, FollowsHead, GivesUp, Opens, Releases, Retires, Tidies}
use Rattle.inv_rows.specs.model.Calls.Work.{Changing, Dequeuing, Enqueuing, Getting, Keeping}
use Rattle.inv_rows.specs.model.Change.{changed_bucket}
use Rattle.inv_rows.specs.model.Desks.{Desk}
use Rattle.inv_rows.specs.model.Guards.{guard_at, guards, published}
use Rattle.inv_rows.specs.model.Locals.{Local, turn}
use Rattle.inv_rows.specs.model.Machine.{after, allocate_turn, base_move, begin_turn, move_turn, protect_turn, retire_move, retire_turn}
use Rattle.inv_rows.specs.model.Memory.{place_in}
use Rattle.inv_rows.specs.model.MoveClock.{after_hand_over}
use Rattle.inv_rows.specs.model.Phases.{Aim, AllocateAt, Base, BeginAt, Ending, MoveAt, Outcome, ProtectAt, RetireAt, Walk, ends, goes}
use Rattle.inv_rows.specs.model.Phases.AllocateAt.{ClaimSlot, LoadBirth, StoreLife}
use Rattle.inv_rows.specs.model.Phases.Base.{Allocate, Begin, Clear, Finish, GiveUp, Move, Protect, Release, Reload, Retire, Write}
use Rattle.inv_rows.specs.model.Phases.BeginAt.{LoadLower, PublishSpan}
use Rattle.inv_rows.specs.model.Phases.Ending.{Clocked}
use Rattle.inv_rows.specs.model.Phases.MoveAt.{AnswerAsked, CheckEra, ExchangeClock, HandOver, HideEra, HideLate, LoadAsked, LoadEra, LoadRequest, LoadReserved, ShowEra}
use Rattle.inv_rows.specs.model.Phases.Outcome.{Ends, Goes}
use Rattle.inv_rows.specs.model.Phases.ProtectAt.{AnswerOwn, CheckClock, CheckOwnClock, CheckUpper, LoadAnswer, LoadClock, LoadLink, LoadOwnClock, LoadOwnLink, LoadWithin, PublishEra, PublishHelper, PublishRequest, RaiseUpper, TakeAnswer, WithdrawHelper, WithdrawRequest, ByHazard}
use Rattle.inv_rows.specs.model.Phases.HazardAt.{FirstLink, PublishLink, CheckLink}
use Rattle.inv_rows.specs.model.Phases.RetireAt.{LoadLife, LoadRetire, StoreRetired}
use Rattle.inv_rows.specs.model.Posts.{cleared, cleared_from, counted, reserves_helper, reserves_span, stands, upper, publishes_index}
use Rattle.inv_rows.specs.model.Protect.{held_post, protected, told_held}
use Rattle.inv_rows.specs.model.Rounds.{let_index, scheme_of}
use Rattle.inv_rows.specs.model.Scan.{Entry, giving_back, scanned, unmet_from, with_back, with_kept, reads_guard}
use Rattle.inv_rows.specs.model.SlowPath.{asking, own_request}
use Rattle.inv_rows.specs.model.Steps.{phase_move, phase_turn, resumed}
use Rattle.inv_rows.specs.model.World.{World, finds, list_in, offered, told_in}
use Rattle.inv_rows.specs.model.WriteRow.{last_written}
use Rattle.inv_rows.specs.model.declared.post.Post.{Post}
use Rattle.inv_rows.proofs.Covering.Begun.{standing_stays}
use Rattle.inv_rows.specs.Covering.Covers.{takes_or_frees}
use Rattle.inv_rows.specs.defs.declared.event.Event.{Event}
use Rattle.inv_rows.specs.defs.declared.event.Root.{Root}
use Rattle.inv_rows.specs.defs.declared.lifetime.Lifetime.{Lifetime}
use Rattle.inv_ends.proofs.Told.Turns.{Adds, AddsPlain, adds_wide, hands_list, is_later, out_adds, resume_adds, work_adds, work_still}
use Rattle.model_history.proofs.Passes.{copied_told, keep_told, work_post, work_told}
use Rattle.inv_ends.specs.Told.{NoReuse, RowWas, RowsTold, RowsWere, birth_at, birth_base, birth_in, move_of, of_rows, reuses, row_events}
use Rattle.inv_rows.specs.defs.Events.{is_of_rows}
use Rattle.inv_rows.specs.Shapes.Eras.{PhaseEras, base_eras, retire_eras}
use Rattle.inv_rows.proofs.Fits.{MoveFits, phase_fits}
use Rattle.inv_rows.specs.Agree.{Plays}
use Rattle.inv_rows.specs.Hands.{allocate_row, base_row, hand_retire, hand_why, keep_row, linked_row, retire_row, row_move, runs_right, work_row}
use Rattle.inv_rows.specs.Rows.{Good, RowMove, View}
use Rattle.inv_rows.specs.Rows.Hand.{Dated, Known}
use Rattle.inv_rows.specs.Rows.RowMove.{Adopts, Appends, Bears, Claims, Drops, Links, Lists, Pops, Reads, Replaces, Returns, Seals, Stays}
use Rattle.inv_rows.specs.words.Packed.{read_reservation}
use Rattle.inv_rows.specs.words.Schemes.{has_one_interval, publishes_rows}
use Rattle.inv_rows.specs.words.Place.{Place, claim_word}
use Rattle.inv_rows.specs.words.Place.Place.{Claim, Clock}
use Rattle.inv_rows.specs.words.declared.layout.Layout.{Layout}
use Rattle.std.specs.Prelude.{List, None, Option, Some, [], drop, if◌then◌else◌, nat_lt, ◌++◌, ◌==◌, ◌∷◌, ◌||◌}
use Rattle.inv_rows.proofs.model.Facts.{no_truth_2}
pub use Rattle.inv_rows.proofs.Shapes.Frame.{concluded_told}

-- what a machine, a scan or a step on what is kept tells itself, and the post that it leaves
abbrev pub own_told : Phase → Post → ℕ → List Event
own_told Idle post found = []
own_told (Runs why base) post found = (after base post found).told
own_told (Scans later (ReadGuard number)) post found =
    reads_guard (publishes_rows (scheme_of post)) (guard_at post.layout.config number) found ∷ []
own_told (Scans later (GiveBack place slot)) post found = events.Back slot ∷ []
own_told (Works work) post found = work_told work post

abbrev pub own_post : Phase → Post → ℕ → Post
own_post Idle post found = post
own_post (Runs why base) post found = (after base post found).post
own_post (Scans later at) post found = post
own_post (Works work) post found = work_post work post

scanned_adds : (later : AfterScan) (post : Post) (desk : Desk) (told : List Event) → AddsPlain post told (scanned later post desk told)
scanned_adds (Answered answer) post desk told = out_adds _ _ _ _
scanned_adds (Repeated task) post desk told = out_adds _ _ _ _
scanned_adds Counted post desk told = out_adds _ _ _ _

giving_adds : (later : AfterScan) (post : Post) (desk : Desk) (told : List Event) (x : Option Entry) → AddsPlain post told (giving_back later post desk told x)
giving_adds later post desk told None = scanned_adds later post (with_kept desk) told
giving_adds later post desk told (Some entry) = out_adds _ _ _ _

reading_adds : (later : AfterScan) (number : ℕ) (post : Post) (desk : Desk) (told : List Event) (more : Bool) → AddsPlain post told (scans.reading later number post desk told more)
reading_adds later number post desk told true = out_adds _ _ _ _
reading_adds later number post desk told false = giving_adds later post desk told (unmet_from desk 0)

pub resumed_adds : (why : Why) (desk : Desk) (post : Post) (told : List Event) (outcome : Outcome) → AddsPlain post told (resumed why desk post told outcome)
resumed_adds why desk post told (Goes base) = out_adds _ _ _ _
resumed_adds why desk post told (Ends ending) = resume_adds why ending post desk told

-- what a step tells: what its machine, its scan or its step on what is kept tells, and then no more of guards, scans, held rows,
-- eras and free rows; and nothing of lists, but for the steps that leave or take over one
abbrev pub hands_lists : Phase → Bool
hands_lists (Works work) = hands_list work
hands_lists phase = false

pub phase_still : (phase : Phase) (post : Post) (desk : Desk) (found : ℕ) → hands_lists phase ≡ false → AddsPlain (own_post phase post found) (own_told phase post found) (phase_turn phase post desk found)
phase_still Idle post desk found h = out_adds _ _ _ _
phase_still (Runs why base) post desk found h = resumed_adds why desk (after base post found).post (after base post found).told (after base post found).outcome
phase_still (Scans later (ReadGuard number)) post desk found h = reading_adds later number post (scans.with_read desk number (guard_at post.layout.config number, published (publishes_rows (scheme_of post)) (guard_at post.layout.config number) found)) _ (nat_lt (number + 1) (guards post.layout.config))
phase_still (Scans later (GiveBack place slot)) post desk found h = giving_adds later post (with_back desk place) _ (unmet_from (with_back desk place) place)
phase_still (Works work) post desk found h = work_still work post desk found h

pub phase_adds : (phase : Phase) (post : Post) (desk : Desk) (found : ℕ) → Adds (own_post phase post found) (own_told phase post found) (phase_turn phase post desk found)
phase_adds Idle post desk found = adds_wide _ _ _ (phase_still Idle post desk found refl)
phase_adds (Runs why base) post desk found = adds_wide _ _ _ (phase_still (Runs why base) post desk found refl)
phase_adds (Scans later at) post desk found = adds_wide _ _ _ (phase_still (Scans later at) post desk found refl)
phase_adds (Works work) post desk found = work_adds work post desk found

-- no later event passes a test on earlier ones
filter_none : (p : Event → Bool) (more : List Event) → ((e : Event) → is_later e ≡ true → p e ≡ false) → list_all is_later more ≡ true → filter p more ≡ []
filter_none p [] f h = refl
filter_none p (e ∷ es) f h = let a : is_later e ≡ true = grind (arith, nat_tests) in let b : list_all is_later es ≡ true = grind (arith, nat_tests) in rw (f e a) (filter_none p es f b)

pub filter_more : (p : Event → Bool) (told more : List Event) → ((e : Event) → is_later e ≡ true → p e ≡ false) → list_all is_later more ≡ true → filter p (told ++ more) ≡ filter p told
filter_more p [] more f h = filter_none p more f h
filter_more p (e ∷ es) more f h = rw (filter_more p es more f h) refl

later_rows : (e : Event) → is_later e ≡ true → is_of_rows e ≡ false
later_rows (events.Begin call) h = refl
later_rows (events.End count answer) h = refl
later_rows (events.Era era) h = refl
later_rows (events.Reserve guard span) h = refl
later_rows (events.Read guard span) h = refl
later_rows (events.Hazard guard slot) h = refl
later_rows (events.Saw guard slot) h = refl
later_rows (events.Give slot birth) h = no_truth_2 h
later_rows (events.Unused slot) h = no_truth_2 h
later_rows (events.Link root slot) h = refl
later_rows (events.Cut slot) h = refl
later_rows (events.Retire slot birth retire) h = no_truth_2 h
later_rows (events.Back slot) h = no_truth_2 h
later_rows (events.Held index slot n) h = refl
later_rows (events.Null index n) h = refl
later_rows (events.Clear index slot) h = refl
later_rows (events.Copied from index slot) h = no_truth_2 h
later_rows (events.Put bucket version key value) h = refl
later_rows (events.Removed bucket version key) h = refl
later_rows (events.Got bucket version key value) h = refl
later_rows (events.Queued number value) h = refl
later_rows (events.Taken number value) h = refl
later_rows (events.Left count) h = refl
later_rows (events.Adopted place count) h = refl

pub held_told : (index : ℕ) (root : Root) (link n : ℕ) (null : Bool) → (link == 0) ≡ null → of_rows (told_held index root link n) ≡ []
held_told index (roots.Bucket bucket) link n true e = rw e refl
held_told index (roots.Bucket bucket) link n false e = rw e refl
held_told index roots.Head link n true e = rw e refl
held_told index roots.Head link n false e = rw e refl
held_told index roots.Tail link n true e = rw e refl
held_told index roots.Tail link n false e = rw e refl
held_told index (roots.Next parent) link n true e = rw e refl
held_told index (roots.Next parent) link n false e = rw e refl

protected_rows : (aim : Aim) (index : ℕ) (root : Root) (n link era : ℕ) (post : Post) → of_rows (protected aim index root n link era post).told ≡ []
protected_rows aim index root n link era post = rw (concluded_told aim index root n link era (held_post post index root link) (told_held index root link n)) (held_told index root link n (link == 0) refl)

check_rows : (aim : Aim) (index : ℕ) (root : Root) (n era link : ℕ) (post : Post) (next : Base) (same : Bool) → of_rows (if same then protected aim index root n link era post else goes post [] next).told ≡ []
check_rows aim index root n era link post next true = protected_rows aim index root n link era post
check_rows aim index root n era link post next false = refl

either_rows : (post : Post) (a b : Base) (same : Bool) → of_rows (if same then goes post [] a else goes post [] b).told ≡ []
either_rows post a b true = refl
either_rows post a b false = refl

ends_rows : (post : Post) (a : Ending) (b : Base) (same : Bool) → of_rows (if same then ends post [] a else goes post [] b).told ≡ []
ends_rows post a b true = refl
ends_rows post a b false = refl

protect_rows : (aim : Aim) (index : ℕ) (root : Root) (n : ℕ) (at : ProtectAt) (post : Post) (found : ℕ) → of_rows (protect_turn aim index root n at post found).told ≡ []
protect_rows aim index root n (LoadClock tries) post found = refl
protect_rows aim index root n (PublishEra era tries) post found = refl
protect_rows aim index root n (LoadLink era tries) post found = refl
protect_rows aim index root n (CheckClock era tries link) post found = check_rows aim index root n era link post _ (found == era)
protect_rows aim index root n PublishRequest post found = refl
protect_rows aim index root n LoadOwnClock post found = refl
protect_rows aim index root n (PublishHelper first era last) post found = refl
protect_rows aim index root n (LoadOwnLink first era last) post found = refl
protect_rows aim index root n (CheckOwnClock first era last link) post found = either_rows post _ _ (found == era)
protect_rows aim index root n (AnswerOwn first era link) post found = either_rows post _ _ (found == own_request post index root)
protect_rows aim index root n (LoadAnswer first) post found = refl
protect_rows aim index root n (TakeAnswer link era) post found = held_told index root link n (link == 0) refl
protect_rows aim index root n (WithdrawRequest link era) post found = refl
protect_rows aim index root n (WithdrawHelper link era) post found = rw (concluded_told aim index root n link era post (reserves_helper post 0)) refl
protect_rows aim index root n LoadWithin post found = refl
protect_rows aim index root n (CheckUpper link) post found = check_rows aim index root n found link post _ (found == upper post.span)
protect_rows aim index root n (RaiseUpper era) post found = refl
protect_rows aim index root n (ByHazard FirstLink) post found = check_rows aim index root n 0 found post _ (found == 0)
protect_rows aim index root n (ByHazard (PublishLink link)) post found = refl
protect_rows aim index root n (ByHazard (CheckLink link)) post found = check_rows aim index root n 0 found post _ (found == link || found == 0)

begin_rows : (at : BeginAt) (post : Post) (found : ℕ) → of_rows (begin_turn at post found).told ≡ []
begin_rows LoadLower post found = refl
begin_rows (PublishSpan era) post found = refl

walking_rows : (birth : ℕ) (post : Post) (x : Option Walk) → of_rows (walking birth post x).told ≡ []
walking_rows birth post None = refl
walking_rows birth post (Some walk) = refl

claim_rows : (birth : ℕ) (walk : Walk) (post : Post) (found : ℕ) (taken : Bool) → is_claimed found walk.slot ≡ taken → of_rows (after_claim_slot birth walk post found).told ≡ row_events birth (if taken then Stays else Claims walk.slot)
claim_rows birth walk post found true e = rw e (walking_rows birth post (walk_past post.layout.config.slots walk found))
claim_rows birth walk post found false e = rw e refl

allocate_rows : (at : AllocateAt) (post : Post) (found : ℕ) → of_rows (allocate_turn at post found).told ≡ row_events (birth_at at) (allocate_row at found)
allocate_rows LoadBirth post found = refl
allocate_rows (ClaimSlot birth walk) post found = claim_rows birth walk post found (is_claimed found walk.slot) refl
allocate_rows (StoreLife birth slot) post found = refl

retire_rows : (at : RetireAt) (post : Post) (found : ℕ) → of_rows (retire_turn at post found).told ≡ row_events 0 (retire_row at found)
retire_rows (LoadLife slot) post found = refl
retire_rows (LoadRetire slot birth) post found = refl
retire_rows (StoreRetired slot birth retire) post found = refl

clock_rows : (era found : ℕ) (post : Post) (same : Bool) → of_rows (if same then ends post (events.Era (era + 1) ∷ []) (Clocked (moves.Moved (era + 1))) else ends post [] (Clocked (moves.Other found))).told ≡ []
clock_rows era found post true = refl
clock_rows era found post false = refl

hand_rows : (era seat tag index old : ℕ) (post : Post) (same : Bool) → of_rows (after_hand_over era seat tag index old post same).told ≡ []
hand_rows era seat tag index old post true = refl
hand_rows era seat tag index old post false = refl

move_rows : (at : MoveAt) (post : Post) (found : ℕ) → of_rows (move_turn at post found).told ≡ []
move_rows (LoadEra helps) post found = ends_rows post _ _ (found == post.layout.config.last_era)
move_rows (LoadRequest era seat shows) post found = refl
move_rows (ShowEra era seat tag index root) post found = refl
move_rows (LoadAsked era seat tag index root) post found = refl
move_rows (CheckEra era seat tag index root link) post found = either_rows post _ _ (found == era)
move_rows (AnswerAsked era seat tag index root link) post found = either_rows post _ _ (found == asking post.layout tag index root)
move_rows (LoadReserved era seat tag index root link) post found = either_rows post _ _ ((read_reservation found).tag == tag)
move_rows (HandOver era seat tag index root link old) post found = hand_rows era seat tag index old post _
move_rows (HideEra era) post found = refl
move_rows (HideLate seen) post found = refl
move_rows (ExchangeClock era) post found = clock_rows era found post (found == era)

reload_rows : (index slot n : ℕ) (post next : Post) (a b : Ending) (same : Bool) → of_rows (if same then ends next (events.Held index slot n ∷ []) a else ends post [] b).told ≡ []
reload_rows index slot n post next a b true = refl
reload_rows index slot n post next a b false = refl

cleared_rows : (index : ℕ) (x : Option ℕ) (a : List Event) → of_rows a ≡ [] → of_rows (cleared index x ++ a) ≡ []
cleared_rows index None a h = h
cleared_rows index (Some slot) a h = h

copied_rows : (from index : ℕ) (post : Post) (reserved : List Event) (x : Option ℕ) → of_rows reserved ≡ [] → of_rows (copied_told from index post reserved x) ≡ []
copied_rows from index post reserved None h = refl
copied_rows from index post reserved (Some slot) h =
    filter-append is_of_rows (cleared index (stands post index) ++ reserved) (events.Copied from index slot ∷ []) ∙ rw (cleared_rows index (stands post index) reserved h) refl

load_held_rows : (from index : ℕ) (post : Post) (one : Bool) → of_rows (if one then copied_told from index post [] (stands post from) else []) ≡ []
load_held_rows from index post true = copied_rows from index post [] (stands post from) refl
load_held_rows from index post false = refl

let_go_rows : (index : ℕ) (x : Option ℕ) → of_rows (cleared index x) ≡ []
let_go_rows index None = refl
let_go_rows index (Some slot) = refl

left_rows : (index : ℕ) (rows : List (Option ℕ)) → of_rows (cleared_from index rows) ≡ []
left_rows index [] = refl
left_rows index (row ∷ rows) = cleared_rows index row (cleared_from (index + 1) rows) (left_rows (index + 1) rows)

shown_rows : (rows : Bool) (post : Post) (index number : ℕ) → of_rows (publishes_index rows post index number) ≡ []
shown_rows true post index number = refl
shown_rows false post index number = refl

-- a step on what is kept tells nothing of rows
keep_rows : (at : KeepAt) (post : Post) → of_rows (keep_told at post) ≡ []
keep_rows (Loosens let_go) post = let_go_rows (let_index let_go) (stands post (let_index let_go))
keep_rows (LoadHeld from index) post = load_held_rows from index post (has_one_interval (scheme_of post))
keep_rows (StoreHeld from index era) post = copied_rows from index post (publishes_index (publishes_rows (scheme_of post)) post index era) (stands post from) (shown_rows (publishes_rows (scheme_of post)) post index era)
keep_rows (Looks index key at) post = refl
keep_rows (Misses index) post = refl
keep_rows HideSpan post = filter-append is_of_rows (cleared_from 2 (drop 2 post.standing)) (reserves_span post None) ∙ rw (left_rows 2 (drop 2 post.standing)) refl
keep_rows MarkLeft post = refl
keep_rows (TakeList place) post = refl
keep_rows (MarkTaken place count) post = refl

base_rows : (base : Base) (post : Post) (found : ℕ) → of_rows (after base post found).told ≡ row_events (birth_base base) (base_row base found)
base_rows (Begin at) post found = begin_rows at post found
base_rows (Protect aim index root steps at) post found = protect_rows aim index root _ at post found
base_rows (Reload parent index slot era steps) post found = reload_rows index slot _ post _ _ _ (found == parent + 1)
base_rows (Clear rows index) post found = cleared_rows index (stands post index) _ (shown_rows rows post index 0)
base_rows Finish post found = refl
base_rows (Release index) post found = cleared_rows index (stands post index) _ refl
base_rows (Allocate at) post found = allocate_rows at post found
base_rows (Write slot row place) post found = ends_rows post _ _ (place == last_written row)
base_rows (GiveUp slot) post found = refl
base_rows (Retire at) post found = retire_rows at post found
base_rows (Move at) post found = move_rows at post found

change_none : (kept : ChangeKept) (slot : ℕ) (post : Post) (b : ℕ) (null : Bool) → [] ≡ row_events b (if null then Links (changed_bucket kept post) slot else Replaces (changed_bucket kept post) slot (kept.link - 1))
change_none kept slot post b true = refl
change_none kept slot post b false = refl

exchange_none : (kept : ChangeKept) (slot : ℕ) (post : Post) (b : ℕ) (same : Bool) → [] ≡ row_events b (if same then linked_row (changed_bucket kept post) slot kept.link else Stays)
exchange_none kept slot post b true = change_none kept slot post b (kept.link == 0)
exchange_none kept slot post b false = refl

append_none : (slot b : ℕ) (same : Bool) → [] ≡ row_events b (if same then Appends slot else Stays)
append_none slot b true = refl
append_none slot b false = refl

pop_none : (head next b : ℕ) (same : Bool) → [] ≡ row_events b (if same then Pops head next else Stays)
pop_none head next b true = refl
pop_none head next b false = refl

adopt_none : (place b : ℕ) (left : Bool) → [] ≡ row_events b (if left then Adopts place else Stays)
adopt_none place b true = refl
adopt_none place b false = refl

keep_none : (at : KeepAt) (found b : ℕ) → [] ≡ row_events b (keep_row at found)
keep_none (TakeList place) found b = adopt_none place b (found == 1)
keep_none (Loosens let_go) found b = refl
keep_none (LoadHeld from index) found b = refl
keep_none (StoreHeld from index era) found b = refl
keep_none (Looks index key at) found b = refl
keep_none (Misses index) found b = refl
keep_none HideSpan found b = refl
keep_none MarkLeft found b = refl
keep_none (MarkTaken place count) found b = refl

work_rows : (work : Work) (post last : Post) (found : ℕ) → of_rows (work_told work post) ≡ row_events 0 (work_row work last found)
work_rows (Getting key at) post last found = refl
work_rows (Changing kept (LoadVersion slot)) post last found = refl
work_rows (Changing kept (LoadCount slot)) post last found = refl
work_rows (Changing kept (LoadKey slot count)) post last found = refl
work_rows (Changing kept (LoadValue slot count key)) post last found = refl
work_rows (Changing kept (ExchangeRoot slot)) post last found = exchange_none kept slot last 0 (found == kept.link)
work_rows (Enqueuing kept LoadNumber) post last found = refl
work_rows (Enqueuing kept LoadNext) post last found = refl
work_rows (Enqueuing kept (PassTail next)) post last found = refl
work_rows (Enqueuing kept (ExchangeNext slot)) post last found = append_none slot 0 (found == 0)
work_rows (Enqueuing kept (ExchangeTail slot)) post last found = refl
work_rows (Dequeuing (LoadTail head)) post last found = refl
work_rows (Dequeuing (SwingTail head next)) post last found = refl
work_rows (Dequeuing (TakeNumber head next)) post last found = refl
work_rows (Dequeuing (TakeValue head next number)) post last found = refl
work_rows (Dequeuing (ExchangeHead head next number value)) post last found = pop_none head next 0 (found == head + 1)
work_rows (Keeping at) post last found = keep_rows at post ∙ keep_none at found 0

read_rows : (rows : Bool) (guard : Guard) (word : ℕ) → of_rows (reads_guard rows guard word ∷ []) ≡ []
read_rows true guard word = refl
read_rows false guard word = refl

own_rows : (phase : Phase) (post last : Post) (found : ℕ) → of_rows (own_told phase post found) ≡ row_events (birth_in phase) (row_move phase last found)
own_rows Idle post last found = refl
own_rows (Runs why base) post last found = base_rows base post found
own_rows (Scans later (ReadGuard number)) post last found = read_rows (publishes_rows (scheme_of post)) (guard_at post.layout.config number) found
own_rows (Scans later (GiveBack place slot)) post last found = refl
own_rows (Works work) post last found = work_rows work post last found

pub step_adds : (w : World) (i : ℕ) → Adds (own_post (w.seat i).phase (counted (w.seat i).post) (finds w i)) (own_told (w.seat i).phase (counted (w.seat i).post) (finds w i)) (turn (offered w i) (finds w i))
step_adds w i = phase_adds (w.seat i).phase (counted (w.seat i).post) (offered w i).desk (finds w i)

-- a test on events that a machine or a scan tells
pub step_filter : (p : Event → Bool) (w : World) (i : ℕ) → ((e : Event) → is_later e ≡ true → p e ≡ false) → filter p (told_in w i) ≡ filter p (own_told (w.seat i).phase (counted (w.seat i).post) (finds w i))
step_filter p w i f =
    let x : Adds (own_post (w.seat i).phase (counted (w.seat i).post) (finds w i)) (own_told (w.seat i).phase (counted (w.seat i).post) (finds w i)) (turn (offered w i) (finds w i)) = step_adds w i in
    ap (filter p) x.is ∙ filter_more p (own_told (w.seat i).phase (counted (w.seat i).post) (finds w i)) x.more f x.later

pub rows_told : RowsTold
rows_told w i = step_filter is_of_rows w i later_rows ∙ own_rows (w.seat i).phase (counted (w.seat i).post) (w.seat i).post (finds w i)

-- what the retirement of a row shows
abbrev pub Extra : ℕ → View → RowMove → Type 0
Extra clock v (Seals slot birth retire) = (birth ≡ v.birth slot) × (retire ≡ clock)
Extra clock v (Lists slot birth retire) = (birth ≡ v.birth slot) × (birth ≤ retire) × (retire ≤ clock)
Extra clock v m = Unit {0}

extra_linked : (clock : ℕ) (v : View) (bucket slot link : ℕ) (null : Bool) → Extra clock v (if null then Links bucket slot else Replaces bucket slot (link - 1))
extra_linked clock v bucket slot link true = tt
extra_linked clock v bucket slot link false = tt

extra_exchange : (clock : ℕ) (v : View) (bucket slot link : ℕ) (same : Bool) → Extra clock v (if same then linked_row bucket slot link else Stays)
extra_exchange clock v bucket slot link true = extra_linked clock v bucket slot link (link == 0)
extra_exchange clock v bucket slot link false = tt

extra_append : (clock : ℕ) (v : View) (slot : ℕ) (same : Bool) → Extra clock v (if same then Appends slot else Stays)
extra_append clock v slot true = tt
extra_append clock v slot false = tt

extra_pop : (clock : ℕ) (v : View) (head next : ℕ) (same : Bool) → Extra clock v (if same then Pops head next else Stays)
extra_pop clock v head next true = tt
extra_pop clock v head next false = tt

extra_claim : (clock : ℕ) (v : View) (slot : ℕ) (taken : Bool) → Extra clock v (if taken then Stays else Claims slot)
extra_claim clock v slot true = tt
extra_claim clock v slot false = tt

extra_adopt : (clock : ℕ) (v : View) (place : ℕ) (left : Bool) → Extra clock v (if left then Adopts place else Stays)
extra_adopt clock v place true = tt
extra_adopt clock v place false = tt

keep_extra : (clock : ℕ) (v : View) (at : KeepAt) (found : ℕ) → Extra clock v (keep_row at found)
keep_extra clock v (TakeList place) found = extra_adopt clock v place (found == 1)
keep_extra clock v (Loosens let_go) found = tt
keep_extra clock v (LoadHeld from index) found = tt
keep_extra clock v (StoreHeld from index era) found = tt
keep_extra clock v (Looks index key at) found = tt
keep_extra clock v (Misses index) found = tt
keep_extra clock v HideSpan found = tt
keep_extra clock v MarkLeft found = tt
keep_extra clock v (MarkTaken place count) found = tt

work_extra : (clock : ℕ) (v : View) (work : Work) (post : Post) (found : ℕ) → Extra clock v (work_row work post found)
work_extra clock v (Getting key at) post found = tt
work_extra clock v (Changing kept (LoadVersion slot)) post found = tt
work_extra clock v (Changing kept (LoadCount slot)) post found = tt
work_extra clock v (Changing kept (LoadKey slot count)) post found = tt
work_extra clock v (Changing kept (LoadValue slot count key)) post found = tt
work_extra clock v (Changing kept (ExchangeRoot slot)) post found = extra_exchange clock v (changed_bucket kept post) slot kept.link (found == kept.link)
work_extra clock v (Enqueuing kept LoadNumber) post found = tt
work_extra clock v (Enqueuing kept LoadNext) post found = tt
work_extra clock v (Enqueuing kept (PassTail next)) post found = tt
work_extra clock v (Enqueuing kept (ExchangeNext slot)) post found = extra_append clock v slot (found == 0)
work_extra clock v (Enqueuing kept (ExchangeTail slot)) post found = tt
work_extra clock v (Dequeuing (LoadTail head)) post found = tt
work_extra clock v (Dequeuing (SwingTail head next)) post found = tt
work_extra clock v (Dequeuing (TakeNumber head next)) post found = tt
work_extra clock v (Dequeuing (TakeValue head next number)) post found = tt
work_extra clock v (Dequeuing (ExchangeHead head next number value)) post found = extra_pop clock v head next (found == head + 1)
work_extra clock v (Keeping at) post found = keep_extra clock v at found

-- a row that is being retired is in hand
retire_hand : (why : Why) (at : RetireAt) → runs_right why (Retire at) ≡ true → hand_why why (Retire at) ≡ hand_retire at
retire_hand (Opens task) at h = no_truth_2 h
retire_hand (FollowsHead head tail) at h = no_truth_2 h
retire_hand (Fills task) at h = refl
retire_hand (ClearsNext next) at h = no_truth_2 h
retire_hand (Clears task next) at h = no_truth_2 h
retire_hand (Finishes task next) at h = no_truth_2 h
retire_hand (GivesUp answer) at h = refl
retire_hand (Retires answer) at h = refl
retire_hand (Tidies later) at h = no_truth_2 h
retire_hand Advances at h = no_truth_2 h
retire_hand (Releases let_go) at h = no_truth_2 h

known_birth : (slots : ℕ) (v : View) (i slot birth : ℕ) → Good slots v → v.hand i ≡ Known slot birth → birth ≡ v.birth slot
known_birth slots v i slot birth g h = grind (arith, nat_tests, g.known i slot)

dated_birth : (slots : ℕ) (v : View) (i slot birth retire : ℕ) → Good slots v → v.hand i ≡ Dated slot birth retire → birth ≡ v.birth slot
dated_birth slots v i slot birth retire g h = grind (arith, nat_tests, g.known i slot)

retire_extra : (slots i : ℕ) (mem : Place → ℕ) (v : View) (at : RetireAt) → Good slots v → v.hand i ≡ hand_retire at → retire_eras (mem Clock) at → Extra (mem Clock) v (retire_row at (memory.found (retire_move at) (mem (place_in (retire_move at)))))
retire_extra slots i mem v (LoadLife slot) g h e = tt
retire_extra slots i mem v (LoadRetire slot birth) g h e = (known_birth slots v i slot birth g h, refl)
retire_extra slots i mem v (StoreRetired slot birth retire) g h e = (dated_birth slots v i slot birth retire g h, e.later, e.most)

run_extra : (slots i : ℕ) (layout : Layout) (mem : Place → ℕ) (v : View) (why : Why) (base : Base) (post : Post) (list : List Lifetime) → Good slots v → Plays i (Runs why base) list v → base_eras layout (mem Clock) post base → Extra (mem Clock) v (base_row base (memory.found (base_move base post) (mem (place_in (base_move base post)))))
run_extra slots i layout mem v why (Begin at) post list g p e = tt
run_extra slots i layout mem v why (Protect aim index root steps at) post list g p e = tt
run_extra slots i layout mem v why (Reload parent index slot era steps) post list g p e = tt
run_extra slots i layout mem v why (Clear rows index) post list g p e = tt
run_extra slots i layout mem v why Finish post list g p e = tt
run_extra slots i layout mem v why (Release index) post list g p e = tt
run_extra slots i layout mem v why (Allocate LoadBirth) post list g p e = tt
run_extra slots i layout mem v why (Allocate (ClaimSlot birth walk)) post list g p e = extra_claim (mem Clock) v walk.slot (is_claimed (mem (Claim (claim_word walk.slot))) walk.slot)
run_extra slots i layout mem v why (Allocate (StoreLife birth slot)) post list g p e = tt
run_extra slots i layout mem v why (Write slot row place) post list g p e = tt
run_extra slots i layout mem v why (GiveUp slot) post list g p e = tt
run_extra slots i layout mem v why (Retire at) post list g p e = retire_extra slots i mem v at g (p.hand ∙ retire_hand why at p.right) e
run_extra slots i layout mem v why (Move at) post list g p e = tt

phase_extra : (slots i : ℕ) (layout : Layout) (mem : Place → ℕ) (v : View) (phase : Phase) (post : Post) (list : List Lifetime) → Good slots v → Plays i phase list v → PhaseEras layout (mem Clock) post phase → Extra (mem Clock) v (row_move phase post (memory.found (phase_move phase post) (mem (place_in (phase_move phase post)))))
phase_extra slots i layout mem v Idle post list g p e = tt
phase_extra slots i layout mem v (Runs why base) post list g p e = run_extra slots i layout mem v why base post list g p e
phase_extra slots i layout mem v (Scans later (ReadGuard number)) post list g p e = tt
phase_extra slots i layout mem v (Scans later (GiveBack place slot)) post list g p e = tt
phase_extra slots i layout mem v (Works work) post list g p e = work_extra (mem Clock) v work post (memory.found (phase_move (Works work) post) (mem (place_in (phase_move (Works work) post))))

were_by : (clock i : ℕ) (v : View) (m : RowMove) → MoveFits i v m → Extra clock v m → RowWas clock i v m
were_by clock i v Stays f e = tt
were_by clock i v (Claims slot) f e = f
were_by clock i v (Bears slot birth) f e = tt
were_by clock i v (Drops slot) f e = f
were_by clock i v (Links bucket slot) f e = tt
were_by clock i v (Replaces bucket slot old) f e = tt
were_by clock i v (Appends slot) f e = tt
were_by clock i v (Pops slot next) f e = tt
were_by clock i v (Reads slot birth) f e = tt
were_by clock i v (Seals slot birth retire) f e = record { was = f; born = e.0; now = e.1 }
were_by clock i v (Lists slot birth retire) f e = record { was = f; born = e.0; later = e.1; most = e.2 }
were_by clock i v (Returns slot) f e = f
were_by clock i v (Adopts from) f e = tt

pub rows_were : RowsWere
rows_were w i v n r a =
    let l : Local = w.seat i in
    were_by
    (w.mem Clock)
    i
    v
    (move_of w i)
    (phase_fits w.layout.config.slots i w.mem v l.phase l.post (list_in w i) n a.good a.words (a.plays i))
    (phase_extra w.layout.config.slots i w.layout w.mem v l.phase l.post (list_in w i) a.good (a.plays i) (r.seats i).phase)

-- a row that is given or free again is one that events of rows tell
reuses_rows : (s : ℕ) (e : Event) → is_of_rows e ≡ false → reuses s e ≡ false
reuses_rows s (events.Begin call) h = refl
reuses_rows s (events.End count answer) h = refl
reuses_rows s (events.Era era) h = refl
reuses_rows s (events.Reserve guard span) h = refl
reuses_rows s (events.Read guard span) h = refl
reuses_rows s (events.Hazard guard slot) h = refl
reuses_rows s (events.Saw guard slot) h = refl
reuses_rows s (events.Give slot birth) h = no_truth_2 (sym h)
reuses_rows s (events.Unused slot) h = no_truth_2 (sym h)
reuses_rows s (events.Link root slot) h = refl
reuses_rows s (events.Cut slot) h = refl
reuses_rows s (events.Retire slot birth retire) h = refl
reuses_rows s (events.Back slot) h = no_truth_2 (sym h)
reuses_rows s (events.Held index slot n) h = refl
reuses_rows s (events.Null index n) h = refl
reuses_rows s (events.Clear index slot) h = refl
reuses_rows s (events.Copied from index slot) h = refl
reuses_rows s (events.Put bucket version key value) h = refl
reuses_rows s (events.Removed bucket version key) h = refl
reuses_rows s (events.Got bucket version key value) h = refl
reuses_rows s (events.Queued number value) h = refl
reuses_rows s (events.Taken number value) h = refl
reuses_rows s (events.Left count) h = refl
reuses_rows s (events.Adopted place count) h = refl

any_row : (s : ℕ) (e : Event) (es : List Event) (own : Bool) → is_of_rows e ≡ own → list_any (reuses s) es ≡ list_any (reuses s) (of_rows es) → list_any (reuses s) (e ∷ es) ≡ list_any (reuses s) (of_rows (e ∷ es))
any_row s e es true h k = rw (h, k) refl
any_row s e es false h k = rw (h, reuses_rows s e h) k

any_rows : (s : ℕ) (told : List Event) → list_any (reuses s) told ≡ list_any (reuses s) (of_rows told)
any_rows s [] = refl
any_rows s (e ∷ es) = any_row s e es (is_of_rows e) refl (any_rows s es)

move_reuses : (s birth : ℕ) (m : RowMove) → takes_or_frees m s ≡ false → list_any (reuses s) (row_events birth m) ≡ false
move_reuses s birth Stays h = refl
move_reuses s birth (Claims slot) h = rw h refl
move_reuses s birth (Bears slot born) h = refl
move_reuses s birth (Drops slot) h = rw h refl
move_reuses s birth (Links bucket slot) h = refl
move_reuses s birth (Replaces bucket slot old) h = refl
move_reuses s birth (Appends slot) h = refl
move_reuses s birth (Pops slot next) h = refl
move_reuses s birth (Reads slot born) h = refl
move_reuses s birth (Seals slot born retire) h = refl
move_reuses s birth (Lists slot born retire) h = refl
move_reuses s birth (Returns slot) h = rw h refl
move_reuses s birth (Adopts from) h = refl

pub no_reuse : NoReuse
no_reuse w i k j slot v n s h e = any_rows slot (told_in w i) ∙ ap (list_any (reuses slot)) (rows_told w i) ∙ move_reuses slot (birth_in (w.seat i).phase) (move_of w i) (standing_stays w i k j slot v n s h e)
