-- What stands at the indexes of a seat is what its steps tell.
use Rattle.inv_rows.specs.model.Scan.{reads_guard}
use Rattle.inv_rows.specs.defs.declared.event.Guard.{Guard}
use Rattle.std.proofs.Common.{ℕ, ◌+◌, ◌-◌, ◌≤◌, ◌<◌, Bool, true, false, ◌≡◌, ◌≢◌, ◌∙◌, sym, refl, ap, subst, arith}
use Rattle.std.proofs.lemmas.Bool.Decides.{nat_tests}
use Rattle.std.specs.List.{list_any}
use Rattle.std.specs.Prelude.{slice_index_or, List, [], ◌∷◌, ◌++◌, length, Option, Some, None, if◌then◌else◌, ◌==◌, ◌&&◌, ◌||◌}
use Rattle.inv_rows.specs.model.Phases.Ending.{Clocked}
use Rattle.inv_rows.specs.defs.declared.event.Event.TheVariants as events
use Rattle.inv_rows.specs.defs.declared.event.Root.TheVariants as roots
use Rattle.inv_rows.specs.defs.declared.call.ClockMove.TheVariants as moves
use Rattle.inv_rows.specs.model.Allocate.{after_claim_slot, is_claimed, walk_past, walking}
use Rattle.inv_rows.specs.defs.declared.event.Guard.TheVariants as guards
use Rattle.inv_rows.specs.model.Calls.{CallTurn, KeepAt, Phase, Why, Work}
use Rattle.inv_rows.specs.model.Calls.KeepAt.{HideSpan, LoadHeld, Loosens, Looks, MarkLeft, MarkTaken, Misses, StoreHeld, TakeList}
use Rattle.inv_rows.specs.model.Calls.Work.{Changing, Dequeuing, Enqueuing, Getting, Keeping}
use Rattle.inv_rows.specs.model.Calls.Phase.{Idle, Runs, Scans, Works}
use Rattle.inv_rows.specs.model.Calls.ScanAt.{GiveBack, ReadGuard}
use Rattle.inv_rows.specs.model.Desks.{Desk}
use Rattle.inv_rows.specs.model.Guards.{one_era, linked_row, guard_at}
use Rattle.inv_rows.specs.model.Locals.{Local, turn}
use Rattle.inv_rows.specs.model.Machine.{after, move_turn}
use Rattle.inv_rows.specs.model.Memory.{bump}
use Rattle.inv_rows.specs.model.MoveClock.{after_hand_over}
use Rattle.inv_rows.specs.model.Phases.{Aim, Base, Ending, MoveAt, ProtectAt, Turn, Walk, ends, goes}
use Rattle.inv_rows.specs.model.Phases.AllocateAt.{ClaimSlot, LoadBirth, StoreLife}
use Rattle.inv_rows.specs.model.Phases.Base.{Allocate, Begin, Clear, Finish, GiveUp, Move, Protect, Release, Reload, Retire, Write}
use Rattle.inv_rows.specs.model.Phases.BeginAt.{LoadLower, PublishSpan}
use Rattle.inv_rows.specs.model.Phases.MoveAt.{AnswerAsked, CheckEra, ExchangeClock, HandOver, HideEra, HideLate, LoadAsked, LoadEra, LoadRequest, LoadReserved, ShowEra}
use Rattle.inv_rows.specs.model.Phases.ProtectAt.{AnswerOwn, CheckClock, CheckOwnClock, CheckUpper, LoadAnswer, LoadClock, LoadLink, LoadOwnClock, LoadOwnLink, LoadWithin, PublishEra, PublishHelper, PublishRequest, RaiseUpper, TakeAnswer, WithdrawHelper, WithdrawRequest, ByHazard}
use Rattle.inv_rows.specs.model.Phases.HazardAt.{FirstLink, PublishLink, CheckLink}
use Rattle.inv_rows.specs.model.Phases.RetireAt.{LoadLife, LoadRetire, StoreRetired}
use Rattle.inv_rows.specs.model.Posts.{cleared, counted, reserves_helper, stands, tag_of, upper, with_row, with_tag, withdrawn, publishes_index}
use Rattle.inv_rows.specs.model.Protect.{held_post, protected, told_held}
use Rattle.inv_rows.specs.model.Rounds.{let_index, scheme_of}
use Rattle.inv_rows.specs.model.SlowPath.{asking, own_request}
use Rattle.inv_rows.specs.model.World.{finds, offered, step}
use Rattle.inv_rows.specs.model.WriteRow.{last_written}
use Rattle.inv_rows.specs.model.declared.post.Post.{Post}
use Rattle.inv_rows.proofs.Covering.Held.{stepped_post}
use Rattle.inv_rows.proofs.Covering.Stood.{concluded_post}
use Rattle.inv_rows.specs.Covering.Held.{leads}
use Rattle.inv_rows.specs.Covering.Rests.{Vacant, vacant, vacant_keep, vacant_work}
use Rattle.inv_rows.specs.defs.declared.event.Event.{Event}
use Rattle.inv_rows.specs.defs.declared.event.Root.{Root}
use Rattle.inv_ends.proofs.Ends.Left.{cleared_away, hidden_stood}
use Rattle.inv_ends.proofs.Ends.Nulls.{none_of, under_test}
use Rattle.inv_ends.proofs.Told.Rows.{concluded_told, own_post, own_told, step_adds}
use Rattle.inv_ends.proofs.Ends.Tests.{Calm, base_any, base_shows, none_worked, phase_shows, step_any}
use Rattle.inv_ends.proofs.Told.Turns.{Adds, is_later, stood_append, withdrawn_stood}
use Rattle.inv_ends.specs.Standing.{HeldTold, StandingTold, holds_base, holds_in, is_end}
use Rattle.inv_rows.specs.defs.Events.{is_held}
use Rattle.inv_ends.specs.Stands.{is_clear, stood, stood_by}
use Rattle.inv_rows.specs.Shapes.Seats.{PhaseFits, Run, index_by, kind_of, protects}
use Rattle.inv_rows.specs.Shapes.Slots.{KeepIn, PhaseIn, WorkIn}
use Rattle.inv_rows.specs.words.Schemes.{has_one_interval, publishes_rows}
use Rattle.inv_rows.specs.words.declared.config.Config.{Config}
use Rattle.inv_rows.specs.words.Packed.{read_reservation}
use Rattle.inv_rows.specs.words.declared.layout.Layout.{Layout}
use Rattle.inv_rows.proofs.Shapes.Written.{index_few, reloads_protect}
use Rattle.model_history.proofs.Passes.{copied_post, copied_told, keep_post, keep_told, work_post, work_told}
use Rattle.inv_rows.proofs.model.Standing.{stands-with_row_same, stands-with_row_other}
use Rattle.inv_rows.proofs.model.Ranges.{bounds_of}
use Rattle.inv_rows.proofs.Shapes.Kept.{run_counted, work_counted}
use Rattle.inv_rows.proofs.model.Facts.{or_false, no_truth_2, and_false, number_is}

-- Held is told where a row comes to stand
held_calm : (j s : ℕ) → Calm (is_held j s)
held_calm j s = record { reserve = λ g x. refl; hazard = λ g x. refl; saw = λ g x. refl; read = λ g x. refl; era = λ e. refl; give = λ a b. refl; unused = λ a. refl; retire = λ a b r. refl; back = λ a. refl }

pub clear_calm : (j s : ℕ) → Calm (is_clear j s)
clear_calm j s = record { reserve = λ g x. refl; hazard = λ g x. refl; saw = λ g x. refl; read = λ g x. refl; era = λ e. refl; give = λ a b. refl; unused = λ a. refl; retire = λ a b r. refl; back = λ a. refl }

held_later : (j s : ℕ) (e : Event) → is_later e ≡ true → is_held j s e ≡ false
held_later j s (events.Begin call) h = refl
held_later j s (events.End count answer) h = refl
held_later j s (events.Era era) h = refl
held_later j s (events.Reserve guard span) h = refl
held_later j s (events.Read guard span) h = refl
held_later j s (events.Hazard guard slot) h = refl
held_later j s (events.Saw guard slot) h = refl
held_later j s (events.Give slot birth) h = refl
held_later j s (events.Unused slot) h = refl
held_later j s (events.Link root slot) h = refl
held_later j s (events.Cut slot) h = refl
held_later j s (events.Retire slot birth retire) h = refl
held_later j s (events.Back slot) h = refl
held_later j s (events.Held index slot n) h = no_truth_2 h
held_later j s (events.Null index n) h = refl
held_later j s (events.Clear index slot) h = refl
held_later j s (events.Copied from index slot) h = no_truth_2 h
held_later j s (events.Put bucket version key value) h = refl
held_later j s (events.Removed bucket version key) h = refl
held_later j s (events.Got bucket version key value) h = refl
held_later j s (events.Queued number value) h = refl
held_later j s (events.Taken number value) h = refl
held_later j s (events.Left count) h = refl
held_later j s (events.Adopted place count) h = refl

lead_is : (link s : ℕ) (same : Bool) → (link == s + 1) ≡ same → (link == 0) ≡ false → (link - 1 == s) ≡ same
lead_is link s true e n = grind (arith, nat_tests)
lead_is link s false e n = grind (arith, nat_tests)

null_leads : (link s : ℕ) → (link == 0) ≡ true → (link == s + 1) ≡ false
null_leads link s e = grind (arith, nat_tests)

told_is_held : (index : ℕ) (root : Root) (link n j s : ℕ) (null : Bool) → (link == 0) ≡ null → list_any (is_held j s) (told_held index root link n) ≡ ((index == j) && (is_end root && leads link s))
told_is_held index (roots.Bucket bucket) link n j s true e = rw (e, null_leads link s e) (none_of (index == j))
told_is_held index (roots.Bucket bucket) link n j s false e = rw (e, lead_is link s (link == s + 1) refl e) (or_false ((index == j) && (link == s + 1)))
told_is_held index roots.Head link n j s true e = rw (e, null_leads link s e) (none_of (index == j))
told_is_held index roots.Head link n j s false e = rw (e, lead_is link s (link == s + 1) refl e) (or_false ((index == j) && (link == s + 1)))
told_is_held index roots.Tail link n j s true e = rw (e, null_leads link s e) (none_of (index == j))
told_is_held index roots.Tail link n j s false e = rw (e, lead_is link s (link == s + 1) refl e) (or_false ((index == j) && (link == s + 1)))
told_is_held index (roots.Next parent) link n j s true e = rw e (none_of (index == j))
told_is_held index (roots.Next parent) link n j s false e = rw e (none_of (index == j))

-- a first load that ends a protection leads to no row, and one more does where it finds the link that is published
first_leads : (end : Bool) (found s : ℕ) (null : Bool) → (found == 0) ≡ null → (null && (end && leads found s)) ≡ false
first_leads end found s true e = rw (null_leads found s e) (and_false end)
first_leads end found s false e = refl

pub again_leads : (end : Bool) (found link s : ℕ) (same : Bool) → (found == link) ≡ same → ((same || found == 0) && (end && leads found s)) ≡ (same && (end && leads link s))
again_leads end found link s true e = ap (λ (n : ℕ). end && leads n s) (number_is found link e)
again_leads end found link s false e = first_leads end found s (found == 0) refl

cleared_held : (index j s : ℕ) (x : Option ℕ) → list_any (is_held j s) (cleared index x) ≡ false
cleared_held index j s None = refl
cleared_held index j s (Some slot) = refl

base_held : (base : Base) (post : Post) (found j s : ℕ) → base_shows (is_held j s) post base found ≡ holds_base post base found j s
base_held (Protect aim index root steps (LoadClock tries)) post found j s = none_of (index == j)
base_held (Protect aim index root steps (PublishEra era tries)) post found j s = none_of (index == j)
base_held (Protect aim index root steps (LoadLink era tries)) post found j s = none_of (index == j)
base_held (Protect aim index root steps (CheckClock era tries link)) post found j s = under_test (found == era) _ (index == j) (is_end root && leads link s) (told_is_held index root link (bump steps) j s (link == 0) refl)
base_held (Protect aim index root steps PublishRequest) post found j s = none_of (index == j)
base_held (Protect aim index root steps LoadOwnClock) post found j s = none_of (index == j)
base_held (Protect aim index root steps (PublishHelper first era last)) post found j s = none_of (index == j)
base_held (Protect aim index root steps (LoadOwnLink first era last)) post found j s = none_of (index == j)
base_held (Protect aim index root steps (CheckOwnClock first era last link)) post found j s = none_of (index == j)
base_held (Protect aim index root steps (AnswerOwn first era link)) post found j s = none_of (index == j)
base_held (Protect aim index root steps (LoadAnswer first)) post found j s = none_of (index == j)
base_held (Protect aim index root steps (TakeAnswer link era)) post found j s = told_is_held index root link (bump steps) j s (link == 0) refl
base_held (Protect aim index root steps (WithdrawRequest link era)) post found j s = none_of (index == j)
base_held (Protect aim index root steps (WithdrawHelper link era)) post found j s = none_of (index == j)
base_held (Protect aim index root steps LoadWithin) post found j s = none_of (index == j)
base_held (Protect aim index root steps (CheckUpper link)) post found j s = under_test (found == upper post.span) _ (index == j) (is_end root && leads link s) (told_is_held index root link (bump steps) j s (link == 0) refl)
base_held (Protect aim index root steps (RaiseUpper era)) post found j s = none_of (index == j)
base_held (Protect aim index root steps (ByHazard FirstLink)) post found j s =
    under_test (found == 0) _ (index == j) (is_end root && leads found s) (told_is_held index root found (bump steps) j s (found == 0) refl) ∙ ap (λ (x : Bool). (index == j) && x) (first_leads (is_end root) found s (found == 0) refl)
base_held (Protect aim index root steps (ByHazard (PublishLink link))) post found j s = none_of (index == j)
base_held (Protect aim index root steps (ByHazard (CheckLink link))) post found j s =
    under_test (found == link || found == 0) _ (index == j) (is_end root && leads found s) (told_is_held index root found (bump steps) j s (found == 0) refl) ∙ ap (λ (x : Bool). (index == j) && x) (again_leads (is_end root) found link s (found == link) refl)
base_held (Begin at) post found j s = refl
base_held (Reload parent index slot era steps) post found j s = under_test (found == parent + 1) ((index == j) && (slot == s)) (index == j) (slot == s) refl
base_held (Clear rows index) post found j s = cleared_held index j s (stands post index)
base_held Finish post found j s = refl
base_held (Release index) post found j s = cleared_held index j s (stands post index)
base_held base post found j s = refl

phase_held : (phase : Phase) (post : Post) (found j s : ℕ) → phase_shows (is_held j s) post phase found ≡ holds_in post phase found j s
phase_held Idle post found j s = refl
phase_held (Runs why base) post found j s = base_held base post found j s
phase_held (Scans later at) post found j s = refl
phase_held (Works work) post found j s = none_worked (is_held j s) work post (λ index slot. refl) (λ from index slot. refl)

pub held_told : HeldTold
held_told w i j s = step_any (is_held j s) w i (held_calm j s) (held_later j s) ∙ phase_held (w.seat i).phase (counted (w.seat i).post) (finds w i) j s

-- machines whose step leaves what stands
abbrev pub is_still_at : ProtectAt → Bool
is_still_at (CheckClock era tries link) = false
is_still_at (TakeAnswer link era) = false
is_still_at (CheckUpper link) = false
is_still_at (ByHazard FirstLink) = false
is_still_at (ByHazard (CheckLink link)) = false
is_still_at at = true

abbrev pub is_still : Base → Bool
is_still (Protect aim index root steps at) = is_still_at at
is_still (Reload parent index slot era steps) = false
is_still (Clear rows index) = false
is_still (Release index) = false
is_still base = true

goes_keeps : (post : Post) (a b : Base) (same : Bool) → (if same then goes post [] a else goes post [] b).post.standing ≡ post.standing
goes_keeps post a b true = refl
goes_keeps post a b false = refl

ends_keeps : (post : Post) (a : Ending) (b : Base) (same : Bool) → (if same then ends post [] a else goes post [] b).post.standing ≡ post.standing
ends_keeps post a b true = refl
ends_keeps post a b false = refl

walking_keeps : (birth : ℕ) (post : Post) (x : Option Walk) → (walking birth post x).post.standing ≡ post.standing
walking_keeps birth post None = refl
walking_keeps birth post (Some walk) = refl

claim_keeps : (birth : ℕ) (walk : Walk) (post : Post) (found : ℕ) (taken : Bool) → is_claimed found walk.slot ≡ taken → (after_claim_slot birth walk post found).post.standing ≡ post.standing
claim_keeps birth walk post found true e = rw e (walking_keeps birth post (walk_past post.layout.config.slots walk found))
claim_keeps birth walk post found false e = rw e refl

clock_keeps : (era found : ℕ) (post : Post) (same : Bool) → (if same then ends post (events.Era (era + 1) ∷ []) (Clocked (moves.Moved (era + 1))) else ends post [] (Clocked (moves.Other found))).post.standing ≡ post.standing
clock_keeps era found post true = refl
clock_keeps era found post false = refl

hand_keeps : (era seat tag index old : ℕ) (post : Post) (same : Bool) → (after_hand_over era seat tag index old post same).post.standing ≡ post.standing
hand_keeps era seat tag index old post true = refl
hand_keeps era seat tag index old post false = refl

move_keeps : (at : MoveAt) (post : Post) (found : ℕ) → (move_turn at post found).post.standing ≡ post.standing
move_keeps (LoadEra helps) post found = ends_keeps post _ _ (found == post.layout.config.last_era)
move_keeps (LoadRequest era seat shows) post found = refl
move_keeps (ShowEra era seat tag index root) post found = refl
move_keeps (LoadAsked era seat tag index root) post found = refl
move_keeps (CheckEra era seat tag index root link) post found = goes_keeps post _ _ (found == era)
move_keeps (AnswerAsked era seat tag index root link) post found = goes_keeps post _ _ (found == asking post.layout tag index root)
move_keeps (LoadReserved era seat tag index root link) post found = goes_keeps post _ _ ((read_reservation found).tag == tag)
move_keeps (HandOver era seat tag index root link old) post found = hand_keeps era seat tag index old post _
move_keeps (HideEra era) post found = refl
move_keeps (HideLate seen) post found = refl
move_keeps (ExchangeClock era) post found = clock_keeps era found post (found == era)

pub base_keeps : (base : Base) (post : Post) (found : ℕ) → is_still base ≡ true → (after base post found).post.standing ≡ post.standing
base_keeps (Protect aim index root steps (LoadClock tries)) post found k = refl
base_keeps (Protect aim index root steps (PublishEra era tries)) post found k = refl
base_keeps (Protect aim index root steps (LoadLink era tries)) post found k = refl
base_keeps (Protect aim index root steps (CheckClock era tries link)) post found k = no_truth_2 k
base_keeps (Protect aim index root steps PublishRequest) post found k = refl
base_keeps (Protect aim index root steps LoadOwnClock) post found k = refl
base_keeps (Protect aim index root steps (PublishHelper first era last)) post found k = refl
base_keeps (Protect aim index root steps (LoadOwnLink first era last)) post found k = refl
base_keeps (Protect aim index root steps (CheckOwnClock first era last link)) post found k = goes_keeps post _ _ (found == era)
base_keeps (Protect aim index root steps (AnswerOwn first era link)) post found k = goes_keeps post _ _ (found == own_request post index root)
base_keeps (Protect aim index root steps (LoadAnswer first)) post found k = refl
base_keeps (Protect aim index root steps (TakeAnswer link era)) post found k = no_truth_2 k
base_keeps (Protect aim index root steps (WithdrawRequest link era)) post found k = refl
base_keeps (Protect aim index root steps (WithdrawHelper link era)) post found k = ap (λ (p : Post). p.standing) (concluded_post aim index root (bump steps) link era post (reserves_helper post 0))
base_keeps (Protect aim index root steps LoadWithin) post found k = refl
base_keeps (Protect aim index root steps (CheckUpper link)) post found k = no_truth_2 k
base_keeps (Protect aim index root steps (RaiseUpper era)) post found k = refl
base_keeps (Protect aim index root steps (ByHazard FirstLink)) post found k = no_truth_2 k
base_keeps (Protect aim index root steps (ByHazard (PublishLink link))) post found k = refl
base_keeps (Protect aim index root steps (ByHazard (CheckLink link))) post found k = no_truth_2 k
base_keeps (Begin LoadLower) post found k = refl
base_keeps (Begin (PublishSpan era)) post found k = refl
base_keeps (Reload parent index slot era steps) post found k = no_truth_2 k
base_keeps (Clear rows index) post found k = no_truth_2 k
base_keeps Finish post found k = refl
base_keeps (Release index) post found k = no_truth_2 k
base_keeps (Allocate LoadBirth) post found k = refl
base_keeps (Allocate (ClaimSlot birth walk)) post found k = claim_keeps birth walk post found (is_claimed found walk.slot) refl
base_keeps (Allocate (StoreLife birth slot)) post found k = refl
base_keeps (Write slot row place) post found k = ends_keeps post _ _ (place == last_written row)
base_keeps (GiveUp slot) post found k = refl
base_keeps (Retire (LoadLife slot)) post found k = refl
base_keeps (Retire (LoadRetire slot birth)) post found k = refl
base_keeps (Retire (StoreRetired slot birth retire)) post found k = refl
base_keeps (Move at) post found k = move_keeps at post found

pub same_standing : (p q : Post) (j : ℕ) → p.standing ≡ q.standing → stands p j ≡ stands q j
same_standing p q j e = ap (λ (xs : List (Option ℕ)). slice_index_or xs j None) e

-- events of what stands
abbrev pub is_standing : Event → Bool
is_standing (events.Held index slot steps) = true
is_standing (events.Copied from index slot) = true
is_standing (events.Clear index slot) = true
is_standing event = false

pub standing_calm : Calm is_standing
standing_calm = record { reserve = λ g x. refl; hazard = λ g x. refl; saw = λ g x. refl; read = λ g x. refl; era = λ e. refl; give = λ a b. refl; unused = λ a. refl; retire = λ a b r. refl; back = λ a. refl }

by_calm : (e : Event) (x : Option ℕ) (j : ℕ) → is_standing e ≡ false → stood_by e x j ≡ x
by_calm (events.Begin call) x j h = refl
by_calm (events.End count answer) x j h = refl
by_calm (events.Era era) x j h = refl
by_calm (events.Reserve guard span) x j h = refl
by_calm (events.Read guard span) x j h = refl
by_calm (events.Hazard guard slot) x j h = refl
by_calm (events.Saw guard slot) x j h = refl
by_calm (events.Give slot birth) x j h = refl
by_calm (events.Unused slot) x j h = refl
by_calm (events.Link root slot) x j h = refl
by_calm (events.Cut slot) x j h = refl
by_calm (events.Retire slot birth retire) x j h = refl
by_calm (events.Back slot) x j h = refl
by_calm (events.Held index slot n) x j h = no_truth_2 (sym h)
by_calm (events.Null index n) x j h = refl
by_calm (events.Clear index slot) x j h = no_truth_2 (sym h)
by_calm (events.Copied from index slot) x j h = no_truth_2 (sym h)
by_calm (events.Put bucket version key value) x j h = refl
by_calm (events.Removed bucket version key) x j h = refl
by_calm (events.Got bucket version key value) x j h = refl
by_calm (events.Queued number value) x j h = refl
by_calm (events.Taken number value) x j h = refl
by_calm (events.Left count) x j h = refl
by_calm (events.Adopted place count) x j h = refl

calm_stood : (told : List Event) (x : Option ℕ) (j : ℕ) → list_any is_standing told ≡ false → stood told x j ≡ x
calm_stood [] x j h = refl
calm_stood (e ∷ es) x j h =
    let a : is_standing e ≡ false = grind (arith, nat_tests) in
    let b : list_any is_standing es ≡ false = grind (arith, nat_tests) in
    ap (λ (y : Option ℕ). stood es y j) (by_calm e x j a) ∙ calm_stood es x j b

pub still_shows : (p : Event → Bool) (base : Base) (post : Post) (found : ℕ) → is_still base ≡ true → base_shows p post base found ≡ false
still_shows p (Protect aim index root steps (LoadClock tries)) post found k = refl
still_shows p (Protect aim index root steps (PublishEra era tries)) post found k = refl
still_shows p (Protect aim index root steps (LoadLink era tries)) post found k = refl
still_shows p (Protect aim index root steps (CheckClock era tries link)) post found k = no_truth_2 k
still_shows p (Protect aim index root steps PublishRequest) post found k = refl
still_shows p (Protect aim index root steps LoadOwnClock) post found k = refl
still_shows p (Protect aim index root steps (PublishHelper first era last)) post found k = refl
still_shows p (Protect aim index root steps (LoadOwnLink first era last)) post found k = refl
still_shows p (Protect aim index root steps (CheckOwnClock first era last link)) post found k = refl
still_shows p (Protect aim index root steps (AnswerOwn first era link)) post found k = refl
still_shows p (Protect aim index root steps (LoadAnswer first)) post found k = refl
still_shows p (Protect aim index root steps (TakeAnswer link era)) post found k = no_truth_2 k
still_shows p (Protect aim index root steps (WithdrawRequest link era)) post found k = refl
still_shows p (Protect aim index root steps (WithdrawHelper link era)) post found k = refl
still_shows p (Protect aim index root steps LoadWithin) post found k = refl
still_shows p (Protect aim index root steps (CheckUpper link)) post found k = no_truth_2 k
still_shows p (Protect aim index root steps (RaiseUpper era)) post found k = refl
still_shows p (Protect aim index root steps (ByHazard FirstLink)) post found k = no_truth_2 k
still_shows p (Protect aim index root steps (ByHazard (PublishLink link))) post found k = refl
still_shows p (Protect aim index root steps (ByHazard (CheckLink link))) post found k = no_truth_2 k
still_shows p (Begin at) post found k = refl
still_shows p (Reload parent index slot era steps) post found k = no_truth_2 k
still_shows p (Clear rows index) post found k = no_truth_2 k
still_shows p Finish post found k = refl
still_shows p (Release index) post found k = no_truth_2 k
still_shows p base post found k = refl

-- a row comes to stand
row_by : (post : Post) (index slot j : ℕ) (same : Bool) → (index == j) ≡ same → index < length post.standing → stands (with_row post index slot) j ≡ (if index == j then Some slot else stands post j)
row_by post index slot j true e b =
    let q : index ≡ j = grind (arith, nat_tests) in
    rw e (subst (λ (k : ℕ). stands (with_row post index slot) k ≡ Some slot) q (stands-with_row_same post index slot b))
row_by post index slot j false e b = let q : j ≢ index = grind (arith, nat_tests) in rw e (stands-with_row_other post index slot j q)

pub row_stood : (post : Post) (index slot n j : ℕ) → index < length post.standing → stands (with_row post index slot) j ≡ stood (events.Held index slot n ∷ []) (stands post j) j
row_stood post index slot n j b = row_by post index slot j (index == j) refl b

pub held_stood : (post : Post) (index : ℕ) (root : Root) (link n j : ℕ) (null : Bool) → (link == 0) ≡ null → index < length post.standing → stands (held_post post index root link) j ≡ stood (told_held index root link n) (stands post j) j
held_stood post index (roots.Bucket bucket) link n j true e b = rw e refl
held_stood post index (roots.Bucket bucket) link n j false e b = rw e (row_stood post index (link - 1) n j b)
held_stood post index roots.Head link n j true e b = rw e refl
held_stood post index roots.Head link n j false e b = rw e (row_stood post index (link - 1) n j b)
held_stood post index roots.Tail link n j true e b = rw e refl
held_stood post index roots.Tail link n j false e b = rw e (row_stood post index (link - 1) n j b)
held_stood post index (roots.Next parent) link n j true e b = rw e refl
held_stood post index (roots.Next parent) link n j false e b = rw e refl

-- a row comes to stand at another index, whatever stood there
copied_by : (index slot j : ℕ) (y z : Option ℕ) (same : Bool) → (index == j) ≡ same → (same ≡ false → z ≡ y) → (if index == j then Some slot else y) ≡ (if index == j then Some slot else z)
copied_by index slot j y z true e f = rw e refl
copied_by index slot j y z false e f = rw e (sym (f refl))

copied_stood : (from index : ℕ) (post : Post) (reserved : List Event) (x : Option ℕ) (j : ℕ) → index < length post.standing → ((y : Option ℕ) → stood reserved y j ≡ y) → stands (copied_post index post x) j ≡ stood (copied_told from index post reserved x) (stands post j) j
copied_stood from index post reserved None j b f = refl
copied_stood from index post reserved (Some slot) j b f =
    let c : List Event = cleared index (stands post index) in
    let y : Option ℕ = stands post j in
    row_by post index slot j (index == j) refl b
    ∙ copied_by index slot j y (stood (c ++ reserved) y j) (index == j) refl (λ e. stood_append c reserved y j ∙ f (stood c y j) ∙ cleared_away index j (stands post index) y e)
    ∙ sym (stood_append (c ++ reserved) (events.Copied from index slot ∷ []) y j)

load_held_stood : (from index : ℕ) (post : Post) (j : ℕ) (one : Bool) → index < length post.standing
    → stands (if one then copied_post index post (stands post from) else post) j ≡ stood (if one then copied_told from index post [] (stands post from) else []) (stands post j) j
load_held_stood from index post j true b = copied_stood from index post [] (stands post from) j b (λ y. refl)
load_held_stood from index post j false b = refl

shown_stood : (rows : Bool) (post : Post) (index number : ℕ) (x : Option ℕ) (j : ℕ) → stood (publishes_index rows post index number) x j ≡ x
shown_stood true post index number x j = refl
shown_stood false post index number x j = refl

-- what stands after a step on what is kept is what it told
keep_stood : (config : Config) (at : KeepAt) (post : Post) (j : ℕ) → config.indexes ≤ length post.standing → KeepIn config at → Vacant (vacant_keep at) post → stands (keep_post at post) j ≡ stood (keep_told at post) (stands post j) j
keep_stood config (Loosens let_go) post j b k n = withdrawn_stood post (let_index let_go) j
keep_stood config (LoadHeld from index) post j b k n = load_held_stood from index post j (has_one_interval (scheme_of post)) (omega (arith, b, k.below))
keep_stood config (StoreHeld from index era) post j b k n = copied_stood from index post (publishes_index (publishes_rows (scheme_of post)) post index era) (stands post from) j (omega (arith, b, k.below)) (λ y. shown_stood (publishes_rows (scheme_of post)) post index era y j)
keep_stood config (Looks index key at) post j b k n = refl
keep_stood config (Misses index) post j b k n = refl
keep_stood config HideSpan post j b k n = hidden_stood post j n
keep_stood config MarkLeft post j b k n = refl
keep_stood config (TakeList place) post j b k n = refl
keep_stood config (MarkTaken place count) post j b k n = refl

work_stood : (config : Config) (work : Work) (post : Post) (j : ℕ) → config.indexes ≤ length post.standing → WorkIn config work → Vacant (vacant_work work) post → stands (work_post work post) j ≡ stood (work_told work post) (stands post j) j
work_stood config (Getting key at) post j b k n = refl
work_stood config (Changing kept at) post j b k n = refl
work_stood config (Enqueuing kept at) post j b k n = refl
work_stood config (Dequeuing at) post j b k n = refl
work_stood config (Keeping at) post j b k n = keep_stood config at post j b k n

-- what stands after a machine's step is what it told
abbrev pub Turned : Post → Turn → ℕ → Type 0
Turned post t j = stands t.post j ≡ stood t.told (stands post j) j

protected_turned : (aim : Aim) (index : ℕ) (root : Root) (n link era : ℕ) (post : Post) (j : ℕ) → index < length post.standing → Turned post (protected aim index root n link era post) j
protected_turned aim index root n link era post j b =
    rw (concluded_told aim index root n link era (held_post post index root link) (told_held index root link n), concluded_post aim index root n link era (held_post post index root link) (told_held index root link n)) (held_stood post index root link n j (link == 0) refl b)

check_turned : (aim : Aim) (index : ℕ) (root : Root) (n link era : ℕ) (post : Post) (next : Base) (j : ℕ) (same : Bool) → index < length post.standing → Turned post (if same then protected aim index root n link era post else goes post [] next) j
check_turned aim index root n link era post next j true b = protected_turned aim index root n link era post j b
check_turned aim index root n link era post next j false b = refl

reload_turned : (post : Post) (index slot n j : ℕ) (a b : Ending) (same : Bool) → index < length post.standing → Turned post (if same then ends (with_row post index slot) (events.Held index slot n ∷ []) a else ends post [] b) j
reload_turned post index slot n j a b true l = row_stood post index slot n j l
reload_turned post index slot n j a b false l = refl

cleared_turned : (post : Post) (index j : ℕ) (e : Event) → ((x : Option ℕ) → stood_by e x j ≡ x) → stands (withdrawn post index) j ≡ stood (cleared index (stands post index) ++ e ∷ []) (stands post j) j
cleared_turned post index j e f = withdrawn_stood post index j ∙ sym (stood_append (cleared index (stands post index)) (e ∷ []) (stands post j) j ∙ f (stood (cleared index (stands post index)) (stands post j) j))

still_turned : (base : Base) (post : Post) (found j : ℕ) → is_still base ≡ true → Turned post (after base post found) j
still_turned base post found j k =
    same_standing (after base post found).post post j (base_keeps base post found k) ∙ sym (calm_stood (after base post found).told (stands post j) j (base_any is_standing base post found standing_calm ∙ still_shows is_standing base post found k))

-- the index of a machine is one of the seat's
abbrev pub fits_index : Base → Post → Type 0
fits_index (Protect aim index root steps at) post = index < length post.standing
fits_index (Reload parent index slot era steps) post = index < length post.standing
fits_index base post = Unit {0}

pub base_turned : (base : Base) (post : Post) (found j : ℕ) → fits_index base post → Turned post (after base post found) j
base_turned (Protect aim index root steps (LoadClock tries)) post found j b = still_turned (Protect aim index root steps (LoadClock tries)) post found j refl
base_turned (Protect aim index root steps (PublishEra era tries)) post found j b = still_turned (Protect aim index root steps (PublishEra era tries)) post found j refl
base_turned (Protect aim index root steps (LoadLink era tries)) post found j b = still_turned (Protect aim index root steps (LoadLink era tries)) post found j refl
base_turned (Protect aim index root steps (CheckClock era tries link)) post found j b = check_turned aim index root (bump steps) link era post _ j (found == era) b
base_turned (Protect aim index root steps PublishRequest) post found j b = still_turned (Protect aim index root steps PublishRequest) post found j refl
base_turned (Protect aim index root steps LoadOwnClock) post found j b = still_turned (Protect aim index root steps LoadOwnClock) post found j refl
base_turned (Protect aim index root steps (PublishHelper first era last)) post found j b = still_turned (Protect aim index root steps (PublishHelper first era last)) post found j refl
base_turned (Protect aim index root steps (LoadOwnLink first era last)) post found j b = still_turned (Protect aim index root steps (LoadOwnLink first era last)) post found j refl
base_turned (Protect aim index root steps (CheckOwnClock first era last link)) post found j b = still_turned (Protect aim index root steps (CheckOwnClock first era last link)) post found j refl
base_turned (Protect aim index root steps (AnswerOwn first era link)) post found j b = still_turned (Protect aim index root steps (AnswerOwn first era link)) post found j refl
base_turned (Protect aim index root steps (LoadAnswer first)) post found j b = still_turned (Protect aim index root steps (LoadAnswer first)) post found j refl
base_turned (Protect aim index root steps (TakeAnswer link era)) post found j b = held_stood (with_tag post index (tag_of post index + 1)) index root link (bump steps) j (link == 0) refl b
base_turned (Protect aim index root steps (WithdrawRequest link era)) post found j b = still_turned (Protect aim index root steps (WithdrawRequest link era)) post found j refl
base_turned (Protect aim index root steps (WithdrawHelper link era)) post found j b = still_turned (Protect aim index root steps (WithdrawHelper link era)) post found j refl
base_turned (Protect aim index root steps LoadWithin) post found j b = still_turned (Protect aim index root steps LoadWithin) post found j refl
base_turned (Protect aim index root steps (CheckUpper link)) post found j b = check_turned aim index root (bump steps) link found post _ j (found == upper post.span) b
base_turned (Protect aim index root steps (RaiseUpper era)) post found j b = still_turned (Protect aim index root steps (RaiseUpper era)) post found j refl
base_turned (Protect aim index root steps (ByHazard FirstLink)) post found j b = check_turned aim index root (bump steps) found 0 post _ j (found == 0) b
base_turned (Protect aim index root steps (ByHazard (PublishLink link))) post found j b = still_turned (Protect aim index root steps (ByHazard (PublishLink link))) post found j refl
base_turned (Protect aim index root steps (ByHazard (CheckLink link))) post found j b = check_turned aim index root (bump steps) found 0 post _ j (found == link || found == 0) b
base_turned (Begin at) post found j b = still_turned (Begin at) post found j refl
base_turned (Reload parent index slot era steps) post found j b = reload_turned post index slot (bump steps) j _ _ (found == parent + 1) b
base_turned (Clear true index) post found j b = cleared_turned post index j (events.Hazard (guards.Index post.seat index) (linked_row 0)) (λ x. refl)
base_turned (Clear false index) post found j b = cleared_turned post index j (events.Reserve (guards.Index post.seat index) (one_era 0)) (λ x. refl)
base_turned Finish post found j b = still_turned Finish post found j refl
base_turned (Release index) post found j b = cleared_turned post index j (events.Reserve (guards.Whole post.seat) None) (λ x. refl)
base_turned (Allocate at) post found j b = still_turned (Allocate at) post found j refl
base_turned (Write slot row place) post found j b = still_turned (Write slot row place) post found j refl
base_turned (GiveUp slot) post found j b = still_turned (GiveUp slot) post found j refl
base_turned (Retire at) post found j b = still_turned (Retire at) post found j refl
base_turned (Move at) post found j b = still_turned (Move at) post found j refl

pub at_below : (why : Why) (index n : ℕ) → protects (kind_of why) ≡ true → index ≡ index_by why → n ≡ 8 → index < n
at_below why index n p e l = let b : index_by why ≤ 2 = index_few why p in omega arith

pub run_index : (layout : Layout) (why : Why) (base : Base) (post : Post) → length post.standing ≡ 8 → Run layout why base post → fits_index base post
run_index layout why (Protect aim index root steps at) post l r = at_below why index (length post.standing) r.suited r.shape.at l
run_index layout why (Reload parent index slot era steps) post l r = at_below why index (length post.standing) (reloads_protect (kind_of why) r.suited) r.shape.at l
run_index layout why base post l r = tt

read_stood : (rows : Bool) (guard : Guard) (word : ℕ) (x : Option ℕ) (j : ℕ) → stood (reads_guard rows guard word ∷ []) x j ≡ x
read_stood true guard word x j = refl
read_stood false guard word x j = refl

phase_turned : (layout : Layout) (phase : Phase) (post : Post) (desk : Desk) (found j : ℕ) → length post.standing ≡ 8 → layout.config.indexes ≤ length post.standing → PhaseFits layout post phase → PhaseIn layout desk phase → Vacant (vacant phase) post
    → stands (own_post phase post found) j ≡ stood (own_told phase post found) (stands post j) j
phase_turned layout Idle post desk found j l b r k n = refl
phase_turned layout (Runs why base) post desk found j l b r k n = base_turned base post found j (run_index layout why base post l r)
phase_turned layout (Scans later (ReadGuard number)) post desk found j l b r k n = sym (read_stood (publishes_rows (scheme_of post)) (guard_at post.layout.config number) found (stands post j) j)
phase_turned layout (Scans later (GiveBack place slot)) post desk found j l b r k n = refl
phase_turned layout (Works work) post desk found j l b r k n = work_stood layout.config work post j b k n

pub counted_fits : (layout : Layout) (phase : Phase) (post : Post) → PhaseFits layout post phase → PhaseFits layout (counted post) phase
counted_fits layout Idle post r = r
counted_fits layout (Runs why base) post r = run_counted layout why base post r
counted_fits layout (Scans later at) post r = r
counted_fits layout (Works work) post r = work_counted work post r

pub standing_told : StandingTold
standing_told w i j v s n r =
    let l : Local = w.seat i in
    let t : CallTurn = turn (offered w i) (finds w i) in
    let x : Adds (own_post l.phase (counted l.post) (finds w i)) (own_told l.phase (counted l.post) (finds w i)) t = step_adds w i in
    let p : PhaseFits w.layout (counted l.post) l.phase = counted_fits w.layout l.phase l.post (s.fits i).phase in
    let e : length l.post.standing ≡ 8 = (s.fits i).post.standing in
    let b : w.layout.config.indexes ≤ length l.post.standing = (let c = bounds_of w.layout v in omega (arith, c.indexes, e)) in
    same_standing ((step w i).seat i).post t.post j (ap (λ (q : Post). q.standing) (stepped_post w i))
    ∙ x.stands j
    ∙ ap (λ (y : Option ℕ). stood x.more y j) (phase_turned w.layout l.phase (counted l.post) l.desk (finds w i) j e b p (n.seats i).phase (r.vacant i))
    ∙ sym (stood_append (own_told l.phase (counted l.post) (finds w i)) x.more (stands l.post j) j)
    ∙ sym (ap (λ (told : List Event). stood told (stands l.post j) j) x.is)
