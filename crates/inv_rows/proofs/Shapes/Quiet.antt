-- No machine sends a row back, and so the notes of a call count what goes back in scans.
use Rattle.std.proofs.Common.{ℕ, ◌≡◌, ◌≤◌, ◌+◌, ◌*◌, Bool, true, false, List, [], ◌∷◌, length, length-append, Option, Some, None, refl, sym, subst, ◌∙◌, arith}
use Rattle.std.specs.Prelude.{◌==◌, ◌||◌, if◌then◌else◌}
use Rattle.wfe_core.specs.words.Packed.{read_reservation, reservation_word}
use Rattle.wfe_core.specs.words.declared.layout.Layout.{Layout}
use Rattle.wfe_core.specs.defs.declared.call.Call.{Call}
use Rattle.wfe_core.specs.defs.declared.event.Event.{Event}
use Rattle.wfe_core.specs.defs.declared.event.Event.TheVariants as events
use Rattle.wfe_core.specs.defs.declared.event.Root.{Root}
use Rattle.wfe_core.specs.defs.declared.event.Root.TheVariants as roots
use Rattle.wfe_core.specs.words.declared.config.Config.{Config}
use Rattle.wfe_core.specs.CallReady.{NotesFit}
use Rattle.wfe_core.specs.declared.post.Post.{Post}
use Rattle.wfe_core.specs.Desks.{Desk, Notes, noted, noted_all, noting}
use Rattle.wfe_core.specs.Memory.{bump}
use Rattle.wfe_core.specs.Posts.{cleared, counted, stands, upper, reserves_index, publishes_index, reserves_helper, reserves_span}
use Rattle.wfe_core.specs.Phases.{Aim, Alone, Follows, BeginAt, HazardAt, ProtectAt, Walk, AllocateAt, RetireAt, MoveAt, Base, Outcome, Goes, Ends, Turn}
use Rattle.wfe_core.specs.Phases.BeginAt.{LoadLower, PublishSpan}
use Rattle.wfe_core.specs.Phases.ProtectAt.{LoadClock, PublishEra, LoadLink, CheckClock, PublishRequest, LoadOwnClock, PublishHelper, LoadOwnLink, CheckOwnClock, AnswerOwn, LoadAnswer, TakeAnswer, WithdrawRequest, WithdrawHelper, LoadWithin, CheckUpper, RaiseUpper, ByHazard}
use Rattle.wfe_core.specs.Phases.HazardAt.{FirstLink, PublishLink, CheckLink}
use Rattle.wfe_core.specs.Phases.AllocateAt.{LoadBirth, ClaimSlot, StoreLife}
use Rattle.wfe_core.specs.Phases.RetireAt.{LoadLife, LoadRetire, StoreRetired}
use Rattle.wfe_core.specs.Phases.MoveAt.{LoadEra, LoadRequest, ShowEra, LoadAsked, CheckEra, AnswerAsked, LoadReserved, HandOver, HideEra, HideLate, ExchangeClock}
use Rattle.wfe_core.specs.Phases.Base.{Begin, Protect, Reload, Clear, Finish, Release, Allocate, Write, GiveUp, Retire, Move}
use Rattle.wfe_core.specs.Protect.{held_post, told_held, concluded, protected}
use Rattle.wfe_core.specs.SlowPath.{own_request, asking}
use Rattle.wfe_core.specs.Allocate.{is_claimed, walk_past, walking}
use Rattle.wfe_core.specs.WriteRow.{last_written}
use Rattle.wfe_core.specs.MoveClock.{after_hand_over}
use Rattle.wfe_core.specs.Machine.{after, begin_turn, hazard_turn, protect_turn, allocate_turn, retire_turn, move_turn}
use Rattle.wfe_core.specs.Rounds.{scheme_of}
use Rattle.wfe_core.specs.Steps.{resumed, phase_turn}
use Rattle.wfe_core.specs.words.Schemes.{publishes_rows}
use Rattle.wfe_core.specs.Locals.{Local, turn, settled_by, settled, told_end, told_by, rounds_told, begun}
use Rattle.wfe_core.specs.Locals as locals
use Rattle.wfe_core.specs.Calls.{AfterScan, Answered, Repeated, Counted, Opens, FollowsHead, Fills, ClearsNext, Clears, Finishes, GivesUp, Retires, Tidies, Advances, Releases, Why, ScanAt, ReadGuard, GiveBack, Work, KeepAt, TakeList, Keeping, Phase, Idle, Runs, Scans, Works, CallTurn, CallOutcome, GoesOn, Answers}
use Rattle.wfe_core.specs.World.{World, start, begin, step, finds, offered}
use Rattle.inv_rows.specs.Shapes.Frame.{phase_left}
use Rattle.inv_rows.specs.Shapes.Noted.{back_of, backs, size, why_more, later_more, more, takes, NotedIn, Noted}
use Rattle.inv_rows.specs.Shapes.Slots.{scan_lists, gift_finds, phase_finds, SlotsNeeds}
use Rattle.inv_rows.proofs.Shapes.Frame.{seat_stays, seat_steps, begin_stays, begin_begins}
use Rattle.inv_rows.proofs.Shapes.Kept.{one_moves}
use Rattle.inv_rows.proofs.Shapes.Backs.{Counts, quiet_along, quiet_cleared, quiet_shown, scan_goes, work_goes, work_counts, scan_counts, resume_counts}

-- a turn in which no row goes back
abbrev Quiet : Turn → Type 0
Quiet t = backs t.told ≡ 0

quiet_if : (c : Bool) (t u : Turn) → Quiet t → Quiet u → Quiet (if c then t else u)
quiet_if true t u h g = h
quiet_if false t u h g = g

events_if : (c : Bool) (xs ys : List Event) → backs xs ≡ 0 → backs ys ≡ 0 → backs (if c then xs else ys) ≡ 0
events_if true xs ys h g = h
events_if false xs ys h g = g

quiet_held : (index : ℕ) (root : Root) (link n : ℕ) → backs (told_held index root link n) ≡ 0
quiet_held index (roots.Bucket bucket) link n = events_if (link == 0) _ _ refl refl
quiet_held index roots.Head link n = events_if (link == 0) _ _ refl refl
quiet_held index roots.Tail link n = events_if (link == 0) _ _ refl refl
quiet_held index (roots.Next parent) link n = events_if (link == 0) _ _ refl refl

quiet_concluded : (aim : Aim) (index : ℕ) (root : Root) (n link era : ℕ) (post : Post) (told : List Event) → backs told ≡ 0 → Quiet (concluded aim index root n link era post told)
quiet_concluded Alone index root n link era post told h = h
quiet_concluded Follows index root n link era post told h = quiet_if (link == 0) _ _ h h

quiet_begin : (at : BeginAt) (post : Post) (found : ℕ) → Quiet (begin_turn at post found)
quiet_begin LoadLower post found = refl
quiet_begin (PublishSpan era) post found = refl

quiet_protected : (aim : Aim) (index : ℕ) (root : Root) (n link : ℕ) (post : Post) → Quiet (protected aim index root n link 0 post)
quiet_protected aim index root n link post = quiet_concluded aim index root n link 0 (held_post post index root link) (told_held index root link n) (quiet_held index root link n)

quiet_hazard : (aim : Aim) (index : ℕ) (root : Root) (n : ℕ) (at : HazardAt) (post : Post) (found : ℕ) → Quiet (hazard_turn aim index root n at post found)
quiet_hazard aim index root n FirstLink post found = quiet_if (found == 0) _ _ (quiet_protected aim index root n found post) refl
quiet_hazard aim index root n (PublishLink link) post found = refl
quiet_hazard aim index root n (CheckLink link) post found = quiet_if (found == link || found == 0) _ _ (quiet_protected aim index root n found post) refl

quiet_protect : (aim : Aim) (index : ℕ) (root : Root) (n : ℕ) (at : ProtectAt) (post : Post) (found : ℕ) → Quiet (protect_turn aim index root n at post found)
quiet_protect aim index root n (LoadClock tries) post found = refl
quiet_protect aim index root n (PublishEra era tries) post found = refl
quiet_protect aim index root n (LoadLink era tries) post found = refl
quiet_protect aim index root n (CheckClock era tries link) post found = quiet_if (found == era) _ _ (quiet_concluded aim index root n link era (held_post post index root link) (told_held index root link n) (quiet_held index root link n)) refl
quiet_protect aim index root n PublishRequest post found = refl
quiet_protect aim index root n LoadOwnClock post found = refl
quiet_protect aim index root n (PublishHelper first era last) post found = refl
quiet_protect aim index root n (LoadOwnLink first era last) post found = refl
quiet_protect aim index root n (CheckOwnClock first era last link) post found = quiet_if (found == era) _ _ refl refl
quiet_protect aim index root n (AnswerOwn first era link) post found = quiet_if (found == own_request post index root) _ _ refl refl
quiet_protect aim index root n (LoadAnswer first) post found = refl
quiet_protect aim index root n (TakeAnswer link era) post found = quiet_along (reserves_index post index era) (told_held index root link n) (quiet_held index root link n)
quiet_protect aim index root n (WithdrawRequest link era) post found = refl
quiet_protect aim index root n (WithdrawHelper link era) post found = quiet_concluded aim index root n link era post (reserves_helper post 0) refl
quiet_protect aim index root n LoadWithin post found = refl
quiet_protect aim index root n (CheckUpper link) post found = quiet_if (found == upper post.span) _ _ (quiet_concluded aim index root n link found (held_post post index root link) (told_held index root link n) (quiet_held index root link n)) refl
quiet_protect aim index root n (RaiseUpper era) post found = refl
quiet_protect aim index root n (ByHazard at) post found = quiet_hazard aim index root n at post found

quiet_walking : (birth : ℕ) (post : Post) (x : Option Walk) → Quiet (walking birth post x)
quiet_walking birth post None = refl
quiet_walking birth post (Some walk) = refl

quiet_allocate : (at : AllocateAt) (post : Post) (found : ℕ) → Quiet (allocate_turn at post found)
quiet_allocate LoadBirth post found = refl
quiet_allocate (ClaimSlot birth walk) post found = quiet_if (is_claimed found walk.slot) _ _ (quiet_walking birth post (walk_past post.layout.config.slots walk found)) refl
quiet_allocate (StoreLife birth slot) post found = refl

quiet_retire : (at : RetireAt) (post : Post) (found : ℕ) → Quiet (retire_turn at post found)
quiet_retire (LoadLife slot) post found = refl
quiet_retire (LoadRetire slot birth) post found = refl
quiet_retire (StoreRetired slot birth retire) post found = refl

quiet_handed : (era seat tag index old : ℕ) (post : Post) (same : Bool) → Quiet (after_hand_over era seat tag index old post same)
quiet_handed era seat tag index old post true = refl
quiet_handed era seat tag index old post false = refl

quiet_move : (at : MoveAt) (post : Post) (found : ℕ) → Quiet (move_turn at post found)
quiet_move (LoadEra helps) post found = quiet_if (found == post.layout.config.last_era) _ _ refl refl
quiet_move (LoadRequest era seat shows) post found = refl
quiet_move (ShowEra era seat tag index root) post found = refl
quiet_move (LoadAsked era seat tag index root) post found = refl
quiet_move (CheckEra era seat tag index root link) post found = quiet_if (found == era) _ _ refl refl
quiet_move (AnswerAsked era seat tag index root link) post found = quiet_if (found == asking post.layout tag index root) _ _ refl refl
quiet_move (LoadReserved era seat tag index root link) post found = quiet_if ((read_reservation found).tag == tag) _ _ refl refl
quiet_move (HandOver era seat tag index root link old) post found = quiet_handed era seat tag index old post (found == reservation_word (record { era = old; tag = tag }))
quiet_move (HideEra era) post found = refl
quiet_move (HideLate seen) post found = refl
quiet_move (ExchangeClock era) post found = quiet_if (found == era) _ _ refl refl

quiet_after : (base : Base) (post : Post) (found : ℕ) → Quiet (after base post found)
quiet_after (Begin at) post found = quiet_begin at post found
quiet_after (Protect aim index root steps at) post found = quiet_protect aim index root (bump steps) at post found
quiet_after (Reload parent index slot era steps) post found = quiet_if (found == parent + 1) _ _ refl refl
quiet_after (Clear rows index) post found = let e = quiet_along (cleared index (stands post index)) (publishes_index rows post index 0) (quiet_shown rows post index 0) in e ∙ quiet_cleared index (stands post index)
quiet_after Finish post found = refl
quiet_after (Release index) post found = let e = quiet_along (cleared index (stands post index)) (reserves_span post None) refl in e ∙ quiet_cleared index (stands post index)
quiet_after (Allocate at) post found = quiet_allocate at post found
quiet_after (Write slot row place) post found = quiet_if (place == last_written row) _ _ refl refl
quiet_after (GiveUp slot) post found = refl
quiet_after (Retire at) post found = quiet_retire at post found
quiet_after (Move at) post found = quiet_move at post found

-- a turn of a seat
resumed_counts : (b : ℕ) (why : Why) (desk : Desk) (post : Post) (told : List Event) (outcome : Outcome) → backs told + size desk ≤ b + why_more why → Counts b (resumed why desk post told outcome)
resumed_counts b why desk post told (Goes base) h = (h, refl)
resumed_counts b why desk post told (Ends ending) h = resume_counts b why ending post desk told h

abbrev pub phase_goes : ℕ → Phase → Desk → ℕ → Type 0
phase_goes b Idle desk found = Unit {0}
phase_goes b (Runs why base) desk found = Unit {0}
phase_goes b (Scans later at) desk found = scan_goes at desk
phase_goes b (Works work) desk found = work_goes b work desk found

turn_counts : (b : ℕ) (phase : Phase) (post : Post) (desk : Desk) (found : ℕ) → phase_goes b phase desk found → size desk ≤ b + more phase → Counts b (phase_turn phase post desk found)
turn_counts b Idle post desk found g h = (omega arith, refl)
turn_counts b (Runs why base) post desk found g h = let t = after base post found in let e = quiet_after base post found in resumed_counts b why desk t.post t.told t.outcome (omega arith)
turn_counts b (Scans later at) post desk found g h = scan_counts b later at post desk found g h
turn_counts b (Works work) post desk found g h = work_counts b work post desk found g (omega arith)

-- the notes count what went back
noted_one : (notes : Notes) (event : Event) → length (noted notes event).back ≡ length notes.back + back_of event
noted_one notes (events.Back slot) = length-append notes.back (slot ∷ [])
noted_one notes event = omega arith

noted_many : (notes : Notes) (told : List Event) → length (noted_all notes told).back ≡ length notes.back + backs told
noted_many notes [] = omega arith
noted_many notes (event ∷ told) = let e = noted_one notes event in let f = noted_many (noted notes event) told in omega arith

quiet_end : (post : Post) (outcome : CallOutcome) → backs (told_end post outcome) ≡ 0
quiet_end post (GoesOn phase) = refl
quiet_end post (Answers answer) = refl

settled_by_noted : (slots : ℕ) (l : Local) (post : Post) (desk : Desk) (rounds : ℕ) (outcome : CallOutcome) → size desk ≤ slots + 1 + more (phase_left outcome) → takes (phase_left outcome) ≡ false → NotedIn slots (settled_by l post desk rounds outcome)
settled_by_noted slots l post desk rounds (GoesOn phase) h n = record { few = h; none = λ e. absurd (cc) }
settled_by_noted slots l post desk rounds (Answers answer) h n = record { few = h; none = λ e. absurd (cc) }

settled_noted : (slots : ℕ) (l : Local) (t : CallTurn) → Counts (slots + 1) t → NotedIn slots (settled l t)
settled_noted slots l t h =
    let e = noted_many t.desk.notes (told_by t) in
    let f = quiet_along t.told (told_end t.post t.outcome) (quiet_end t.post t.outcome) in
    let a = h.0 in settled_by_noted slots l t.post (noting t.desk (told_by t)) (rounds_told (publishes_rows (scheme_of t.post)) l.rounds (told_by t)) t.outcome (omega arith) h.1

scan_given : (config : Config) (desk : Desk) (at : ScanAt) → scan_lists config desk at → scan_goes at desk
scan_given config desk (ReadGuard number) h = tt
scan_given config desk (GiveBack place slot) h = h

-- none went back before a list is taken over
keep_given : (config : Config) (desk : Desk) (at : KeepAt) (found : ℕ) → gift_finds config desk (Keeping at) found → (takes (Works (Keeping at)) ≡ true → length desk.notes.back ≡ 0) → work_goes (config.slots + 1) (Keeping at) desk found
keep_given config desk (TakeList place) found h n = λ e. let a = h e in let b = n refl in omega arith
keep_given config desk at found h n = tt

work_given : (config : Config) (desk : Desk) (work : Work) (found : ℕ) → gift_finds config desk work found → (takes (Works work) ≡ true → length desk.notes.back ≡ 0) → work_goes (config.slots + 1) work desk found
work_given config desk (Keeping at) found h n = keep_given config desk at found h n
work_given config desk work found h n = tt

goes_given : (config : Config) (desk : Desk) (phase : Phase) (found : ℕ) → phase_finds config desk phase found → (takes phase ≡ true → length desk.notes.back ≡ 0) → phase_goes (config.slots + 1) phase desk found
goes_given config desk Idle found h n = tt
goes_given config desk (Runs why base) found h n = tt
goes_given config desk (Scans later at) found h n = scan_given config desk at h
goes_given config desk (Works work) found h n = work_given config desk work found h.1 n

after_noted : (slots : ℕ) (l : Local) (found : ℕ) → phase_goes (slots + 1) l.phase l.desk found → NotedIn slots l → NotedIn slots (locals.after l found)
after_noted slots l found g h = settled_noted slots l (turn l found) (turn_counts (slots + 1) l.phase (counted l.post) l.desk found g h.few)

pub noted_step : (w : World) (i : ℕ) → SlotsNeeds w i → Noted w → Noted (step w i)
noted_step w i n h = record {
  seats = one_moves (λ k l. NotedIn w.layout.config.slots l) w.seat (step w i).seat i h.seats (seat_stays w i)
      (subst (NotedIn w.layout.config.slots) (sym (seat_steps w i)) (after_noted w.layout.config.slots (offered w i) (finds w i) (goes_given w.layout.config (offered w i).desk (w.seat i).phase (finds w i) n (h.seats i).none) (record { few = (h.seats i).few; none = (h.seats i).none })));
}

pub noted_begin : (w : World) (i : ℕ) (call : Call) → length (w.seat i).desk.list ≤ w.layout.config.slots + 1 → Noted w → Noted (begin w i call)
noted_begin w i call m h = record {
  seats = one_moves (λ k l. NotedIn w.layout.config.slots l) w.seat (begin w i call).seat i h.seats (λ k. begin_stays w i k call)
      (subst (NotedIn w.layout.config.slots) (sym (begin_begins w i call)) (record { few = omega arith; none = λ e. refl }));
}

pub noted_start : (layout : Layout) → Noted (start layout)
noted_start layout = record { seats = λ k. record { few = omega arith; none = λ e. refl } }

later_few : (later : AfterScan) → later_more later ≤ 1
later_few (Answered answer) = omega arith
later_few (Repeated task) = omega arith
later_few Counted = omega arith

more_few : (phase : Phase) → more phase ≤ 1
more_few Idle = omega arith
more_few (Runs (Opens task) base) = omega arith
more_few (Runs (FollowsHead head tail) base) = omega arith
more_few (Runs (Fills task) base) = omega arith
more_few (Runs (ClearsNext next) base) = omega arith
more_few (Runs (Clears task next) base) = omega arith
more_few (Runs (Finishes task next) base) = omega arith
more_few (Runs (GivesUp answer) base) = omega arith
more_few (Runs (Retires answer) base) = omega arith
more_few (Runs (Tidies later) base) = later_few later
more_few (Runs Advances base) = omega arith
more_few (Runs (Releases let_go) base) = omega arith
more_few (Scans later at) = later_few later
more_few (Works work) = omega arith

-- in a call no more goes back than two scans may give
pub noted_fits : (w : World) (i : ℕ) → (w.seat i).post.layout ≡ w.layout → Noted w → NotesFit (w.seat i).post (w.seat i).desk
noted_fits w i p h = subst (λ (t : Layout). length (w.seat i).desk.notes.back ≤ 2 * (t.config.slots + 1)) (sym p)
    (let a = (h.seats i).few in let b = more_few (w.seat i).phase in omega arith)
