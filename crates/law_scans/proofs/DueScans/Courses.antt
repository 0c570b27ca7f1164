-- What may come in a call, by where it stands; and what each step tells of it is right.
use Rattle.std.proofs.Common.{ℕ, ◌≡◌, ◌+◌, ◌-◌, Bool, true, false, List, [], ◌∷◌, ◌++◌, length, Option, Some, None, refl, sym, ap, ◌∙◌, subst}
use Rattle.std.specs.Prelude.{◌==◌, ◌&&◌, not, nat_lt, if◌then◌else◌}
use Rattle.law_reuse.specs.laws.defs.declared.call.Answer.{Answer}
use Rattle.law_reuse.specs.laws.defs.declared.call.Answer.TheVariants as the_answers
use Rattle.law_reuse.specs.laws.defs.declared.call.ClockMove.TheVariants as moves
use Rattle.law_reuse.specs.laws.defs.declared.event.Event.{Event}
use Rattle.law_reuse.specs.laws.defs.declared.event.Event.TheVariants as events
use Rattle.law_reuse.specs.laws.defs.declared.event.Root.TheVariants as roots
use Rattle.law_reuse.specs.inv.model.declared.ends.FollowEnd.{FollowEnd}
use Rattle.law_reuse.specs.inv.model.declared.ends.FollowEnd.TheVariants as follow_ends
use Rattle.law_reuse.specs.inv.model.declared.ends.ProtectEnd.TheVariants as protect_ends
use Rattle.law_reuse.specs.inv.model.declared.post.Post.{Post}
use Rattle.law_reuse.specs.inv.model.Change as alters
use Rattle.law_reuse.specs.inv.model.Desks.{Desk}
use Rattle.law_reuse.specs.inv.model.Dequeue as dequeues
use Rattle.law_reuse.specs.inv.model.Enqueue as enqueues
use Rattle.law_reuse.specs.inv.model.Get as gets
use Rattle.law_reuse.specs.inv.model.Keep as keeps
use Rattle.law_reuse.specs.inv.model.Steps as steps
use Rattle.law_reuse.specs.inv.model.Rounds.{scheme_of, bucket_of, index_of, taken_of, begin_base, round, round_by, finish_base, clear_base, clear_post, clear_told, given_up, closed, finishing_by, finishing, clearing_by, clearing, clearing_next_by, clearing_next, let_index, letting, letting_by, release_base, tidy_by}
use Rattle.law_reuse.specs.inv.model.Phases.{Base, Ending, Outcome, Goes, Ends}
use Rattle.law_reuse.specs.inv.model.Phases.AllocateAt.{StoreLife}
use Rattle.law_reuse.specs.inv.model.Phases.Base.{Allocate, Retire, Move}
use Rattle.law_reuse.specs.inv.model.Phases.Ending.{Done, Protected, Followed, Allocated, Retired, Clocked}
use Rattle.law_reuse.specs.inv.model.Calls.{Task, Gets, Changes, Holds, Enqueues, Dequeues, Next, Again, MakeRoom, Answering, Retiring, AfterScan, Answered, Repeated, Counted, ChangeKept, EnqueueKept, GetAt, FindVersion, FindCount, FindKey, FindValue, ChangeAt, LoadVersion, LoadCount, LoadKey, LoadValue, ExchangeRoot, EnqueueAt, LoadNumber, LoadNext, PassTail, ExchangeNext, ExchangeTail, DequeueAt, SwingTail, ExchangeHead, Work, Getting, Changing, Enqueuing, Dequeuing, ScanAt, ReadGuard, GiveBack, Why, Opens, FollowsHead, Fills, ClearsNext, Clears, Finishes, GivesUp, Retires, Tidies, Advances, Releases, Phase, Idle, Runs, Scans, Works, CallOutcome, GoesOn, Answers, LetGo, Released, Rehold, Dropped, Parting, KeepAt, Loosens, LoadHeld, StoreHeld, Looks, Misses, HideSpan, MarkLeft, TakeList, MarkTaken, Keeping}
use Rattle.law_reuse.specs.inv.shapes.Seats.{Kind, ToFill, ToRetire, ToMove, kind_of, suits, fills, retires, moves as moves_kind}
use Rattle.law_reuse.specs.inv.rows.Hands.{holds_none}
use Rattle.law_reuse.proofs.laws.Along.{along}
use Rattle.law_reuse.proofs.laws.Tells.{AllRight}
use Rattle.law_reuse.specs.laws.HistoryScans.{Course, Advancing, MayScan, MustScan, Reading, Tally, is_settled, moved_course, scan_right}
use Rattle.law_scans.specs.Scans.{tally_by}
use Rattle.law_reuse.specs.laws.HistoryEras.{may_move, move_right}
use Rattle.law_scans.proofs.DueScans.Still.{base_front, counts}
use Rattle.law_scans.proofs.Leaving.{Parts, parts_on, takes_on}
use Rattle.law_reuse.specs.laws.words.Schemes.{has_one_interval, publishes_rows, moves as moves_clock}
use Rattle.law_reuse.specs.inv.model.Posts.{stands, withdrawn, cleared, publishes_index}

-- both laws at once
abbrev pub course_right : (all : ℕ) → Event → Tally → Bool
course_right all event t = scan_right all event t.course && move_right event t.course

abbrev pub is_may : Course → Bool
is_may MayScan = true
is_may course = false

-- no row is taken, and no walk has failed
abbrev pub is_fresh : Task → Bool
is_fresh (Changes kept) = holds_none kept.taken && not kept.walked
is_fresh (Enqueues kept) = holds_none kept.taken && not kept.walked
is_fresh task = false

abbrev pub is_walked : Task → Bool
is_walked (Changes kept) = kept.walked
is_walked (Enqueues kept) = kept.walked
is_walked task = true

-- a round of a task: no scan is left undone, and the one that makes room may still come as long as no walk has failed
pub record TaskFits (all : ℕ) (task : Task) (c : Course) : Type 0 where
  pub settled : is_settled all c ≡ true
  pub fresh : is_fresh task ≡ true → is_may c ≡ true

abbrev pub NextFits : ℕ → Task → Next → Course → Type 0
NextFits all task Again c = TaskFits all task c
NextFits all task MakeRoom c = (c ≡ MayScan) × (is_walked task ≡ true)
NextFits all task (Answering answer) c = is_settled all c ≡ true
NextFits all task (Retiring slot answer) c = is_settled all c ≡ true

abbrev pub LaterFits : AfterScan → Course → Type 0
LaterFits (Answered answer) c = c ≡ MustScan true
LaterFits (Repeated task) c = (c ≡ MayScan) × (is_walked task ≡ true)
LaterFits Counted c = c ≡ MustScan true

abbrev pub AfterFits : AfterScan → Type 0
AfterFits (Answered answer) = Unit {0}
AfterFits (Repeated task) = is_walked task ≡ true
AfterFits Counted = Unit {0}

-- so many guards are read
abbrev pub at_guard : ℕ → Course → Bool
at_guard n MayScan = n == 0
at_guard n (MustScan moves) = n == 0
at_guard n (Reading reads) = nat_lt 0 n && reads == n
at_guard n course = false

abbrev pub at_end : ℕ → Course → Bool
at_end all (Reading reads) = reads == all
at_end all course = false

abbrev pub ScanAtFits : ℕ → ScanAt → Course → Type 0
ScanAtFits all (ReadGuard number) c = at_guard number c ≡ true
ScanAtFits all (GiveBack place slot) c = at_end all c ≡ true

-- once a row is given, until it is noted as taken
abbrev pub FillFits : ℕ → Task → Base → Course → Type 0
FillFits all task (Allocate (StoreLife birth slot)) c = is_settled all c ≡ true
FillFits all task base c = TaskFits all task c

abbrev pub WhyFits : ℕ → Why → Base → Course → Type 0
WhyFits all (Opens task) base c = TaskFits all task c
WhyFits all (FollowsHead head tail) base c = is_settled all c ≡ true
WhyFits all (Fills task) base c = FillFits all task base c
WhyFits all (ClearsNext next) base c = NextFits all Dequeues next c
WhyFits all (Clears task next) base c = NextFits all task next c
WhyFits all (Finishes task next) base c = NextFits all task next c
WhyFits all (GivesUp answer) base c = is_settled all c ≡ true
WhyFits all (Retires answer) base c = is_settled all c ≡ true
WhyFits all (Tidies later) base c = LaterFits later c
WhyFits all Advances base c = c ≡ Advancing
WhyFits all (Releases let_go) base c = is_settled all c ≡ true

abbrev pub EnqueueFits : ℕ → EnqueueKept → EnqueueAt → Course → Type 0
EnqueueFits all kept (ExchangeTail slot) c = is_settled all c ≡ true
EnqueueFits all kept at c = TaskFits all (Enqueues kept) c

abbrev pub WorkFits : ℕ → Work → Course → Type 0
WorkFits all (Getting key at) c = is_settled all c ≡ true
WorkFits all (Changing kept at) c = TaskFits all (Changes kept) c
WorkFits all (Enqueuing kept at) c = EnqueueFits all kept at c
WorkFits all (Dequeuing at) c = is_settled all c ≡ true
WorkFits all (Keeping at) c = is_settled all c ≡ true

abbrev pub PhaseFits : ℕ → Phase → Course → Type 0
PhaseFits all Idle c = Unit {0}
PhaseFits all (Runs why base) c = WhyFits all why base c
PhaseFits all (Scans later at) c = ScanAtFits all at c × AfterFits later
PhaseFits all (Works work) c = WorkFits all work c

abbrev pub OutFits : ℕ → CallOutcome → Course → Type 0
OutFits all (GoesOn phase) c = PhaseFits all phase c
OutFits all (Answers answer) c = is_settled all c ≡ true

-- what a step tells that counts is right, and leaves what fits the next phase
pub record Lands (every all : ℕ) (x : Tally) (phase : Phase) (first : List Event) (outcome : CallOutcome) : Type 0 where
  pub right : AllRight (tally_by every) (course_right all) first x
  pub fits : OutFits all outcome (along (tally_by every) first x).course
  pub count : (along (tally_by every) first x).retired ≡ counts phase x.retired

pub other_task : (all : ℕ) (task : Task) (c : Course) → is_fresh task ≡ false → is_settled all c ≡ true → TaskFits all task c
other_task all task c f s = record { settled = s; fresh = λ h. absurd (cc) }

-- before a scan
pub record Before (later : AfterScan) (c : Course) : Type 0 where
  pub guard : at_guard 0 c ≡ true
  pub after : AfterFits later
  pub moves : may_move c ≡ true
  pub moved : at_guard 0 (moved_course c) ≡ true

before_course : (later : AfterScan) (c other : Course) → c ≡ other → at_guard 0 other ≡ true → AfterFits later → may_move other ≡ true → at_guard 0 (moved_course other) ≡ true → Before later c
before_course later c other e g f m d = record { guard = ap (at_guard 0) e ∙ g; after = f; moves = ap may_move e ∙ m; moved = ap (λ (x : Course). at_guard 0 (moved_course x)) e ∙ d }

pub before_of : (later : AfterScan) (c : Course) → LaterFits later c → Before later c
before_of (Answered answer) c f = before_course (Answered answer) c (MustScan true) f refl tt refl refl
before_of (Repeated task) c f = before_course (Repeated task) c MayScan f.0 refl f.1 refl refl
before_of Counted c f = before_course Counted c (MustScan true) f refl tt refl refl

-- the clock is moved before the scan, or the scan comes at once
pub tidy_fits : (all : ℕ) (later : AfterScan) (moving : Bool) (post : Post) (c : Course) → LaterFits later c → PhaseFits all (tidy_by moving later post) c
tidy_fits all later true post c f = f
tidy_fits all later false post c f = let b : Before later c = before_of later c f in (b.guard, b.after)

-- the end of a round
pub round_fits : (all : ℕ) (task : Task) (post : Post) (c : Course) → TaskFits all task c → PhaseFits all (round task post) c
round_fits all task post c f = by (begin_base (scheme_of post) post)
  where
    by : (x : Option Base) → PhaseFits all (round_by task post x) c
    by None = f
    by (Some base) = f

given_up_fits : (all : ℕ) (answer : Answer) (post : Post) (desk : Desk) (told : List Event) (x : Option ℕ) (c : Course) → is_settled all c ≡ true → OutFits all (given_up answer post desk told x).outcome c
given_up_fits all answer post desk told None c s = s
given_up_fits all answer post desk told (Some slot) c s = s

pub closed_fits : (all : ℕ) (task : Task) (next : Next) (post : Post) (desk : Desk) (told : List Event) (c : Course) → NextFits all task next c → OutFits all (closed task next post desk told).outcome c
closed_fits all task Again post desk told c f = round_fits all task post c f
closed_fits all task MakeRoom post desk told c f = tidy_fits all (Repeated task) (moves_clock (scheme_of post)) post c f
closed_fits all task (Answering answer) post desk told c f = given_up_fits all answer post desk told (taken_of task) c f
closed_fits all task (Retiring slot answer) post desk told c f = f

finishing_by_fits : (all : ℕ) (task : Task) (next : Next) (post : Post) (desk : Desk) (told : List Event) (x : Option Base) (c : Course) → NextFits all task next c → OutFits all (finishing_by task next post desk told x).outcome c
finishing_by_fits all task next post desk told None c f = closed_fits all task next post desk told c f
finishing_by_fits all task next post desk told (Some base) c f = f

finishing_fits : (all : ℕ) (task : Task) (next : Next) (post : Post) (desk : Desk) (told : List Event) (c : Course) → NextFits all task next c → OutFits all (finishing task next post desk told).outcome c
finishing_fits all task Again post desk told c f = closed_fits all task Again post desk told c f
finishing_fits all task MakeRoom post desk told c f = finishing_by_fits all task MakeRoom post desk told (finish_base (scheme_of post) post) c f
finishing_fits all task (Answering answer) post desk told c f = finishing_by_fits all task (Answering answer) post desk told (finish_base (scheme_of post) post) c f
finishing_fits all task (Retiring slot answer) post desk told c f = finishing_by_fits all task (Retiring slot answer) post desk told (finish_base (scheme_of post) post) c f

clearing_by_fits : (all : ℕ) (task : Task) (next : Next) (post : Post) (desk : Desk) (told : List Event) (x : Option Base) (c : Course) → NextFits all task next c → OutFits all (clearing_by task next post desk told x).outcome c
clearing_by_fits all task next post desk told None c f =
    finishing_fits all task next (clear_post (scheme_of post) post (index_of task)) desk (told ++ clear_told (scheme_of post) post (index_of task)) c f
clearing_by_fits all task next post desk told (Some base) c f = f

pub clearing_fits : (all : ℕ) (task : Task) (next : Next) (post : Post) (desk : Desk) (told : List Event) (c : Course) → NextFits all task next c → OutFits all (clearing task next post desk told).outcome c
clearing_fits all task next post desk told c f = clearing_by_fits all task next post desk told (clear_base (scheme_of post) (index_of task)) c f

next_by_fits : (all : ℕ) (next : Next) (post : Post) (desk : Desk) (told : List Event) (x : Option Base) (c : Course) → NextFits all Dequeues next c → OutFits all (clearing_next_by next post desk told x).outcome c
next_by_fits all next post desk told None c f =
    clearing_fits all Dequeues next (clear_post (scheme_of post) post 1) desk (told ++ clear_told (scheme_of post) post 1) c f
next_by_fits all next post desk told (Some base) c f = f

clearing_next_fits : (all : ℕ) (next : Next) (post : Post) (desk : Desk) (told : List Event) (c : Course) → NextFits all Dequeues next c → OutFits all (clearing_next next post desk told).outcome c
clearing_next_fits all next post desk told c f = next_by_fits all next post desk told (clear_base (scheme_of post) 1) c f

-- a get
got_fits : (all key version : ℕ) (value : Option ℕ) (post : Post) (desk : Desk) (told : List Event) (c : Course) → is_settled all c ≡ true → OutFits all (gets.got key version value post desk told).outcome c
got_fits all key version value post desk told c s =
    clearing_fits all (Gets key) (Answering (the_answers.Got version value)) post desk (told ++ events.Got (bucket_of post key) version key value ∷ []) c s

finding_fits : (all key slot version count : ℕ) (post : Post) (desk : Desk) (on : Bool) (pair : ℕ) (c : Course) → is_settled all c ≡ true → OutFits all (gets.finding key slot version count post desk on pair).outcome c
finding_fits all key slot version count post desk true pair c s = s
finding_fits all key slot version count post desk false pair c s = got_fits all key version None post desk [] c s

found_key_fits : (all key slot version count pair : ℕ) (post : Post) (desk : Desk) (own : Bool) (c : Course) → is_settled all c ≡ true → OutFits all (gets.found_key key slot version count pair post desk own).outcome c
found_key_fits all key slot version count pair post desk true c s = s
found_key_fits all key slot version count pair post desk false c s = finding_fits all key slot version count post desk (nat_lt (pair + 1) count) (pair + 1) c s

get_fits : (all key : ℕ) (at : GetAt) (post : Post) (desk : Desk) (found : ℕ) (c : Course) → is_settled all c ≡ true → OutFits all (gets.get_turn key at post desk found).outcome c
get_fits all key (FindVersion slot) post desk found c s = s
get_fits all key (FindCount slot version) post desk found c s = finding_fits all key slot version found post desk (nat_lt 0 found) 0 c s
get_fits all key (FindKey slot version count pair) post desk found c s = found_key_fits all key slot version count pair post desk (found == key) c s
get_fits all key (FindValue slot version pair) post desk found c s = got_fits all key version (Some found) post desk [] c s

-- a change
again_change : (all : ℕ) (kept later : ChangeKept) (c : Course) → later.taken ≡ kept.taken → later.walked ≡ kept.walked → TaskFits all (Changes kept) c → TaskFits all (Changes later) c
again_change all kept later c t w f = record { settled = f.settled; fresh = λ h. f.fresh (ap (λ (x : Option ℕ). holds_none x && not kept.walked) (sym t) ∙ ap (λ (x : Bool). holds_none later.taken && not x) (sym w) ∙ h) }

again_item : (all : ℕ) (kept later : EnqueueKept) (c : Course) → later.taken ≡ kept.taken → later.walked ≡ kept.walked → TaskFits all (Enqueues kept) c → TaskFits all (Enqueues later) c
again_item all kept later c t w f = record { settled = f.settled; fresh = λ h. f.fresh (ap (λ (x : Option ℕ). holds_none x && not kept.walked) (sym t) ∙ ap (λ (x : Bool). holds_none later.taken && not x) (sym w) ∙ h) }

change_fills : (all : ℕ) (kept : ChangeKept) (x : Option ℕ) (c : Course) → TaskFits all (Changes kept) c → FillFits all (Changes kept) (alters.filling_by kept x) c
change_fills all kept None c f = f
change_fills all kept (Some slot) c f = f

deciding_by_fits : (all : ℕ) (kept : ChangeKept) (post : Post) (desk : Desk) (told : List Event) (x : Option Answer) (c : Course) → TaskFits all (Changes kept) c → OutFits all (alters.deciding_by kept post desk told x).outcome c
deciding_by_fits all kept post desk told (Some answer) c f = clearing_fits all (Changes kept) (Answering answer) post desk told c f.settled
deciding_by_fits all kept post desk told None c f = change_fills all (alters.with_change kept) kept.taken c (again_change all kept (alters.with_change kept) c refl refl f)

deciding_fits : (all : ℕ) (kept : ChangeKept) (post : Post) (desk : Desk) (told : List Event) (c : Course) → TaskFits all (Changes kept) c → OutFits all (alters.deciding kept post desk told).outcome c
deciding_fits all kept post desk told c f = deciding_by_fits all kept post desk told (alters.refused post.layout.config kept) c f

reading_fits : (all : ℕ) (kept : ChangeKept) (slot count : ℕ) (post : Post) (desk : Desk) (on : Bool) (c : Course) → TaskFits all (Changes kept) c → OutFits all (alters.reading kept slot count post desk on).outcome c
reading_fits all kept slot count post desk true c f = f
reading_fits all kept slot count post desk false c f = deciding_fits all kept post desk [] c f

done_fits : (all : ℕ) (task : Task) (version link : ℕ) (none : Bool) (c : Course) → is_settled all c ≡ true → NextFits all task (if none then Answering (the_answers.Done version moves.Still) else Retiring (link - 1) (the_answers.Done version moves.Still)) c
done_fits all task version link true c s = s
done_fits all task version link false c s = s

exchanged_fits : (all : ℕ) (kept : ChangeKept) (slot : ℕ) (post : Post) (desk : Desk) (same : Bool) (c : Course) → TaskFits all (Changes kept) c → OutFits all (alters.exchanged kept slot post desk same).outcome c
exchanged_fits all kept slot post desk true c f =
    clearing_fits all (Changes (record kept { taken = None })) (alters.answer_done (kept.version + 1) kept.link) post desk (alters.told_linked kept slot post) c
    (done_fits all (Changes (record kept { taken = None })) (kept.version + 1) kept.link (kept.link == 0) c f.settled)
exchanged_fits all kept slot post desk false c f = clearing_fits all (Changes kept) Again post desk [] c f

change_fits : (all : ℕ) (kept : ChangeKept) (at : ChangeAt) (post : Post) (desk : Desk) (found : ℕ) (c : Course) → TaskFits all (Changes kept) c → OutFits all (alters.change_turn kept at post desk found).outcome c
change_fits all kept (LoadVersion slot) post desk found c f = again_change all kept (record kept { version = found }) c refl refl f
change_fits all kept (LoadCount slot) post desk found c f = reading_fits all kept slot found post desk (nat_lt 0 found) c f
change_fits all kept (LoadKey slot count) post desk found c f = f
change_fits all kept (LoadValue slot count key) post desk found c f =
    reading_fits all (alters.with_read kept key found) slot count post desk (nat_lt (length kept.pairs + 1) count) c (again_change all kept (alters.with_read kept key found) c refl refl f)
change_fits all kept (ExchangeRoot slot) post desk found c f = exchanged_fits all kept slot post desk (found == kept.link) c f

-- an enqueue
item_fills : (all : ℕ) (kept : EnqueueKept) (x : Option ℕ) (c : Course) → TaskFits all (Enqueues kept) c → FillFits all (Enqueues kept) (enqueues.filling_by kept x) c
item_fills all kept None c f = f
item_fills all kept (Some slot) c f = f

appending_fits : (all : ℕ) (kept : EnqueueKept) (post : Post) (desk : Desk) (spent : Bool) (c : Course) → TaskFits all (Enqueues kept) c → OutFits all (enqueues.appending kept post desk spent).outcome c
appending_fits all kept post desk true c f = clearing_fits all (Enqueues kept) (Answering (the_answers.Spent kept.number)) post desk [] c f.settled
appending_fits all kept post desk false c f = item_fills all kept kept.taken c f

at_next_fits : (all : ℕ) (kept : EnqueueKept) (next : ℕ) (post : Post) (desk : Desk) (none : Bool) (c : Course) → TaskFits all (Enqueues kept) c → OutFits all (enqueues.at_next kept next post desk none).outcome c
at_next_fits all kept next post desk true c f = appending_fits all kept post desk (kept.number == post.layout.config.last_version) c f
at_next_fits all kept next post desk false c f = f

appended_fits : (all : ℕ) (kept : EnqueueKept) (slot : ℕ) (post : Post) (desk : Desk) (same : Bool) (c : Course) → TaskFits all (Enqueues kept) c → OutFits all (enqueues.appended kept slot post desk same).outcome c
appended_fits all kept slot post desk true c f = f.settled
appended_fits all kept slot post desk false c f = clearing_fits all (Enqueues kept) Again post desk [] c f

enqueue_fits : (all : ℕ) (kept : EnqueueKept) (at : EnqueueAt) (post : Post) (desk : Desk) (found : ℕ) (c : Course) → EnqueueFits all kept at c → OutFits all (enqueues.enqueue_turn kept at post desk found).outcome c
enqueue_fits all kept LoadNumber post desk found c f = again_item all kept (record kept { number = found }) c refl refl f
enqueue_fits all kept LoadNext post desk found c f = at_next_fits all kept found post desk (found == 0) c f
enqueue_fits all kept (PassTail next) post desk found c f = clearing_fits all (Enqueues kept) Again post desk (enqueues.told_link roots.Tail (next - 1) (found == kept.tail + 1)) c f
enqueue_fits all kept (ExchangeNext slot) post desk found c f = appended_fits all kept slot post desk (found == 0) c f
enqueue_fits all kept (ExchangeTail slot) post desk found c f =
    clearing_fits all (Enqueues kept) (Answering (the_answers.Queued (kept.number + 1))) post desk (enqueues.told_link roots.Tail slot (found == kept.tail + 1)) c f

-- a dequeue
followed_row_fits : (all head next : ℕ) (post : Post) (desk : Desk) (told : List Event) (lags : Bool) (c : Course) → is_settled all c ≡ true → OutFits all (dequeues.followed_row head next post desk told lags).outcome c
followed_row_fits all head next post desk told true c s = s
followed_row_fits all head next post desk told false c s = s

followed_fits : (all head tail : ℕ) (ending : FollowEnd) (post : Post) (desk : Desk) (told : List Event) (c : Course) → is_settled all c ≡ true → OutFits all (dequeues.followed head tail ending post desk told).outcome c
followed_fits all head tail (follow_ends.Followed slot) post desk told c s = followed_row_fits all head slot post desk told (tail == head + 1) c s
followed_fits all head tail follow_ends.NoNext post desk told c s = clearing_next_fits all (Answering the_answers.Empty) post desk told c s
followed_fits all head tail (follow_ends.RootMoved seen) post desk told c s = clearing_next_fits all Again post desk told c (other_task all Dequeues c refl s)

taken_fits : (all head next number value : ℕ) (post : Post) (desk : Desk) (same : Bool) (c : Course) → is_settled all c ≡ true → OutFits all (dequeues.taken head next number value post desk same).outcome c
taken_fits all head next number value post desk true c s =
    clearing_next_fits all (Retiring head (the_answers.Taken number value moves.Still)) post desk (events.Link roots.Head next ∷ events.Cut head ∷ events.Taken number value ∷ []) c s
taken_fits all head next number value post desk false c s = clearing_next_fits all Again post desk [] c (other_task all Dequeues c refl s)

dequeue_fits : (all : ℕ) (at : DequeueAt) (post : Post) (desk : Desk) (found : ℕ) (c : Course) → is_settled all c ≡ true → OutFits all (dequeues.dequeue_turn at post desk found).outcome c
dequeue_fits all (SwingTail head next) post desk found c s = clearing_next_fits all Again post desk (enqueues.told_link roots.Tail next (found == head + 1)) c (other_task all Dequeues c refl s)
dequeue_fits all (ExchangeHead head next number value) post desk found c s = taken_fits all head next number value post desk (found == head + 1) c s
dequeue_fits all at post desk found c s = s

-- a seat that leaves
pub parts_fit : (all : ℕ) (c : Course) → is_settled all c ≡ true → Parts (λ (phase : Phase). PhaseFits all phase c)
parts_fit all c s = record { clears = λ rows index. s; hides = s; marks = s }

-- what is let go, a copy and a look
released_fits : (all : ℕ) (let_go : LetGo) (post : Post) (desk : Desk) (told : List Event) (c : Course) → is_settled all c ≡ true → OutFits all (keeps.released let_go post desk told).outcome c
released_fits all Released post desk told c s = s
released_fits all (Rehold key) post desk told c s = round_fits all (Holds key) post c (other_task all (Holds key) c refl s)
released_fits all (Dropped index) post desk told c s = s
released_fits all (Parting index) post desk told c s = parts_on (λ (phase : Phase). PhaseFits all phase c) (parts_fit all c s) (index + 1) post

copied_fits : (all from index : ℕ) (post : Post) (desk : Desk) (reserved : List Event) (x : Option ℕ) (c : Course) → is_settled all c ≡ true → OutFits all (keeps.copied from index post desk reserved x).outcome c
copied_fits all from index post desk reserved None c s = s
copied_fits all from index post desk reserved (Some slot) c s = s

load_fits : (all from index : ℕ) (post : Post) (desk : Desk) (found : ℕ) (one : Bool) (c : Course) → is_settled all c ≡ true → OutFits all (keeps.load_held from index post desk found one).outcome c
load_fits all from index post desk found true c s = copied_fits all from index post desk [] (stands post from) c s
load_fits all from index post desk found false c s = s

looking_fits : (all index key slot version count : ℕ) (post : Post) (desk : Desk) (on : Bool) (pair : ℕ) (c : Course) → is_settled all c ≡ true → OutFits all (keeps.looking index key slot version count post desk on pair).outcome c
looking_fits all index key slot version count post desk true pair c s = s
looking_fits all index key slot version count post desk false pair c s = s

looked_key_fits : (all index key slot version count pair : ℕ) (post : Post) (desk : Desk) (own : Bool) (c : Course) → is_settled all c ≡ true → OutFits all (keeps.looked_key index key slot version count pair post desk own).outcome c
looked_key_fits all index key slot version count pair post desk true c s = s
looked_key_fits all index key slot version count pair post desk false c s = looking_fits all index key slot version count post desk (nat_lt (pair + 1) count) (pair + 1) c s

look_fits : (all index key : ℕ) (at : GetAt) (post : Post) (desk : Desk) (found : ℕ) (c : Course) → is_settled all c ≡ true → OutFits all (keeps.look_turn index key at post desk found).outcome c
look_fits all index key (FindVersion slot) post desk found c s = s
look_fits all index key (FindCount slot version) post desk found c s = looking_fits all index key slot version found post desk (nat_lt 0 found) 0 c s
look_fits all index key (FindKey slot version count pair) post desk found c s = looked_key_fits all index key slot version count pair post desk (found == key) c s
look_fits all index key (FindValue slot version pair) post desk found c s = s

keep_fits : (all : ℕ) (at : KeepAt) (post : Post) (desk : Desk) (found : ℕ) (c : Course) → is_settled all c ≡ true → OutFits all (keeps.keep_turn at post desk found).outcome c
keep_fits all (Loosens let_go) post desk found c s = released_fits all let_go (withdrawn post (let_index let_go)) desk (cleared (let_index let_go) (stands post (let_index let_go))) c s
keep_fits all (LoadHeld from index) post desk found c s = load_fits all from index post desk found (has_one_interval (scheme_of post)) c s
keep_fits all (StoreHeld from index era) post desk found c s = copied_fits all from index post desk (publishes_index (publishes_rows (scheme_of post)) post index era) (stands post from) c s
keep_fits all (Looks index key at) post desk found c s = look_fits all index key at post desk found c s
keep_fits all (Misses index) post desk found c s = s
keep_fits all HideSpan post desk found c s = s
keep_fits all MarkLeft post desk found c s = s
keep_fits all (TakeList place) post desk found c s = takes_on (λ (outcome : CallOutcome). OutFits all outcome c) place (record { marks = λ count. s; none = s; late = s }) post desk (found == 1) found
keep_fits all (MarkTaken place count) post desk found c s = s

pub letting_fits : (all : ℕ) (let_go : LetGo) (post : Post) (c : Course) → is_settled all c ≡ true → PhaseFits all (letting let_go post) c
letting_fits all let_go post c s = by (release_base (scheme_of post) post (let_index let_go))
  where
    by : (x : Option Base) → PhaseFits all (letting_by let_go x) c
    by None = s
    by (Some base) = s

pub work_fits : (all : ℕ) (work : Work) (post : Post) (desk : Desk) (found : ℕ) (c : Course) → WorkFits all work c → OutFits all (steps.work_turn work post desk found).outcome c
work_fits all (Getting key at) post desk found c f = get_fits all key at post desk found c f
work_fits all (Changing kept at) post desk found c f = change_fits all kept at post desk found c f
work_fits all (Enqueuing kept at) post desk found c f = enqueue_fits all kept at post desk found c f
work_fits all (Dequeuing at) post desk found c f = dequeue_fits all at post desk found c f
work_fits all (Keeping at) post desk found c f = keep_fits all at post desk found c f

-- what comes after a machine
opened_row_fits : (all : ℕ) (task : Task) (slot : ℕ) (post : Post) (desk : Desk) (told : List Event) (c : Course) → TaskFits all task c → OutFits all (steps.opened_row task slot post desk told).outcome c
opened_row_fits all (Gets key) slot post desk told c f = f.settled
opened_row_fits all (Changes kept) slot post desk told c f = again_change all kept (alters.at_link kept (slot + 1)) c refl refl f
opened_row_fits all (Holds key) slot post desk told c f = f.settled
opened_row_fits all (Enqueues kept) slot post desk told c f = again_item all kept (record kept { tail = slot }) c refl refl f
opened_row_fits all Dequeues slot post desk told c f = f.settled

opened_null_fits : (all : ℕ) (task : Task) (post : Post) (desk : Desk) (told : List Event) (c : Course) → TaskFits all task c → OutFits all (steps.opened_null task post desk told).outcome c
opened_null_fits all (Gets key) post desk told c f = got_fits all key 0 None post desk told c f.settled
opened_null_fits all (Changes kept) post desk told c f = deciding_fits all (alters.at_link kept 0) post desk told c (again_change all kept (alters.at_link kept 0) c refl refl f)
opened_null_fits all (Holds key) post desk told c f = clearing_fits all (Holds key) (Answering the_answers.Nothing) post desk told c f.settled
opened_null_fits all (Enqueues kept) post desk told c f = clearing_fits all (Enqueues kept) Again post desk told c f
opened_null_fits all Dequeues post desk told c f = clearing_fits all Dequeues Again post desk told c f

opened_fits : (all : ℕ) (task : Task) (ending : Ending) (post : Post) (desk : Desk) (told : List Event) (c : Course) → TaskFits all task c → OutFits all (steps.opened task ending post desk told).outcome c
opened_fits all task (Protected (protect_ends.Held slot era)) post desk told c f = opened_row_fits all task slot post desk told c f
opened_fits all task (Protected protect_ends.Null) post desk told c f = opened_null_fits all task post desk told c f
opened_fits all task Done post desk told c f = f
opened_fits all task (Followed end) post desk told c f = f
opened_fits all task (Allocated end) post desk told c f = f
opened_fits all task (Retired life) post desk told c f = f
opened_fits all task (Clocked clock) post desk told c f = f

followed_by_fits : (all head tail : ℕ) (ending : Ending) (post : Post) (desk : Desk) (told : List Event) (c : Course) → is_settled all c ≡ true → OutFits all (steps.followed_by head tail ending post desk told).outcome c
followed_by_fits all head tail (Followed ending) post desk told c s = followed_fits all head tail ending post desk told c s
followed_by_fits all head tail Done post desk told c s = closed_fits all Dequeues Again post desk told c (other_task all Dequeues c refl s)
followed_by_fits all head tail (Protected end) post desk told c s = closed_fits all Dequeues Again post desk told c (other_task all Dequeues c refl s)
followed_by_fits all head tail (Allocated end) post desk told c s = closed_fits all Dequeues Again post desk told c (other_task all Dequeues c refl s)
followed_by_fits all head tail (Retired life) post desk told c s = closed_fits all Dequeues Again post desk told c (other_task all Dequeues c refl s)
followed_by_fits all head tail (Clocked clock) post desk told c s = closed_fits all Dequeues Again post desk told c (other_task all Dequeues c refl s)

-- a machine that gives, retires and moves nothing
abbrev pub is_silent : Kind → Bool
is_silent ToFill = false
is_silent ToRetire = false
is_silent ToMove = false
is_silent kind = true

fills_loud : (kind : Kind) → fills kind ≡ true → is_silent kind ≡ false
fills_loud ToFill h = refl
fills_loud kind h = absurd (cc)

retires_loud : (kind : Kind) → retires kind ≡ true → is_silent kind ≡ false
retires_loud ToRetire h = refl
retires_loud kind h = absurd (cc)

moves_loud : (kind : Kind) → moves_kind kind ≡ true → is_silent kind ≡ false
moves_loud ToMove h = refl
moves_loud kind h = absurd (cc)

record Silent (base : Base) (found : ℕ) : Type 0 where
  none : base_front base found ≡ []
  same : (why : Why) (n : ℕ) → counts (Runs why base) n ≡ n

silent : (base : Base) (kind : Kind) (found : ℕ) → suits base kind ≡ true → is_silent kind ≡ true → Silent base found
silent (Allocate at) kind found s q = let n : is_silent kind ≡ false = fills_loud kind s in absurd (cc)
silent (Retire at) kind found s q = let n : is_silent kind ≡ false = retires_loud kind s in absurd (cc)
silent (Move at) kind found s q = let n : is_silent kind ≡ false = moves_loud kind s in absurd (cc)
silent base kind found s q = record { none = refl; same = λ why n. refl }

pub nothing_lands : (every all : ℕ) (x : Tally) (phase : Phase) (first : List Event) (outcome : CallOutcome) → first ≡ [] → counts phase x.retired ≡ x.retired → OutFits all outcome x.course → Lands every all x phase first outcome
nothing_lands every all x phase first outcome e n f = subst (λ (told : List Event). Lands every all x phase told outcome) (sym e) (record { right = tt; fits = f; count = sym n })

pub silent_lands : (every all : ℕ) (x : Tally) (why : Why) (base : Base) (found : ℕ) (outcome : CallOutcome) → suits base (kind_of why) ≡ true → is_silent (kind_of why) ≡ true → OutFits all outcome x.course → Lands every all x (Runs why base) (base_front base found) outcome
silent_lands every all x why base found outcome s q f =
    let n : Silent base found = silent base (kind_of why) found s q in nothing_lands every all x (Runs why base) (base_front base found) outcome n.none (n.same why x.retired) f

-- whatever the machine makes
pub resumed_opens : (all : ℕ) (task : Task) (desk : Desk) (post : Post) (told : List Event) (outcome : Outcome) (c : Course) → TaskFits all task c → OutFits all (steps.resumed (Opens task) desk post told outcome).outcome c
resumed_opens all task desk post told (Goes base) c f = f
resumed_opens all task desk post told (Ends ending) c f = opened_fits all task ending post desk told c f

pub resumed_follows : (all head tail : ℕ) (desk : Desk) (post : Post) (told : List Event) (outcome : Outcome) (c : Course) → is_settled all c ≡ true → OutFits all (steps.resumed (FollowsHead head tail) desk post told outcome).outcome c
resumed_follows all head tail desk post told (Goes base) c f = f
resumed_follows all head tail desk post told (Ends ending) c f = followed_by_fits all head tail ending post desk told c f

pub resumed_next : (all : ℕ) (next : Next) (desk : Desk) (post : Post) (told : List Event) (outcome : Outcome) (c : Course) → NextFits all Dequeues next c → OutFits all (steps.resumed (ClearsNext next) desk post told outcome).outcome c
resumed_next all next desk post told (Goes base) c f = f
resumed_next all next desk post told (Ends ending) c f = clearing_fits all Dequeues next post desk told c f

pub resumed_clears : (all : ℕ) (task : Task) (next : Next) (desk : Desk) (post : Post) (told : List Event) (outcome : Outcome) (c : Course) → NextFits all task next c → OutFits all (steps.resumed (Clears task next) desk post told outcome).outcome c
resumed_clears all task next desk post told (Goes base) c f = f
resumed_clears all task next desk post told (Ends ending) c f = finishing_fits all task next post desk told c f

pub resumed_finishes : (all : ℕ) (task : Task) (next : Next) (desk : Desk) (post : Post) (told : List Event) (outcome : Outcome) (c : Course) → NextFits all task next c → OutFits all (steps.resumed (Finishes task next) desk post told outcome).outcome c
resumed_finishes all task next desk post told (Goes base) c f = f
resumed_finishes all task next desk post told (Ends ending) c f = closed_fits all task next post desk told c f

pub resumed_gives : (all : ℕ) (answer : Answer) (desk : Desk) (post : Post) (told : List Event) (outcome : Outcome) (c : Course) → is_settled all c ≡ true → OutFits all (steps.resumed (GivesUp answer) desk post told outcome).outcome c
resumed_gives all answer desk post told (Goes base) c f = f
resumed_gives all answer desk post told (Ends ending) c f = f

pub resumed_releases : (all : ℕ) (let_go : LetGo) (desk : Desk) (post : Post) (told : List Event) (outcome : Outcome) (c : Course) → is_settled all c ≡ true → OutFits all (steps.resumed (Releases let_go) desk post told outcome).outcome c
resumed_releases all let_go desk post told (Goes base) c f = f
resumed_releases all let_go desk post told (Ends ending) c f = released_fits all let_go post desk told c f
