-- No step of a call, and no start of one, changes a seat's number or its table.
use Rattle.std.proofs.Common.{ℕ, ◌≡◌, Bool, true, false, List, [], ◌∷◌, ◌++◌, refl, ap, ◌∙◌}
use Rattle.std.specs.Prelude.{◌==◌, ◌+◌, ◌-◌, nat_lt, length, Option, Some, None}
use Rattle.wfe_words.specs.declared.config.SchemeKind.{SchemeKind}
use Rattle.wfe_defs.specs.declared.call.Answer.{Answer}
use Rattle.wfe_defs.specs.declared.call.Answer.TheVariants as answers
use Rattle.wfe_defs.specs.declared.call.ClockMove.TheVariants as moves
use Rattle.wfe_defs.specs.declared.event.Event.TheVariants as events
use Rattle.wfe_defs.specs.declared.event.Root.TheVariants as roots
use Rattle.wfe_defs.specs.declared.event.Event.{Event}
use Rattle.wfe_defs.specs.declared.event.Guard.{Guard}
use Rattle.wfe_core.specs.Guards.{guards, guard_at, published}
use Rattle.wfe_words.specs.Schemes.{publishes_rows}
use Rattle.wfe_core.specs.declared.ends.AllocateEnd.{AllocateEnd}
use Rattle.wfe_core.specs.declared.ends.AllocateEnd.TheVariants as allocate_ends
use Rattle.wfe_core.specs.declared.ends.FollowEnd.{FollowEnd}
use Rattle.wfe_core.specs.declared.ends.FollowEnd.TheVariants as follow_ends
use Rattle.wfe_core.specs.declared.ends.ProtectEnd.TheVariants as protect_ends
use Rattle.wfe_core.specs.declared.post.Post.{Post}
use Rattle.wfe_core.specs.Frames.{SamePlace, StaysInPlace}
use Rattle.wfe_core.specs.Desks.{Desk, noting}
use Rattle.wfe_core.specs.Posts.{counted, withdrawn}
use Rattle.wfe_core.specs.Phases.{Base, Ending, Outcome, Goes, Ends}
use Rattle.wfe_core.specs.Phases.Ending.{Protected, Followed, Allocated, Retired, Clocked}
use Rattle.wfe_core.specs.Machine.{after}
use Rattle.wfe_core.specs.Calls.{ChangeKept, EnqueueKept, Task, Gets, Changes, Holds, Enqueues, Dequeues, Next, Again, MakeRoom, Answering, Retiring, AfterScan, Answered, Repeated, Counted, Why, Opens, FollowsHead, Fills, ClearsNext, Clears, Finishes, GivesUp, Retires, Tidies, Advances, Releases, LetGo, Released, Rehold, Dropped, Parting, KeepAt, Loosens, LoadHeld, StoreHeld, Looks, Misses, HideSpan, MarkLeft, TakeList, MarkTaken, ScanAt, ReadGuard, GiveBack, GetAt, FindVersion, FindCount, FindKey, FindValue, ChangeAt, LoadVersion, LoadCount, LoadKey, LoadValue, ExchangeRoot, EnqueueAt, LoadNumber, LoadNext, PassTail, ExchangeNext, ExchangeTail, DequeueAt, LoadTail, SwingTail, TakeNumber, TakeValue, ExchangeHead, Work, Getting, Changing, Enqueuing, Dequeuing, Keeping, Phase, Idle, Runs, Scans, Works, CallTurn, CallOutcome, GoesOn, Answers}
use Rattle.wfe_core.specs.Rounds.{scheme_of, clear_post, closed, finishing_by, finishing, clearing_by, clearing, clearing_next_by, clearing_next, given_up, let_index}
use Rattle.wfe_core.specs.Rounds as rounds
use Rattle.wfe_core.specs.Get.{got, finding, found_key, get_turn}
use Rattle.wfe_core.specs.Change.{with_read, answer_done, told_linked, at_link, with_walked, no_room, deciding_by, deciding, reading, exchanged, change_turn}
use Rattle.wfe_core.specs.Enqueue.{told_link, item_walked, appending, at_next, appended, enqueue_turn}
use Rattle.wfe_core.specs.Dequeue.{followed_row, followed, taken, dequeue_turn}
use Rattle.wfe_core.specs.Keep.{copied, keep_turn, load_held, look_turn, looked_key, looking, released, taking}
use Rattle.wfe_core.specs.Scan.{Entry, scanned, giving_back, scan_turn}
use Rattle.wfe_core.specs.Scan as scan
use Rattle.wfe_core.specs.Steps.{opened_row, opened_null, opened, filled_by, written_row, filled, followed_by, tidying, retired_by, tidied, advanced, resume, resumed, work_turn, phase_turn}
use Rattle.wfe_core.specs.Locals.{Local, settled_by, turn, told_by}
use Rattle.wfe_core.proofs.Schemes.{each_clear_post}
use Rattle.wfe_core.proofs.Frames.{same, same_along, after_same}

clear_same : (kind : SchemeKind) (post : Post) (index : ℕ) → SamePlace post (clear_post kind post index)
clear_same kind post index = each_clear_post kind post index (λ (p : Post). SamePlace post p) (same post) (record { layout = refl; seat = refl })

given_up_same : (answer : Answer) (post : Post) (desk : Desk) (told : List Event) (o : Option ℕ) → SamePlace post (given_up answer post desk told o).post
given_up_same answer post desk told None = same post
given_up_same answer post desk told (Some slot) = same post

closed_same : (task : Task) (next : Next) (post : Post) (desk : Desk) (told : List Event) → SamePlace post (closed task next post desk told).post
closed_same task Again post desk told = same post
closed_same task MakeRoom post desk told = same post
closed_same task (Answering answer) post desk told = given_up_same answer post desk told _
closed_same task (Retiring slot answer) post desk told = same post

finishing_by_same : (task : Task) (next : Next) (post : Post) (desk : Desk) (told : List Event) (o : Option Base) → SamePlace post (finishing_by task next post desk told o).post
finishing_by_same task next post desk told None = closed_same task next post desk told
finishing_by_same task next post desk told (Some base) = same post

finishing_same : (task : Task) (next : Next) (post : Post) (desk : Desk) (told : List Event) → SamePlace post (finishing task next post desk told).post
finishing_same task Again post desk told = closed_same task Again post desk told
finishing_same task MakeRoom post desk told = finishing_by_same task MakeRoom post desk told _
finishing_same task (Answering answer) post desk told = finishing_by_same task (Answering answer) post desk told _
finishing_same task (Retiring slot answer) post desk told = finishing_by_same task (Retiring slot answer) post desk told _

clearing_by_same : (task : Task) (next : Next) (post : Post) (desk : Desk) (told : List Event) (o : Option Base) → SamePlace post (clearing_by task next post desk told o).post
clearing_by_same task next post desk told None =
    same_along post (clear_post (scheme_of post) post _) _ (clear_same (scheme_of post) post _) (finishing_same task next (clear_post (scheme_of post) post _) desk _)
clearing_by_same task next post desk told (Some base) = same post

clearing_same : (task : Task) (next : Next) (post : Post) (desk : Desk) (told : List Event) → SamePlace post (clearing task next post desk told).post
clearing_same task next post desk told = clearing_by_same task next post desk told _

clearing_next_by_same : (next : Next) (post : Post) (desk : Desk) (told : List Event) (o : Option Base) → SamePlace post (clearing_next_by next post desk told o).post
clearing_next_by_same next post desk told None =
    same_along post (clear_post (scheme_of post) post 1) _ (clear_same (scheme_of post) post 1) (clearing_same Dequeues next (clear_post (scheme_of post) post 1) desk _)
clearing_next_by_same next post desk told (Some base) = same post

clearing_next_same : (next : Next) (post : Post) (desk : Desk) (told : List Event) → SamePlace post (clearing_next next post desk told).post
clearing_next_same next post desk told = clearing_next_by_same next post desk told _

got_same : (key version : ℕ) (value : Option ℕ) (post : Post) (desk : Desk) (told : List Event) → SamePlace post (got key version value post desk told).post
got_same key version value post desk told =
    clearing_same (Gets key) (Answering (answers.Got version value)) post desk (told ++ events.Got (rounds.bucket_of post key) version key value ∷ [])

finding_same : (key slot version count : ℕ) (post : Post) (desk : Desk) (more : Bool) (pair : ℕ) → SamePlace post (finding key slot version count post desk more pair).post
finding_same key slot version count post desk true pair = same post
finding_same key slot version count post desk false pair = got_same key version None post desk []

found_key_same : (key slot version count pair : ℕ) (post : Post) (desk : Desk) (own : Bool) → SamePlace post (found_key key slot version count pair post desk own).post
found_key_same key slot version count pair post desk true = same post
found_key_same key slot version count pair post desk false = finding_same key slot version count post desk _ _

get_same : (key : ℕ) (at : GetAt) (post : Post) (desk : Desk) (found : ℕ) → SamePlace post (get_turn key at post desk found).post
get_same key (FindVersion slot) post desk found = same post
get_same key (FindCount slot version) post desk found = finding_same key slot version found post desk _ 0
get_same key (FindKey slot version count pair) post desk found = found_key_same key slot version count pair post desk _
get_same key (FindValue slot version pair) post desk found = got_same key version (Some found) post desk []

deciding_by_same : (kept : ChangeKept) (post : Post) (desk : Desk) (told : List Event) (o : Option Answer) → SamePlace post (deciding_by kept post desk told o).post
deciding_by_same kept post desk told None = same post
deciding_by_same kept post desk told (Some answer) = clearing_same (Changes kept) (Answering answer) post desk told

deciding_same : (kept : ChangeKept) (post : Post) (desk : Desk) (told : List Event) → SamePlace post (deciding kept post desk told).post
deciding_same kept post desk told = deciding_by_same kept post desk told _

reading_same : (kept : ChangeKept) (slot count : ℕ) (post : Post) (desk : Desk) (more : Bool) → SamePlace post (reading kept slot count post desk more).post
reading_same kept slot count post desk true = same post
reading_same kept slot count post desk false = deciding_same kept post desk []

exchanged_same : (kept : ChangeKept) (slot : ℕ) (post : Post) (desk : Desk) (b : Bool) → SamePlace post (exchanged kept slot post desk b).post
exchanged_same kept slot post desk true =
    clearing_same (Changes (record kept { taken = None })) (answer_done (kept.version + 1) kept.link) post desk (told_linked kept slot post)
exchanged_same kept slot post desk false = clearing_same (Changes kept) Again post desk []

change_same : (kept : ChangeKept) (at : ChangeAt) (post : Post) (desk : Desk) (found : ℕ) → SamePlace post (change_turn kept at post desk found).post
change_same kept (LoadVersion slot) post desk found = same post
change_same kept (LoadCount slot) post desk found = reading_same kept slot found post desk _
change_same kept (LoadKey slot count) post desk found = same post
change_same kept (LoadValue slot count key) post desk found =
    reading_same (with_read kept key found) slot count post desk (nat_lt (length kept.pairs + 1) count)
change_same kept (ExchangeRoot slot) post desk found = exchanged_same kept slot post desk _

appending_same : (kept : EnqueueKept) (post : Post) (desk : Desk) (spent : Bool) → SamePlace post (appending kept post desk spent).post
appending_same kept post desk true = clearing_same (Enqueues kept) (Answering (answers.Spent kept.number)) post desk []
appending_same kept post desk false = same post

at_next_same : (kept : EnqueueKept) (next : ℕ) (post : Post) (desk : Desk) (b : Bool) → SamePlace post (at_next kept next post desk b).post
at_next_same kept next post desk true = appending_same kept post desk _
at_next_same kept next post desk false = same post

appended_same : (kept : EnqueueKept) (slot : ℕ) (post : Post) (desk : Desk) (b : Bool) → SamePlace post (appended kept slot post desk b).post
appended_same kept slot post desk true = same post
appended_same kept slot post desk false = clearing_same (Enqueues kept) Again post desk []

enqueue_same : (kept : EnqueueKept) (at : EnqueueAt) (post : Post) (desk : Desk) (found : ℕ) → SamePlace post (enqueue_turn kept at post desk found).post
enqueue_same kept LoadNumber post desk found = same post
enqueue_same kept LoadNext post desk found = at_next_same kept found post desk _
enqueue_same kept (PassTail next) post desk found =
    clearing_same (Enqueues kept) Again post desk (told_link roots.Tail (next - 1) (found == kept.tail + 1))
enqueue_same kept (ExchangeNext slot) post desk found = appended_same kept slot post desk _
enqueue_same kept (ExchangeTail slot) post desk found =
    clearing_same (Enqueues kept) (Answering (answers.Queued (kept.number + 1))) post desk (told_link roots.Tail slot (found == kept.tail + 1))

followed_row_same : (head next : ℕ) (post : Post) (desk : Desk) (told : List Event) (lags : Bool) → SamePlace post (followed_row head next post desk told lags).post
followed_row_same head next post desk told true = same post
followed_row_same head next post desk told false = same post

followed_same : (head tail : ℕ) (ending : FollowEnd) (post : Post) (desk : Desk) (told : List Event) → SamePlace post (followed head tail ending post desk told).post
followed_same head tail (follow_ends.Followed slot) post desk told = followed_row_same head slot post desk told _
followed_same head tail follow_ends.NoNext post desk told = clearing_next_same (Answering answers.Empty) post desk told
followed_same head tail (follow_ends.RootMoved seen) post desk told = clearing_next_same Again post desk told

taken_same : (head next number value : ℕ) (post : Post) (desk : Desk) (b : Bool) → SamePlace post (taken head next number value post desk b).post
taken_same head next number value post desk true =
    clearing_next_same
    (Retiring head (answers.Taken number value moves.Still))
    post
    desk
    (events.Link roots.Head next ∷ events.Cut head ∷ events.Taken number value ∷ [])
taken_same head next number value post desk false = clearing_next_same Again post desk []

dequeue_same : (at : DequeueAt) (post : Post) (desk : Desk) (found : ℕ) → SamePlace post (dequeue_turn at post desk found).post
dequeue_same (LoadTail head) post desk found = same post
dequeue_same (SwingTail head next) post desk found =
    clearing_next_same Again post desk (told_link roots.Tail next (found == head + 1))
dequeue_same (TakeNumber head next) post desk found = same post
dequeue_same (TakeValue head next number) post desk found = same post
dequeue_same (ExchangeHead head next number value) post desk found = taken_same head next number value post desk _

released_same : (let_go : LetGo) (post : Post) (desk : Desk) (told : List Event) → SamePlace post (released let_go post desk told).post
released_same Released post desk told = same post
released_same (Rehold key) post desk told = same post
released_same (Dropped index) post desk told = same post
released_same (Parting index) post desk told = same post

copied_same : (from index : ℕ) (post : Post) (desk : Desk) (reserved : List Event) (o : Option ℕ) → SamePlace post (copied from index post desk reserved o).post
copied_same from index post desk reserved None = same post
copied_same from index post desk reserved (Some slot) = record { layout = refl; seat = refl }

load_held_same : (from index : ℕ) (post : Post) (desk : Desk) (found : ℕ) (one : Bool) → SamePlace post (load_held from index post desk found one).post
load_held_same from index post desk found true = copied_same from index post desk [] _
load_held_same from index post desk found false = same post

looking_same : (index key slot version count : ℕ) (post : Post) (desk : Desk) (more : Bool) (pair : ℕ) → SamePlace post (looking index key slot version count post desk more pair).post
looking_same index key slot version count post desk true pair = same post
looking_same index key slot version count post desk false pair = same post

looked_key_same : (index key slot version count pair : ℕ) (post : Post) (desk : Desk) (own : Bool) → SamePlace post (looked_key index key slot version count pair post desk own).post
looked_key_same index key slot version count pair post desk true = same post
looked_key_same index key slot version count pair post desk false = looking_same index key slot version count post desk _ _

look_same : (index key : ℕ) (at : GetAt) (post : Post) (desk : Desk) (found : ℕ) → SamePlace post (look_turn index key at post desk found).post
look_same index key (FindVersion slot) post desk found = same post
look_same index key (FindCount slot version) post desk found = looking_same index key slot version found post desk _ 0
look_same index key (FindKey slot version count pair) post desk found = looked_key_same index key slot version count pair post desk _
look_same index key (FindValue slot version pair) post desk found = same post

taking_same : (place : ℕ) (post : Post) (desk : Desk) (left : Bool) (found : ℕ) → SamePlace post (taking place post desk left found).post
taking_same place post desk true found = same post
taking_same place post desk false found = same post

keep_same : (at : KeepAt) (post : Post) (desk : Desk) (found : ℕ) → SamePlace post (keep_turn at post desk found).post
keep_same (Loosens let_go) post desk found =
    same_along post (withdrawn post (let_index let_go)) _ (record { layout = refl; seat = refl }) (released_same let_go (withdrawn post (let_index let_go)) desk _)
keep_same (LoadHeld from index) post desk found = load_held_same from index post desk found _
keep_same (StoreHeld from index era) post desk found = copied_same from index post desk _ _
keep_same (Looks index key at) post desk found = look_same index key at post desk found
keep_same (Misses index) post desk found = same post
keep_same HideSpan post desk found = record { layout = refl; seat = refl }
keep_same MarkLeft post desk found = same post
keep_same (TakeList place) post desk found = taking_same place post desk _ found
keep_same (MarkTaken place count) post desk found = same post

work_same : (work : Work) (post : Post) (desk : Desk) (found : ℕ) → SamePlace post (work_turn work post desk found).post
work_same (Getting key at) post desk found = get_same key at post desk found
work_same (Changing kept at) post desk found = change_same kept at post desk found
work_same (Enqueuing kept at) post desk found = enqueue_same kept at post desk found
work_same (Dequeuing at) post desk found = dequeue_same at post desk found
work_same (Keeping at) post desk found = keep_same at post desk found

scanned_same : (later : AfterScan) (post : Post) (desk : Desk) (told : List Event) → SamePlace post (scanned later post desk told).post
scanned_same (Answered answer) post desk told = same post
scanned_same (Repeated task) post desk told = same post
scanned_same Counted post desk told = same post

giving_same : (later : AfterScan) (post : Post) (desk : Desk) (told : List Event) (o : Option Entry) → SamePlace post (giving_back later post desk told o).post
giving_same later post desk told None = scanned_same later post _ told
giving_same later post desk told (Some entry) = same post

read_same : (later : AfterScan) (number : ℕ) (post : Post) (desk : Desk) (told : List Event) (more : Bool) → SamePlace post (scan.reading later number post desk told more).post
read_same later number post desk told true = same post
read_same later number post desk told false = giving_same later post desk told _

read_guard_same : (later : AfterScan) (number : ℕ) (post : Post) (desk : Desk) (rows : Bool) (guard : Guard) (word : ℕ) → SamePlace post (scan.read_guard later number post desk rows guard word).post
read_guard_same later number post desk rows guard word =
    read_same later number post (scan.with_read desk number (guard, published rows guard word)) (scan.reads_guard rows guard word ∷ []) (nat_lt (number + 1) (guards post.layout.config))

scan_same : (later : AfterScan) (at : ScanAt) (post : Post) (desk : Desk) (found : ℕ) → SamePlace post (scan_turn later at post desk found).post
scan_same later (ReadGuard number) post desk found =
    read_guard_same later number post desk (publishes_rows post.layout.config.scheme) (guard_at post.layout.config number) found
scan_same later (GiveBack place slot) post desk found =
    giving_same later post (scan.with_back desk place) (events.Back slot ∷ []) (scan.unmet_from (scan.with_back desk place) place)

opened_row_same : (task : Task) (slot : ℕ) (post : Post) (desk : Desk) (told : List Event) → SamePlace post (opened_row task slot post desk told).post
opened_row_same (Gets key) slot post desk told = same post
opened_row_same (Changes kept) slot post desk told = same post
opened_row_same (Holds key) slot post desk told = same post
opened_row_same (Enqueues kept) slot post desk told = same post
opened_row_same Dequeues slot post desk told = same post

opened_null_same : (task : Task) (post : Post) (desk : Desk) (told : List Event) → SamePlace post (opened_null task post desk told).post
opened_null_same (Gets key) post desk told = got_same key 0 None post desk told
opened_null_same (Changes kept) post desk told = deciding_same (at_link kept 0) post desk told
opened_null_same (Holds key) post desk told = clearing_same (Holds key) (Answering answers.Nothing) post desk told
opened_null_same (Enqueues kept) post desk told = clearing_same (Enqueues kept) Again post desk told
opened_null_same Dequeues post desk told = clearing_same Dequeues Again post desk told

opened_same : (task : Task) (ending : Ending) (post : Post) (desk : Desk) (told : List Event) → SamePlace post (opened task ending post desk told).post
opened_same task (Protected (protect_ends.Held slot era)) post desk told = opened_row_same task slot post desk told
opened_same task (Protected protect_ends.Null) post desk told = opened_null_same task post desk told
opened_same task ending post desk told = same post

filled_by_same : (task : Task) (ending : AllocateEnd) (post : Post) (desk : Desk) (told : List Event) → SamePlace post (filled_by task ending post desk told).post
filled_by_same (Changes kept) (allocate_ends.Given slot birth) post desk told = same post
filled_by_same (Changes kept) allocate_ends.Full post desk told =
    clearing_same (Changes (with_walked kept)) (no_room kept.walked) post desk told
filled_by_same (Enqueues kept) (allocate_ends.Given slot birth) post desk told = same post
filled_by_same (Enqueues kept) allocate_ends.Full post desk told =
    clearing_same (Enqueues (item_walked kept)) (no_room kept.walked) post desk told
filled_by_same (Gets key) ending post desk told = same post
filled_by_same (Holds key) ending post desk told = same post
filled_by_same Dequeues ending post desk told = same post

written_same : (task : Task) (post : Post) (desk : Desk) (told : List Event) → SamePlace post (written_row task post desk told).post
written_same (Changes kept) post desk told = same post
written_same (Enqueues kept) post desk told = same post
written_same (Gets key) post desk told = same post
written_same (Holds key) post desk told = same post
written_same Dequeues post desk told = same post

filled_same : (task : Task) (ending : Ending) (post : Post) (desk : Desk) (told : List Event) → SamePlace post (filled task ending post desk told).post
filled_same task (Allocated ending) post desk told = filled_by_same task ending post desk told
filled_same task ending post desk told = written_same task post desk told

followed_by_same : (head tail : ℕ) (ending : Ending) (post : Post) (desk : Desk) (told : List Event) → SamePlace post (followed_by head tail ending post desk told).post
followed_by_same head tail (Followed ending) post desk told = followed_same head tail ending post desk told
followed_by_same head tail ending post desk told = same post

tidying_same : (answer : Answer) (post : Post) (desk : Desk) (told : List Event) (due : Bool) → SamePlace post (tidying answer post desk told due).post
tidying_same answer post desk told true = same post
tidying_same answer post desk told false = same post

retired_same : (answer : Answer) (ending : Ending) (post : Post) (desk : Desk) (told : List Event) → SamePlace post (retired_by answer ending post desk told).post
retired_same answer (Retired life) post desk told = tidying_same answer post _ told _
retired_same answer ending post desk told = same post

tidied_same : (later : AfterScan) (ending : Ending) (post : Post) (desk : Desk) (told : List Event) → SamePlace post (tidied later ending post desk told).post
tidied_same later (Clocked clock) post desk told = same post
tidied_same later ending post desk told = same post

advanced_same : (ending : Ending) (post : Post) (desk : Desk) (told : List Event) → SamePlace post (advanced ending post desk told).post
advanced_same (Clocked clock) post desk told = same post
advanced_same ending post desk told = same post

resume_same : (why : Why) (ending : Ending) (post : Post) (desk : Desk) (told : List Event) → SamePlace post (resume why ending post desk told).post
resume_same (Opens task) ending post desk told = opened_same task ending post desk told
resume_same (FollowsHead head tail) ending post desk told = followed_by_same head tail ending post desk told
resume_same (Fills task) ending post desk told = filled_same task ending post desk told
resume_same (ClearsNext next) ending post desk told = clearing_same Dequeues next post desk told
resume_same (Clears task next) ending post desk told = finishing_same task next post desk told
resume_same (Finishes task next) ending post desk told = closed_same task next post desk told
resume_same (GivesUp answer) ending post desk told = same post
resume_same (Retires answer) ending post desk told = retired_same answer ending post desk told
resume_same (Tidies later) ending post desk told = tidied_same later ending post desk told
resume_same Advances ending post desk told = advanced_same ending post desk told
resume_same (Releases let_go) ending post desk told = released_same let_go post desk told

resumed_same : (why : Why) (desk : Desk) (post : Post) (told : List Event) (o : Outcome) → SamePlace post (resumed why desk post told o).post
resumed_same why desk post told (Goes base) = same post
resumed_same why desk post told (Ends ending) = resume_same why ending post desk told

-- a call's step
pub turn_same : (phase : Phase) (post : Post) (desk : Desk) (found : ℕ) → SamePlace post (phase_turn phase post desk found).post
turn_same Idle post desk found = same post
turn_same (Runs why base) post desk found =
    same_along post (after base post found).post _ (after_same base post found)
    (resumed_same why desk (after base post found).post (after base post found).told (after base post found).outcome)
turn_same (Scans later at) post desk found = scan_same later at post desk found
turn_same (Works work) post desk found = work_same work post desk found

settled_same : (l : Local) (post : Post) (desk : Desk) (rounds : ℕ) (o : CallOutcome) → (settled_by l post desk rounds o).post ≡ post
settled_same l post desk rounds (GoesOn phase) = refl
settled_same l post desk rounds (Answers answer) = refl

pub stays_in_place : StaysInPlace
stays_in_place = record {
  steps = λ l found.
      let t : CallTurn = turn l found in
      let h = turn_same l.phase (counted l.post) l.desk found in
      let e = settled_same l t.post (noting t.desk (told_by t)) _ t.outcome in
      record { layout = ap (λ (p : Post). p.layout) e ∙ h.layout; seat = ap (λ (p : Post). p.seat) e ∙ h.seat };
  begins = λ l call. record { layout = refl; seat = refl };
}
