-- A step of a call leaves the desk as it was, but that a retirement that ends puts its life on the list.
use Rattle.std.proofs.Common.{ℕ, ◌≡◌, Bool, true, false, List, [], ◌∷◌, ◌++◌, refl}
use Rattle.std.specs.Prelude.{◌==◌, ◌+◌, ◌-◌, nat_lt, length, Option, Some, None}
use Rattle.laws.specs.defs.declared.call.Answer.{Answer}
use Rattle.laws.specs.defs.declared.call.Answer.TheVariants as answers
use Rattle.laws.specs.defs.declared.call.ClockMove.TheVariants as moves
use Rattle.laws.specs.defs.declared.event.Event.TheVariants as events
use Rattle.laws.specs.defs.declared.event.Root.TheVariants as roots
use Rattle.laws.specs.defs.declared.event.Event.{Event}
use Rattle.inv_all.specs.model.declared.ends.AllocateEnd.{AllocateEnd}
use Rattle.inv_all.specs.model.declared.ends.AllocateEnd.TheVariants as allocate_ends
use Rattle.inv_all.specs.model.declared.ends.FollowEnd.{FollowEnd}
use Rattle.inv_all.specs.model.declared.ends.FollowEnd.TheVariants as follow_ends
use Rattle.inv_all.specs.model.declared.ends.ProtectEnd.TheVariants as protect_ends
use Rattle.inv_all.specs.model.declared.post.Post.{Post}
use Rattle.inv_all.specs.model.Desks.{Desk, with_life}
use Rattle.inv_all.specs.model.Phases.{Base, Ending, Outcome, Goes, Ends}
use Rattle.inv_all.specs.model.Phases.Ending.{Protected, Followed, Allocated, Retired, Clocked}
use Rattle.inv_all.specs.model.Calls.{ChangeKept, EnqueueKept, Task, Gets, Changes, Holds, Enqueues, Dequeues, Next, Again, MakeRoom, Answering, Retiring, AfterScan, Why, Opens, FollowsHead, Fills, ClearsNext, Clears, Finishes, GivesUp, Retires, Tidies, Advances, Releases, GetAt, FindVersion, FindCount, FindKey, FindValue, ChangeAt, LoadVersion, LoadCount, LoadKey, LoadValue, ExchangeRoot, EnqueueAt, LoadNumber, LoadNext, PassTail, ExchangeNext, ExchangeTail, DequeueAt, SwingTail, ExchangeHead, Work, Getting, Changing, Enqueuing, Dequeuing, LetGo, Released, Rehold, Dropped, Parting, KeepAt, Loosens, LoadHeld, StoreHeld, Looks, Misses, HideSpan, MarkLeft, TakeList, MarkTaken, Keeping, Phase, Works}
use Rattle.inv_all.specs.model.Rounds.{scheme_of, clear_post, closed, finishing_by, finishing, clearing_by, clearing, clearing_next_by, clearing_next, given_up, let_index}
use Rattle.inv_all.specs.model.Rounds as rounds
use Rattle.inv_all.specs.model.Get.{got, finding, found_key, get_turn}
use Rattle.inv_all.specs.model.Change.{with_read, answer_done, told_linked, at_link, with_walked, no_room, deciding_by, deciding, reading, exchanged, change_turn}
use Rattle.inv_all.specs.model.Enqueue.{told_link, item_walked, appending, at_next, appended, enqueue_turn}
use Rattle.inv_all.specs.model.Dequeue.{followed_row, followed, taken, dequeue_turn}
use Rattle.inv_all.specs.model.Steps.{opened_row, opened_null, opened, filled_by, written_row, filled, followed_by, tidying, retired_by, tidied, advanced, resume, resumed, work_turn}
use Rattle.inv_all.specs.model.Posts.{withdrawn}
use Rattle.inv_all.specs.model.Keep.{copied, load_held, looking, looked_key, look_turn, keep_turn, released, taking}

given_up_desk : (answer : Answer) (post : Post) (desk : Desk) (told : List Event) (o : Option ℕ) → (given_up answer post desk told o).desk ≡ desk
given_up_desk answer post desk told None = refl
given_up_desk answer post desk told (Some slot) = refl

closed_desk : (task : Task) (next : Next) (post : Post) (desk : Desk) (told : List Event) → (closed task next post desk told).desk ≡ desk
closed_desk task Again post desk told = refl
closed_desk task MakeRoom post desk told = refl
closed_desk task (Answering answer) post desk told = given_up_desk answer post desk told _
closed_desk task (Retiring slot answer) post desk told = refl

finishing_by_desk : (task : Task) (next : Next) (post : Post) (desk : Desk) (told : List Event) (o : Option Base) → (finishing_by task next post desk told o).desk ≡ desk
finishing_by_desk task next post desk told None = closed_desk task next post desk told
finishing_by_desk task next post desk told (Some base) = refl

finishing_desk : (task : Task) (next : Next) (post : Post) (desk : Desk) (told : List Event) → (finishing task next post desk told).desk ≡ desk
finishing_desk task Again post desk told = closed_desk task Again post desk told
finishing_desk task MakeRoom post desk told = finishing_by_desk task MakeRoom post desk told _
finishing_desk task (Answering answer) post desk told = finishing_by_desk task (Answering answer) post desk told _
finishing_desk task (Retiring slot answer) post desk told = finishing_by_desk task (Retiring slot answer) post desk told _

clearing_by_desk : (task : Task) (next : Next) (post : Post) (desk : Desk) (told : List Event) (o : Option Base) → (clearing_by task next post desk told o).desk ≡ desk
clearing_by_desk task next post desk told None =
    finishing_desk task next (clear_post (scheme_of post) post _) desk _
clearing_by_desk task next post desk told (Some base) = refl

clearing_desk : (task : Task) (next : Next) (post : Post) (desk : Desk) (told : List Event) → (clearing task next post desk told).desk ≡ desk
clearing_desk task next post desk told = clearing_by_desk task next post desk told _

clearing_next_by_desk : (next : Next) (post : Post) (desk : Desk) (told : List Event) (o : Option Base) → (clearing_next_by next post desk told o).desk ≡ desk
clearing_next_by_desk next post desk told None =
    clearing_desk Dequeues next (clear_post (scheme_of post) post 1) desk _
clearing_next_by_desk next post desk told (Some base) = refl

clearing_next_desk : (next : Next) (post : Post) (desk : Desk) (told : List Event) → (clearing_next next post desk told).desk ≡ desk
clearing_next_desk next post desk told = clearing_next_by_desk next post desk told _

got_desk : (key version : ℕ) (value : Option ℕ) (post : Post) (desk : Desk) (told : List Event) → (got key version value post desk told).desk ≡ desk
got_desk key version value post desk told =
    clearing_desk (Gets key) (Answering (answers.Got version value)) post desk (told ++ events.Got (rounds.bucket_of post key) version key value ∷ [])

finding_desk : (key slot version count : ℕ) (post : Post) (desk : Desk) (more : Bool) (pair : ℕ) → (finding key slot version count post desk more pair).desk ≡ desk
finding_desk key slot version count post desk true pair = refl
finding_desk key slot version count post desk false pair = got_desk key version None post desk []

found_key_desk : (key slot version count pair : ℕ) (post : Post) (desk : Desk) (own : Bool) → (found_key key slot version count pair post desk own).desk ≡ desk
found_key_desk key slot version count pair post desk true = refl
found_key_desk key slot version count pair post desk false = finding_desk key slot version count post desk _ _

get_desk : (key : ℕ) (at : GetAt) (post : Post) (desk : Desk) (found : ℕ) → (get_turn key at post desk found).desk ≡ desk
get_desk key (FindVersion slot) post desk found = refl
get_desk key (FindCount slot version) post desk found = finding_desk key slot version found post desk _ 0
get_desk key (FindKey slot version count pair) post desk found = found_key_desk key slot version count pair post desk _
get_desk key (FindValue slot version pair) post desk found = got_desk key version (Some found) post desk []

deciding_by_desk : (kept : ChangeKept) (post : Post) (desk : Desk) (told : List Event) (o : Option Answer) → (deciding_by kept post desk told o).desk ≡ desk
deciding_by_desk kept post desk told None = refl
deciding_by_desk kept post desk told (Some answer) = clearing_desk (Changes kept) (Answering answer) post desk told

deciding_desk : (kept : ChangeKept) (post : Post) (desk : Desk) (told : List Event) → (deciding kept post desk told).desk ≡ desk
deciding_desk kept post desk told = deciding_by_desk kept post desk told _

reading_desk : (kept : ChangeKept) (slot count : ℕ) (post : Post) (desk : Desk) (more : Bool) → (reading kept slot count post desk more).desk ≡ desk
reading_desk kept slot count post desk true = refl
reading_desk kept slot count post desk false = deciding_desk kept post desk []

exchanged_desk : (kept : ChangeKept) (slot : ℕ) (post : Post) (desk : Desk) (b : Bool) → (exchanged kept slot post desk b).desk ≡ desk
exchanged_desk kept slot post desk true =
    clearing_desk (Changes (record kept { taken = None })) (answer_done (kept.version + 1) kept.link) post desk (told_linked kept slot post)
exchanged_desk kept slot post desk false = clearing_desk (Changes kept) Again post desk []

change_desk : (kept : ChangeKept) (at : ChangeAt) (post : Post) (desk : Desk) (found : ℕ) → (change_turn kept at post desk found).desk ≡ desk
change_desk kept (LoadVersion slot) post desk found = refl
change_desk kept (LoadCount slot) post desk found = reading_desk kept slot found post desk _
change_desk kept (LoadKey slot count) post desk found = refl
change_desk kept (LoadValue slot count key) post desk found =
    reading_desk (with_read kept key found) slot count post desk (nat_lt (length kept.pairs + 1) count)
change_desk kept (ExchangeRoot slot) post desk found = exchanged_desk kept slot post desk _

appending_desk : (kept : EnqueueKept) (post : Post) (desk : Desk) (spent : Bool) → (appending kept post desk spent).desk ≡ desk
appending_desk kept post desk true = clearing_desk (Enqueues kept) (Answering (answers.Spent kept.number)) post desk []
appending_desk kept post desk false = refl

at_next_desk : (kept : EnqueueKept) (next : ℕ) (post : Post) (desk : Desk) (b : Bool) → (at_next kept next post desk b).desk ≡ desk
at_next_desk kept next post desk true = appending_desk kept post desk _
at_next_desk kept next post desk false = refl

appended_desk : (kept : EnqueueKept) (slot : ℕ) (post : Post) (desk : Desk) (b : Bool) → (appended kept slot post desk b).desk ≡ desk
appended_desk kept slot post desk true = refl
appended_desk kept slot post desk false = clearing_desk (Enqueues kept) Again post desk []

enqueue_desk : (kept : EnqueueKept) (at : EnqueueAt) (post : Post) (desk : Desk) (found : ℕ) → (enqueue_turn kept at post desk found).desk ≡ desk
enqueue_desk kept LoadNumber post desk found = refl
enqueue_desk kept LoadNext post desk found = at_next_desk kept found post desk _
enqueue_desk kept (PassTail next) post desk found =
    clearing_desk (Enqueues kept) Again post desk (told_link roots.Tail (next - 1) (found == kept.tail + 1))
enqueue_desk kept (ExchangeNext slot) post desk found = appended_desk kept slot post desk _
enqueue_desk kept (ExchangeTail slot) post desk found =
    clearing_desk (Enqueues kept) (Answering (answers.Queued (kept.number + 1))) post desk (told_link roots.Tail slot (found == kept.tail + 1))

followed_row_desk : (head next : ℕ) (post : Post) (desk : Desk) (told : List Event) (lags : Bool) → (followed_row head next post desk told lags).desk ≡ desk
followed_row_desk head next post desk told true = refl
followed_row_desk head next post desk told false = refl

followed_desk : (head tail : ℕ) (ending : FollowEnd) (post : Post) (desk : Desk) (told : List Event) → (followed head tail ending post desk told).desk ≡ desk
followed_desk head tail (follow_ends.Followed slot) post desk told = followed_row_desk head slot post desk told _
followed_desk head tail follow_ends.NoNext post desk told = clearing_next_desk (Answering answers.Empty) post desk told
followed_desk head tail (follow_ends.RootMoved seen) post desk told = clearing_next_desk Again post desk told

taken_desk : (head next number value : ℕ) (post : Post) (desk : Desk) (b : Bool) → (taken head next number value post desk b).desk ≡ desk
taken_desk head next number value post desk true =
    clearing_next_desk
    (Retiring head (answers.Taken number value moves.Still))
    post
    desk
    (events.Link roots.Head next ∷ events.Cut head ∷ events.Taken number value ∷ [])
taken_desk head next number value post desk false = clearing_next_desk Again post desk []

dequeue_desk : (at : DequeueAt) (post : Post) (desk : Desk) (found : ℕ) → (dequeue_turn at post desk found).desk ≡ desk
dequeue_desk (SwingTail head next) post desk found =
    clearing_next_desk Again post desk (told_link roots.Tail next (found == head + 1))
dequeue_desk (ExchangeHead head next number value) post desk found = taken_desk head next number value post desk _
dequeue_desk at post desk found = refl

released_desk : (let_go : LetGo) (post : Post) (desk : Desk) (told : List Event) → (released let_go post desk told).desk ≡ desk
released_desk Released post desk told = refl
released_desk (Rehold key) post desk told = refl
released_desk (Dropped index) post desk told = refl
released_desk (Parting index) post desk told = refl

copied_desk : (from index : ℕ) (post : Post) (desk : Desk) (reserved : List Event) (o : Option ℕ) → (copied from index post desk reserved o).desk ≡ desk
copied_desk from index post desk reserved None = refl
copied_desk from index post desk reserved (Some slot) = refl

load_held_desk : (from index : ℕ) (post : Post) (desk : Desk) (found : ℕ) (one : Bool) → (load_held from index post desk found one).desk ≡ desk
load_held_desk from index post desk found true = copied_desk from index post desk [] _
load_held_desk from index post desk found false = refl

looking_desk : (index key slot version count : ℕ) (post : Post) (desk : Desk) (more : Bool) (pair : ℕ) → (looking index key slot version count post desk more pair).desk ≡ desk
looking_desk index key slot version count post desk true pair = refl
looking_desk index key slot version count post desk false pair = refl

looked_key_desk : (index key slot version count pair : ℕ) (post : Post) (desk : Desk) (own : Bool) → (looked_key index key slot version count pair post desk own).desk ≡ desk
looked_key_desk index key slot version count pair post desk true = refl
looked_key_desk index key slot version count pair post desk false = looking_desk index key slot version count post desk _ _

look_desk : (index key : ℕ) (at : GetAt) (post : Post) (desk : Desk) (found : ℕ) → (look_turn index key at post desk found).desk ≡ desk
look_desk index key (FindVersion slot) post desk found = refl
look_desk index key (FindCount slot version) post desk found = looking_desk index key slot version found post desk _ 0
look_desk index key (FindKey slot version count pair) post desk found = looked_key_desk index key slot version count pair post desk _
look_desk index key (FindValue slot version pair) post desk found = refl

-- a list that was left is taken over
abbrev pub takes_list : Phase → (found : ℕ) → Bool
takes_list (Works (Keeping (TakeList place))) found = found == 1
takes_list phase found = false

taking_desk : (place : ℕ) (post : Post) (desk : Desk) (left : Bool) (found : ℕ) → left ≡ false → (taking place post desk left found).desk ≡ desk
taking_desk place post desk true found n = absurd (cc)
taking_desk place post desk false found n = refl

keep_desk : (at : KeepAt) (post : Post) (desk : Desk) (found : ℕ) → takes_list (Works (Keeping at)) found ≡ false → (keep_turn at post desk found).desk ≡ desk
keep_desk (Loosens let_go) post desk found n = released_desk let_go (withdrawn post (let_index let_go)) desk _
keep_desk (LoadHeld from index) post desk found n = load_held_desk from index post desk found _
keep_desk (StoreHeld from index era) post desk found n = copied_desk from index post desk _ _
keep_desk (Looks index key at) post desk found n = look_desk index key at post desk found
keep_desk (Misses index) post desk found n = refl
keep_desk HideSpan post desk found n = refl
keep_desk MarkLeft post desk found n = refl
keep_desk (TakeList place) post desk found n = taking_desk place post desk (found == 1) found n
keep_desk (MarkTaken place count) post desk found n = refl

pub work_desk : (work : Work) (post : Post) (desk : Desk) (found : ℕ) → takes_list (Works work) found ≡ false → (work_turn work post desk found).desk ≡ desk
work_desk (Getting key at) post desk found n = get_desk key at post desk found
work_desk (Changing kept at) post desk found n = change_desk kept at post desk found
work_desk (Enqueuing kept at) post desk found n = enqueue_desk kept at post desk found
work_desk (Dequeuing at) post desk found n = dequeue_desk at post desk found
work_desk (Keeping at) post desk found n = keep_desk at post desk found n

opened_row_desk : (task : Task) (slot : ℕ) (post : Post) (desk : Desk) (told : List Event) → (opened_row task slot post desk told).desk ≡ desk
opened_row_desk (Gets key) slot post desk told = refl
opened_row_desk (Changes kept) slot post desk told = refl
opened_row_desk (Holds key) slot post desk told = refl
opened_row_desk (Enqueues kept) slot post desk told = refl
opened_row_desk Dequeues slot post desk told = refl

opened_null_desk : (task : Task) (post : Post) (desk : Desk) (told : List Event) → (opened_null task post desk told).desk ≡ desk
opened_null_desk (Gets key) post desk told = got_desk key 0 None post desk told
opened_null_desk (Changes kept) post desk told = deciding_desk (at_link kept 0) post desk told
opened_null_desk (Holds key) post desk told = clearing_desk (Holds key) (Answering answers.Nothing) post desk told
opened_null_desk (Enqueues kept) post desk told = clearing_desk (Enqueues kept) Again post desk told
opened_null_desk Dequeues post desk told = clearing_desk Dequeues Again post desk told

opened_desk : (task : Task) (ending : Ending) (post : Post) (desk : Desk) (told : List Event) → (opened task ending post desk told).desk ≡ desk
opened_desk task (Protected (protect_ends.Held slot era)) post desk told = opened_row_desk task slot post desk told
opened_desk task (Protected protect_ends.Null) post desk told = opened_null_desk task post desk told
opened_desk task ending post desk told = refl

filled_by_desk : (task : Task) (ending : AllocateEnd) (post : Post) (desk : Desk) (told : List Event) → (filled_by task ending post desk told).desk ≡ desk
filled_by_desk (Changes kept) (allocate_ends.Given slot birth) post desk told = refl
filled_by_desk (Changes kept) allocate_ends.Full post desk told =
    clearing_desk (Changes (with_walked kept)) (no_room kept.walked) post desk told
filled_by_desk (Enqueues kept) (allocate_ends.Given slot birth) post desk told = refl
filled_by_desk (Enqueues kept) allocate_ends.Full post desk told =
    clearing_desk (Enqueues (item_walked kept)) (no_room kept.walked) post desk told
filled_by_desk (Gets key) ending post desk told = refl
filled_by_desk (Holds key) ending post desk told = refl
filled_by_desk Dequeues ending post desk told = refl

written_desk : (task : Task) (post : Post) (desk : Desk) (told : List Event) → (written_row task post desk told).desk ≡ desk
written_desk (Changes kept) post desk told = refl
written_desk (Enqueues kept) post desk told = refl
written_desk (Gets key) post desk told = refl
written_desk (Holds key) post desk told = refl
written_desk Dequeues post desk told = refl

filled_desk : (task : Task) (ending : Ending) (post : Post) (desk : Desk) (told : List Event) → (filled task ending post desk told).desk ≡ desk
filled_desk task (Allocated ending) post desk told = filled_by_desk task ending post desk told
filled_desk task ending post desk told = written_desk task post desk told

followed_by_desk : (head tail : ℕ) (ending : Ending) (post : Post) (desk : Desk) (told : List Event) → (followed_by head tail ending post desk told).desk ≡ desk
followed_by_desk head tail (Followed ending) post desk told = followed_desk head tail ending post desk told
followed_by_desk head tail ending post desk told = refl

tidying_desk : (answer : Answer) (post : Post) (desk : Desk) (told : List Event) (due : Bool) → (tidying answer post desk told due).desk ≡ desk
tidying_desk answer post desk told true = refl
tidying_desk answer post desk told false = refl

-- a retirement that ends puts the life on the list
abbrev pub left_desk : Why → Ending → Desk → Desk
left_desk (Retires answer) (Retired life) desk = with_life desk life
left_desk why ending desk = desk

retired_desk : (answer : Answer) (ending : Ending) (post : Post) (desk : Desk) (told : List Event) → (retired_by answer ending post desk told).desk ≡ left_desk (Retires answer) ending desk
retired_desk answer (Retired life) post desk told = tidying_desk answer post (with_life desk life) told _
retired_desk answer ending post desk told = refl

tidied_desk : (later : AfterScan) (ending : Ending) (post : Post) (desk : Desk) (told : List Event) → (tidied later ending post desk told).desk ≡ desk
tidied_desk later (Clocked clock) post desk told = refl
tidied_desk later ending post desk told = refl

advanced_desk : (ending : Ending) (post : Post) (desk : Desk) (told : List Event) → (advanced ending post desk told).desk ≡ desk
advanced_desk (Clocked clock) post desk told = refl
advanced_desk ending post desk told = refl

resume_desk : (why : Why) (ending : Ending) (post : Post) (desk : Desk) (told : List Event) → (resume why ending post desk told).desk ≡ left_desk why ending desk
resume_desk (Opens task) ending post desk told = opened_desk task ending post desk told
resume_desk (FollowsHead head tail) ending post desk told = followed_by_desk head tail ending post desk told
resume_desk (Fills task) ending post desk told = filled_desk task ending post desk told
resume_desk (ClearsNext next) ending post desk told = clearing_desk Dequeues next post desk told
resume_desk (Clears task next) ending post desk told = finishing_desk task next post desk told
resume_desk (Finishes task next) ending post desk told = closed_desk task next post desk told
resume_desk (GivesUp answer) ending post desk told = refl
resume_desk (Retires answer) ending post desk told = retired_desk answer ending post desk told
resume_desk (Tidies later) ending post desk told = tidied_desk later ending post desk told
resume_desk Advances ending post desk told = advanced_desk ending post desk told
resume_desk (Releases let_go) ending post desk told = released_desk let_go post desk told

abbrev pub left_at : Why → Outcome → Desk → Desk
left_at why (Goes base) desk = desk
left_at why (Ends ending) desk = left_desk why ending desk

pub resumed_desk : (why : Why) (desk : Desk) (post : Post) (told : List Event) (o : Outcome) → (resumed why desk post told o).desk ≡ left_at why o desk
resumed_desk why desk post told (Goes base) = refl
resumed_desk why desk post told (Ends ending) = resume_desk why ending post desk told
