-- The row whose next link is followed, over a call's own steps and what comes after a machine.
use Rattle.std.proofs.Common.{ℕ, ◌≡◌, ◌+◌, Bool, true, false, List, [], ◌∷◌, ◌++◌, length, Option, Some, None, sym, arith, drop}
use Rattle.std.proofs.lemmas.Bool.Decides.{nat_tests}
use Rattle.std.specs.Prelude.{◌==◌, ◌%◌, ◌-◌, nat_lt}
use Rattle.inv_rows.specs.defs.declared.call.Answer.{Answer}
use Rattle.inv_rows.specs.defs.declared.call.Answer.TheVariants as the_answers
use Rattle.inv_rows.specs.defs.declared.call.ClockMove.TheVariants as moves
use Rattle.inv_rows.specs.defs.declared.event.Event.{Event}
use Rattle.inv_rows.specs.defs.declared.event.Event.TheVariants as events
use Rattle.inv_rows.specs.defs.declared.event.Root.TheVariants as roots
use Rattle.inv_rows.specs.model.declared.ends.AllocateEnd.{AllocateEnd}
use Rattle.inv_rows.specs.model.declared.ends.AllocateEnd.TheVariants as allocate_ends
use Rattle.inv_rows.specs.model.declared.ends.FollowEnd.{FollowEnd}
use Rattle.inv_rows.specs.model.declared.ends.FollowEnd.TheVariants as follow_ends
use Rattle.inv_rows.specs.model.declared.ends.ProtectEnd.TheVariants as protect_ends
use Rattle.inv_rows.specs.model.declared.post.Post.{Post}
use Rattle.inv_rows.specs.model.Desks.{Desk, with_life}
use Rattle.inv_rows.specs.model.Phases.{Ending, Base}
use Rattle.inv_rows.specs.model.Phases.Ending.{Done, Protected, Followed, Allocated, Retired, Clocked}
use Rattle.inv_rows.specs.model.Rounds.{bucket_of, scheme_of, index_of, taken_of, begin_base, clear_base, clear_post, clear_told, finish_base, let_index, round_by, round, given_up, closed, finishing_by, finishing, clearing_by, clearing, clearing_next_by, clearing_next, tidy_by}
use Rattle.inv_rows.specs.model.Get as gets
use Rattle.inv_rows.specs.model.Change as alters
use Rattle.inv_rows.specs.model.Enqueue as enqueues
use Rattle.inv_rows.specs.model.Dequeue as dequeues
use Rattle.inv_rows.specs.model.Keep as keeps
use Rattle.inv_rows.specs.model.Steps as steps
use Rattle.inv_rows.specs.model.Calls.{Task, Gets, Changes, Holds, Enqueues, Dequeues, Again, Answering, Retiring, AfterScan, Why, ChangeKept, EnqueueKept, GetAt, FindVersion, FindCount, FindKey, FindValue, ChangeAt, LoadVersion, LoadCount, LoadKey, LoadValue, ExchangeRoot, EnqueueAt, LoadNumber, LoadNext, PassTail, ExchangeNext, ExchangeTail, DequeueAt, LoadTail, SwingTail, TakeNumber, TakeValue, ExchangeHead, Work, Getting, Changing, Enqueuing, Dequeuing, Opens, FollowsHead, Fills, ClearsNext, Clears, Finishes, GivesUp, Retires, Tidies, Advances, Releases, LetGo, Released, Rehold, Dropped, Parting, KeepAt, Loosens, LoadHeld, StoreHeld, Looks, Misses, HideSpan, MarkLeft, TakeList, MarkTaken, Keeping, Next, MakeRoom, CallTurn, Works, Answered, Repeated}
use Rattle.inv_rows.specs.model.Posts.{stands, withdrawn, cleared, standing_from, publishes_index}
use Rattle.inv_rows.specs.words.Schemes.{has_one_interval, publishes_rows, moves}
use Rattle.inv_rows.specs.Shapes.Frame.{phase_left}
use Rattle.inv_rows.specs.model.declared.ends.ProtectEnd.{ProtectEnd}
use Rattle.inv_rows.specs.Covering.Parents.{Parent}

-- what a turn leaves of the row whose next link is followed
abbrev pub Tended : CallTurn → Type 0
Tended t = Parent (phase_left t.outcome) t.post

-- a dequeue's head stands once it was protected
abbrev pub stood_row : Task → ℕ → Post → Type 0
stood_row (Gets key) slot post = Unit {0}
stood_row (Changes kept) slot post = Unit {0}
stood_row (Holds key) slot post = Unit {0}
stood_row (Enqueues kept) slot post = Unit {0}
stood_row Dequeues slot post = stands post 0 ≡ Some slot

abbrev pub stood_end : Task → ProtectEnd → Post → Type 0
stood_end task (protect_ends.Held slot era) post = stood_row task slot post
stood_end task protect_ends.Null post = Unit {0}

abbrev pub stood_task : Task → Ending → Post → Type 0
stood_task task Done post = Unit {0}
stood_task task (Protected end) post = stood_end task end post
stood_task task (Followed end) post = Unit {0}
stood_task task (Allocated end) post = Unit {0}
stood_task task (Retired life) post = Unit {0}
stood_task task (Clocked clock) post = Unit {0}

abbrev pub stood_why : Why → Ending → Post → Type 0
stood_why (Opens task) ending post = stood_task task ending post
stood_why why ending post = Unit {0}

row_of : (task : Task) (slot era : ℕ) (post : Post) → stood_task task (Protected (protect_ends.Held slot era)) post → stood_row task slot post
row_of task slot era post s = s

pub same_row : (post : Post) (slot row : ℕ) → stands post 0 ≡ Some slot → (slot == row) ≡ true → stands post 0 ≡ Some row
same_row post slot row s h = let e : slot ≡ row = grind (arith, nat_tests) in rw (sym e) s

round_by_tends : (task : Task) (post next : Post) (x : Option Base) → Parent (round_by task post x) next
round_by_tends task post next None row h = absurd (cc)
round_by_tends task post next (Some base) row h = absurd (cc)

pub round_tends : (task : Task) (post : Post) → Parent (round task post) post
round_tends task post = round_by_tends task post post (begin_base (scheme_of post) post)

given_up_tends : (answer : Answer) (post : Post) (desk : Desk) (told : List Event) (x : Option ℕ) → Tended (given_up answer post desk told x)
given_up_tends answer post desk told None row h = absurd (cc)
given_up_tends answer post desk told (Some slot) row h = absurd (cc)

-- a list is tidied
tidy_tends : (later : AfterScan) (moving : Bool) (post : Post) → Parent (tidy_by moving later post) post
tidy_tends later true post = λ row h. absurd (cc)
tidy_tends later false post = λ row h. absurd (cc)

closed_tends : (task : Task) (next : Next) (post : Post) (desk : Desk) (told : List Event) → Tended (closed task next post desk told)
closed_tends task Again post desk told = round_tends task post
closed_tends task MakeRoom post desk told = tidy_tends (Repeated task) (moves (scheme_of post)) post
closed_tends task (Answering answer) post desk told = given_up_tends answer post desk told (taken_of task)
closed_tends task (Retiring slot answer) post desk told = λ row h. absurd (cc)

finishing_by_tends : (task : Task) (next : Next) (post : Post) (desk : Desk) (told : List Event) (x : Option Base) → Tended (finishing_by task next post desk told x)
finishing_by_tends task next post desk told None = closed_tends task next post desk told
finishing_by_tends task next post desk told (Some base) = λ row h. absurd (cc)

finishing_tends : (task : Task) (next : Next) (post : Post) (desk : Desk) (told : List Event) → Tended (finishing task next post desk told)
finishing_tends task Again post desk told = closed_tends task Again post desk told
finishing_tends task MakeRoom post desk told = finishing_by_tends task MakeRoom post desk told (finish_base (scheme_of post) post)
finishing_tends task (Answering answer) post desk told = finishing_by_tends task (Answering answer) post desk told (finish_base (scheme_of post) post)
finishing_tends task (Retiring slot answer) post desk told = finishing_by_tends task (Retiring slot answer) post desk told (finish_base (scheme_of post) post)

clearing_by_tends : (task : Task) (next : Next) (post : Post) (desk : Desk) (told : List Event) (x : Option Base) → Tended (clearing_by task next post desk told x)
clearing_by_tends task next post desk told None = finishing_tends task next (clear_post (scheme_of post) post (index_of task)) desk (told ++ clear_told (scheme_of post) post (index_of task))
clearing_by_tends task next post desk told (Some base) = λ row h. absurd (cc)

clearing_tends : (task : Task) (next : Next) (post : Post) (desk : Desk) (told : List Event) → Tended (clearing task next post desk told)
clearing_tends task next post desk told = clearing_by_tends task next post desk told (clear_base (scheme_of post) (index_of task))

clearing_next_by_tends : (next : Next) (post : Post) (desk : Desk) (told : List Event) (x : Option Base) → Tended (clearing_next_by next post desk told x)
clearing_next_by_tends next post desk told None = clearing_tends Dequeues next (clear_post (scheme_of post) post 1) desk (told ++ clear_told (scheme_of post) post 1)
clearing_next_by_tends next post desk told (Some base) = λ row h. absurd (cc)

clearing_next_tends : (next : Next) (post : Post) (desk : Desk) (told : List Event) → Tended (clearing_next next post desk told)
clearing_next_tends next post desk told = clearing_next_by_tends next post desk told (clear_base (scheme_of post) 1)

got_tends : (key version : ℕ) (value : Option ℕ) (post : Post) (desk : Desk) (told : List Event) → Tended (gets.got key version value post desk told)
got_tends key version value post desk told = clearing_tends (Gets key) (Answering (the_answers.Got version value)) post desk (told ++ events.Got (bucket_of post key) version key value ∷ [])

finding_tends : (key slot version count : ℕ) (post : Post) (desk : Desk) (more : Bool) (pair : ℕ) → Tended (gets.finding key slot version count post desk more pair)
finding_tends key slot version count post desk true pair = λ row h. absurd (cc)
finding_tends key slot version count post desk false pair = got_tends key version None post desk []

found_key_tends : (key slot version count pair : ℕ) (post : Post) (desk : Desk) (own : Bool) → Tended (gets.found_key key slot version count pair post desk own)
found_key_tends key slot version count pair post desk true = λ row h. absurd (cc)
found_key_tends key slot version count pair post desk false = finding_tends key slot version count post desk (nat_lt (pair + 1) count) (pair + 1)

get_tends : (key : ℕ) (at : GetAt) (post : Post) (desk : Desk) (found : ℕ) → Tended (gets.get_turn key at post desk found)
get_tends key (FindVersion slot) post desk found = λ row h. absurd (cc)
get_tends key (FindCount slot version) post desk found = finding_tends key slot version found post desk (nat_lt 0 found) 0
get_tends key (FindKey slot version count pair) post desk found = found_key_tends key slot version count pair post desk (found == key)
get_tends key (FindValue slot version pair) post desk found = got_tends key version (Some found) post desk []

deciding_by_tends : (kept : ChangeKept) (post : Post) (desk : Desk) (told : List Event) (x : Option Answer) → Tended (alters.deciding_by kept post desk told x)
deciding_by_tends kept post desk told (Some answer) = clearing_tends (Changes kept) (Answering answer) post desk told
deciding_by_tends kept post desk told None = λ row h. absurd (cc)

deciding_tends : (kept : ChangeKept) (post : Post) (desk : Desk) (told : List Event) → Tended (alters.deciding kept post desk told)
deciding_tends kept post desk told = deciding_by_tends kept post desk told (alters.refused post.layout.config kept)

reading_tends : (kept : ChangeKept) (slot count : ℕ) (post : Post) (desk : Desk) (more : Bool) → Tended (alters.reading kept slot count post desk more)
reading_tends kept slot count post desk true = λ row h. absurd (cc)
reading_tends kept slot count post desk false = deciding_tends kept post desk []

exchanged_tends : (kept : ChangeKept) (slot : ℕ) (post : Post) (desk : Desk) (same : Bool) → Tended (alters.exchanged kept slot post desk same)
exchanged_tends kept slot post desk true = clearing_tends (Changes (record kept { taken = None })) (alters.answer_done (kept.version + 1) kept.link) post desk (alters.told_linked kept slot post)
exchanged_tends kept slot post desk false = clearing_tends (Changes kept) Again post desk []

change_tends : (kept : ChangeKept) (at : ChangeAt) (post : Post) (desk : Desk) (found : ℕ) → Tended (alters.change_turn kept at post desk found)
change_tends kept (LoadVersion slot) post desk found = λ row h. absurd (cc)
change_tends kept (LoadCount slot) post desk found = reading_tends kept slot found post desk (nat_lt 0 found)
change_tends kept (LoadKey slot count) post desk found = λ row h. absurd (cc)
change_tends kept (LoadValue slot count key) post desk found = reading_tends (alters.with_read kept key found) slot count post desk (nat_lt (length kept.pairs + 1) count)
change_tends kept (ExchangeRoot slot) post desk found = exchanged_tends kept slot post desk (found == kept.link)

appending_tends : (kept : EnqueueKept) (post : Post) (desk : Desk) (spent : Bool) → Tended (enqueues.appending kept post desk spent)
appending_tends kept post desk true = clearing_tends (Enqueues kept) (Answering (the_answers.Spent kept.number)) post desk []
appending_tends kept post desk false = λ row h. absurd (cc)

at_next_tends : (kept : EnqueueKept) (next : ℕ) (post : Post) (desk : Desk) (none : Bool) → Tended (enqueues.at_next kept next post desk none)
at_next_tends kept next post desk true = appending_tends kept post desk (kept.number == post.layout.config.last_version)
at_next_tends kept next post desk false = λ row h. absurd (cc)

appended_tends : (kept : EnqueueKept) (slot : ℕ) (post : Post) (desk : Desk) (same : Bool) → Tended (enqueues.appended kept slot post desk same)
appended_tends kept slot post desk true = λ row h. absurd (cc)
appended_tends kept slot post desk false = clearing_tends (Enqueues kept) Again post desk []

enqueue_tends : (kept : EnqueueKept) (at : EnqueueAt) (post : Post) (desk : Desk) (found : ℕ) → Tended (enqueues.enqueue_turn kept at post desk found)
enqueue_tends kept LoadNumber post desk found = λ row h. absurd (cc)
enqueue_tends kept LoadNext post desk found = at_next_tends kept found post desk (found == 0)
enqueue_tends kept (PassTail next) post desk found = clearing_tends (Enqueues kept) Again post desk (enqueues.told_link roots.Tail (next - 1) (found == kept.tail + 1))
enqueue_tends kept (ExchangeNext slot) post desk found = appended_tends kept slot post desk (found == 0)
enqueue_tends kept (ExchangeTail slot) post desk found = clearing_tends (Enqueues kept) (Answering (the_answers.Queued (kept.number + 1))) post desk (enqueues.told_link roots.Tail slot (found == kept.tail + 1))

followed_row_tends : (head next : ℕ) (post : Post) (desk : Desk) (told : List Event) (lags : Bool) → Tended (dequeues.followed_row head next post desk told lags)
followed_row_tends head next post desk told true = λ row h. absurd (cc)
followed_row_tends head next post desk told false = λ row h. absurd (cc)

followed_tends : (head tail : ℕ) (ending : FollowEnd) (post : Post) (desk : Desk) (told : List Event) → Tended (dequeues.followed head tail ending post desk told)
followed_tends head tail (follow_ends.Followed slot) post desk told = followed_row_tends head slot post desk told (tail == head + 1)
followed_tends head tail follow_ends.NoNext post desk told = clearing_next_tends (Answering the_answers.Empty) post desk told
followed_tends head tail (follow_ends.RootMoved seen) post desk told = clearing_next_tends Again post desk told

taken_tends : (head next number value : ℕ) (post : Post) (desk : Desk) (same : Bool) → Tended (dequeues.taken head next number value post desk same)
taken_tends head next number value post desk true = clearing_next_tends (Retiring head (the_answers.Taken number value moves.Still)) post desk (events.Link roots.Head next ∷ events.Cut head ∷ events.Taken number value ∷ [])
taken_tends head next number value post desk false = clearing_next_tends Again post desk []

dequeue_tends : (at : DequeueAt) (post : Post) (desk : Desk) (found : ℕ) → Parent (Works (Dequeuing at)) post → Tended (dequeues.dequeue_turn at post desk found)
dequeue_tends (LoadTail head) post desk found p = p
dequeue_tends (SwingTail head next) post desk found p = clearing_next_tends Again post desk (enqueues.told_link roots.Tail next (found == head + 1))
dequeue_tends (TakeNumber head next) post desk found p = λ row h. absurd (cc)
dequeue_tends (TakeValue head next number) post desk found p = λ row h. absurd (cc)
dequeue_tends (ExchangeHead head next number value) post desk found p = taken_tends head next number value post desk (found == head + 1)

-- a seat leaves
pub parting_tends : (rows : Bool) (x : Option ℕ) (post : Post) → Parent (keeps.parting_index rows x) post
parting_tends rows None post = λ row h. absurd (cc)
parting_tends rows (Some index) post = λ row h. absurd (cc)

taking_tends : (place : ℕ) (post : Post) (desk : Desk) (left : Bool) (found : ℕ) → Tended (keeps.taking place post desk left found)
taking_tends place post desk true found = λ row h. absurd (cc)
taking_tends place post desk false found = λ row h. absurd (cc)

released_tends : (let_go : LetGo) (post : Post) (desk : Desk) (told : List Event) → Tended (keeps.released let_go post desk told)
released_tends Released post desk told = λ row h. absurd (cc)
released_tends (Rehold key) post desk told = round_tends (Holds key) post
released_tends (Dropped index) post desk told = λ row h. absurd (cc)
released_tends (Parting index) post desk told = parting_tends (publishes_rows (scheme_of post)) (standing_from (index + 1) (drop (index + 1) post.standing)) post

copied_tends : (from index : ℕ) (post : Post) (desk : Desk) (reserved : List Event) (x : Option ℕ) → Tended (keeps.copied from index post desk reserved x)
copied_tends from index post desk reserved None = λ row h. absurd (cc)
copied_tends from index post desk reserved (Some slot) = λ row h. absurd (cc)

load_held_tends : (from index : ℕ) (post : Post) (desk : Desk) (found : ℕ) (one : Bool) → Tended (keeps.load_held from index post desk found one)
load_held_tends from index post desk found true = copied_tends from index post desk [] (stands post from)
load_held_tends from index post desk found false = λ row h. absurd (cc)

looking_tends : (index key slot version count : ℕ) (post : Post) (desk : Desk) (more : Bool) (pair : ℕ) → Tended (keeps.looking index key slot version count post desk more pair)
looking_tends index key slot version count post desk true pair = λ row h. absurd (cc)
looking_tends index key slot version count post desk false pair = λ row h. absurd (cc)

looked_key_tends : (index key slot version count pair : ℕ) (post : Post) (desk : Desk) (own : Bool) → Tended (keeps.looked_key index key slot version count pair post desk own)
looked_key_tends index key slot version count pair post desk true = λ row h. absurd (cc)
looked_key_tends index key slot version count pair post desk false = looking_tends index key slot version count post desk (nat_lt (pair + 1) count) (pair + 1)

look_tends : (index key : ℕ) (at : GetAt) (post : Post) (desk : Desk) (found : ℕ) → Tended (keeps.look_turn index key at post desk found)
look_tends index key (FindVersion slot) post desk found = λ row h. absurd (cc)
look_tends index key (FindCount slot version) post desk found = looking_tends index key slot version found post desk (nat_lt 0 found) 0
look_tends index key (FindKey slot version count pair) post desk found = looked_key_tends index key slot version count pair post desk (found == key)
look_tends index key (FindValue slot version pair) post desk found = λ row h. absurd (cc)

keep_tends : (at : KeepAt) (post : Post) (desk : Desk) (found : ℕ) → Tended (keeps.keep_turn at post desk found)
keep_tends (Loosens let_go) post desk found = released_tends let_go (withdrawn post (let_index let_go)) desk (cleared (let_index let_go) (stands post (let_index let_go)))
keep_tends (LoadHeld from index) post desk found = load_held_tends from index post desk found (has_one_interval (scheme_of post))
keep_tends (StoreHeld from index era) post desk found = copied_tends from index post desk (publishes_index (publishes_rows (scheme_of post)) post index era) (stands post from)
keep_tends (Looks index key at) post desk found = look_tends index key at post desk found
keep_tends (Misses index) post desk found = λ row h. absurd (cc)
keep_tends HideSpan post desk found = λ row h. absurd (cc)
keep_tends MarkLeft post desk found = λ row h. absurd (cc)
keep_tends (TakeList place) post desk found = taking_tends place post desk (found == 1) found
keep_tends (MarkTaken place count) post desk found = λ row h. absurd (cc)

pub work_tends : (work : Work) (post : Post) (desk : Desk) (found : ℕ) → Parent (Works work) post → Tended (steps.work_turn work post desk found)
work_tends (Getting key at) post desk found p = get_tends key at post desk found
work_tends (Changing kept at) post desk found p = change_tends kept at post desk found
work_tends (Enqueuing kept at) post desk found p = enqueue_tends kept at post desk found
work_tends (Dequeuing at) post desk found p = dequeue_tends at post desk found p
work_tends (Keeping at) post desk found p = keep_tends at post desk found

opened_row_tends : (task : Task) (slot : ℕ) (post : Post) (desk : Desk) (told : List Event) → stood_row task slot post → Tended (steps.opened_row task slot post desk told)
opened_row_tends (Gets key) slot post desk told s = λ row h. absurd (cc)
opened_row_tends (Changes kept) slot post desk told s = λ row h. absurd (cc)
opened_row_tends (Holds key) slot post desk told s = λ row h. absurd (cc)
opened_row_tends (Enqueues kept) slot post desk told s = λ row h. absurd (cc)
opened_row_tends Dequeues slot post desk told s = λ row h. same_row post slot row s h

opened_null_tends : (task : Task) (post : Post) (desk : Desk) (told : List Event) → Tended (steps.opened_null task post desk told)
opened_null_tends (Gets key) post desk told = got_tends key 0 None post desk told
opened_null_tends (Changes kept) post desk told = deciding_tends (alters.at_link kept 0) post desk told
opened_null_tends (Holds key) post desk told = clearing_tends (Holds key) (Answering the_answers.Nothing) post desk told
opened_null_tends (Enqueues kept) post desk told = clearing_tends (Enqueues kept) Again post desk told
opened_null_tends Dequeues post desk told = clearing_tends Dequeues Again post desk told

opened_tends : (task : Task) (ending : Ending) (post : Post) (desk : Desk) (told : List Event) → stood_task task ending post → Tended (steps.opened task ending post desk told)
opened_tends task (Protected (protect_ends.Held slot era)) post desk told s = opened_row_tends task slot post desk told (row_of task slot era post s)
opened_tends task (Protected protect_ends.Null) post desk told s = opened_null_tends task post desk told
opened_tends task Done post desk told s = λ row h. absurd (cc)
opened_tends task (Followed end) post desk told s = λ row h. absurd (cc)
opened_tends task (Allocated end) post desk told s = λ row h. absurd (cc)
opened_tends task (Retired life) post desk told s = λ row h. absurd (cc)
opened_tends task (Clocked clock) post desk told s = λ row h. absurd (cc)

filled_by_tends : (task : Task) (ending : AllocateEnd) (post : Post) (desk : Desk) (told : List Event) → Tended (steps.filled_by task ending post desk told)
filled_by_tends (Changes kept) (allocate_ends.Given slot birth) post desk told = λ row h. absurd (cc)
filled_by_tends (Changes kept) allocate_ends.Full post desk told = clearing_tends (Changes (alters.with_walked kept)) (alters.no_room kept.walked) post desk told
filled_by_tends (Enqueues kept) (allocate_ends.Given slot birth) post desk told = λ row h. absurd (cc)
filled_by_tends (Enqueues kept) allocate_ends.Full post desk told = clearing_tends (Enqueues (enqueues.item_walked kept)) (alters.no_room kept.walked) post desk told
filled_by_tends (Gets key) ending post desk told = closed_tends (Gets key) Again post desk told
filled_by_tends (Holds key) ending post desk told = closed_tends (Holds key) Again post desk told
filled_by_tends Dequeues ending post desk told = closed_tends Dequeues Again post desk told

written_row_tends : (task : Task) (post : Post) (desk : Desk) (told : List Event) → Tended (steps.written_row task post desk told)
written_row_tends (Changes kept) post desk told = λ row h. absurd (cc)
written_row_tends (Enqueues kept) post desk told = λ row h. absurd (cc)
written_row_tends (Gets key) post desk told = closed_tends (Gets key) Again post desk told
written_row_tends (Holds key) post desk told = closed_tends (Holds key) Again post desk told
written_row_tends Dequeues post desk told = closed_tends Dequeues Again post desk told

filled_tends : (task : Task) (ending : Ending) (post : Post) (desk : Desk) (told : List Event) → Tended (steps.filled task ending post desk told)
filled_tends task (Allocated ending) post desk told = filled_by_tends task ending post desk told
filled_tends task Done post desk told = written_row_tends task post desk told
filled_tends task (Protected end) post desk told = written_row_tends task post desk told
filled_tends task (Followed end) post desk told = written_row_tends task post desk told
filled_tends task (Retired life) post desk told = written_row_tends task post desk told
filled_tends task (Clocked clock) post desk told = written_row_tends task post desk told

followed_by_tends : (head tail : ℕ) (ending : Ending) (post : Post) (desk : Desk) (told : List Event) → Tended (steps.followed_by head tail ending post desk told)
followed_by_tends head tail (Followed ending) post desk told = followed_tends head tail ending post desk told
followed_by_tends head tail Done post desk told = closed_tends Dequeues Again post desk told
followed_by_tends head tail (Protected end) post desk told = closed_tends Dequeues Again post desk told
followed_by_tends head tail (Allocated end) post desk told = closed_tends Dequeues Again post desk told
followed_by_tends head tail (Retired life) post desk told = closed_tends Dequeues Again post desk told
followed_by_tends head tail (Clocked clock) post desk told = closed_tends Dequeues Again post desk told

tidying_tends : (answer : Answer) (post : Post) (desk : Desk) (told : List Event) (due : Bool) → Tended (steps.tidying answer post desk told due)
tidying_tends answer post desk told true = tidy_tends (Answered answer) (moves (scheme_of post)) post
tidying_tends answer post desk told false = λ row h. absurd (cc)

retired_by_tends : (answer : Answer) (ending : Ending) (post : Post) (desk : Desk) (told : List Event) → Tended (steps.retired_by answer ending post desk told)
retired_by_tends answer (Retired life) post desk told = tidying_tends answer post (with_life desk life) told (post.retired % post.layout.config.every == 0)
retired_by_tends answer Done post desk told = λ row h. absurd (cc)
retired_by_tends answer (Protected end) post desk told = λ row h. absurd (cc)
retired_by_tends answer (Followed end) post desk told = λ row h. absurd (cc)
retired_by_tends answer (Allocated end) post desk told = λ row h. absurd (cc)
retired_by_tends answer (Clocked clock) post desk told = λ row h. absurd (cc)

tidied_tends : (later : AfterScan) (ending : Ending) (post : Post) (desk : Desk) (told : List Event) → Tended (steps.tidied later ending post desk told)
tidied_tends later (Clocked clock) post desk told = λ row h. absurd (cc)
tidied_tends later Done post desk told = λ row h. absurd (cc)
tidied_tends later (Protected end) post desk told = λ row h. absurd (cc)
tidied_tends later (Followed end) post desk told = λ row h. absurd (cc)
tidied_tends later (Allocated end) post desk told = λ row h. absurd (cc)
tidied_tends later (Retired life) post desk told = λ row h. absurd (cc)

advanced_tends : (ending : Ending) (post : Post) (desk : Desk) (told : List Event) → Tended (steps.advanced ending post desk told)
advanced_tends (Clocked clock) post desk told = λ row h. absurd (cc)
advanced_tends Done post desk told = λ row h. absurd (cc)
advanced_tends (Protected end) post desk told = λ row h. absurd (cc)
advanced_tends (Followed end) post desk told = λ row h. absurd (cc)
advanced_tends (Allocated end) post desk told = λ row h. absurd (cc)
advanced_tends (Retired life) post desk told = λ row h. absurd (cc)

pub resume_tends : (why : Why) (ending : Ending) (post : Post) (desk : Desk) (told : List Event) → stood_why why ending post → Tended (steps.resume why ending post desk told)
resume_tends (Opens task) ending post desk told s = opened_tends task ending post desk told s
resume_tends (FollowsHead head tail) ending post desk told s = followed_by_tends head tail ending post desk told
resume_tends (Fills task) ending post desk told s = filled_tends task ending post desk told
resume_tends (ClearsNext next) ending post desk told s = clearing_tends Dequeues next post desk told
resume_tends (Clears task next) ending post desk told s = finishing_tends task next post desk told
resume_tends (Finishes task next) ending post desk told s = closed_tends task next post desk told
resume_tends (GivesUp answer) ending post desk told s = λ row h. absurd (cc)
resume_tends (Retires answer) ending post desk told s = retired_by_tends answer ending post desk told
resume_tends (Tidies later) ending post desk told s = tidied_tends later ending post desk told
resume_tends Advances ending post desk told s = advanced_tends ending post desk told
resume_tends (Releases let_go) ending post desk told s = released_tends let_go post desk told
