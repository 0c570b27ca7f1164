-- What a call works on still stands after a step of its own, and where a machine has ended.
use Rattle.std.proofs.Common.{ℕ, ◌≡◌, ◌+◌, Bool, true, false, arith, refl, ap, ◌∙◌, List, [], ◌∷◌, ◌++◌, length}
use Rattle.std.proofs.lemmas.Bool.Decides.{nat_tests}
use Rattle.std.specs.Prelude.{◌==◌, ◌-◌, nat_lt, Option, Some, None}
use Rattle.inv_ends.specs.model.defs.declared.call.Answer.{Answer}
use Rattle.inv_ends.specs.model.defs.declared.call.Answer.TheVariants as the_answers
use Rattle.inv_ends.specs.model.defs.declared.call.ClockMove.TheVariants as moves
use Rattle.inv_ends.specs.model.defs.declared.event.Event.{Event}
use Rattle.inv_ends.specs.model.defs.declared.event.Event.TheVariants as events
use Rattle.inv_ends.specs.model.defs.declared.event.Root.TheVariants as root_names
use Rattle.inv_ends.specs.model.declared.ends.AllocateEnd.{AllocateEnd}
use Rattle.inv_ends.specs.model.declared.ends.AllocateEnd.TheVariants as allocate_ends
use Rattle.inv_ends.specs.model.declared.ends.FollowEnd.{FollowEnd}
use Rattle.inv_ends.specs.model.declared.ends.FollowEnd.TheVariants as follow_ends
use Rattle.inv_ends.specs.model.declared.ends.ProtectEnd.TheVariants as protect_ends
use Rattle.inv_ends.specs.model.declared.post.Post.{Post}
use Rattle.inv_ends.specs.model.Desks.{Desk}
use Rattle.inv_ends.specs.model.words.Schemes.{has_one_interval, publishes_rows}
use Rattle.inv_ends.specs.model.Posts.{cleared, stands, withdrawn, publishes_index}
use Rattle.inv_ends.specs.model.Phases.{Ending}
use Rattle.inv_ends.specs.model.Phases.Ending.{Done, Protected, Followed, Allocated, Retired, Clocked}
use Rattle.inv_ends.specs.model.Rounds.{bucket_of, index_of, let_index, scheme_of, clearing, clearing_next, closed}
use Rattle.inv_ends.specs.model.Get as gets
use Rattle.inv_ends.specs.model.Change as alters
use Rattle.inv_ends.specs.model.Enqueue as enqueues
use Rattle.inv_ends.specs.model.Dequeue as dequeues
use Rattle.inv_ends.specs.model.Keep as keeps
use Rattle.inv_ends.specs.model.Steps as steps
use Rattle.inv_ends.specs.model.Calls.{ChangeKept, EnqueueKept, Task, Gets, Changes, Holds, Enqueues, Dequeues, Next, Again, Answering, Retiring, GetAt, FindVersion, FindCount, FindKey, FindValue, ChangeAt, LoadVersion, LoadCount, LoadKey, LoadValue, ExchangeRoot, EnqueueAt, LoadNumber, LoadNext, PassTail, ExchangeNext, ExchangeTail, DequeueAt, LoadTail, SwingTail, TakeNumber, TakeValue, ExchangeHead, Work, Getting, Changing, Enqueuing, Dequeuing, Works, KeepAt, Loosens, LoadHeld, StoreHeld, Looks, Misses, HideSpan, MarkLeft, TakeList, MarkTaken, Keeping, Idle}
use Rattle.inv_ends.specs.requests.Parents.{ended}
use Rattle.inv_all.specs.Contents.Stands.{Stood}
use Rattle.inv_all.proofs.Contents.Stands.Rounds.{TurnStood, free_stood, adds_stood, clearing_adds, clearing_next_adds, closed_adds, released_adds}

pub clearing_stood : (task : Task) (next : Next) (post : Post) (desk : Desk) (told : List Event) → TurnStood (clearing task next post desk told)
clearing_stood task next post desk told = adds_stood told (clearing task next post desk told) (clearing_adds task next post desk told)

pub same_row : (post : Post) (index slot s : ℕ) → stands post index ≡ Some slot → (slot == s) ≡ true → stands post index ≡ Some s
same_row post index slot s h e = let same : slot ≡ s = grind (arith, nat_tests) in h ∙ ap (λ (x : ℕ). Some x) same

no_link : (s : ℕ) → (0 == s + 1) ≡ true → ⊥
no_link s e = let no : 0 ≡ s + 1 = grind (arith, nat_tests) in absurd (omega arith)

link_row : (post : Post) (slot s : ℕ) → stands post 0 ≡ Some slot → (slot + 1 == s + 1) ≡ true → stands post 0 ≡ Some s
link_row post slot s h e = let same : slot ≡ s = grind (arith, nat_tests) in h ∙ ap (λ (x : ℕ). Some x) same

-- a get

got_stood : (key version : ℕ) (value : Option ℕ) (post : Post) (desk : Desk) (told : List Event) → TurnStood (gets.got key version value post desk told)
got_stood key version value post desk told =
    clearing_stood (Gets key) (Answering (the_answers.Got version value)) post desk (told ++ events.Got (bucket_of post key) version key value ∷ [])

-- the row that a get reads
abbrev Reading : Post → ℕ → Type 0
Reading post slot = (s : ℕ) → (slot == s) ≡ true → stands post 0 ≡ Some s

finding_stood : (key slot version count : ℕ) (post : Post) (desk : Desk) (more : Bool) (pair : ℕ) → Reading post slot → TurnStood (gets.finding key slot version count post desk more pair)
finding_stood key slot version count post desk true pair h = record { reads = λ s e. h s e; queue = λ s e. cc; nexts = λ s e. cc }
finding_stood key slot version count post desk false pair h = got_stood key version None post desk []

found_key_stood : (key slot version count pair : ℕ) (post : Post) (desk : Desk) (own : Bool) → Reading post slot → TurnStood (gets.found_key key slot version count pair post desk own)
found_key_stood key slot version count pair post desk true h = record { reads = λ s e. h s e; queue = λ s e. cc; nexts = λ s e. cc }
found_key_stood key slot version count pair post desk false h = finding_stood key slot version count post desk (nat_lt (pair + 1) count) (pair + 1) h

get_stood : (key : ℕ) (at : GetAt) (post : Post) (desk : Desk) (found : ℕ) → Stood (Works (Getting key at)) post → TurnStood (gets.get_turn key at post desk found)
get_stood key (FindVersion slot) post desk found h = record { reads = λ s e. h.reads s e; queue = λ s e. cc; nexts = λ s e. cc }
get_stood key (FindCount slot version) post desk found h = finding_stood key slot version found post desk (nat_lt 0 found) 0 (λ s e. h.reads s e)
get_stood key (FindKey slot version count pair) post desk found h = found_key_stood key slot version count pair post desk (found == key) (λ s e. h.reads s e)
get_stood key (FindValue slot version pair) post desk found h = got_stood key version (Some found) post desk []

-- a put or a remove

-- the row of the link that it has found
abbrev Linked : Post → ℕ → Type 0
Linked post link = (s : ℕ) → (link == s + 1) ≡ true → stands post 0 ≡ Some s

deciding_by_stood : (kept : ChangeKept) (post : Post) (desk : Desk) (told : List Event) (x : Option Answer) → Linked post kept.link → TurnStood (alters.deciding_by kept post desk told x)
deciding_by_stood kept post desk told (Some answer) h = clearing_stood (Changes kept) (Answering answer) post desk told
deciding_by_stood kept post desk told None h = record { reads = λ s e. h s e; queue = λ s e. cc; nexts = λ s e. cc }

deciding_stood : (kept : ChangeKept) (post : Post) (desk : Desk) (told : List Event) → Linked post kept.link → TurnStood (alters.deciding kept post desk told)
deciding_stood kept post desk told h = deciding_by_stood kept post desk told (alters.refused post.layout.config kept) h

reading_stood : (kept : ChangeKept) (slot count : ℕ) (post : Post) (desk : Desk) (more : Bool) → Linked post kept.link → TurnStood (alters.reading kept slot count post desk more)
reading_stood kept slot count post desk true h = record { reads = λ s e. h s e; queue = λ s e. cc; nexts = λ s e. cc }
reading_stood kept slot count post desk false h = deciding_stood kept post desk [] h

exchanged_stood : (kept : ChangeKept) (slot : ℕ) (post : Post) (desk : Desk) (same : Bool) → TurnStood (alters.exchanged kept slot post desk same)
exchanged_stood kept slot post desk true =
    clearing_stood (Changes (record kept { taken = None })) (alters.answer_done (kept.version + 1) kept.link) post desk (alters.told_linked kept slot post)
exchanged_stood kept slot post desk false = clearing_stood (Changes kept) Again post desk []

change_stood : (kept : ChangeKept) (at : ChangeAt) (post : Post) (desk : Desk) (found : ℕ) → Stood (Works (Changing kept at)) post → TurnStood (alters.change_turn kept at post desk found)
change_stood kept (LoadVersion slot) post desk found h = record { reads = λ s e. h.reads s e; queue = λ s e. cc; nexts = λ s e. cc }
change_stood kept (LoadCount slot) post desk found h = reading_stood kept slot found post desk (nat_lt 0 found) (λ s e. h.reads s e)
change_stood kept (LoadKey slot count) post desk found h = record { reads = λ s e. h.reads s e; queue = λ s e. cc; nexts = λ s e. cc }
change_stood kept (LoadValue slot count key) post desk found h = reading_stood (alters.with_read kept key found) slot count post desk (nat_lt (length kept.pairs + 1) count) (λ s e. h.reads s e)
change_stood kept (ExchangeRoot slot) post desk found h = exchanged_stood kept slot post desk (found == kept.link)

-- an enqueue

appending_stood : (kept : EnqueueKept) (post : Post) (desk : Desk) (spent : Bool) → Reading post kept.tail → TurnStood (enqueues.appending kept post desk spent)
appending_stood kept post desk true h = clearing_stood (Enqueues kept) (Answering (the_answers.Spent kept.number)) post desk []
appending_stood kept post desk false h = record { reads = λ s e. cc; queue = λ s e. h s e; nexts = λ s e. cc }

at_next_stood : (kept : EnqueueKept) (next : ℕ) (post : Post) (desk : Desk) (none : Bool) → Reading post kept.tail → TurnStood (enqueues.at_next kept next post desk none)
at_next_stood kept next post desk true h = appending_stood kept post desk (kept.number == post.layout.config.last_version) h
at_next_stood kept next post desk false h = record { reads = λ s e. cc; queue = λ s e. h s e; nexts = λ s e. cc }

appended_stood : (kept : EnqueueKept) (slot : ℕ) (post : Post) (desk : Desk) (same : Bool) → Reading post kept.tail → TurnStood (enqueues.appended kept slot post desk same)
appended_stood kept slot post desk true h = record { reads = λ s e. cc; queue = λ s e. h s e; nexts = λ s e. cc }
appended_stood kept slot post desk false h = clearing_stood (Enqueues kept) Again post desk []

enqueue_stood : (kept : EnqueueKept) (at : EnqueueAt) (post : Post) (desk : Desk) (found : ℕ) → Stood (Works (Enqueuing kept at)) post → TurnStood (enqueues.enqueue_turn kept at post desk found)
enqueue_stood kept LoadNumber post desk found h = record { reads = λ s e. cc; queue = λ s e. h.queue s e; nexts = λ s e. cc }
enqueue_stood kept LoadNext post desk found h = at_next_stood kept found post desk (found == 0) (λ s e. h.queue s e)
enqueue_stood kept (PassTail next) post desk found h =
    clearing_stood (Enqueues kept) Again post desk (enqueues.told_link root_names.Tail (next - 1) (found == kept.tail + 1))
enqueue_stood kept (ExchangeNext slot) post desk found h = appended_stood kept slot post desk (found == 0) (λ s e. h.queue s e)
enqueue_stood kept (ExchangeTail slot) post desk found h =
    clearing_stood (Enqueues kept) (Answering (the_answers.Queued (kept.number + 1))) post desk (enqueues.told_link root_names.Tail slot (found == kept.tail + 1))

-- a dequeue

clearing_next_stood : (next : Next) (post : Post) (desk : Desk) (told : List Event) → TurnStood (clearing_next next post desk told)
clearing_next_stood next post desk told = adds_stood told (clearing_next next post desk told) (clearing_next_adds next post desk told)

taken_stood : (head next number value : ℕ) (post : Post) (desk : Desk) (same : Bool) → TurnStood (dequeues.taken head next number value post desk same)
taken_stood head next number value post desk true =
    clearing_next_stood (Retiring head (the_answers.Taken number value moves.Still)) post desk (events.Link root_names.Head next ∷ events.Cut head ∷ events.Taken number value ∷ [])
taken_stood head next number value post desk false = clearing_next_stood Again post desk []

dequeue_stood : (at : DequeueAt) (post : Post) (desk : Desk) (found : ℕ) → Stood (Works (Dequeuing at)) post → TurnStood (dequeues.dequeue_turn at post desk found)
dequeue_stood (LoadTail head) post desk found h = record { reads = λ s e. cc; queue = λ s e. h.queue s e; nexts = λ s e. cc }
dequeue_stood (SwingTail head next) post desk found h = clearing_next_stood Again post desk (enqueues.told_link root_names.Tail next (found == head + 1))
dequeue_stood (TakeNumber head next) post desk found h = record { reads = λ s e. cc; queue = λ s e. h.queue s e; nexts = λ s e. h.nexts s e }
dequeue_stood (TakeValue head next number) post desk found h = record { reads = λ s e. cc; queue = λ s e. h.queue s e; nexts = λ s e. h.nexts s e }
dequeue_stood (ExchangeHead head next number value) post desk found h = taken_stood head next number value post desk (found == head + 1)

-- a look

looking_stood : (index key slot version count : ℕ) (post : Post) (desk : Desk) (more : Bool) (pair : ℕ) → ((s : ℕ) → (slot == s) ≡ true → stands post index ≡ Some s) → TurnStood (keeps.looking index key slot version count post desk more pair)
looking_stood index key slot version count post desk true pair h = record { reads = λ s e. h s e; queue = λ s e. cc; nexts = λ s e. cc }
looking_stood index key slot version count post desk false pair h = free_stood Idle post refl

looked_key_stood : (index key slot version count pair : ℕ) (post : Post) (desk : Desk) (own : Bool) → ((s : ℕ) → (slot == s) ≡ true → stands post index ≡ Some s) → TurnStood (keeps.looked_key index key slot version count pair post desk own)
looked_key_stood index key slot version count pair post desk true h = record { reads = λ s e. h s e; queue = λ s e. cc; nexts = λ s e. cc }
looked_key_stood index key slot version count pair post desk false h = looking_stood index key slot version count post desk (nat_lt (pair + 1) count) (pair + 1) h

look_stood : (index key : ℕ) (at : GetAt) (post : Post) (desk : Desk) (found : ℕ) → Stood (Works (Keeping (Looks index key at))) post → TurnStood (keeps.look_turn index key at post desk found)
look_stood index key (FindVersion slot) post desk found h = record { reads = λ s e. h.reads s e; queue = λ s e. cc; nexts = λ s e. cc }
look_stood index key (FindCount slot version) post desk found h = looking_stood index key slot version found post desk (nat_lt 0 found) 0 (λ s e. h.reads s e)
look_stood index key (FindKey slot version count pair) post desk found h = looked_key_stood index key slot version count pair post desk (found == key) (λ s e. h.reads s e)
look_stood index key (FindValue slot version pair) post desk found h = free_stood Idle post refl

-- the other steps on what is kept

copied_stood : (from index : ℕ) (post : Post) (desk : Desk) (reserved : List Event) (kept : Option ℕ) → TurnStood (keeps.copied from index post desk reserved kept)
copied_stood from index post desk reserved None = free_stood Idle _ refl
copied_stood from index post desk reserved (Some slot) = free_stood Idle _ refl

load_held_stood : (from index : ℕ) (post : Post) (desk : Desk) (found : ℕ) (one : Bool) → TurnStood (keeps.load_held from index post desk found one)
load_held_stood from index post desk found true = copied_stood from index post desk [] (stands post from)
load_held_stood from index post desk found false = free_stood _ post refl

taking_stood : (place : ℕ) (post : Post) (desk : Desk) (left : Bool) (found : ℕ) → TurnStood (keeps.taking place post desk left found)
taking_stood place post desk true found = free_stood _ post refl
taking_stood place post desk false found = free_stood Idle post refl

keep_stood : (at : KeepAt) (post : Post) (desk : Desk) (found : ℕ) → Stood (Works (Keeping at)) post → TurnStood (keeps.keep_turn at post desk found)
keep_stood (Loosens let_go) post desk found h =
    let told : List Event = cleared (let_index let_go) (stands post (let_index let_go)) in
    adds_stood told (keeps.keep_turn (Loosens let_go) post desk found) (released_adds let_go (withdrawn post (let_index let_go)) desk told)
keep_stood (LoadHeld from index) post desk found h = load_held_stood from index post desk found (has_one_interval (scheme_of post))
keep_stood (StoreHeld from index era) post desk found h = copied_stood from index post desk (publishes_index (publishes_rows (scheme_of post)) post index era) (stands post from)
keep_stood (Looks index key at) post desk found h = look_stood index key at post desk found h
keep_stood (Misses index) post desk found h = free_stood Idle post refl
keep_stood HideSpan post desk found h = free_stood (Works (Keeping MarkLeft)) _ refl
keep_stood MarkLeft post desk found h = free_stood Idle post refl
keep_stood (TakeList place) post desk found h = taking_stood place post desk (found == 1) found
keep_stood (MarkTaken place count) post desk found h = free_stood Idle post refl

pub work_stood : (work : Work) (post : Post) (desk : Desk) (found : ℕ) → Stood (Works work) post → TurnStood (steps.work_turn work post desk found)
work_stood (Getting key at) post desk found h = get_stood key at post desk found h
work_stood (Changing kept at) post desk found h = change_stood kept at post desk found h
work_stood (Enqueuing kept at) post desk found h = enqueue_stood kept at post desk found h
work_stood (Dequeuing at) post desk found h = dequeue_stood at post desk found h
work_stood (Keeping at) post desk found h = keep_stood at post desk found h

-- a root was protected

opened_row_stood : (task : Task) (slot : ℕ) (post : Post) (desk : Desk) (told : List Event) → stands post (index_of task) ≡ Some slot → TurnStood (steps.opened_row task slot post desk told)
opened_row_stood (Gets key) slot post desk told h = record { reads = λ s e. same_row post 0 slot s h e; queue = λ s e. cc; nexts = λ s e. cc }
opened_row_stood (Changes kept) slot post desk told h = record { reads = λ s e. link_row post slot s h e; queue = λ s e. cc; nexts = λ s e. cc }
opened_row_stood (Holds key) slot post desk told h = record { reads = λ s e. cc; queue = λ s e. cc; nexts = λ s e. cc }
opened_row_stood (Enqueues kept) slot post desk told h = record { reads = λ s e. cc; queue = λ s e. same_row post 0 slot s h e; nexts = λ s e. cc }
opened_row_stood Dequeues slot post desk told h = record { reads = λ s e. cc; queue = λ s e. same_row post 0 slot s h e; nexts = λ s e. cc }

opened_null_stood : (task : Task) (post : Post) (desk : Desk) (told : List Event) → TurnStood (steps.opened_null task post desk told)
opened_null_stood (Gets key) post desk told = got_stood key 0 None post desk told
opened_null_stood (Changes kept) post desk told = deciding_stood (alters.at_link kept 0) post desk told (λ s e. absurd (no_link s e))
opened_null_stood (Holds key) post desk told = clearing_stood (Holds key) (Answering the_answers.Nothing) post desk told
opened_null_stood (Enqueues kept) post desk told = clearing_stood (Enqueues kept) Again post desk told
opened_null_stood Dequeues post desk told = clearing_stood Dequeues Again post desk told

pub opened_stood : (task : Task) (ending : Ending) (post : Post) (desk : Desk) (told : List Event) → ended ending (index_of task) post → TurnStood (steps.opened task ending post desk told)
opened_stood task (Protected (protect_ends.Held slot era)) post desk told h = opened_row_stood task slot post desk told h
opened_stood task (Protected protect_ends.Null) post desk told h = opened_null_stood task post desk told
opened_stood task Done post desk told h = record { reads = λ s e. cc; queue = λ s e. cc; nexts = λ s e. cc }
opened_stood task (Followed ending) post desk told h = record { reads = λ s e. cc; queue = λ s e. cc; nexts = λ s e. cc }
opened_stood task (Allocated ending) post desk told h = record { reads = λ s e. cc; queue = λ s e. cc; nexts = λ s e. cc }
opened_stood task (Retired life) post desk told h = record { reads = λ s e. cc; queue = λ s e. cc; nexts = λ s e. cc }
opened_stood task (Clocked clock) post desk told h = record { reads = λ s e. cc; queue = λ s e. cc; nexts = λ s e. cc }

-- the head's next link was followed

abbrev pub follow_nexts : FollowEnd → Post → Type 0
follow_nexts (follow_ends.Followed slot) post = stands post 1 ≡ Some slot
follow_nexts follow_ends.NoNext post = Unit {0}
follow_nexts (follow_ends.RootMoved seen) post = Unit {0}

abbrev pub ending_nexts : Ending → Post → Type 0
ending_nexts Done post = Unit {0}
ending_nexts (Protected ending) post = Unit {0}
ending_nexts (Followed ending) post = follow_nexts ending post
ending_nexts (Allocated ending) post = Unit {0}
ending_nexts (Retired life) post = Unit {0}
ending_nexts (Clocked clock) post = Unit {0}

followed_row_stood : (head next : ℕ) (post : Post) (desk : Desk) (told : List Event) (lags : Bool) → stands post 0 ≡ Some head → stands post 1 ≡ Some next → TurnStood (dequeues.followed_row head next post desk told lags)
followed_row_stood head next post desk told true h n = record { reads = λ s e. cc; queue = λ s e. same_row post 0 head s h e; nexts = λ s e. same_row post 1 next s n e }
followed_row_stood head next post desk told false h n = record { reads = λ s e. cc; queue = λ s e. same_row post 0 head s h e; nexts = λ s e. same_row post 1 next s n e }

followed_stood : (head tail : ℕ) (ending : FollowEnd) (post : Post) (desk : Desk) (told : List Event) → stands post 0 ≡ Some head → follow_nexts ending post → TurnStood (dequeues.followed head tail ending post desk told)
followed_stood head tail (follow_ends.Followed slot) post desk told h n = followed_row_stood head slot post desk told (tail == head + 1) h n
followed_stood head tail follow_ends.NoNext post desk told h n = clearing_next_stood (Answering the_answers.Empty) post desk told
followed_stood head tail (follow_ends.RootMoved seen) post desk told h n = clearing_next_stood Again post desk told

closed_stood : (task : Task) (next : Next) (post : Post) (desk : Desk) (told : List Event) → TurnStood (closed task next post desk told)
closed_stood task next post desk told = adds_stood told (closed task next post desk told) (closed_adds task next post desk told)

pub followed_by_stood : (head tail : ℕ) (ending : Ending) (post : Post) (desk : Desk) (told : List Event) → stands post 0 ≡ Some head → ending_nexts ending post → TurnStood (steps.followed_by head tail ending post desk told)
followed_by_stood head tail (Followed ending) post desk told h n = followed_stood head tail ending post desk told h n
followed_by_stood head tail Done post desk told h n = closed_stood Dequeues Again post desk told
followed_by_stood head tail (Protected ending) post desk told h n = closed_stood Dequeues Again post desk told
followed_by_stood head tail (Allocated ending) post desk told h n = closed_stood Dequeues Again post desk told
followed_by_stood head tail (Retired life) post desk told h n = closed_stood Dequeues Again post desk told
followed_by_stood head tail (Clocked clock) post desk told h n = closed_stood Dequeues Again post desk told

-- a row was given, or written

abbrev pub task_stays : Task → Post → Type 0
task_stays (Gets key) post = Unit {0}
task_stays (Changes kept) post = (s : ℕ) → (kept.link == s + 1) ≡ true → stands post 0 ≡ Some s
task_stays (Holds key) post = Unit {0}
task_stays (Enqueues kept) post = (s : ℕ) → (kept.tail == s) ≡ true → stands post 0 ≡ Some s
task_stays Dequeues post = Unit {0}

change_given : (kept : ChangeKept) (ending : AllocateEnd) (post : Post) (desk : Desk) (told : List Event) → Linked post kept.link → TurnStood (steps.filled_by (Changes kept) ending post desk told)
change_given kept (allocate_ends.Given slot birth) post desk told h = record { reads = λ s e. h s e; queue = λ s e. cc; nexts = λ s e. cc }
change_given kept allocate_ends.Full post desk told h = clearing_stood (Changes (alters.with_walked kept)) (alters.no_room kept.walked) post desk told

item_given : (kept : EnqueueKept) (ending : AllocateEnd) (post : Post) (desk : Desk) (told : List Event) → Reading post kept.tail → TurnStood (steps.filled_by (Enqueues kept) ending post desk told)
item_given kept (allocate_ends.Given slot birth) post desk told h = record { reads = λ s e. cc; queue = λ s e. h s e; nexts = λ s e. cc }
item_given kept allocate_ends.Full post desk told h = clearing_stood (Enqueues (enqueues.item_walked kept)) (alters.no_room kept.walked) post desk told

filled_by_stood : (task : Task) (ending : AllocateEnd) (post : Post) (desk : Desk) (told : List Event) → task_stays task post → TurnStood (steps.filled_by task ending post desk told)
filled_by_stood (Changes kept) ending post desk told h = change_given kept ending post desk told h
filled_by_stood (Enqueues kept) ending post desk told h = item_given kept ending post desk told h
filled_by_stood (Gets key) ending post desk told h = closed_stood (Gets key) Again post desk told
filled_by_stood (Holds key) ending post desk told h = closed_stood (Holds key) Again post desk told
filled_by_stood Dequeues ending post desk told h = closed_stood Dequeues Again post desk told

written_row_stood : (task : Task) (post : Post) (desk : Desk) (told : List Event) → task_stays task post → TurnStood (steps.written_row task post desk told)
written_row_stood (Changes kept) post desk told h = record { reads = λ s e. h s e; queue = λ s e. cc; nexts = λ s e. cc }
written_row_stood (Enqueues kept) post desk told h = record { reads = λ s e. cc; queue = λ s e. h s e; nexts = λ s e. cc }
written_row_stood (Gets key) post desk told h = closed_stood (Gets key) Again post desk told
written_row_stood (Holds key) post desk told h = closed_stood (Holds key) Again post desk told
written_row_stood Dequeues post desk told h = closed_stood Dequeues Again post desk told

pub filled_stood : (task : Task) (ending : Ending) (post : Post) (desk : Desk) (told : List Event) → task_stays task post → TurnStood (steps.filled task ending post desk told)
filled_stood task (Allocated ending) post desk told h = filled_by_stood task ending post desk told h
filled_stood task Done post desk told h = written_row_stood task post desk told h
filled_stood task (Protected ending) post desk told h = written_row_stood task post desk told h
filled_stood task (Followed ending) post desk told h = written_row_stood task post desk told h
filled_stood task (Retired life) post desk told h = written_row_stood task post desk told h
filled_stood task (Clocked clock) post desk told h = written_row_stood task post desk told h
