-- After a machine, and after a call's own step, the parent of a followed link stands.
use Rattle.std.proofs.Common.{ℕ, ◌≡◌, ◌+◌, Bool, true, false, List, [], ◌∷◌, ◌++◌, length, drop}
use Rattle.std.specs.Prelude.{◌==◌, ◌%◌, ◌-◌, nat_lt, Option, Some, None}
use Rattle.inv_rows.specs.words.Schemes.{has_one_interval, publishes_rows}
use Rattle.inv_rows.specs.words.Schemes.{moves as moves_clock}
use Rattle.inv_rows.specs.words.declared.config.SchemeKind.{SchemeKind}
use Rattle.inv_rows.specs.words.declared.config.SchemeKind.TheVariants.{He, Hp, Ibr, Wfe}
use Rattle.inv_rows.specs.defs.declared.call.Answer.{Answer}
use Rattle.inv_rows.specs.defs.declared.call.Answer.TheVariants as the_answers
use Rattle.inv_rows.specs.defs.declared.call.Call.{Call}
use Rattle.inv_rows.specs.defs.declared.call.Call.TheVariants as names
use Rattle.inv_rows.specs.defs.declared.call.ClockMove.TheVariants as moves
use Rattle.inv_rows.specs.defs.declared.event.Event.{Event}
use Rattle.inv_rows.specs.defs.declared.event.Event.TheVariants as events
use Rattle.inv_rows.specs.defs.declared.event.Root.TheVariants as root_names
use Rattle.inv_rows.specs.defs.declared.lifetime.Interval.{Interval}
use Rattle.inv_rows.specs.model.declared.ends.AllocateEnd.{AllocateEnd}
use Rattle.inv_rows.specs.model.declared.ends.AllocateEnd.TheVariants as allocate_ends
use Rattle.inv_rows.specs.model.declared.ends.FollowEnd.{FollowEnd}
use Rattle.inv_rows.specs.model.declared.ends.FollowEnd.TheVariants as follow_ends
use Rattle.inv_rows.specs.model.declared.ends.ProtectEnd.TheVariants as protect_ends
use Rattle.inv_rows.specs.model.declared.post.Post.{Post}
use Rattle.inv_rows.specs.model.Desks.{Desk, with_life}
use Rattle.inv_rows.specs.model.Guards.{guards, guard_at, published}
use Rattle.inv_rows.specs.model.Posts.{cleared, publishes_index, stands, withdrawn, standing_from}
use Rattle.inv_rows.proofs.model.Facts.{if_by}
use Rattle.inv_rows.specs.model.Phases.{Base, Ending}
use Rattle.inv_rows.specs.model.Phases.Ending.{Done, Protected, Followed, Allocated, Retired, Clocked}
use Rattle.inv_rows.specs.model.Rounds.{bucket_of, scheme_of, index_of, taken_of, begin_span, begin_base, protect_at, finish_base, clear_base, clear_post, clear_told, round_by, round, tidy_by, given_up, closed, finishing_by, finishing, clearing_by, clearing, clearing_next_by, clearing_next, let_index, letting_by, letting, release_base}
use Rattle.inv_rows.specs.model.Get as gets
use Rattle.inv_rows.specs.model.Change as alters
use Rattle.inv_rows.specs.model.Enqueue as enqueues
use Rattle.inv_rows.specs.model.Dequeue as dequeues
use Rattle.inv_rows.specs.model.Keep as keeps
use Rattle.inv_rows.specs.model.Scan as scan
use Rattle.inv_rows.specs.model.Steps as steps
use Rattle.inv_rows.specs.model.Calls.{Task, Gets, Changes, Holds, Enqueues, Dequeues, Next, Again, MakeRoom, Answering, Retiring, AfterScan, Answered, Repeated, Counted, Why, ChangeKept, EnqueueKept, GetAt, FindVersion, FindCount, FindKey, FindValue, ChangeAt, LoadVersion, LoadCount, LoadKey, LoadValue, ExchangeRoot, EnqueueAt, LoadNumber, LoadNext, PassTail, ExchangeNext, ExchangeTail, DequeueAt, LoadTail, SwingTail, TakeNumber, TakeValue, ExchangeHead, LetGo, Released, Rehold, Dropped, Parting, KeepAt, Loosens, LoadHeld, StoreHeld, Looks, Misses, HideSpan, MarkLeft, TakeList, MarkTaken, Work, Getting, Changing, Enqueuing, Dequeuing, Keeping, ScanAt, ReadGuard, GiveBack, Opens, FollowsHead, Fills, ClearsNext, Clears, Finishes, GivesUp, Retires, Tidies, Advances, Releases, Phase}
use Rattle.inv_rows.specs.Covering.Requests.Parents.{protect_stands, phase_stands, head_in, work_stands, ended, why_ended, TurnStands}
use Rattle.inv_rows.proofs.model.Schemes.{each_begin}

protect_starts : (scheme : SchemeKind) (index : ℕ) (post : Post) → protect_stands (protect_at scheme) index post
protect_starts He index post = tt
protect_starts Ibr index post = tt
protect_starts Wfe index post = tt
protect_starts Hp index post = tt

span_stands : (task : Task) (post : Post) (span : Option Interval) → phase_stands (round_by task post (begin_span span)) post
span_stands task post None = tt
span_stands task post (Some span) = protect_starts (scheme_of post) (index_of task) post

begin_stands : (task : Task) (post : Post) (scheme : SchemeKind) → phase_stands (round_by task post (begin_base scheme post)) post
begin_stands task post scheme =
    each_begin scheme post (λ (base : Option Base). phase_stands (round_by task post base) post)
    (protect_starts (scheme_of post) (index_of task) post)
    (span_stands task post post.span)

pub round_stands : (task : Task) (post : Post) → phase_stands (round task post) post
round_stands task post = begin_stands task post (scheme_of post)

given_up_stands : (answer : Answer) (post : Post) (desk : Desk) (told : List Event) (taken : Option ℕ) → TurnStands (given_up answer post desk told taken)
given_up_stands answer post desk told None = record { stand = tt }
given_up_stands answer post desk told (Some slot) = record { stand = tt }

tidy_stands : (later : AfterScan) (post : Post) (moving : Bool) → phase_stands (tidy_by moving later post) post
tidy_stands later post true = tt
tidy_stands later post false = tt

closed_stands : (task : Task) (next : Next) (post : Post) (desk : Desk) (told : List Event) → TurnStands (closed task next post desk told)
closed_stands task Again post desk told = record { stand = round_stands task post }
closed_stands task MakeRoom post desk told = record { stand = tidy_stands (Repeated task) post (moves_clock (scheme_of post)) }
closed_stands task (Answering answer) post desk told = given_up_stands answer post desk told (taken_of task)
closed_stands task (Retiring slot answer) post desk told = record { stand = tt }

finishing_by_stands : (task : Task) (next : Next) (post : Post) (desk : Desk) (told : List Event) (base : Option Base) → TurnStands (finishing_by task next post desk told base)
finishing_by_stands task next post desk told None = closed_stands task next post desk told
finishing_by_stands task next post desk told (Some base) = record { stand = tt }

finishing_stands : (task : Task) (next : Next) (post : Post) (desk : Desk) (told : List Event) → TurnStands (finishing task next post desk told)
finishing_stands task Again post desk told = closed_stands task Again post desk told
finishing_stands task MakeRoom post desk told = finishing_by_stands task MakeRoom post desk told (finish_base (scheme_of post) post)
finishing_stands task (Answering answer) post desk told = finishing_by_stands task (Answering answer) post desk told (finish_base (scheme_of post) post)
finishing_stands task (Retiring slot answer) post desk told = finishing_by_stands task (Retiring slot answer) post desk told (finish_base (scheme_of post) post)

clearing_by_stands : (task : Task) (next : Next) (post : Post) (desk : Desk) (told : List Event) (base : Option Base) → TurnStands (clearing_by task next post desk told base)
clearing_by_stands task next post desk told None =
    finishing_stands task next (clear_post (scheme_of post) post (index_of task)) desk (told ++ clear_told (scheme_of post) post (index_of task))
clearing_by_stands task next post desk told (Some base) = record { stand = tt }

clearing_stands : (task : Task) (next : Next) (post : Post) (desk : Desk) (told : List Event) → TurnStands (clearing task next post desk told)
clearing_stands task next post desk told = clearing_by_stands task next post desk told (clear_base (scheme_of post) (index_of task))

clearing_next_by_stands : (next : Next) (post : Post) (desk : Desk) (told : List Event) (base : Option Base) → TurnStands (clearing_next_by next post desk told base)
clearing_next_by_stands next post desk told None =
    clearing_stands Dequeues next (clear_post (scheme_of post) post 1) desk (told ++ clear_told (scheme_of post) post 1)
clearing_next_by_stands next post desk told (Some base) = record { stand = tt }

clearing_next_stands : (next : Next) (post : Post) (desk : Desk) (told : List Event) → TurnStands (clearing_next next post desk told)
clearing_next_stands next post desk told = clearing_next_by_stands next post desk told (clear_base (scheme_of post) 1)

-- a call's own steps

got_stands : (key version : ℕ) (value : Option ℕ) (post : Post) (desk : Desk) (told : List Event) → TurnStands (gets.got key version value post desk told)
got_stands key version value post desk told =
    clearing_stands (Gets key) (Answering (the_answers.Got version value)) post desk (told ++ events.Got (bucket_of post key) version key value ∷ [])

finding_stands : (key slot version count : ℕ) (post : Post) (desk : Desk) (more : Bool) (pair : ℕ) → TurnStands (gets.finding key slot version count post desk more pair)
finding_stands key slot version count post desk true pair = record { stand = tt }
finding_stands key slot version count post desk false pair = got_stands key version None post desk []

found_key_stands : (key slot version count pair : ℕ) (post : Post) (desk : Desk) (own : Bool) → TurnStands (gets.found_key key slot version count pair post desk own)
found_key_stands key slot version count pair post desk true = record { stand = tt }
found_key_stands key slot version count pair post desk false = finding_stands key slot version count post desk (nat_lt (pair + 1) count) (pair + 1)

get_stands : (key : ℕ) (at : GetAt) (post : Post) (desk : Desk) (found : ℕ) → TurnStands (gets.get_turn key at post desk found)
get_stands key (FindVersion slot) post desk found = record { stand = tt }
get_stands key (FindCount slot version) post desk found = finding_stands key slot version found post desk (nat_lt 0 found) 0
get_stands key (FindKey slot version count pair) post desk found = found_key_stands key slot version count pair post desk (found == key)
get_stands key (FindValue slot version pair) post desk found = got_stands key version (Some found) post desk []

deciding_by_stands : (kept : ChangeKept) (post : Post) (desk : Desk) (told : List Event) (x : Option Answer) → TurnStands (alters.deciding_by kept post desk told x)
deciding_by_stands kept post desk told (Some answer) = clearing_stands (Changes kept) (Answering answer) post desk told
deciding_by_stands kept post desk told None = record { stand = tt }

deciding_stands : (kept : ChangeKept) (post : Post) (desk : Desk) (told : List Event) → TurnStands (alters.deciding kept post desk told)
deciding_stands kept post desk told = deciding_by_stands kept post desk told (alters.refused post.layout.config kept)

reading_stands : (kept : ChangeKept) (slot count : ℕ) (post : Post) (desk : Desk) (more : Bool) → TurnStands (alters.reading kept slot count post desk more)
reading_stands kept slot count post desk true = record { stand = tt }
reading_stands kept slot count post desk false = deciding_stands kept post desk []

exchanged_stands : (kept : ChangeKept) (slot : ℕ) (post : Post) (desk : Desk) (same : Bool) → TurnStands (alters.exchanged kept slot post desk same)
exchanged_stands kept slot post desk true =
    clearing_stands (Changes (record kept { taken = None })) (alters.answer_done (kept.version + 1) kept.link) post desk (alters.told_linked kept slot post)
exchanged_stands kept slot post desk false = clearing_stands (Changes kept) Again post desk []

change_stands : (kept : ChangeKept) (at : ChangeAt) (post : Post) (desk : Desk) (found : ℕ) → TurnStands (alters.change_turn kept at post desk found)
change_stands kept (LoadVersion slot) post desk found = record { stand = tt }
change_stands kept (LoadCount slot) post desk found = reading_stands kept slot found post desk (nat_lt 0 found)
change_stands kept (LoadKey slot count) post desk found = record { stand = tt }
change_stands kept (LoadValue slot count key) post desk found = reading_stands (alters.with_read kept key found) slot count post desk (nat_lt (length kept.pairs + 1) count)
change_stands kept (ExchangeRoot slot) post desk found = exchanged_stands kept slot post desk (found == kept.link)

appending_stands : (kept : EnqueueKept) (post : Post) (desk : Desk) (spent : Bool) → TurnStands (enqueues.appending kept post desk spent)
appending_stands kept post desk true = clearing_stands (Enqueues kept) (Answering (the_answers.Spent kept.number)) post desk []
appending_stands kept post desk false = record { stand = tt }

at_next_stands : (kept : EnqueueKept) (next : ℕ) (post : Post) (desk : Desk) (none : Bool) → TurnStands (enqueues.at_next kept next post desk none)
at_next_stands kept next post desk true = appending_stands kept post desk (kept.number == post.layout.config.last_version)
at_next_stands kept next post desk false = record { stand = tt }

appended_stands : (kept : EnqueueKept) (slot : ℕ) (post : Post) (desk : Desk) (same : Bool) → TurnStands (enqueues.appended kept slot post desk same)
appended_stands kept slot post desk true = record { stand = tt }
appended_stands kept slot post desk false = clearing_stands (Enqueues kept) Again post desk []

enqueue_stands : (kept : EnqueueKept) (at : EnqueueAt) (post : Post) (desk : Desk) (found : ℕ) → TurnStands (enqueues.enqueue_turn kept at post desk found)
enqueue_stands kept LoadNumber post desk found = record { stand = tt }
enqueue_stands kept LoadNext post desk found = at_next_stands kept found post desk (found == 0)
enqueue_stands kept (PassTail next) post desk found =
    clearing_stands (Enqueues kept) Again post desk (enqueues.told_link root_names.Tail (next - 1) (found == kept.tail + 1))
enqueue_stands kept (ExchangeNext slot) post desk found = appended_stands kept slot post desk (found == 0)
enqueue_stands kept (ExchangeTail slot) post desk found =
    clearing_stands (Enqueues kept) (Answering (the_answers.Queued (kept.number + 1))) post desk (enqueues.told_link root_names.Tail slot (found == kept.tail + 1))

taken_stands : (head next number value : ℕ) (post : Post) (desk : Desk) (same : Bool) → TurnStands (dequeues.taken head next number value post desk same)
taken_stands head next number value post desk true =
    clearing_next_stands (Retiring head (the_answers.Taken number value moves.Still)) post desk (events.Link root_names.Head next ∷ events.Cut head ∷ events.Taken number value ∷ [])
taken_stands head next number value post desk false = clearing_next_stands Again post desk []

dequeue_stands : (at : DequeueAt) (post : Post) (desk : Desk) (found : ℕ) → stands post 0 ≡ Some (head_in at) → TurnStands (dequeues.dequeue_turn at post desk found)
dequeue_stands (LoadTail head) post desk found h = record { stand = h }
dequeue_stands (SwingTail head next) post desk found h = clearing_next_stands Again post desk (enqueues.told_link root_names.Tail next (found == head + 1))
dequeue_stands (TakeNumber head next) post desk found h = record { stand = h }
dequeue_stands (TakeValue head next number) post desk found h = record { stand = h }
dequeue_stands (ExchangeHead head next number value) post desk found h = taken_stands head next number value post desk (found == head + 1)

-- something is let go

letting_by_stands : (let_go : LetGo) (base : Option Base) (post : Post) → phase_stands (letting_by let_go base) post
letting_by_stands let_go None post = tt
letting_by_stands let_go (Some base) post = tt

letting_stands : (let_go : LetGo) (post : Post) → phase_stands (letting let_go post) post
letting_stands let_go post = letting_by_stands let_go (release_base (scheme_of post) post (let_index let_go)) post

-- a seat leaves
parting_stands : (rows : Bool) (x : Option ℕ) (post : Post) → phase_stands (keeps.parting_index rows x) post
parting_stands rows None post = tt
parting_stands rows (Some index) post = tt

parting_span_stands : (x : Option Interval) (post : Post) → phase_stands (keeps.parting_span x) post
parting_span_stands None post = tt
parting_span_stands (Some span) post = tt

leaving_stands : (post : Post) → phase_stands (keeps.parting post) post
leaving_stands post =
    if_by (has_one_interval (scheme_of post)) (keeps.parting_span post.span) (keeps.parting_from 2 post) (λ (phase : Phase). phase_stands phase post)
    (λ e. parting_span_stands post.span post)
    (λ e. parting_stands (publishes_rows (scheme_of post)) (standing_from 2 (drop 2 post.standing)) post)

taking_stands : (place : ℕ) (post : Post) (desk : Desk) (left : Bool) (found : ℕ) → TurnStands (keeps.taking place post desk left found)
taking_stands place post desk true found = record { stand = tt }
taking_stands place post desk false found = record { stand = tt }

released_stands : (let_go : LetGo) (post : Post) (desk : Desk) (told : List Event) → TurnStands (keeps.released let_go post desk told)
released_stands Released post desk told = record { stand = tt }
released_stands (Rehold key) post desk told = record { stand = round_stands (Holds key) post }
released_stands (Dropped index) post desk told = record { stand = tt }
released_stands (Parting index) post desk told = record { stand = parting_stands (publishes_rows (scheme_of post)) (standing_from (index + 1) (drop (index + 1) post.standing)) post }

copied_stands : (from index : ℕ) (post : Post) (desk : Desk) (reserved : List Event) (kept : Option ℕ) → TurnStands (keeps.copied from index post desk reserved kept)
copied_stands from index post desk reserved None = record { stand = tt }
copied_stands from index post desk reserved (Some slot) = record { stand = tt }

load_held_stands : (from index : ℕ) (post : Post) (desk : Desk) (found : ℕ) (one : Bool) → TurnStands (keeps.load_held from index post desk found one)
load_held_stands from index post desk found true = copied_stands from index post desk [] (stands post from)
load_held_stands from index post desk found false = record { stand = tt }

looking_stands : (index key slot version count : ℕ) (post : Post) (desk : Desk) (more : Bool) (pair : ℕ) → TurnStands (keeps.looking index key slot version count post desk more pair)
looking_stands index key slot version count post desk true pair = record { stand = tt }
looking_stands index key slot version count post desk false pair = record { stand = tt }

looked_key_stands : (index key slot version count pair : ℕ) (post : Post) (desk : Desk) (own : Bool) → TurnStands (keeps.looked_key index key slot version count pair post desk own)
looked_key_stands index key slot version count pair post desk true = record { stand = tt }
looked_key_stands index key slot version count pair post desk false = looking_stands index key slot version count post desk (nat_lt (pair + 1) count) (pair + 1)

look_stands : (index key : ℕ) (at : GetAt) (post : Post) (desk : Desk) (found : ℕ) → TurnStands (keeps.look_turn index key at post desk found)
look_stands index key (FindVersion slot) post desk found = record { stand = tt }
look_stands index key (FindCount slot version) post desk found = looking_stands index key slot version found post desk (nat_lt 0 found) 0
look_stands index key (FindKey slot version count pair) post desk found = looked_key_stands index key slot version count pair post desk (found == key)
look_stands index key (FindValue slot version pair) post desk found = record { stand = tt }

keep_stands : (at : KeepAt) (post : Post) (desk : Desk) (found : ℕ) → TurnStands (keeps.keep_turn at post desk found)
keep_stands (Loosens let_go) post desk found = released_stands let_go (withdrawn post (let_index let_go)) desk (cleared (let_index let_go) (stands post (let_index let_go)))
keep_stands (LoadHeld from index) post desk found = load_held_stands from index post desk found (has_one_interval (scheme_of post))
keep_stands (StoreHeld from index era) post desk found = copied_stands from index post desk (publishes_index (publishes_rows (scheme_of post)) post index era) (stands post from)
keep_stands (Looks index key at) post desk found = look_stands index key at post desk found
keep_stands (Misses index) post desk found = record { stand = tt }
keep_stands HideSpan post desk found = record { stand = tt }
keep_stands MarkLeft post desk found = record { stand = tt }
keep_stands (TakeList place) post desk found = taking_stands place post desk (found == 1) found
keep_stands (MarkTaken place count) post desk found = record { stand = tt }

pub work_turn_stands : (work : Work) (post : Post) (desk : Desk) (found : ℕ) → work_stands work post → TurnStands (steps.work_turn work post desk found)
work_turn_stands (Getting key at) post desk found h = get_stands key at post desk found
work_turn_stands (Changing kept at) post desk found h = change_stands kept at post desk found
work_turn_stands (Enqueuing kept at) post desk found h = enqueue_stands kept at post desk found
work_turn_stands (Dequeuing at) post desk found h = dequeue_stands at post desk found h
work_turn_stands (Keeping at) post desk found h = keep_stands at post desk found

-- a scan

scanned_stands : (later : AfterScan) (post : Post) (desk : Desk) (told : List Event) → TurnStands (scan.scanned later post desk told)
scanned_stands (Answered answer) post desk told = record { stand = tt }
scanned_stands (Repeated task) post desk told = record { stand = round_stands task post }
scanned_stands Counted post desk told = record { stand = tt }

giving_back_stands : (later : AfterScan) (post : Post) (desk : Desk) (told : List Event) (x : Option scan.Entry) → TurnStands (scan.giving_back later post desk told x)
giving_back_stands later post desk told None = scanned_stands later post (scan.with_kept desk) told
giving_back_stands later post desk told (Some entry) = record { stand = tt }

reading_guard_stands : (later : AfterScan) (number : ℕ) (post : Post) (desk : Desk) (told : List Event) (more : Bool) → TurnStands (scan.reading later number post desk told more)
reading_guard_stands later number post desk told true = record { stand = tt }
reading_guard_stands later number post desk told false = giving_back_stands later post desk told (scan.unmet_from desk 0)

pub scan_turn_stands : (later : AfterScan) (at : ScanAt) (post : Post) (desk : Desk) (found : ℕ) → TurnStands (scan.scan_turn later at post desk found)
scan_turn_stands later (ReadGuard number) post desk found =
    let guard = guard_at post.layout.config number in
    let rows = publishes_rows (scheme_of post) in
    reading_guard_stands later number post (scan.with_read desk number (guard, published rows guard found)) (scan.reads_guard rows guard found ∷ []) (nat_lt (number + 1) (guards post.layout.config))
scan_turn_stands later (GiveBack place slot) post desk found =
    giving_back_stands later post (scan.with_back desk place) (events.Back slot ∷ []) (scan.unmet_from (scan.with_back desk place) place)

-- after a machine

opened_row_stands : (task : Task) (slot : ℕ) (post : Post) (desk : Desk) (told : List Event) → stands post (index_of task) ≡ Some slot → TurnStands (steps.opened_row task slot post desk told)
opened_row_stands (Gets key) slot post desk told h = record { stand = tt }
opened_row_stands (Changes kept) slot post desk told h = record { stand = tt }
opened_row_stands (Holds key) slot post desk told h = record { stand = tt }
opened_row_stands (Enqueues kept) slot post desk told h = record { stand = tt }
opened_row_stands Dequeues slot post desk told h = record { stand = h }

opened_null_stands : (task : Task) (post : Post) (desk : Desk) (told : List Event) → TurnStands (steps.opened_null task post desk told)
opened_null_stands (Gets key) post desk told = got_stands key 0 None post desk told
opened_null_stands (Changes kept) post desk told = deciding_stands (alters.at_link kept 0) post desk told
opened_null_stands (Holds key) post desk told = clearing_stands (Holds key) (Answering the_answers.Nothing) post desk told
opened_null_stands (Enqueues kept) post desk told = clearing_stands (Enqueues kept) Again post desk told
opened_null_stands Dequeues post desk told = clearing_stands Dequeues Again post desk told

opened_stands : (task : Task) (ending : Ending) (post : Post) (desk : Desk) (told : List Event) → ended ending (index_of task) post → TurnStands (steps.opened task ending post desk told)
opened_stands task Done post desk told h = record { stand = protect_starts (scheme_of post) (index_of task) post }
opened_stands task (Protected (protect_ends.Held slot era)) post desk told h = opened_row_stands task slot post desk told h
opened_stands task (Protected protect_ends.Null) post desk told h = opened_null_stands task post desk told
opened_stands task (Followed ending) post desk told h = record { stand = protect_starts (scheme_of post) (index_of task) post }
opened_stands task (Allocated ending) post desk told h = record { stand = protect_starts (scheme_of post) (index_of task) post }
opened_stands task (Retired life) post desk told h = record { stand = protect_starts (scheme_of post) (index_of task) post }
opened_stands task (Clocked clock) post desk told h = record { stand = protect_starts (scheme_of post) (index_of task) post }

filled_by_stands : (task : Task) (ending : AllocateEnd) (post : Post) (desk : Desk) (told : List Event) → TurnStands (steps.filled_by task ending post desk told)
filled_by_stands (Changes kept) (allocate_ends.Given slot birth) post desk told = record { stand = tt }
filled_by_stands (Changes kept) allocate_ends.Full post desk told = clearing_stands (Changes (alters.with_walked kept)) (alters.no_room kept.walked) post desk told
filled_by_stands (Enqueues kept) (allocate_ends.Given slot birth) post desk told = record { stand = tt }
filled_by_stands (Enqueues kept) allocate_ends.Full post desk told = clearing_stands (Enqueues (enqueues.item_walked kept)) (alters.no_room kept.walked) post desk told
filled_by_stands (Gets key) ending post desk told = closed_stands (Gets key) Again post desk told
filled_by_stands (Holds key) ending post desk told = closed_stands (Holds key) Again post desk told
filled_by_stands Dequeues ending post desk told = closed_stands Dequeues Again post desk told

written_row_stands : (task : Task) (post : Post) (desk : Desk) (told : List Event) → TurnStands (steps.written_row task post desk told)
written_row_stands (Changes kept) post desk told = record { stand = tt }
written_row_stands (Enqueues kept) post desk told = record { stand = tt }
written_row_stands (Gets key) post desk told = closed_stands (Gets key) Again post desk told
written_row_stands (Holds key) post desk told = closed_stands (Holds key) Again post desk told
written_row_stands Dequeues post desk told = closed_stands Dequeues Again post desk told

filled_stands : (task : Task) (ending : Ending) (post : Post) (desk : Desk) (told : List Event) → TurnStands (steps.filled task ending post desk told)
filled_stands task (Allocated ending) post desk told = filled_by_stands task ending post desk told
filled_stands task Done post desk told = written_row_stands task post desk told
filled_stands task (Protected ending) post desk told = written_row_stands task post desk told
filled_stands task (Followed ending) post desk told = written_row_stands task post desk told
filled_stands task (Retired life) post desk told = written_row_stands task post desk told
filled_stands task (Clocked clock) post desk told = written_row_stands task post desk told

followed_row_stands : (head next : ℕ) (post : Post) (desk : Desk) (told : List Event) (lags : Bool) → stands post 0 ≡ Some head → TurnStands (dequeues.followed_row head next post desk told lags)
followed_row_stands head next post desk told true h = record { stand = h }
followed_row_stands head next post desk told false h = record { stand = h }

followed_stands : (head tail : ℕ) (ending : FollowEnd) (post : Post) (desk : Desk) (told : List Event) → stands post 0 ≡ Some head → TurnStands (dequeues.followed head tail ending post desk told)
followed_stands head tail (follow_ends.Followed slot) post desk told h = followed_row_stands head slot post desk told (tail == head + 1) h
followed_stands head tail follow_ends.NoNext post desk told h = clearing_next_stands (Answering the_answers.Empty) post desk told
followed_stands head tail (follow_ends.RootMoved seen) post desk told h = clearing_next_stands Again post desk told

followed_by_stands : (head tail : ℕ) (ending : Ending) (post : Post) (desk : Desk) (told : List Event) → stands post 0 ≡ Some head → TurnStands (steps.followed_by head tail ending post desk told)
followed_by_stands head tail (Followed ending) post desk told h = followed_stands head tail ending post desk told h
followed_by_stands head tail Done post desk told h = closed_stands Dequeues Again post desk told
followed_by_stands head tail (Protected ending) post desk told h = closed_stands Dequeues Again post desk told
followed_by_stands head tail (Allocated ending) post desk told h = closed_stands Dequeues Again post desk told
followed_by_stands head tail (Retired life) post desk told h = closed_stands Dequeues Again post desk told
followed_by_stands head tail (Clocked clock) post desk told h = closed_stands Dequeues Again post desk told

tidying_stands : (answer : Answer) (post : Post) (desk : Desk) (told : List Event) (due : Bool) → TurnStands (steps.tidying answer post desk told due)
tidying_stands answer post desk told true = record { stand = tidy_stands (Answered answer) post (moves_clock (scheme_of post)) }
tidying_stands answer post desk told false = record { stand = tt }

retired_by_stands : (answer : Answer) (ending : Ending) (post : Post) (desk : Desk) (told : List Event) → TurnStands (steps.retired_by answer ending post desk told)
retired_by_stands answer (Retired life) post desk told = tidying_stands answer post (with_life desk life) told (post.retired % post.layout.config.every == 0)
retired_by_stands answer Done post desk told = record { stand = tt }
retired_by_stands answer (Protected ending) post desk told = record { stand = tt }
retired_by_stands answer (Followed ending) post desk told = record { stand = tt }
retired_by_stands answer (Allocated ending) post desk told = record { stand = tt }
retired_by_stands answer (Clocked clock) post desk told = record { stand = tt }

tidied_stands : (later : AfterScan) (ending : Ending) (post : Post) (desk : Desk) (told : List Event) → TurnStands (steps.tidied later ending post desk told)
tidied_stands later (Clocked clock) post desk told = record { stand = tt }
tidied_stands later Done post desk told = record { stand = tt }
tidied_stands later (Protected ending) post desk told = record { stand = tt }
tidied_stands later (Followed ending) post desk told = record { stand = tt }
tidied_stands later (Allocated ending) post desk told = record { stand = tt }
tidied_stands later (Retired life) post desk told = record { stand = tt }

advanced_stands : (ending : Ending) (post : Post) (desk : Desk) (told : List Event) → TurnStands (steps.advanced ending post desk told)
advanced_stands (Clocked clock) post desk told = record { stand = tt }
advanced_stands Done post desk told = record { stand = tt }
advanced_stands (Protected ending) post desk told = record { stand = tt }
advanced_stands (Followed ending) post desk told = record { stand = tt }
advanced_stands (Allocated ending) post desk told = record { stand = tt }
advanced_stands (Retired life) post desk told = record { stand = tt }

pub resume_stands : (why : Why) (ending : Ending) (post : Post) (desk : Desk) (told : List Event) → why_ended why ending post → TurnStands (steps.resume why ending post desk told)
resume_stands (Opens task) ending post desk told h = opened_stands task ending post desk told h
resume_stands (FollowsHead head tail) ending post desk told h = followed_by_stands head tail ending post desk told h
resume_stands (Fills task) ending post desk told h = filled_stands task ending post desk told
resume_stands (ClearsNext next) ending post desk told h = clearing_stands Dequeues next post desk told
resume_stands (Clears task next) ending post desk told h = finishing_stands task next post desk told
resume_stands (Finishes task next) ending post desk told h = closed_stands task next post desk told
resume_stands (GivesUp answer) ending post desk told h = record { stand = tt }
resume_stands (Retires answer) ending post desk told h = retired_by_stands answer ending post desk told
resume_stands (Tidies later) ending post desk told h = tidied_stands later ending post desk told
resume_stands Advances ending post desk told h = advanced_stands ending post desk told
resume_stands (Releases let_go) ending post desk told h = released_stands let_go post desk told

-- a call's first phase

holding_stands : (key : ℕ) (post : Post) (held : Option ℕ) → phase_stands (steps.holding key post held) post
holding_stands key post None = round_stands (Holds key) post
holding_stands key post (Some slot) = letting_stands (Rehold key) post

copying_stands : (from index : ℕ) (post : Post) (kept : Option ℕ) → phase_stands (steps.copying from index kept) post
copying_stands from index post None = tt
copying_stands from index post (Some slot) = tt

looking_at_stands : (index key : ℕ) (post : Post) (kept : Option ℕ) → phase_stands (steps.looking_at index key kept) post
looking_at_stands index key post None = tt
looking_at_stands index key post (Some slot) = tt

pub first_stands : (call : Call) (post : Post) → phase_stands (steps.first_phase call post) post
first_stands (names.Get key) post = round_stands (Gets key) post
first_stands (names.Put key value) post = begin_stands _ post (scheme_of post)
first_stands (names.Remove key) post = begin_stands _ post (scheme_of post)
first_stands (names.Enqueue value) post = begin_stands _ post (scheme_of post)
first_stands names.Dequeue post = round_stands Dequeues post
first_stands (names.Hold key) post = holding_stands key post (stands post 2)
first_stands names.Release post = letting_stands Released post
first_stands names.Advance post = tt
first_stands names.Scan post = tt
first_stands (names.Copy from index) post = copying_stands from index post (stands post from)
first_stands (names.DropIndex index) post = letting_stands (Dropped index) post
first_stands (names.Look index key) post = looking_at_stands index key post (stands post index)
first_stands (names.PutIf key value version) post = begin_stands _ post (scheme_of post)
first_stands names.Leave post = leaving_stands post
first_stands (names.Adopt place) post = tt
