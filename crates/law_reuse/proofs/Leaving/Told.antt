-- No step tells that a list is left or taken over, but the two that do it.
use Rattle.std.proofs.Common.{ℕ, ◌≡◌, ◌+◌, ◌-◌, Bool, true, false, List, [], ◌∷◌, ◌++◌, length, Option, Some, None, refl}
use Rattle.std.specs.Prelude.{◌==◌, ◌%◌, nat_lt, if◌then◌else◌, not, ◌||◌}
use Rattle.inv_all.specs.model.defs.Shown.{Seen}
use Rattle.inv_all.specs.model.defs.declared.fold.Change.{Change}
use Rattle.inv_all.specs.model.defs.declared.fold.Change.TheVariants as changes
use Rattle.inv_all.specs.model.defs.declared.call.Answer.{Answer}
use Rattle.inv_all.specs.model.defs.declared.call.Answer.TheVariants as the_answers
use Rattle.inv_all.specs.model.defs.declared.call.ClockMove.TheVariants as moves
use Rattle.inv_all.specs.model.defs.declared.event.Event.{Event}
use Rattle.inv_all.specs.model.defs.declared.event.Event.TheVariants as events
use Rattle.inv_all.specs.model.defs.declared.event.Root.{Root}
use Rattle.inv_all.specs.model.defs.declared.event.Root.TheVariants as roots
use Rattle.inv_all.specs.model.declared.ends.AllocateEnd.{AllocateEnd}
use Rattle.inv_all.specs.model.declared.ends.AllocateEnd.TheVariants as allocate_ends
use Rattle.inv_all.specs.model.declared.ends.FollowEnd.{FollowEnd}
use Rattle.inv_all.specs.model.declared.ends.FollowEnd.TheVariants as follow_ends
use Rattle.inv_all.specs.model.declared.ends.ProtectEnd.TheVariants as protect_ends
use Rattle.inv_all.specs.model.declared.post.Post.{Post}
use Rattle.inv_all.specs.model.Change as alters
use Rattle.inv_all.specs.model.Desks.{Desk, with_life}
use Rattle.inv_all.specs.model.Dequeue as dequeues
use Rattle.inv_all.specs.model.Enqueue as enqueues
use Rattle.inv_all.specs.model.Get as gets
use Rattle.inv_all.specs.model.Guards.{guards, guard_at, published}
use Rattle.inv_all.specs.model.Keep as keeps
use Rattle.inv_all.specs.model.Locals.{told_by, told_end}
use Rattle.inv_all.specs.model.Machine as machine
use Rattle.inv_all.specs.model.Posts.{cleared, publishes_index, stands, withdrawn}
use Rattle.inv_all.specs.model.Scan as scan
use Rattle.inv_all.specs.model.Steps as steps
use Rattle.inv_all.specs.model.Rounds.{scheme_of, bucket_of, index_of, taken_of, finish_base, clear_base, clear_post, clear_told, given_up, closed, finishing_by, finishing, clearing_by, clearing, clearing_next_by, clearing_next, let_index}
use Rattle.inv_all.specs.model.words.Schemes.{has_one_interval, publishes_rows}
use Rattle.inv_all.specs.model.Phases.{Base, Ending, Outcome, Goes, Ends}
use Rattle.inv_all.specs.model.Phases.Ending.{Done, Protected, Followed, Allocated, Retired, Clocked}
use Rattle.inv_all.specs.model.Calls.{Task, Gets, Changes, Holds, Enqueues, Dequeues, Next, Again, MakeRoom, Answering, Retiring, AfterScan, Answered, Repeated, Counted, ChangeKept, EnqueueKept, GetAt, FindVersion, FindCount, FindKey, FindValue, ChangeAt, LoadVersion, LoadCount, LoadKey, LoadValue, ExchangeRoot, EnqueueAt, LoadNumber, LoadNext, PassTail, ExchangeNext, ExchangeTail, DequeueAt, SwingTail, ExchangeHead, Work, Getting, Changing, Enqueuing, Dequeuing, Keeping, KeepAt, Loosens, LoadHeld, StoreHeld, Looks, Misses, HideSpan, MarkLeft, TakeList, MarkTaken, LetGo, Released, Rehold, Dropped, Parting, ScanAt, ReadGuard, GiveBack, Why, Opens, FollowsHead, Fills, ClearsNext, Clears, Finishes, GivesUp, Retires, Tidies, Advances, Releases, Phase, Idle, Runs, Scans, Works, CallTurn, CallOutcome, GoesOn, Answers}
use Rattle.inv_all.proofs.history.AllOf.{all_of, of_along, of_weaker}
use Rattle.inv_all.proofs.history.MayTell.{base_all, clear_all, work_all}
use Rattle.inv_all.proofs.history.Passes.{copied_told, keep_told, scan_told, work_told}
use Rattle.inv_all.proofs.Machines.{is_machine, scan_machine, tells_machine}
use Rattle.laws.specs.Lists.{is_handed, is_left}
use Rattle.inv_all.specs.model.words.declared.config.SchemeKind.{SchemeKind}

-- a list is neither left nor taken over
abbrev pub is_kept : Event → Bool
is_kept event = not (is_left event || is_handed event)

abbrev Kept : List Event → Type 0
Kept told = all_of is_kept told ≡ true

kept_more : (told more : List Event) → Kept told → Kept more → Kept (told ++ more)
kept_more told more h k = of_along is_kept told more h k

clear_kept : (scheme : SchemeKind) (post : Post) (index : ℕ) → Kept (clear_told scheme post index)
clear_kept scheme post index = clear_all is_kept scheme post index (λ index slot. refl)

cut_kept : (link : ℕ) → Kept (alters.told_cut link)
cut_kept link = by (link == 0)
  where
    by : (b : Bool) → Kept (if b then [] else events.Cut (link - 1) ∷ [])
    by true = refl
    by false = refl

altered_kept : (bucket version : ℕ) (change : Change) → Kept (alters.told_change bucket version change ∷ [])
altered_kept bucket version (changes.Put key value) = refl
altered_kept bucket version (changes.Removed key) = refl

linked_kept : (kept : ChangeKept) (slot : ℕ) (post : Post) → Kept (alters.told_linked kept slot post)
linked_kept kept slot post =
    kept_more (alters.told_cut kept.link) (alters.told_change (alters.changed_bucket kept post) (kept.version + 1) kept.change ∷ []) (cut_kept kept.link) (altered_kept (alters.changed_bucket kept post) (kept.version + 1) kept.change)

link_kept : (root : Root) (slot : ℕ) (same : Bool) → Kept (enqueues.told_link root slot same)
link_kept root slot true = refl
link_kept root slot false = refl

-- the end of a round
given_up_keeps : (answer : Answer) (post : Post) (desk : Desk) (told : List Event) (x : Option ℕ) → Kept told → Kept (given_up answer post desk told x).told
given_up_keeps answer post desk told None h = h
given_up_keeps answer post desk told (Some slot) h = h

closed_keeps : (task : Task) (next : Next) (post : Post) (desk : Desk) (told : List Event) → Kept told → Kept (closed task next post desk told).told
closed_keeps task Again post desk told h = h
closed_keeps task MakeRoom post desk told h = h
closed_keeps task (Answering answer) post desk told h = given_up_keeps answer post desk told (taken_of task) h
closed_keeps task (Retiring slot answer) post desk told h = h

finishing_by_keeps : (task : Task) (next : Next) (post : Post) (desk : Desk) (told : List Event) (x : Option Base) → Kept told → Kept (finishing_by task next post desk told x).told
finishing_by_keeps task next post desk told None h = closed_keeps task next post desk told h
finishing_by_keeps task next post desk told (Some base) h = h

finishing_keeps : (task : Task) (next : Next) (post : Post) (desk : Desk) (told : List Event) → Kept told → Kept (finishing task next post desk told).told
finishing_keeps task Again post desk told h = closed_keeps task Again post desk told h
finishing_keeps task MakeRoom post desk told h = finishing_by_keeps task MakeRoom post desk told (finish_base (scheme_of post) post) h
finishing_keeps task (Answering answer) post desk told h = finishing_by_keeps task (Answering answer) post desk told (finish_base (scheme_of post) post) h
finishing_keeps task (Retiring slot answer) post desk told h = finishing_by_keeps task (Retiring slot answer) post desk told (finish_base (scheme_of post) post) h

clearing_by_keeps : (task : Task) (next : Next) (post : Post) (desk : Desk) (told : List Event) (x : Option Base) → Kept told → Kept (clearing_by task next post desk told x).told
clearing_by_keeps task next post desk told None h = finishing_keeps task next (clear_post (scheme_of post) post (index_of task)) desk (told ++ clear_told (scheme_of post) post (index_of task)) (kept_more told (clear_told (scheme_of post) post (index_of task)) h (clear_kept (scheme_of post) post (index_of task)))
clearing_by_keeps task next post desk told (Some base) h = h

clearing_keeps : (task : Task) (next : Next) (post : Post) (desk : Desk) (told : List Event) → Kept told → Kept (clearing task next post desk told).told
clearing_keeps task next post desk told h = clearing_by_keeps task next post desk told (clear_base (scheme_of post) (index_of task)) h

clearing_next_by_keeps : (next : Next) (post : Post) (desk : Desk) (told : List Event) (x : Option Base) → Kept told → Kept (clearing_next_by next post desk told x).told
clearing_next_by_keeps next post desk told None h = clearing_keeps Dequeues next (clear_post (scheme_of post) post 1) desk (told ++ clear_told (scheme_of post) post 1) (kept_more told (clear_told (scheme_of post) post 1) h (clear_kept (scheme_of post) post 1))
clearing_next_by_keeps next post desk told (Some base) h = h

clearing_next_keeps : (next : Next) (post : Post) (desk : Desk) (told : List Event) → Kept told → Kept (clearing_next next post desk told).told
clearing_next_keeps next post desk told h = clearing_next_by_keeps next post desk told (clear_base (scheme_of post) 1) h

-- a get
got_keeps : (key version : ℕ) (value : Option ℕ) (post : Post) (desk : Desk) (told : List Event) → Unit {0} → Kept told → Kept (gets.got key version value post desk told).told
got_keeps key version value post desk told a h = clearing_keeps (Gets key) (Answering (the_answers.Got version value)) post desk (told ++ events.Got (bucket_of post key) version key value ∷ []) (kept_more told (events.Got (bucket_of post key) version key value ∷ []) h refl)

finding_keeps : (key slot version count : ℕ) (post : Post) (desk : Desk) (on : Bool) (pair : ℕ) → Unit {0} → Kept [] → Kept (gets.finding key slot version count post desk on pair).told
finding_keeps key slot version count post desk true pair a h = h
finding_keeps key slot version count post desk false pair a h = got_keeps key version None post desk [] a h

found_key_keeps : (key slot version count pair : ℕ) (post : Post) (desk : Desk) (own : Bool) → Unit {0} → Kept [] → Kept (gets.found_key key slot version count pair post desk own).told
found_key_keeps key slot version count pair post desk true a h = h
found_key_keeps key slot version count pair post desk false a h = finding_keeps key slot version count post desk (nat_lt (pair + 1) count) (pair + 1) a h

get_keeps : (key : ℕ) (at : GetAt) (post : Post) (desk : Desk) (found : ℕ) → Unit {0} → Kept [] → Kept (gets.get_turn key at post desk found).told
get_keeps key (FindVersion slot) post desk found a h = h
get_keeps key (FindCount slot version) post desk found a h = finding_keeps key slot version found post desk (nat_lt 0 found) 0 a h
get_keeps key (FindKey slot version count pair) post desk found a h = found_key_keeps key slot version count pair post desk (found == key) a h
get_keeps key (FindValue slot version pair) post desk found a h = got_keeps key version (Some found) post desk [] a h

-- a change
deciding_by_keeps : (kept : ChangeKept) (post : Post) (desk : Desk) (told : List Event) (x : Option Answer) → Kept told → Kept (alters.deciding_by kept post desk told x).told
deciding_by_keeps kept post desk told (Some answer) h = clearing_keeps (Changes kept) (Answering answer) post desk told h
deciding_by_keeps kept post desk told None h = h

deciding_keeps : (kept : ChangeKept) (post : Post) (desk : Desk) (told : List Event) → Kept told → Kept (alters.deciding kept post desk told).told
deciding_keeps kept post desk told h = deciding_by_keeps kept post desk told (alters.refused post.layout.config kept) h

reading_keeps : (kept : ChangeKept) (slot count : ℕ) (post : Post) (desk : Desk) (on : Bool) → Kept [] → Kept (alters.reading kept slot count post desk on).told
reading_keeps kept slot count post desk true h = h
reading_keeps kept slot count post desk false h = deciding_keeps kept post desk [] h

exchanged_keeps : (kept : ChangeKept) (slot : ℕ) (post : Post) (desk : Desk) (same : Bool) → Kept [] → Kept (alters.exchanged kept slot post desk same).told
exchanged_keeps kept slot post desk true h = clearing_keeps (Changes (record kept { taken = None })) (alters.answer_done (kept.version + 1) kept.link) post desk (alters.told_linked kept slot post) (linked_kept kept slot post)
exchanged_keeps kept slot post desk false h = clearing_keeps (Changes kept) Again post desk [] h

change_keeps : (kept : ChangeKept) (at : ChangeAt) (post : Post) (desk : Desk) (found : ℕ) → Kept [] → Kept (alters.change_turn kept at post desk found).told
change_keeps kept (LoadVersion slot) post desk found h = h
change_keeps kept (LoadCount slot) post desk found h = reading_keeps kept slot found post desk (nat_lt 0 found) h
change_keeps kept (LoadKey slot count) post desk found h = h
change_keeps kept (LoadValue slot count key) post desk found h = reading_keeps (alters.with_read kept key found) slot count post desk (nat_lt (length kept.pairs + 1) count) h
change_keeps kept (ExchangeRoot slot) post desk found h = exchanged_keeps kept slot post desk (found == kept.link) h

-- an enqueue
appending_keeps : (kept : EnqueueKept) (post : Post) (desk : Desk) (spent : Bool) → Kept [] → Kept (enqueues.appending kept post desk spent).told
appending_keeps kept post desk true h = clearing_keeps (Enqueues kept) (Answering (the_answers.Spent kept.number)) post desk [] h
appending_keeps kept post desk false h = h

at_next_keeps : (kept : EnqueueKept) (next : ℕ) (post : Post) (desk : Desk) (none : Bool) → Kept [] → Kept (enqueues.at_next kept next post desk none).told
at_next_keeps kept next post desk true h = appending_keeps kept post desk (kept.number == post.layout.config.last_version) h
at_next_keeps kept next post desk false h = h

appended_keeps : (kept : EnqueueKept) (slot : ℕ) (post : Post) (desk : Desk) (same : Bool) → Kept [] → Kept (enqueues.appended kept slot post desk same).told
appended_keeps kept slot post desk true h = refl
appended_keeps kept slot post desk false h = clearing_keeps (Enqueues kept) Again post desk [] h

enqueue_keeps : (kept : EnqueueKept) (at : EnqueueAt) (post : Post) (desk : Desk) (found : ℕ) → Kept [] → Kept (enqueues.enqueue_turn kept at post desk found).told
enqueue_keeps kept LoadNumber post desk found h = h
enqueue_keeps kept LoadNext post desk found h = at_next_keeps kept found post desk (found == 0) h
enqueue_keeps kept (PassTail next) post desk found h = clearing_keeps (Enqueues kept) Again post desk (enqueues.told_link roots.Tail (next - 1) (found == kept.tail + 1)) (link_kept roots.Tail (next - 1) (found == kept.tail + 1))
enqueue_keeps kept (ExchangeNext slot) post desk found h = appended_keeps kept slot post desk (found == 0) h
enqueue_keeps kept (ExchangeTail slot) post desk found h = clearing_keeps (Enqueues kept) (Answering (the_answers.Queued (kept.number + 1))) post desk (enqueues.told_link roots.Tail slot (found == kept.tail + 1)) (link_kept roots.Tail slot (found == kept.tail + 1))

-- a dequeue
followed_row_keeps : (head next : ℕ) (post : Post) (desk : Desk) (told : List Event) (lags : Bool) → Kept told → Kept (dequeues.followed_row head next post desk told lags).told
followed_row_keeps head next post desk told true h = h
followed_row_keeps head next post desk told false h = h

followed_keeps : (head tail : ℕ) (ending : FollowEnd) (post : Post) (desk : Desk) (told : List Event) → Kept told → Kept (dequeues.followed head tail ending post desk told).told
followed_keeps head tail (follow_ends.Followed slot) post desk told h = followed_row_keeps head slot post desk told (tail == head + 1) h
followed_keeps head tail follow_ends.NoNext post desk told h = clearing_next_keeps (Answering the_answers.Empty) post desk told h
followed_keeps head tail (follow_ends.RootMoved seen) post desk told h = clearing_next_keeps Again post desk told h

taken_keeps : (head next number value : ℕ) (post : Post) (desk : Desk) (same : Bool) → Kept [] → Kept (dequeues.taken head next number value post desk same).told
taken_keeps head next number value post desk true h = clearing_next_keeps (Retiring head (the_answers.Taken number value moves.Still)) post desk (events.Link roots.Head next ∷ events.Cut head ∷ events.Taken number value ∷ []) refl
taken_keeps head next number value post desk false h = clearing_next_keeps Again post desk [] h

dequeue_keeps : (at : DequeueAt) (post : Post) (desk : Desk) (found : ℕ) → Kept [] → Kept (dequeues.dequeue_turn at post desk found).told
dequeue_keeps (SwingTail head next) post desk found h = clearing_next_keeps Again post desk (enqueues.told_link roots.Tail next (found == head + 1)) (link_kept roots.Tail next (found == head + 1))
dequeue_keeps (ExchangeHead head next number value) post desk found h = taken_keeps head next number value post desk (found == head + 1) h
dequeue_keeps at post desk found h = h

-- a step of a call's own
released_keeps : (let_go : LetGo) (post : Post) (desk : Desk) (told : List Event) → Kept told → Kept (keeps.released let_go post desk told).told
released_keeps Released post desk told h = h
released_keeps (Rehold key) post desk told h = h
released_keeps (Dropped index) post desk told h = h
released_keeps (Parting index) post desk told h = h

-- a call on what is kept
copied_keeps : (from index : ℕ) (post : Post) (desk : Desk) (reserved : List Event) (o : Option ℕ) → Kept (copied_told from index post reserved o) → Kept (keeps.copied from index post desk reserved o).told
copied_keeps from index post desk reserved None h = h
copied_keeps from index post desk reserved (Some slot) h = h

load_held_keeps : (from index : ℕ) (post : Post) (desk : Desk) (found : ℕ) (one : Bool) → Kept (if one then copied_told from index post [] (stands post from) else []) → Kept (keeps.load_held from index post desk found one).told
load_held_keeps from index post desk found true h = copied_keeps from index post desk [] (stands post from) h
load_held_keeps from index post desk found false h = h

looking_keeps : (index key slot version count : ℕ) (post : Post) (desk : Desk) (on : Bool) (pair : ℕ) → Kept [] → Kept (keeps.looking index key slot version count post desk on pair).told
looking_keeps index key slot version count post desk true pair h = h
looking_keeps index key slot version count post desk false pair h = h

looked_key_keeps : (index key slot version count pair : ℕ) (post : Post) (desk : Desk) (own : Bool) → Kept [] → Kept (keeps.looked_key index key slot version count pair post desk own).told
looked_key_keeps index key slot version count pair post desk true h = h
looked_key_keeps index key slot version count pair post desk false h = looking_keeps index key slot version count post desk (nat_lt (pair + 1) count) (pair + 1) h

look_keeps : (index key : ℕ) (at : GetAt) (post : Post) (desk : Desk) (found : ℕ) → Kept [] → Kept (keeps.look_turn index key at post desk found).told
look_keeps index key (FindVersion slot) post desk found h = h
look_keeps index key (FindCount slot version) post desk found h = looking_keeps index key slot version found post desk (nat_lt 0 found) 0 h
look_keeps index key (FindKey slot version count pair) post desk found h = looked_key_keeps index key slot version count pair post desk (found == key) h
look_keeps index key (FindValue slot version pair) post desk found h = h

-- a list is neither left nor taken over
abbrev pub keeps_lists : KeepAt → Bool
keeps_lists MarkLeft = false
keeps_lists (TakeList place) = false
keeps_lists at = true

keep_keeps : (at : KeepAt) (post : Post) (desk : Desk) (found : ℕ) → keeps_lists at ≡ true → Kept (keep_told at post) → Kept (keeps.keep_turn at post desk found).told
keep_keeps (Loosens let_go) post desk found q h = released_keeps let_go (withdrawn post (let_index let_go)) desk (cleared (let_index let_go) (stands post (let_index let_go))) h
keep_keeps (LoadHeld from index) post desk found q h = load_held_keeps from index post desk found (has_one_interval (scheme_of post)) h
keep_keeps (StoreHeld from index era) post desk found q h = copied_keeps from index post desk (publishes_index (publishes_rows (scheme_of post)) post index era) (stands post from) h
keep_keeps (Looks index key at) post desk found q h = look_keeps index key at post desk found h
keep_keeps (Misses index) post desk found q h = h
keep_keeps HideSpan post desk found q h = h
keep_keeps MarkLeft post desk found q h = absurd (cc)
keep_keeps (TakeList place) post desk found q h = absurd (cc)
keep_keeps (MarkTaken place count) post desk found q h = h

abbrev pub work_keeps_lists : Work → Bool
work_keeps_lists (Keeping at) = keeps_lists at
work_keeps_lists work = true

work_keeps : (work : Work) (post : Post) (desk : Desk) (found : ℕ) → work_keeps_lists work ≡ true → Kept (work_told work post) → Kept (steps.work_turn work post desk found).told
work_keeps (Getting key at) post desk found q h = get_keeps key at post desk found tt h
work_keeps (Changing kept at) post desk found q h = change_keeps kept at post desk found h
work_keeps (Enqueuing kept at) post desk found q h = enqueue_keeps kept at post desk found h
work_keeps (Dequeuing at) post desk found q h = dequeue_keeps at post desk found h
work_keeps (Keeping at) post desk found q h = keep_keeps at post desk found q h

-- a scan
scanned_keeps : (later : AfterScan) (post : Post) (desk : Desk) (told : List Event) → Kept told → Kept (scan.scanned later post desk told).told
scanned_keeps (Answered answer) post desk told h = h
scanned_keeps (Repeated task) post desk told h = h
scanned_keeps Counted post desk told h = h

giving_back_keeps : (later : AfterScan) (post : Post) (desk : Desk) (told : List Event) (x : Option scan.Entry) → Kept told → Kept (scan.giving_back later post desk told x).told
giving_back_keeps later post desk told None h = scanned_keeps later post (scan.with_kept desk) told h
giving_back_keeps later post desk told (Some entry) h = h

guard_keeps : (later : AfterScan) (number : ℕ) (post : Post) (desk : Desk) (told : List Event) (on : Bool) → Kept told → Kept (scan.reading later number post desk told on).told
guard_keeps later number post desk told true h = h
guard_keeps later number post desk told false h = giving_back_keeps later post desk told (scan.unmet_from desk 0) h

scan_keeps : (later : AfterScan) (at : ScanAt) (post : Post) (desk : Desk) (found : ℕ) → Kept (scan_told at post found) → Kept (scan.scan_turn later at post desk found).told
scan_keeps later (ReadGuard number) post desk found h =
    let seen : Seen = (guard_at post.layout.config number, published (publishes_rows post.layout.config.scheme) (guard_at post.layout.config number) found) in
    guard_keeps later number post (scan.with_read desk number seen) (scan.reads_guard (publishes_rows post.layout.config.scheme) seen.0 found ∷ []) (nat_lt (number + 1) (guards post.layout.config)) h
scan_keeps later (GiveBack place slot) post desk found h = giving_back_keeps later post (scan.with_back desk place) (events.Back slot ∷ []) (scan.unmet_from (scan.with_back desk place) place) h

-- what comes after a machine
opened_row_keeps : (task : Task) (slot : ℕ) (post : Post) (desk : Desk) (told : List Event) → Kept told → Kept (steps.opened_row task slot post desk told).told
opened_row_keeps (Gets key) slot post desk told h = h
opened_row_keeps (Changes kept) slot post desk told h = h
opened_row_keeps (Holds key) slot post desk told h = h
opened_row_keeps (Enqueues kept) slot post desk told h = h
opened_row_keeps Dequeues slot post desk told h = h

opened_null_keeps : (task : Task) (post : Post) (desk : Desk) (told : List Event) → Unit {0} → Kept told → Kept (steps.opened_null task post desk told).told
opened_null_keeps (Gets key) post desk told a h = got_keeps key 0 None post desk told a h
opened_null_keeps (Changes kept) post desk told a h = deciding_keeps (alters.at_link kept 0) post desk told h
opened_null_keeps (Holds key) post desk told a h = clearing_keeps (Holds key) (Answering the_answers.Nothing) post desk told h
opened_null_keeps (Enqueues kept) post desk told a h = clearing_keeps (Enqueues kept) Again post desk told h
opened_null_keeps Dequeues post desk told a h = clearing_keeps Dequeues Again post desk told h

opened_keeps : (task : Task) (ending : Ending) (post : Post) (desk : Desk) (told : List Event) → Unit {0} → Kept told → Kept (steps.opened task ending post desk told).told
opened_keeps task (Protected (protect_ends.Held slot era)) post desk told a h = opened_row_keeps task slot post desk told h
opened_keeps task (Protected protect_ends.Null) post desk told a h = opened_null_keeps task post desk told a h
opened_keeps task Done post desk told a h = h
opened_keeps task (Followed end) post desk told a h = h
opened_keeps task (Allocated end) post desk told a h = h
opened_keeps task (Retired life) post desk told a h = h
opened_keeps task (Clocked clock) post desk told a h = h

filled_by_keeps : (task : Task) (ending : AllocateEnd) (post : Post) (desk : Desk) (told : List Event) → Kept told → Kept (steps.filled_by task ending post desk told).told
filled_by_keeps (Changes kept) (allocate_ends.Given slot birth) post desk told h = h
filled_by_keeps (Changes kept) allocate_ends.Full post desk told h = clearing_keeps (Changes (alters.with_walked kept)) (alters.no_room kept.walked) post desk told h
filled_by_keeps (Enqueues kept) (allocate_ends.Given slot birth) post desk told h = h
filled_by_keeps (Enqueues kept) allocate_ends.Full post desk told h = clearing_keeps (Enqueues (enqueues.item_walked kept)) (alters.no_room kept.walked) post desk told h
filled_by_keeps (Gets key) ending post desk told h = closed_keeps (Gets key) Again post desk told h
filled_by_keeps (Holds key) ending post desk told h = closed_keeps (Holds key) Again post desk told h
filled_by_keeps Dequeues ending post desk told h = closed_keeps Dequeues Again post desk told h

written_row_keeps : (task : Task) (post : Post) (desk : Desk) (told : List Event) → Kept told → Kept (steps.written_row task post desk told).told
written_row_keeps (Changes kept) post desk told h = h
written_row_keeps (Enqueues kept) post desk told h = h
written_row_keeps (Gets key) post desk told h = closed_keeps (Gets key) Again post desk told h
written_row_keeps (Holds key) post desk told h = closed_keeps (Holds key) Again post desk told h
written_row_keeps Dequeues post desk told h = closed_keeps Dequeues Again post desk told h

filled_keeps : (task : Task) (ending : Ending) (post : Post) (desk : Desk) (told : List Event) → Kept told → Kept (steps.filled task ending post desk told).told
filled_keeps task (Allocated ending) post desk told h = filled_by_keeps task ending post desk told h
filled_keeps task Done post desk told h = written_row_keeps task post desk told h
filled_keeps task (Protected end) post desk told h = written_row_keeps task post desk told h
filled_keeps task (Followed end) post desk told h = written_row_keeps task post desk told h
filled_keeps task (Retired life) post desk told h = written_row_keeps task post desk told h
filled_keeps task (Clocked clock) post desk told h = written_row_keeps task post desk told h

followed_by_keeps : (head tail : ℕ) (ending : Ending) (post : Post) (desk : Desk) (told : List Event) → Kept told → Kept (steps.followed_by head tail ending post desk told).told
followed_by_keeps head tail (Followed ending) post desk told h = followed_keeps head tail ending post desk told h
followed_by_keeps head tail Done post desk told h = closed_keeps Dequeues Again post desk told h
followed_by_keeps head tail (Protected end) post desk told h = closed_keeps Dequeues Again post desk told h
followed_by_keeps head tail (Allocated end) post desk told h = closed_keeps Dequeues Again post desk told h
followed_by_keeps head tail (Retired life) post desk told h = closed_keeps Dequeues Again post desk told h
followed_by_keeps head tail (Clocked clock) post desk told h = closed_keeps Dequeues Again post desk told h

-- one life more
tidying_keeps : (answer : Answer) (post : Post) (desk : Desk) (told : List Event) (due : Bool) → Kept told → Kept (steps.tidying answer post desk told due).told
tidying_keeps answer post desk told true h = h
tidying_keeps answer post desk told false h = h

retired_by_keeps : (answer : Answer) (ending : Ending) (post : Post) (desk : Desk) (told : List Event) → Kept told → Kept (steps.retired_by answer ending post desk told).told
retired_by_keeps answer (Retired life) post desk told h = tidying_keeps answer post (with_life desk life) told (post.retired % post.layout.config.every == 0) h
retired_by_keeps answer Done post desk told h = h
retired_by_keeps answer (Protected end) post desk told h = h
retired_by_keeps answer (Followed end) post desk told h = h
retired_by_keeps answer (Allocated end) post desk told h = h
retired_by_keeps answer (Clocked clock) post desk told h = h

tidied_keeps : (later : AfterScan) (ending : Ending) (post : Post) (desk : Desk) (told : List Event) → Kept told → Kept (steps.tidied later ending post desk told).told
tidied_keeps later (Clocked clock) post desk told h = h
tidied_keeps later Done post desk told h = h
tidied_keeps later (Protected end) post desk told h = h
tidied_keeps later (Followed end) post desk told h = h
tidied_keeps later (Allocated end) post desk told h = h
tidied_keeps later (Retired life) post desk told h = h

advanced_keeps : (ending : Ending) (post : Post) (desk : Desk) (told : List Event) → Kept told → Kept (steps.advanced ending post desk told).told
advanced_keeps (Clocked clock) post desk told h = h
advanced_keeps Done post desk told h = h
advanced_keeps (Protected end) post desk told h = h
advanced_keeps (Followed end) post desk told h = h
advanced_keeps (Allocated end) post desk told h = h
advanced_keeps (Retired life) post desk told h = h

resume_keeps : (why : Why) (ending : Ending) (post : Post) (desk : Desk) (told : List Event) → Unit {0} → Kept told → Kept (steps.resume why ending post desk told).told
resume_keeps (Opens task) ending post desk told a h = opened_keeps task ending post desk told a h
resume_keeps (FollowsHead head tail) ending post desk told a h = followed_by_keeps head tail ending post desk told h
resume_keeps (Fills task) ending post desk told a h = filled_keeps task ending post desk told h
resume_keeps (ClearsNext next) ending post desk told a h = clearing_keeps Dequeues next post desk told h
resume_keeps (Clears task next) ending post desk told a h = finishing_keeps task next post desk told h
resume_keeps (Finishes task next) ending post desk told a h = closed_keeps task next post desk told h
resume_keeps (GivesUp answer) ending post desk told a h = h
resume_keeps (Retires answer) ending post desk told a h = retired_by_keeps answer ending post desk told h
resume_keeps (Tidies later) ending post desk told a h = tidied_keeps later ending post desk told h
resume_keeps Advances ending post desk told a h = advanced_keeps ending post desk told h
resume_keeps (Releases let_go) ending post desk told a h = released_keeps let_go post desk told h

resumed_keeps : (why : Why) (desk : Desk) (post : Post) (told : List Event) (outcome : Outcome) → Unit {0} → Kept told → Kept (steps.resumed why desk post told outcome).told
resumed_keeps why desk post told (Goes base) a h = h
resumed_keeps why desk post told (Ends ending) a h = resume_keeps why ending post desk told a h

-- a step of a seat, and the end of its call
machine_kept : (event : Event) → is_machine event ≡ true → is_kept event ≡ true
machine_kept (events.Left count) h = absurd (cc)
machine_kept (events.Adopted place count) h = absurd (cc)
machine_kept event h = refl

abbrev pub phase_keeps_lists : Phase → Bool
phase_keeps_lists (Works work) = work_keeps_lists work
phase_keeps_lists phase = true

turn_keeps : (phase : Phase) (post : Post) (desk : Desk) (found : ℕ) → phase_keeps_lists phase ≡ true → Kept (steps.phase_turn phase post desk found).told
turn_keeps Idle post desk found q = refl
turn_keeps (Runs why base) post desk found q =
    resumed_keeps why desk (machine.after base post found).post (machine.after base post found).told (machine.after base post found).outcome tt (base_all is_kept base post found (λ event h. machine_kept event (tells_machine base post found event h)))
turn_keeps (Scans later at) post desk found q = scan_keeps later at post desk found (of_weaker is_machine is_kept (scan_told at post found) machine_kept (scan_machine at post found))
turn_keeps (Works work) post desk found q = work_keeps work post desk found q (work_all is_kept (λ index slot. refl) (λ from index slot. refl) (λ seat index era. refl) (λ seat. refl) (λ seat index link. refl) work post)

end_kept : (post : Post) (outcome : CallOutcome) → Kept (told_end post outcome)
end_kept post (GoesOn phase) = refl
end_kept post (Answers answer) = refl

pub told_kept : (phase : Phase) (post : Post) (desk : Desk) (found : ℕ) → phase_keeps_lists phase ≡ true → all_of is_kept (told_by (steps.phase_turn phase post desk found)) ≡ true
told_kept phase post desk found q =
    let t : CallTurn = steps.phase_turn phase post desk found in
    kept_more t.told (told_end t.post t.outcome) (turn_keeps phase post desk found q) (end_kept t.post t.outcome)
