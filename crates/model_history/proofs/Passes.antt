-- What a machine has told and left passes on to the end of a step: all that comes after it tells is quiet, or clears an index.
use Rattle.std.proofs.Common.{ℕ, ◌≡◌, ◌+◌, ◌-◌, Bool, true, false, List, [], ◌∷◌, ◌++◌, length, Option, Some, None, refl}
use Rattle.std.specs.Prelude.{◌==◌, ◌%◌, nat_lt, if◌then◌else◌, drop}
use Rattle.wfe_core.specs.defs.Shown.{Seen}
use Rattle.wfe_core.specs.defs.declared.fold.Change.{Change}
use Rattle.wfe_core.specs.defs.declared.fold.Change.TheVariants as changes
use Rattle.wfe_core.specs.defs.declared.call.Answer.{Answer}
use Rattle.wfe_core.specs.defs.declared.call.Answer.TheVariants as the_answers
use Rattle.wfe_core.specs.defs.declared.call.ClockMove.TheVariants as moves
use Rattle.wfe_core.specs.defs.declared.event.Event.{Event}
use Rattle.wfe_core.specs.defs.declared.event.Event.TheVariants as events
use Rattle.wfe_core.specs.defs.declared.event.Root.{Root}
use Rattle.wfe_core.specs.defs.declared.event.Root.TheVariants as roots
use Rattle.wfe_core.specs.declared.ends.AllocateEnd.{AllocateEnd}
use Rattle.wfe_core.specs.declared.ends.AllocateEnd.TheVariants as allocate_ends
use Rattle.wfe_core.specs.declared.ends.FollowEnd.{FollowEnd}
use Rattle.wfe_core.specs.declared.ends.FollowEnd.TheVariants as follow_ends
use Rattle.wfe_core.specs.declared.ends.ProtectEnd.TheVariants as protect_ends
use Rattle.wfe_core.specs.declared.post.Post.{Post}
use Rattle.wfe_core.specs.Change as alters
use Rattle.wfe_core.specs.Desks.{Desk, with_life}
use Rattle.wfe_core.specs.Dequeue as dequeues
use Rattle.wfe_core.specs.Enqueue as enqueues
use Rattle.wfe_core.specs.Get as gets
use Rattle.wfe_core.specs.defs.declared.event.Guard.{Guard}
use Rattle.wfe_core.specs.Guards.{guards, guard_at, published}
use Rattle.wfe_core.specs.Keep as keeps
use Rattle.wfe_core.specs.Locals.{told_by, told_end}
use Rattle.wfe_core.specs.Machine as machine
use Rattle.wfe_core.specs.Posts.{cleared, cleared_from, publishes_index, reserves_span, stands, with_row, withdrawn, withdrawn_all}
use Rattle.wfe_core.specs.Scan as scan
use Rattle.wfe_core.specs.Steps as steps
use Rattle.wfe_core.specs.Rounds.{scheme_of, bucket_of, index_of, taken_of, finish_base, clear_base, clear_post, clear_told, given_up, closed, finishing_by, finishing, clearing_by, clearing, clearing_next_by, clearing_next, let_index}
use Rattle.wfe_core.specs.words.Schemes.{has_one_interval, publishes_rows}
use Rattle.wfe_core.specs.Phases.{Base, Ending, Outcome, Goes, Ends}
use Rattle.wfe_core.specs.Phases.Ending.{Done, Protected, Followed, Allocated, Retired, Clocked}
use Rattle.wfe_core.specs.Calls.{Task, Gets, Changes, Holds, Enqueues, Dequeues, Next, Again, MakeRoom, Answering, Retiring, AfterScan, Answered, Repeated, Counted, ChangeKept, EnqueueKept, GetAt, FindVersion, FindCount, FindKey, FindValue, ChangeAt, LoadVersion, LoadCount, LoadKey, LoadValue, ExchangeRoot, EnqueueAt, LoadNumber, LoadNext, PassTail, ExchangeNext, ExchangeTail, DequeueAt, SwingTail, ExchangeHead, Work, Getting, Changing, Enqueuing, Dequeuing, Keeping, KeepAt, Loosens, LoadHeld, StoreHeld, Looks, Misses, HideSpan, MarkLeft, TakeList, MarkTaken, LetGo, Released, Rehold, Dropped, Parting, ScanAt, ReadGuard, GiveBack, Why, Opens, FollowsHead, Fills, ClearsNext, Clears, Finishes, GivesUp, Retires, Tidies, Advances, Releases, Phase, Idle, Runs, Scans, Works, CallTurn, CallOutcome, GoesOn, Answers}
use Rattle.model_history.proofs.AllOf.{all_of, of_along}

-- events of what calls read and link, of lists that are left and taken over, and of the ends of calls
abbrev pub is_quiet : Event → Bool
is_quiet (events.Got bucket version key value) = true
is_quiet (events.Put bucket version key value) = true
is_quiet (events.Removed bucket version key) = true
is_quiet (events.Link root slot) = true
is_quiet (events.Cut slot) = true
is_quiet (events.Queued number value) = true
is_quiet (events.Taken number value) = true
is_quiet (events.End steps answer) = true
is_quiet (events.Left count) = true
is_quiet (events.Adopted place count) = true
is_quiet event = false

abbrev pub all_quiet : List Event → Bool
all_quiet told = all_of is_quiet told

-- a property of a post and of what was told, which quiet events keep, and the clearing of an index
pub record Closed (P : Post → List Event → Type 0) : Type 0 where
  pub calm : (post : Post) (told more : List Event) → all_quiet more ≡ true → P post told → P post (told ++ more)
  pub clears : (post : Post) (told : List Event) (index : ℕ) → P post told → P (clear_post (scheme_of post) post index) (told ++ clear_told (scheme_of post) post index)

-- the same of two properties, one before and one after what a call tells of the map and of the queue; where it tells what it got,
-- the key and the version are allowed
pub record Closing (P0 P : Post → List Event → Type 0) (A : ℕ → ℕ → Type 0) : Type 0 where
  pub weak : (post : Post) (told : List Event) → P0 post told → P post told
  pub gets : (post : Post) (told : List Event) (key version : ℕ) (value : Option ℕ) → A key version → P0 post told → P post (told ++ events.Got (bucket_of post key) version key value ∷ [])
  pub changes : (post : Post) (kept : ChangeKept) (slot : ℕ) → P0 post [] → P post (alters.told_linked kept slot post)
  pub links : (post : Post) (root : Root) (slot : ℕ) (same : Bool) → P0 post [] → P post (enqueues.told_link root slot same)
  pub queues : (post : Post) (tail slot number value : ℕ) → P0 post [] → P post (events.Link (roots.Next tail) slot ∷ events.Queued number value ∷ [])
  pub takes : (post : Post) (head next number value : ℕ) → P0 post [] → P post (events.Link roots.Head next ∷ events.Cut head ∷ events.Taken number value ∷ [])
  pub leaves : (post : Post) (count : ℕ) → P0 post [] → P post (events.Left count ∷ [])
  pub adopts : (post : Post) (place count : ℕ) → P0 post [] → P post (events.Adopted place count ∷ [])
  pub clears : (post : Post) (told : List Event) (index : ℕ) → P post told → P (clear_post (scheme_of post) post index) (told ++ clear_told (scheme_of post) post index)
  pub ends : (post : Post) (told : List Event) (outcome : CallOutcome) → P post told → P post (told ++ told_end post outcome)

abbrev Left : (Post → List Event → Type 0) → CallTurn → Type 0
Left P t = P t.post t.told

-- what a step of a scan tells
abbrev pub scan_told : ScanAt → Post → ℕ → List Event
scan_told (ReadGuard number) post found = scan.reads_guard (publishes_rows post.layout.config.scheme) (guard_at post.layout.config number) found ∷ []
scan_told (GiveBack place slot) post found = events.Back slot ∷ []

-- what a step of a call on what is kept leaves, and what it tells before what it tells of lists
abbrev pub copied_post : (index : ℕ) → Post → Option ℕ → Post
copied_post index post None = post
copied_post index post (Some slot) = with_row post index slot

abbrev pub copied_told : (from index : ℕ) → Post → (reserved : List Event) → Option ℕ → List Event
copied_told from index post reserved None = []
copied_told from index post reserved (Some slot) = cleared index (stands post index) ++ reserved ++ events.Copied from index slot ∷ []

abbrev pub keep_post : KeepAt → Post → Post
keep_post (Loosens let_go) post = withdrawn post (let_index let_go)
keep_post (LoadHeld from index) post = if has_one_interval (scheme_of post) then copied_post index post (stands post from) else post
keep_post (StoreHeld from index era) post = copied_post index post (stands post from)
keep_post (Looks index key at) post = post
keep_post (Misses index) post = post
keep_post HideSpan post = withdrawn_all post
keep_post MarkLeft post = post
keep_post (TakeList place) post = post
keep_post (MarkTaken place count) post = post

abbrev pub keep_told : KeepAt → Post → List Event
keep_told (Loosens let_go) post = cleared (let_index let_go) (stands post (let_index let_go))
keep_told (LoadHeld from index) post = if has_one_interval (scheme_of post) then copied_told from index post [] (stands post from) else []
keep_told (StoreHeld from index era) post = copied_told from index post (publishes_index (publishes_rows (scheme_of post)) post index era) (stands post from)
keep_told (Looks index key at) post = []
keep_told (Misses index) post = []
keep_told HideSpan post = cleared_from 2 (drop 2 post.standing) ++ reserves_span post None
keep_told MarkLeft post = []
keep_told (TakeList place) post = []
keep_told (MarkTaken place count) post = []

-- a step of the other works leaves the post and tells nothing before what comes after it
abbrev pub work_post : Work → Post → Post
work_post (Getting key at) post = post
work_post (Changing kept at) post = post
work_post (Enqueuing kept at) post = post
work_post (Dequeuing at) post = post
work_post (Keeping at) post = keep_post at post

abbrev pub work_told : Work → Post → List Event
work_told (Getting key at) post = []
work_told (Changing kept at) post = []
work_told (Enqueuing kept at) post = []
work_told (Dequeuing at) post = []
work_told (Keeping at) post = keep_told at post

-- a get may tell the version that it knows, and 0 where its protection ends with null
abbrev pub get_allows : (ℕ → ℕ → Type 0) → ℕ → GetAt → Type 0
get_allows A key (FindVersion slot) = Unit {0}
get_allows A key (FindCount slot version) = A key version
get_allows A key (FindKey slot version count pair) = A key version
get_allows A key (FindValue slot version pair) = A key version

abbrev pub null_allows : (ℕ → ℕ → Type 0) → Task → Type 0
null_allows A (Gets key) = A key 0
null_allows A task = Unit {0}

abbrev pub ending_allows : (ℕ → ℕ → Type 0) → Task → Ending → Type 0
ending_allows A task (Protected protect_ends.Null) = null_allows A task
ending_allows A task ending = Unit {0}

abbrev pub why_allows : (ℕ → ℕ → Type 0) → Why → Ending → Type 0
why_allows A (Opens task) ending = ending_allows A task ending
why_allows A why ending = Unit {0}

abbrev pub outcome_allows : (ℕ → ℕ → Type 0) → Why → Outcome → Type 0
outcome_allows A why (Goes base) = Unit {0}
outcome_allows A why (Ends ending) = why_allows A why ending

abbrev pub work_allows : (ℕ → ℕ → Type 0) → Work → Type 0
work_allows A (Getting key at) = get_allows A key at
work_allows A work = Unit {0}

abbrev pub phase_allows : (ℕ → ℕ → Type 0) → Phase → Post → ℕ → Type 0
phase_allows A Idle post found = Unit {0}
phase_allows A (Runs why base) post found = outcome_allows A why (machine.after base post found).outcome
phase_allows A (Scans later at) post found = Unit {0}
phase_allows A (Works work) post found = work_allows A work

-- the end of a round
given_up_goes : (P0 P : Post → List Event → Type 0) (A : ℕ → ℕ → Type 0) (c : Closing P0 P A) (answer : Answer) (post : Post) (desk : Desk) (told : List Event) (x : Option ℕ) → P post told → Left P (given_up answer post desk told x)
given_up_goes P0 P A c answer post desk told None h = h
given_up_goes P0 P A c answer post desk told (Some slot) h = h

closed_goes : (P0 P : Post → List Event → Type 0) (A : ℕ → ℕ → Type 0) (c : Closing P0 P A) (task : Task) (next : Next) (post : Post) (desk : Desk) (told : List Event) → P post told → Left P (closed task next post desk told)
closed_goes P0 P A c task Again post desk told h = h
closed_goes P0 P A c task MakeRoom post desk told h = h
closed_goes P0 P A c task (Answering answer) post desk told h = given_up_goes P0 P A c answer post desk told (taken_of task) h
closed_goes P0 P A c task (Retiring slot answer) post desk told h = h

finishing_by_goes : (P0 P : Post → List Event → Type 0) (A : ℕ → ℕ → Type 0) (c : Closing P0 P A) (task : Task) (next : Next) (post : Post) (desk : Desk) (told : List Event) (x : Option Base) → P post told → Left P (finishing_by task next post desk told x)
finishing_by_goes P0 P A c task next post desk told None h = closed_goes P0 P A c task next post desk told h
finishing_by_goes P0 P A c task next post desk told (Some base) h = h

finishing_goes : (P0 P : Post → List Event → Type 0) (A : ℕ → ℕ → Type 0) (c : Closing P0 P A) (task : Task) (next : Next) (post : Post) (desk : Desk) (told : List Event) → P post told → Left P (finishing task next post desk told)
finishing_goes P0 P A c task Again post desk told h = closed_goes P0 P A c task Again post desk told h
finishing_goes P0 P A c task MakeRoom post desk told h = finishing_by_goes P0 P A c task MakeRoom post desk told (finish_base (scheme_of post) post) h
finishing_goes P0 P A c task (Answering answer) post desk told h = finishing_by_goes P0 P A c task (Answering answer) post desk told (finish_base (scheme_of post) post) h
finishing_goes P0 P A c task (Retiring slot answer) post desk told h = finishing_by_goes P0 P A c task (Retiring slot answer) post desk told (finish_base (scheme_of post) post) h

clearing_by_goes : (P0 P : Post → List Event → Type 0) (A : ℕ → ℕ → Type 0) (c : Closing P0 P A) (task : Task) (next : Next) (post : Post) (desk : Desk) (told : List Event) (x : Option Base) → P post told → Left P (clearing_by task next post desk told x)
clearing_by_goes P0 P A c task next post desk told None h = finishing_goes P0 P A c task next (clear_post (scheme_of post) post (index_of task)) desk (told ++ clear_told (scheme_of post) post (index_of task)) (c.clears post told (index_of task) h)
clearing_by_goes P0 P A c task next post desk told (Some base) h = h

clearing_goes : (P0 P : Post → List Event → Type 0) (A : ℕ → ℕ → Type 0) (c : Closing P0 P A) (task : Task) (next : Next) (post : Post) (desk : Desk) (told : List Event) → P post told → Left P (clearing task next post desk told)
clearing_goes P0 P A c task next post desk told h = clearing_by_goes P0 P A c task next post desk told (clear_base (scheme_of post) (index_of task)) h

clearing_next_by_goes : (P0 P : Post → List Event → Type 0) (A : ℕ → ℕ → Type 0) (c : Closing P0 P A) (next : Next) (post : Post) (desk : Desk) (told : List Event) (x : Option Base) → P post told → Left P (clearing_next_by next post desk told x)
clearing_next_by_goes P0 P A c next post desk told None h = clearing_goes P0 P A c Dequeues next (clear_post (scheme_of post) post 1) desk (told ++ clear_told (scheme_of post) post 1) (c.clears post told 1 h)
clearing_next_by_goes P0 P A c next post desk told (Some base) h = h

clearing_next_goes : (P0 P : Post → List Event → Type 0) (A : ℕ → ℕ → Type 0) (c : Closing P0 P A) (next : Next) (post : Post) (desk : Desk) (told : List Event) → P post told → Left P (clearing_next next post desk told)
clearing_next_goes P0 P A c next post desk told h = clearing_next_by_goes P0 P A c next post desk told (clear_base (scheme_of post) 1) h

-- a get
got_goes : (P0 P : Post → List Event → Type 0) (A : ℕ → ℕ → Type 0) (c : Closing P0 P A) (key version : ℕ) (value : Option ℕ) (post : Post) (desk : Desk) (told : List Event) → A key version → P0 post told → Left P (gets.got key version value post desk told)
got_goes P0 P A c key version value post desk told a h = clearing_goes P0 P A c (Gets key) (Answering (the_answers.Got version value)) post desk (told ++ events.Got (bucket_of post key) version key value ∷ []) (c.gets post told key version value a h)

finding_goes : (P0 P : Post → List Event → Type 0) (A : ℕ → ℕ → Type 0) (c : Closing P0 P A) (key slot version count : ℕ) (post : Post) (desk : Desk) (on : Bool) (pair : ℕ) → A key version → P0 post [] → Left P (gets.finding key slot version count post desk on pair)
finding_goes P0 P A c key slot version count post desk true pair a h = c.weak post [] h
finding_goes P0 P A c key slot version count post desk false pair a h = got_goes P0 P A c key version None post desk [] a h

found_key_goes : (P0 P : Post → List Event → Type 0) (A : ℕ → ℕ → Type 0) (c : Closing P0 P A) (key slot version count pair : ℕ) (post : Post) (desk : Desk) (own : Bool) → A key version → P0 post [] → Left P (gets.found_key key slot version count pair post desk own)
found_key_goes P0 P A c key slot version count pair post desk true a h = c.weak post [] h
found_key_goes P0 P A c key slot version count pair post desk false a h = finding_goes P0 P A c key slot version count post desk (nat_lt (pair + 1) count) (pair + 1) a h

get_goes : (P0 P : Post → List Event → Type 0) (A : ℕ → ℕ → Type 0) (c : Closing P0 P A) (key : ℕ) (at : GetAt) (post : Post) (desk : Desk) (found : ℕ) → get_allows A key at → P0 post [] → Left P (gets.get_turn key at post desk found)
get_goes P0 P A c key (FindVersion slot) post desk found a h = c.weak post [] h
get_goes P0 P A c key (FindCount slot version) post desk found a h = finding_goes P0 P A c key slot version found post desk (nat_lt 0 found) 0 a h
get_goes P0 P A c key (FindKey slot version count pair) post desk found a h = found_key_goes P0 P A c key slot version count pair post desk (found == key) a h
get_goes P0 P A c key (FindValue slot version pair) post desk found a h = got_goes P0 P A c key version (Some found) post desk [] a h

-- a change
deciding_by_goes : (P0 P : Post → List Event → Type 0) (A : ℕ → ℕ → Type 0) (c : Closing P0 P A) (kept : ChangeKept) (post : Post) (desk : Desk) (told : List Event) (x : Option Answer) → P0 post told → Left P (alters.deciding_by kept post desk told x)
deciding_by_goes P0 P A c kept post desk told (Some answer) h = clearing_goes P0 P A c (Changes kept) (Answering answer) post desk told (c.weak post told h)
deciding_by_goes P0 P A c kept post desk told None h = c.weak post told h

deciding_goes : (P0 P : Post → List Event → Type 0) (A : ℕ → ℕ → Type 0) (c : Closing P0 P A) (kept : ChangeKept) (post : Post) (desk : Desk) (told : List Event) → P0 post told → Left P (alters.deciding kept post desk told)
deciding_goes P0 P A c kept post desk told h = deciding_by_goes P0 P A c kept post desk told (alters.refused post.layout.config kept) h

reading_goes : (P0 P : Post → List Event → Type 0) (A : ℕ → ℕ → Type 0) (c : Closing P0 P A) (kept : ChangeKept) (slot count : ℕ) (post : Post) (desk : Desk) (on : Bool) → P0 post [] → Left P (alters.reading kept slot count post desk on)
reading_goes P0 P A c kept slot count post desk true h = c.weak post [] h
reading_goes P0 P A c kept slot count post desk false h = deciding_goes P0 P A c kept post desk [] h

exchanged_goes : (P0 P : Post → List Event → Type 0) (A : ℕ → ℕ → Type 0) (c : Closing P0 P A) (kept : ChangeKept) (slot : ℕ) (post : Post) (desk : Desk) (same : Bool) → P0 post [] → Left P (alters.exchanged kept slot post desk same)
exchanged_goes P0 P A c kept slot post desk true h = clearing_goes P0 P A c (Changes (record kept { taken = None })) (alters.answer_done (kept.version + 1) kept.link) post desk (alters.told_linked kept slot post) (c.changes post kept slot h)
exchanged_goes P0 P A c kept slot post desk false h = clearing_goes P0 P A c (Changes kept) Again post desk [] (c.weak post [] h)

change_goes : (P0 P : Post → List Event → Type 0) (A : ℕ → ℕ → Type 0) (c : Closing P0 P A) (kept : ChangeKept) (at : ChangeAt) (post : Post) (desk : Desk) (found : ℕ) → P0 post [] → Left P (alters.change_turn kept at post desk found)
change_goes P0 P A c kept (LoadVersion slot) post desk found h = c.weak post [] h
change_goes P0 P A c kept (LoadCount slot) post desk found h = reading_goes P0 P A c kept slot found post desk (nat_lt 0 found) h
change_goes P0 P A c kept (LoadKey slot count) post desk found h = c.weak post [] h
change_goes P0 P A c kept (LoadValue slot count key) post desk found h = reading_goes P0 P A c (alters.with_read kept key found) slot count post desk (nat_lt (length kept.pairs + 1) count) h
change_goes P0 P A c kept (ExchangeRoot slot) post desk found h = exchanged_goes P0 P A c kept slot post desk (found == kept.link) h

-- an enqueue
appending_goes : (P0 P : Post → List Event → Type 0) (A : ℕ → ℕ → Type 0) (c : Closing P0 P A) (kept : EnqueueKept) (post : Post) (desk : Desk) (spent : Bool) → P0 post [] → Left P (enqueues.appending kept post desk spent)
appending_goes P0 P A c kept post desk true h = clearing_goes P0 P A c (Enqueues kept) (Answering (the_answers.Spent kept.number)) post desk [] (c.weak post [] h)
appending_goes P0 P A c kept post desk false h = c.weak post [] h

at_next_goes : (P0 P : Post → List Event → Type 0) (A : ℕ → ℕ → Type 0) (c : Closing P0 P A) (kept : EnqueueKept) (next : ℕ) (post : Post) (desk : Desk) (none : Bool) → P0 post [] → Left P (enqueues.at_next kept next post desk none)
at_next_goes P0 P A c kept next post desk true h = appending_goes P0 P A c kept post desk (kept.number == post.layout.config.last_version) h
at_next_goes P0 P A c kept next post desk false h = c.weak post [] h

appended_goes : (P0 P : Post → List Event → Type 0) (A : ℕ → ℕ → Type 0) (c : Closing P0 P A) (kept : EnqueueKept) (slot : ℕ) (post : Post) (desk : Desk) (same : Bool) → P0 post [] → Left P (enqueues.appended kept slot post desk same)
appended_goes P0 P A c kept slot post desk true h = c.queues post kept.tail slot (kept.number + 1) kept.value h
appended_goes P0 P A c kept slot post desk false h = clearing_goes P0 P A c (Enqueues kept) Again post desk [] (c.weak post [] h)

enqueue_goes : (P0 P : Post → List Event → Type 0) (A : ℕ → ℕ → Type 0) (c : Closing P0 P A) (kept : EnqueueKept) (at : EnqueueAt) (post : Post) (desk : Desk) (found : ℕ) → P0 post [] → Left P (enqueues.enqueue_turn kept at post desk found)
enqueue_goes P0 P A c kept LoadNumber post desk found h = c.weak post [] h
enqueue_goes P0 P A c kept LoadNext post desk found h = at_next_goes P0 P A c kept found post desk (found == 0) h
enqueue_goes P0 P A c kept (PassTail next) post desk found h = clearing_goes P0 P A c (Enqueues kept) Again post desk (enqueues.told_link roots.Tail (next - 1) (found == kept.tail + 1)) (c.links post roots.Tail (next - 1) (found == kept.tail + 1) h)
enqueue_goes P0 P A c kept (ExchangeNext slot) post desk found h = appended_goes P0 P A c kept slot post desk (found == 0) h
enqueue_goes P0 P A c kept (ExchangeTail slot) post desk found h = clearing_goes P0 P A c (Enqueues kept) (Answering (the_answers.Queued (kept.number + 1))) post desk (enqueues.told_link roots.Tail slot (found == kept.tail + 1)) (c.links post roots.Tail slot (found == kept.tail + 1) h)

-- a dequeue
followed_row_goes : (P0 P : Post → List Event → Type 0) (A : ℕ → ℕ → Type 0) (c : Closing P0 P A) (head next : ℕ) (post : Post) (desk : Desk) (told : List Event) (lags : Bool) → P0 post told → Left P (dequeues.followed_row head next post desk told lags)
followed_row_goes P0 P A c head next post desk told true h = c.weak post told h
followed_row_goes P0 P A c head next post desk told false h = c.weak post told h

followed_goes : (P0 P : Post → List Event → Type 0) (A : ℕ → ℕ → Type 0) (c : Closing P0 P A) (head tail : ℕ) (ending : FollowEnd) (post : Post) (desk : Desk) (told : List Event) → P0 post told → Left P (dequeues.followed head tail ending post desk told)
followed_goes P0 P A c head tail (follow_ends.Followed slot) post desk told h = followed_row_goes P0 P A c head slot post desk told (tail == head + 1) h
followed_goes P0 P A c head tail follow_ends.NoNext post desk told h = clearing_next_goes P0 P A c (Answering the_answers.Empty) post desk told (c.weak post told h)
followed_goes P0 P A c head tail (follow_ends.RootMoved seen) post desk told h = clearing_next_goes P0 P A c Again post desk told (c.weak post told h)

taken_goes : (P0 P : Post → List Event → Type 0) (A : ℕ → ℕ → Type 0) (c : Closing P0 P A) (head next number value : ℕ) (post : Post) (desk : Desk) (same : Bool) → P0 post [] → Left P (dequeues.taken head next number value post desk same)
taken_goes P0 P A c head next number value post desk true h = clearing_next_goes P0 P A c (Retiring head (the_answers.Taken number value moves.Still)) post desk (events.Link roots.Head next ∷ events.Cut head ∷ events.Taken number value ∷ []) (c.takes post head next number value h)
taken_goes P0 P A c head next number value post desk false h = clearing_next_goes P0 P A c Again post desk [] (c.weak post [] h)

dequeue_goes : (P0 P : Post → List Event → Type 0) (A : ℕ → ℕ → Type 0) (c : Closing P0 P A) (at : DequeueAt) (post : Post) (desk : Desk) (found : ℕ) → P0 post [] → Left P (dequeues.dequeue_turn at post desk found)
dequeue_goes P0 P A c (SwingTail head next) post desk found h = clearing_next_goes P0 P A c Again post desk (enqueues.told_link roots.Tail next (found == head + 1)) (c.links post roots.Tail next (found == head + 1) h)
dequeue_goes P0 P A c (ExchangeHead head next number value) post desk found h = taken_goes P0 P A c head next number value post desk (found == head + 1) h
dequeue_goes P0 P A c at post desk found h = c.weak post [] h

-- a step of a call's own
released_goes : (P0 P : Post → List Event → Type 0) (A : ℕ → ℕ → Type 0) (c : Closing P0 P A) (let_go : LetGo) (post : Post) (desk : Desk) (told : List Event) → P0 post told → Left P (keeps.released let_go post desk told)
released_goes P0 P A c Released post desk told h = c.weak post told h
released_goes P0 P A c (Rehold key) post desk told h = c.weak post told h
released_goes P0 P A c (Dropped index) post desk told h = c.weak post told h
released_goes P0 P A c (Parting index) post desk told h = c.weak post told h

-- a call on what is kept
copied_goes : (P0 P : Post → List Event → Type 0) (A : ℕ → ℕ → Type 0) (c : Closing P0 P A) (from index : ℕ) (post : Post) (desk : Desk) (reserved : List Event) (o : Option ℕ) → P0 (copied_post index post o) (copied_told from index post reserved o) → Left P (keeps.copied from index post desk reserved o)
copied_goes P0 P A c from index post desk reserved None h = c.weak post [] h
copied_goes P0 P A c from index post desk reserved (Some slot) h = c.weak (with_row post index slot) (copied_told from index post reserved (Some slot)) h

load_held_goes : (P0 P : Post → List Event → Type 0) (A : ℕ → ℕ → Type 0) (c : Closing P0 P A) (from index : ℕ) (post : Post) (desk : Desk) (found : ℕ) (one : Bool) → P0 (if one then copied_post index post (stands post from) else post) (if one then copied_told from index post [] (stands post from) else []) → Left P (keeps.load_held from index post desk found one)
load_held_goes P0 P A c from index post desk found true h = copied_goes P0 P A c from index post desk [] (stands post from) h
load_held_goes P0 P A c from index post desk found false h = c.weak post [] h

looking_goes : (P0 P : Post → List Event → Type 0) (A : ℕ → ℕ → Type 0) (c : Closing P0 P A) (index key slot version count : ℕ) (post : Post) (desk : Desk) (on : Bool) (pair : ℕ) → P0 post [] → Left P (keeps.looking index key slot version count post desk on pair)
looking_goes P0 P A c index key slot version count post desk true pair h = c.weak post [] h
looking_goes P0 P A c index key slot version count post desk false pair h = c.weak post [] h

looked_key_goes : (P0 P : Post → List Event → Type 0) (A : ℕ → ℕ → Type 0) (c : Closing P0 P A) (index key slot version count pair : ℕ) (post : Post) (desk : Desk) (own : Bool) → P0 post [] → Left P (keeps.looked_key index key slot version count pair post desk own)
looked_key_goes P0 P A c index key slot version count pair post desk true h = c.weak post [] h
looked_key_goes P0 P A c index key slot version count pair post desk false h = looking_goes P0 P A c index key slot version count post desk (nat_lt (pair + 1) count) (pair + 1) h

look_goes : (P0 P : Post → List Event → Type 0) (A : ℕ → ℕ → Type 0) (c : Closing P0 P A) (index key : ℕ) (at : GetAt) (post : Post) (desk : Desk) (found : ℕ) → P0 post [] → Left P (keeps.look_turn index key at post desk found)
look_goes P0 P A c index key (FindVersion slot) post desk found h = c.weak post [] h
look_goes P0 P A c index key (FindCount slot version) post desk found h = looking_goes P0 P A c index key slot version found post desk (nat_lt 0 found) 0 h
look_goes P0 P A c index key (FindKey slot version count pair) post desk found h = looked_key_goes P0 P A c index key slot version count pair post desk (found == key) h
look_goes P0 P A c index key (FindValue slot version pair) post desk found h = c.weak post [] h

taking_goes : (P0 P : Post → List Event → Type 0) (A : ℕ → ℕ → Type 0) (c : Closing P0 P A) (place : ℕ) (post : Post) (desk : Desk) (left : Bool) (found : ℕ) → P0 post [] → Left P (keeps.taking place post desk left found)
taking_goes P0 P A c place post desk true found h = c.adopts post place (length desk.gift) h
taking_goes P0 P A c place post desk false found h = c.weak post [] h

keep_goes : (P0 P : Post → List Event → Type 0) (A : ℕ → ℕ → Type 0) (c : Closing P0 P A) (at : KeepAt) (post : Post) (desk : Desk) (found : ℕ) → P0 (keep_post at post) (keep_told at post) → Left P (keeps.keep_turn at post desk found)
keep_goes P0 P A c (Loosens let_go) post desk found h = released_goes P0 P A c let_go (withdrawn post (let_index let_go)) desk (cleared (let_index let_go) (stands post (let_index let_go))) h
keep_goes P0 P A c (LoadHeld from index) post desk found h = load_held_goes P0 P A c from index post desk found (has_one_interval (scheme_of post)) h
keep_goes P0 P A c (StoreHeld from index era) post desk found h = copied_goes P0 P A c from index post desk (publishes_index (publishes_rows (scheme_of post)) post index era) (stands post from) h
keep_goes P0 P A c (Looks index key at) post desk found h = look_goes P0 P A c index key at post desk found h
keep_goes P0 P A c (Misses index) post desk found h = c.weak post [] h
keep_goes P0 P A c HideSpan post desk found h = c.weak (withdrawn_all post) (cleared_from 2 (drop 2 post.standing) ++ reserves_span post None) h
keep_goes P0 P A c MarkLeft post desk found h = c.leaves post (length desk.list) h
keep_goes P0 P A c (TakeList place) post desk found h = taking_goes P0 P A c place post desk (found == 1) found h
keep_goes P0 P A c (MarkTaken place count) post desk found h = c.weak post [] h

work_goes : (P0 P : Post → List Event → Type 0) (A : ℕ → ℕ → Type 0) (c : Closing P0 P A) (work : Work) (post : Post) (desk : Desk) (found : ℕ) → work_allows A work → P0 (work_post work post) (work_told work post) → Left P (steps.work_turn work post desk found)
work_goes P0 P A c (Getting key at) post desk found a h = get_goes P0 P A c key at post desk found a h
work_goes P0 P A c (Changing kept at) post desk found a h = change_goes P0 P A c kept at post desk found h
work_goes P0 P A c (Enqueuing kept at) post desk found a h = enqueue_goes P0 P A c kept at post desk found h
work_goes P0 P A c (Dequeuing at) post desk found a h = dequeue_goes P0 P A c at post desk found h
work_goes P0 P A c (Keeping at) post desk found a h = keep_goes P0 P A c at post desk found h

-- a scan
scanned_goes : (P0 P : Post → List Event → Type 0) (A : ℕ → ℕ → Type 0) (c : Closing P0 P A) (later : AfterScan) (post : Post) (desk : Desk) (told : List Event) → P0 post told → Left P (scan.scanned later post desk told)
scanned_goes P0 P A c (Answered answer) post desk told h = c.weak post told h
scanned_goes P0 P A c (Repeated task) post desk told h = c.weak post told h
scanned_goes P0 P A c Counted post desk told h = c.weak post told h

giving_back_goes : (P0 P : Post → List Event → Type 0) (A : ℕ → ℕ → Type 0) (c : Closing P0 P A) (later : AfterScan) (post : Post) (desk : Desk) (told : List Event) (x : Option scan.Entry) → P0 post told → Left P (scan.giving_back later post desk told x)
giving_back_goes P0 P A c later post desk told None h = scanned_goes P0 P A c later post (scan.with_kept desk) told h
giving_back_goes P0 P A c later post desk told (Some entry) h = c.weak post told h

guard_goes : (P0 P : Post → List Event → Type 0) (A : ℕ → ℕ → Type 0) (c : Closing P0 P A) (later : AfterScan) (number : ℕ) (post : Post) (desk : Desk) (told : List Event) (on : Bool) → P0 post told → Left P (scan.reading later number post desk told on)
guard_goes P0 P A c later number post desk told true h = c.weak post told h
guard_goes P0 P A c later number post desk told false h = giving_back_goes P0 P A c later post desk told (scan.unmet_from desk 0) h

scan_goes : (P0 P : Post → List Event → Type 0) (A : ℕ → ℕ → Type 0) (c : Closing P0 P A) (later : AfterScan) (at : ScanAt) (post : Post) (desk : Desk) (found : ℕ) → P0 post (scan_told at post found) → Left P (scan.scan_turn later at post desk found)
scan_goes P0 P A c later (ReadGuard number) post desk found h =
    let guard : Guard = guard_at post.layout.config number in
    let rows : Bool = publishes_rows post.layout.config.scheme in
    guard_goes P0 P A c later number post (scan.with_read desk number (guard, published rows guard found)) (scan.reads_guard rows guard found ∷ []) (nat_lt (number + 1) (guards post.layout.config)) h
scan_goes P0 P A c later (GiveBack place slot) post desk found h = giving_back_goes P0 P A c later post (scan.with_back desk place) (events.Back slot ∷ []) (scan.unmet_from (scan.with_back desk place) place) h

-- what comes after a machine
opened_row_goes : (P0 P : Post → List Event → Type 0) (A : ℕ → ℕ → Type 0) (c : Closing P0 P A) (task : Task) (slot : ℕ) (post : Post) (desk : Desk) (told : List Event) → P0 post told → Left P (steps.opened_row task slot post desk told)
opened_row_goes P0 P A c (Gets key) slot post desk told h = c.weak post told h
opened_row_goes P0 P A c (Changes kept) slot post desk told h = c.weak post told h
opened_row_goes P0 P A c (Holds key) slot post desk told h = c.weak post told h
opened_row_goes P0 P A c (Enqueues kept) slot post desk told h = c.weak post told h
opened_row_goes P0 P A c Dequeues slot post desk told h = c.weak post told h

opened_null_goes : (P0 P : Post → List Event → Type 0) (A : ℕ → ℕ → Type 0) (c : Closing P0 P A) (task : Task) (post : Post) (desk : Desk) (told : List Event) → null_allows A task → P0 post told → Left P (steps.opened_null task post desk told)
opened_null_goes P0 P A c (Gets key) post desk told a h = got_goes P0 P A c key 0 None post desk told a h
opened_null_goes P0 P A c (Changes kept) post desk told a h = deciding_goes P0 P A c (alters.at_link kept 0) post desk told h
opened_null_goes P0 P A c (Holds key) post desk told a h = clearing_goes P0 P A c (Holds key) (Answering the_answers.Nothing) post desk told (c.weak post told h)
opened_null_goes P0 P A c (Enqueues kept) post desk told a h = clearing_goes P0 P A c (Enqueues kept) Again post desk told (c.weak post told h)
opened_null_goes P0 P A c Dequeues post desk told a h = clearing_goes P0 P A c Dequeues Again post desk told (c.weak post told h)

opened_goes : (P0 P : Post → List Event → Type 0) (A : ℕ → ℕ → Type 0) (c : Closing P0 P A) (task : Task) (ending : Ending) (post : Post) (desk : Desk) (told : List Event) → ending_allows A task ending → P0 post told → Left P (steps.opened task ending post desk told)
opened_goes P0 P A c task (Protected (protect_ends.Held slot era)) post desk told a h = opened_row_goes P0 P A c task slot post desk told h
opened_goes P0 P A c task (Protected protect_ends.Null) post desk told a h = opened_null_goes P0 P A c task post desk told a h
opened_goes P0 P A c task Done post desk told a h = c.weak post told h
opened_goes P0 P A c task (Followed end) post desk told a h = c.weak post told h
opened_goes P0 P A c task (Allocated end) post desk told a h = c.weak post told h
opened_goes P0 P A c task (Retired life) post desk told a h = c.weak post told h
opened_goes P0 P A c task (Clocked clock) post desk told a h = c.weak post told h

filled_by_goes : (P0 P : Post → List Event → Type 0) (A : ℕ → ℕ → Type 0) (c : Closing P0 P A) (task : Task) (ending : AllocateEnd) (post : Post) (desk : Desk) (told : List Event) → P0 post told → Left P (steps.filled_by task ending post desk told)
filled_by_goes P0 P A c (Changes kept) (allocate_ends.Given slot birth) post desk told h = c.weak post told h
filled_by_goes P0 P A c (Changes kept) allocate_ends.Full post desk told h = clearing_goes P0 P A c (Changes (alters.with_walked kept)) (alters.no_room kept.walked) post desk told (c.weak post told h)
filled_by_goes P0 P A c (Enqueues kept) (allocate_ends.Given slot birth) post desk told h = c.weak post told h
filled_by_goes P0 P A c (Enqueues kept) allocate_ends.Full post desk told h = clearing_goes P0 P A c (Enqueues (enqueues.item_walked kept)) (alters.no_room kept.walked) post desk told (c.weak post told h)
filled_by_goes P0 P A c (Gets key) ending post desk told h = closed_goes P0 P A c (Gets key) Again post desk told (c.weak post told h)
filled_by_goes P0 P A c (Holds key) ending post desk told h = closed_goes P0 P A c (Holds key) Again post desk told (c.weak post told h)
filled_by_goes P0 P A c Dequeues ending post desk told h = closed_goes P0 P A c Dequeues Again post desk told (c.weak post told h)

written_row_goes : (P0 P : Post → List Event → Type 0) (A : ℕ → ℕ → Type 0) (c : Closing P0 P A) (task : Task) (post : Post) (desk : Desk) (told : List Event) → P0 post told → Left P (steps.written_row task post desk told)
written_row_goes P0 P A c (Changes kept) post desk told h = c.weak post told h
written_row_goes P0 P A c (Enqueues kept) post desk told h = c.weak post told h
written_row_goes P0 P A c (Gets key) post desk told h = closed_goes P0 P A c (Gets key) Again post desk told (c.weak post told h)
written_row_goes P0 P A c (Holds key) post desk told h = closed_goes P0 P A c (Holds key) Again post desk told (c.weak post told h)
written_row_goes P0 P A c Dequeues post desk told h = closed_goes P0 P A c Dequeues Again post desk told (c.weak post told h)

filled_goes : (P0 P : Post → List Event → Type 0) (A : ℕ → ℕ → Type 0) (c : Closing P0 P A) (task : Task) (ending : Ending) (post : Post) (desk : Desk) (told : List Event) → P0 post told → Left P (steps.filled task ending post desk told)
filled_goes P0 P A c task (Allocated ending) post desk told h = filled_by_goes P0 P A c task ending post desk told h
filled_goes P0 P A c task Done post desk told h = written_row_goes P0 P A c task post desk told h
filled_goes P0 P A c task (Protected end) post desk told h = written_row_goes P0 P A c task post desk told h
filled_goes P0 P A c task (Followed end) post desk told h = written_row_goes P0 P A c task post desk told h
filled_goes P0 P A c task (Retired life) post desk told h = written_row_goes P0 P A c task post desk told h
filled_goes P0 P A c task (Clocked clock) post desk told h = written_row_goes P0 P A c task post desk told h

followed_by_goes : (P0 P : Post → List Event → Type 0) (A : ℕ → ℕ → Type 0) (c : Closing P0 P A) (head tail : ℕ) (ending : Ending) (post : Post) (desk : Desk) (told : List Event) → P0 post told → Left P (steps.followed_by head tail ending post desk told)
followed_by_goes P0 P A c head tail (Followed ending) post desk told h = followed_goes P0 P A c head tail ending post desk told h
followed_by_goes P0 P A c head tail Done post desk told h = closed_goes P0 P A c Dequeues Again post desk told (c.weak post told h)
followed_by_goes P0 P A c head tail (Protected end) post desk told h = closed_goes P0 P A c Dequeues Again post desk told (c.weak post told h)
followed_by_goes P0 P A c head tail (Allocated end) post desk told h = closed_goes P0 P A c Dequeues Again post desk told (c.weak post told h)
followed_by_goes P0 P A c head tail (Retired life) post desk told h = closed_goes P0 P A c Dequeues Again post desk told (c.weak post told h)
followed_by_goes P0 P A c head tail (Clocked clock) post desk told h = closed_goes P0 P A c Dequeues Again post desk told (c.weak post told h)

-- one life more
tidying_goes : (P0 P : Post → List Event → Type 0) (A : ℕ → ℕ → Type 0) (c : Closing P0 P A) (answer : Answer) (post : Post) (desk : Desk) (told : List Event) (due : Bool) → P0 post told → Left P (steps.tidying answer post desk told due)
tidying_goes P0 P A c answer post desk told true h = c.weak post told h
tidying_goes P0 P A c answer post desk told false h = c.weak post told h

retired_by_goes : (P0 P : Post → List Event → Type 0) (A : ℕ → ℕ → Type 0) (c : Closing P0 P A) (answer : Answer) (ending : Ending) (post : Post) (desk : Desk) (told : List Event) → P0 post told → Left P (steps.retired_by answer ending post desk told)
retired_by_goes P0 P A c answer (Retired life) post desk told h = tidying_goes P0 P A c answer post (with_life desk life) told (post.retired % post.layout.config.every == 0) h
retired_by_goes P0 P A c answer Done post desk told h = c.weak post told h
retired_by_goes P0 P A c answer (Protected end) post desk told h = c.weak post told h
retired_by_goes P0 P A c answer (Followed end) post desk told h = c.weak post told h
retired_by_goes P0 P A c answer (Allocated end) post desk told h = c.weak post told h
retired_by_goes P0 P A c answer (Clocked clock) post desk told h = c.weak post told h

tidied_goes : (P0 P : Post → List Event → Type 0) (A : ℕ → ℕ → Type 0) (c : Closing P0 P A) (later : AfterScan) (ending : Ending) (post : Post) (desk : Desk) (told : List Event) → P0 post told → Left P (steps.tidied later ending post desk told)
tidied_goes P0 P A c later (Clocked clock) post desk told h = c.weak post told h
tidied_goes P0 P A c later Done post desk told h = c.weak post told h
tidied_goes P0 P A c later (Protected end) post desk told h = c.weak post told h
tidied_goes P0 P A c later (Followed end) post desk told h = c.weak post told h
tidied_goes P0 P A c later (Allocated end) post desk told h = c.weak post told h
tidied_goes P0 P A c later (Retired life) post desk told h = c.weak post told h

advanced_goes : (P0 P : Post → List Event → Type 0) (A : ℕ → ℕ → Type 0) (c : Closing P0 P A) (ending : Ending) (post : Post) (desk : Desk) (told : List Event) → P0 post told → Left P (steps.advanced ending post desk told)
advanced_goes P0 P A c (Clocked clock) post desk told h = c.weak post told h
advanced_goes P0 P A c Done post desk told h = c.weak post told h
advanced_goes P0 P A c (Protected end) post desk told h = c.weak post told h
advanced_goes P0 P A c (Followed end) post desk told h = c.weak post told h
advanced_goes P0 P A c (Allocated end) post desk told h = c.weak post told h
advanced_goes P0 P A c (Retired life) post desk told h = c.weak post told h

resume_goes : (P0 P : Post → List Event → Type 0) (A : ℕ → ℕ → Type 0) (c : Closing P0 P A) (why : Why) (ending : Ending) (post : Post) (desk : Desk) (told : List Event) → why_allows A why ending → P0 post told → Left P (steps.resume why ending post desk told)
resume_goes P0 P A c (Opens task) ending post desk told a h = opened_goes P0 P A c task ending post desk told a h
resume_goes P0 P A c (FollowsHead head tail) ending post desk told a h = followed_by_goes P0 P A c head tail ending post desk told h
resume_goes P0 P A c (Fills task) ending post desk told a h = filled_goes P0 P A c task ending post desk told h
resume_goes P0 P A c (ClearsNext next) ending post desk told a h = clearing_goes P0 P A c Dequeues next post desk told (c.weak post told h)
resume_goes P0 P A c (Clears task next) ending post desk told a h = finishing_goes P0 P A c task next post desk told (c.weak post told h)
resume_goes P0 P A c (Finishes task next) ending post desk told a h = closed_goes P0 P A c task next post desk told (c.weak post told h)
resume_goes P0 P A c (GivesUp answer) ending post desk told a h = c.weak post told h
resume_goes P0 P A c (Retires answer) ending post desk told a h = retired_by_goes P0 P A c answer ending post desk told h
resume_goes P0 P A c (Tidies later) ending post desk told a h = tidied_goes P0 P A c later ending post desk told h
resume_goes P0 P A c Advances ending post desk told a h = advanced_goes P0 P A c ending post desk told h
resume_goes P0 P A c (Releases let_go) ending post desk told a h = released_goes P0 P A c let_go post desk told h

-- a step of a seat, and the end of its call
resumed_goes : (P0 P : Post → List Event → Type 0) (A : ℕ → ℕ → Type 0) (c : Closing P0 P A) (why : Why) (desk : Desk) (post : Post) (told : List Event) (outcome : Outcome) → outcome_allows A why outcome → P0 post told → Left P (steps.resumed why desk post told outcome)
resumed_goes P0 P A c why desk post told (Goes base) a h = c.weak post told h
resumed_goes P0 P A c why desk post told (Ends ending) a h = resume_goes P0 P A c why ending post desk told a h

-- of what a step tells and leaves before what comes after its machine
abbrev pub First : (Post → List Event → Type 0) → Phase → Post → ℕ → Type 0
First P Idle post found = P post []
First P (Runs why base) post found = P (machine.after base post found).post (machine.after base post found).told
First P (Scans later at) post found = P post (scan_told at post found)
First P (Works work) post found = P (work_post work post) (work_told work post)

turn_goes : (P0 P : Post → List Event → Type 0) (A : ℕ → ℕ → Type 0) (c : Closing P0 P A) (phase : Phase) (post : Post) (desk : Desk) (found : ℕ) → phase_allows A phase post found → First P0 phase post found → Left P (steps.phase_turn phase post desk found)
turn_goes P0 P A c Idle post desk found a h = c.weak post [] h
turn_goes P0 P A c (Runs why base) post desk found a h = resumed_goes P0 P A c why desk (machine.after base post found).post (machine.after base post found).told (machine.after base post found).outcome a h
turn_goes P0 P A c (Scans later at) post desk found a h = scan_goes P0 P A c later at post desk found h
turn_goes P0 P A c (Works work) post desk found a h = work_goes P0 P A c work post desk found a h

pub step_closes : (P0 P : Post → List Event → Type 0) (A : ℕ → ℕ → Type 0) (c : Closing P0 P A) (phase : Phase) (post : Post) (desk : Desk) (found : ℕ) → phase_allows A phase post found → First P0 phase post found → P (steps.phase_turn phase post desk found).post (told_by (steps.phase_turn phase post desk found))
step_closes P0 P A c phase post desk found a h =
    c.ends (steps.phase_turn phase post desk found).post (steps.phase_turn phase post desk found).told (steps.phase_turn phase post desk found).outcome (turn_goes P0 P A c phase post desk found a h)

-- a property that all quiet events keep
end_quiet : (post : Post) (outcome : CallOutcome) → all_quiet (told_end post outcome) ≡ true
end_quiet post (GoesOn phase) = refl
end_quiet post (Answers answer) = refl

cut_quiet : (link : ℕ) → all_quiet (alters.told_cut link) ≡ true
cut_quiet link = by (link == 0)
  where
    by : (b : Bool) → all_quiet (if b then [] else events.Cut (link - 1) ∷ []) ≡ true
    by true = refl
    by false = refl

altered_quiet : (bucket version : ℕ) (change : Change) → all_quiet (alters.told_change bucket version change ∷ []) ≡ true
altered_quiet bucket version (changes.Put key value) = refl
altered_quiet bucket version (changes.Removed key) = refl

linked_quiet : (kept : ChangeKept) (slot : ℕ) (post : Post) → all_quiet (alters.told_linked kept slot post) ≡ true
linked_quiet kept slot post =
    of_along is_quiet (alters.told_cut kept.link) (alters.told_change (alters.changed_bucket kept post) (kept.version + 1) kept.change ∷ []) (cut_quiet kept.link) (altered_quiet (alters.changed_bucket kept post) (kept.version + 1) kept.change)

link_quiet : (root : Root) (slot : ℕ) (same : Bool) → all_quiet (enqueues.told_link root slot same) ≡ true
link_quiet root slot true = refl
link_quiet root slot false = refl

abbrev pub Any : ℕ → ℕ → Type 0
Any key version = Unit {0}

closing : (P : Post → List Event → Type 0) → Closed P → Closing P P Any
closing P c = record {
  weak = λ post told h. h;
  gets = λ post told key version value a h. c.calm post told (events.Got (bucket_of post key) version key value ∷ []) refl h;
  changes = λ post kept slot h. c.calm post [] (alters.told_linked kept slot post) (linked_quiet kept slot post) h;
  links = λ post root slot same h. c.calm post [] (enqueues.told_link root slot same) (link_quiet root slot same) h;
  queues = λ post tail slot number value h. c.calm post [] (events.Link (roots.Next tail) slot ∷ events.Queued number value ∷ []) refl h;
  takes = λ post head next number value h. c.calm post [] (events.Link roots.Head next ∷ events.Cut head ∷ events.Taken number value ∷ []) refl h;
  leaves = λ post count h. c.calm post [] (events.Left count ∷ []) refl h;
  adopts = λ post place count h. c.calm post [] (events.Adopted place count ∷ []) refl h;
  clears = c.clears;
  ends = λ post told outcome h. c.calm post told (told_end post outcome) (end_quiet post outcome) h;
}

get_any : (key : ℕ) (at : GetAt) → get_allows Any key at
get_any key (FindVersion slot) = tt
get_any key at = tt

null_any : (task : Task) → null_allows Any task
null_any (Gets key) = tt
null_any task = tt

ending_any : (task : Task) (ending : Ending) → ending_allows Any task ending
ending_any task (Protected protect_ends.Null) = null_any task
ending_any task ending = tt

why_any : (why : Why) (ending : Ending) → why_allows Any why ending
why_any (Opens task) ending = ending_any task ending
why_any why ending = tt

outcome_any : (why : Why) (outcome : Outcome) → outcome_allows Any why outcome
outcome_any why (Goes base) = tt
outcome_any why (Ends ending) = why_any why ending

work_any : (work : Work) → work_allows Any work
work_any (Getting key at) = get_any key at
work_any work = tt

pub phase_any : (phase : Phase) (post : Post) (found : ℕ) → phase_allows Any phase post found
phase_any Idle post found = tt
phase_any (Runs why base) post found = outcome_any why (machine.after base post found).outcome
phase_any (Scans later at) post found = tt
phase_any (Works work) post found = work_any work

pub step_goes : (P : Post → List Event → Type 0) (c : Closed P) (phase : Phase) (post : Post) (desk : Desk) (found : ℕ) → First P phase post found → P (steps.phase_turn phase post desk found).post (told_by (steps.phase_turn phase post desk found))
step_goes P c phase post desk found h = step_closes P P Any (closing P c) phase post desk found (phase_any phase post found) h
