-- After its machine a step clears only at indexes of its call.
use Rattle.std.proofs.Common.{ℕ, ◌≡◌, ◌≤◌, ◌<◌, arith, ◌+◌, ◌-◌, ◌%◌, Bool, true, false, List, [], ◌∷◌, ◌++◌, length, Option, Some, None, refl, sym, subst, drop}
use Rattle.std.proofs.lemmas.Bool.Decides.{nat_tests}
use Rattle.std.specs.Prelude.{◌==◌, ◌&&◌, nat_le, nat_lt, if◌then◌else◌}
use Rattle.std.specs.List.{list_all, list_any}
use Rattle.law_scans.specs.inv.model.words.declared.config.SchemeKind.{SchemeKind}
use Rattle.law_scans.specs.inv.model.words.declared.config.SchemeKind.TheVariants.{He, Hp, Ibr, Wfe}
use Rattle.law_scans.specs.inv.model.defs.declared.call.Answer.{Answer}
use Rattle.law_scans.specs.inv.model.defs.declared.call.Answer.TheVariants as the_answers
use Rattle.law_scans.specs.inv.model.defs.declared.call.Call.{Call}
use Rattle.law_scans.specs.inv.model.defs.declared.call.Call.TheVariants as names
use Rattle.law_scans.specs.inv.model.defs.declared.call.ClockMove.TheVariants as moves
use Rattle.law_scans.specs.inv.model.defs.declared.event.Event.{Event}
use Rattle.law_scans.specs.inv.model.defs.declared.event.Event.TheVariants as events
use Rattle.law_scans.specs.inv.model.defs.declared.event.Root.{Root}
use Rattle.law_scans.specs.inv.model.defs.declared.event.Root.TheVariants as roots
use Rattle.law_scans.specs.inv.model.defs.declared.fold.Change.{Change}
use Rattle.law_scans.specs.inv.model.defs.declared.fold.Change.TheVariants as changes
use Rattle.law_scans.specs.inv.model.declared.ends.AllocateEnd.{AllocateEnd}
use Rattle.law_scans.specs.inv.model.declared.ends.AllocateEnd.TheVariants as allocate_ends
use Rattle.law_scans.specs.inv.model.declared.ends.FollowEnd.{FollowEnd}
use Rattle.law_scans.specs.inv.model.declared.ends.FollowEnd.TheVariants as follow_ends
use Rattle.law_scans.specs.inv.model.declared.ends.ProtectEnd.TheVariants as protect_ends
use Rattle.law_scans.specs.inv.model.declared.post.Post.{Post}
use Rattle.law_scans.specs.inv.model.Change as alters
use Rattle.law_scans.specs.inv.model.Dequeue as dequeues
use Rattle.law_scans.specs.inv.model.Desks.{Desk, with_life}
use Rattle.law_scans.specs.inv.model.Enqueue as enqueues
use Rattle.law_scans.specs.inv.model.Get as gets
use Rattle.law_scans.specs.inv.model.Keep as keeps
use Rattle.law_scans.specs.inv.model.Posts.{stands, cleared, publishes_index, cleared_from, reserves_span}
use Rattle.law_scans.specs.inv.model.Steps as steps
use Rattle.law_scans.specs.inv.model.Rounds.{scheme_of, bucket_of, index_of, taken_of, finish_base, clear_base, clear_post, clear_told, given_up, closed, finishing_by, finishing, clearing_by, clearing, clearing_next_by, clearing_next, let_index}
use Rattle.law_scans.specs.inv.model.Phases.{Base, Ending, Outcome, Goes, Ends}
use Rattle.law_scans.specs.inv.model.Phases.Ending.{Protected, Followed, Allocated, Retired, Clocked}
use Rattle.law_scans.specs.inv.model.Calls.{Task, Gets, Changes, Holds, Enqueues, Dequeues, Next, Again, MakeRoom, Answering, Retiring, AfterScan, ChangeKept, EnqueueKept, GetAt, FindVersion, FindCount, FindKey, FindValue, ChangeAt, LoadVersion, LoadCount, LoadKey, LoadValue, ExchangeRoot, EnqueueAt, LoadNumber, LoadNext, PassTail, ExchangeNext, ExchangeTail, DequeueAt, SwingTail, ExchangeHead, Work, Getting, Changing, Enqueuing, Dequeuing, Keeping, KeepAt, Loosens, LoadHeld, StoreHeld, Looks, Misses, HideSpan, MarkLeft, TakeList, MarkTaken, LetGo, Released, Rehold, Dropped, Parting, Why, Opens, FollowsHead, Fills, ClearsNext, Clears, Finishes, GivesUp, Retires, Tidies, Advances, Releases, CallTurn}
use Rattle.law_scans.specs.inv.model.words.Schemes.{has_one_interval, publishes_rows}
use Rattle.law_scans.specs.inv.model.words.declared.config.Config.{Config}
use Rattle.law_scans.proofs.inv.model.Facts.{both, same_both, same_number, false_not_true, first_of, rest_of}
use Rattle.law_scans.specs.inv.shapes.Slots.{CopyIn, KeepIn, KeptIn, WorkIn}
use Rattle.law_scans.specs.inv.ends.Stands.{is_clear}
use Rattle.law_scans.proofs.inv.ends.Told.Turns.{keep_just, is_later}
use Rattle.law_scans.proofs.reuse.history.Passes.{copied_told, keep_told}
use Rattle.law_scans.proofs.reuse.AnswersTold.Owed.{call_for, TaskServes, FreeServes, KeepServes, WhyServes, WorkServes}
use Rattle.law_scans.proofs.reuse.history.AllOf.{all_of, of_along}
use Rattle.law_scans.specs.laws.HistoryHolds.{protects_at, clears_at}
use Rattle.law_scans.specs.laws.Standing.{is_copy}
use Rattle.law_scans.proofs.inv.model.Lists.{or_left, or_right}
use Rattle.law_scans.specs.inv.model.Locals.{told_end}

-- a copy from this index to that goes upwards, from an index from 2 on, to one of the table
abbrev pub rises_to : (indexes from index : ℕ) → Bool
rises_to indexes from index = nat_le 2 from && (nat_lt from index && nat_lt index indexes)

abbrev pub copies_up : (indexes : ℕ) → Option Call → (from index : ℕ) → Bool
copies_up indexes call from index = is_copy from index call && rises_to indexes from index

-- an event at an index of the call, or none of protections
abbrev pub fits : (indexes : ℕ) → Call → Event → Bool
fits indexes call (events.Held index slot count) = protects_at (Some call) index
fits indexes call (events.Null index count) = protects_at (Some call) index
fits indexes call (events.Clear index slot) = clears_at (Some call) index
fits indexes call (events.Copied from index slot) = copies_up indexes (Some call) from index
fits indexes call event = true

abbrev pub Fit : (indexes : ℕ) → Call → List Event → Type 0
Fit indexes call told = all_of (fits indexes call) told ≡ true

abbrev Left : (indexes : ℕ) → Call → CallTurn → Type 0
Left indexes call t = Fit indexes call t.told

-- the call may clear at the index
abbrev pub May : Call → ℕ → Type 0
May call index = clears_at (Some call) index ≡ true

more_fit : (indexes : ℕ) (call : Call) (told more : List Event) → Fit indexes call told → Fit indexes call more → Fit indexes call (told ++ more)
more_fit indexes call told more h k = of_along (fits indexes call) told more h k

cleared_fit : (indexes : ℕ) (call : Call) (index : ℕ) (x : Option ℕ) → May call index → Fit indexes call (cleared index x)
cleared_fit indexes call index None m = refl
cleared_fit indexes call index (Some slot) m = rw m refl

clear_fit : (indexes : ℕ) (call : Call) (scheme : SchemeKind) (post : Post) (index : ℕ) → May call index → Fit indexes call (clear_told scheme post index)
clear_fit indexes call He post index m = refl
clear_fit indexes call Ibr post index m = cleared_fit indexes call index (stands post index) m
clear_fit indexes call Wfe post index m = refl
clear_fit indexes call Hp post index m = refl

-- the end of a round
given_up_fit : (indexes : ℕ) (call : Call) (answer : Answer) (post : Post) (desk : Desk) (told : List Event) (x : Option ℕ) → Fit indexes call told → Left indexes call (given_up answer post desk told x)
given_up_fit indexes call answer post desk told None h = h
given_up_fit indexes call answer post desk told (Some slot) h = h

closed_fit : (indexes : ℕ) (call : Call) (task : Task) (next : Next) (post : Post) (desk : Desk) (told : List Event) → Fit indexes call told → Left indexes call (closed task next post desk told)
closed_fit indexes call task Again post desk told h = h
closed_fit indexes call task MakeRoom post desk told h = h
closed_fit indexes call task (Answering answer) post desk told h = given_up_fit indexes call answer post desk told (taken_of task) h
closed_fit indexes call task (Retiring slot answer) post desk told h = h

finishing_by_fit : (indexes : ℕ) (call : Call) (task : Task) (next : Next) (post : Post) (desk : Desk) (told : List Event) (x : Option Base) → Fit indexes call told → Left indexes call (finishing_by task next post desk told x)
finishing_by_fit indexes call task next post desk told None h = closed_fit indexes call task next post desk told h
finishing_by_fit indexes call task next post desk told (Some base) h = h

finishing_fit : (indexes : ℕ) (call : Call) (task : Task) (next : Next) (post : Post) (desk : Desk) (told : List Event) → Fit indexes call told → Left indexes call (finishing task next post desk told)
finishing_fit indexes call task Again post desk told h = closed_fit indexes call task Again post desk told h
finishing_fit indexes call task MakeRoom post desk told h = finishing_by_fit indexes call task MakeRoom post desk told (finish_base (scheme_of post) post) h
finishing_fit indexes call task (Answering answer) post desk told h = finishing_by_fit indexes call task (Answering answer) post desk told (finish_base (scheme_of post) post) h
finishing_fit indexes call task (Retiring slot answer) post desk told h = finishing_by_fit indexes call task (Retiring slot answer) post desk told (finish_base (scheme_of post) post) h

clearing_by_fit : (indexes : ℕ) (call : Call) (task : Task) (next : Next) (post : Post) (desk : Desk) (told : List Event) (x : Option Base) → May call (index_of task) → Fit indexes call told → Left indexes call (clearing_by task next post desk told x)
clearing_by_fit indexes call task next post desk told None m h =
    finishing_fit indexes call task next (clear_post (scheme_of post) post (index_of task)) desk (told ++ clear_told (scheme_of post) post (index_of task))
    (more_fit indexes call told (clear_told (scheme_of post) post (index_of task)) h (clear_fit indexes call (scheme_of post) post (index_of task) m))
clearing_by_fit indexes call task next post desk told (Some base) m h = h

clearing_fit : (indexes : ℕ) (call : Call) (task : Task) (next : Next) (post : Post) (desk : Desk) (told : List Event) → May call (index_of task) → Fit indexes call told → Left indexes call (clearing task next post desk told)
clearing_fit indexes call task next post desk told m h = clearing_by_fit indexes call task next post desk told (clear_base (scheme_of post) (index_of task)) m h

next_by_fit : (indexes : ℕ) (call : Call) (next : Next) (post : Post) (desk : Desk) (told : List Event) (x : Option Base) → May call 0 → May call 1 → Fit indexes call told → Left indexes call (clearing_next_by next post desk told x)
next_by_fit indexes call next post desk told None m n h =
    clearing_fit indexes call Dequeues next (clear_post (scheme_of post) post 1) desk (told ++ clear_told (scheme_of post) post 1) m
    (more_fit indexes call told (clear_told (scheme_of post) post 1) h (clear_fit indexes call (scheme_of post) post 1 n))
next_by_fit indexes call next post desk told (Some base) m n h = h

clearing_next_fit : (indexes : ℕ) (call : Call) (next : Next) (post : Post) (desk : Desk) (told : List Event) → May call 0 → May call 1 → Fit indexes call told → Left indexes call (clearing_next next post desk told)
clearing_next_fit indexes call next post desk told m n h = next_by_fit indexes call next post desk told (clear_base (scheme_of post) 1) m n h

-- a get
got_fit : (indexes : ℕ) (call : Call) (key version : ℕ) (value : Option ℕ) (post : Post) (desk : Desk) (told : List Event) → May call 0 → Fit indexes call told → Left indexes call (gets.got key version value post desk told)
got_fit indexes call key version value post desk told m h =
    clearing_fit indexes call (Gets key) (Answering (the_answers.Got version value)) post desk (told ++ events.Got (bucket_of post key) version key value ∷ []) m (more_fit indexes call told (events.Got (bucket_of post key) version key value ∷ []) h refl)

finding_fit : (indexes : ℕ) (call : Call) (key slot version count : ℕ) (post : Post) (desk : Desk) (on : Bool) (pair : ℕ) → May call 0 → Left indexes call (gets.finding key slot version count post desk on pair)
finding_fit indexes call key slot version count post desk true pair m = refl
finding_fit indexes call key slot version count post desk false pair m = got_fit indexes call key version None post desk [] m refl

found_key_fit : (indexes : ℕ) (call : Call) (key slot version count pair : ℕ) (post : Post) (desk : Desk) (own : Bool) → May call 0 → Left indexes call (gets.found_key key slot version count pair post desk own)
found_key_fit indexes call key slot version count pair post desk true m = refl
found_key_fit indexes call key slot version count pair post desk false m = finding_fit indexes call key slot version count post desk (nat_lt (pair + 1) count) (pair + 1) m

get_fit : (indexes : ℕ) (call : Call) (key : ℕ) (at : GetAt) (post : Post) (desk : Desk) (found : ℕ) → May call 0 → Left indexes call (gets.get_turn key at post desk found)
get_fit indexes call key (FindVersion slot) post desk found m = refl
get_fit indexes call key (FindCount slot version) post desk found m = finding_fit indexes call key slot version found post desk (nat_lt 0 found) 0 m
get_fit indexes call key (FindKey slot version count pair) post desk found m = found_key_fit indexes call key slot version count pair post desk (found == key) m
get_fit indexes call key (FindValue slot version pair) post desk found m = got_fit indexes call key version (Some found) post desk [] m refl

-- a change
deciding_by_fit : (indexes : ℕ) (call : Call) (kept : ChangeKept) (post : Post) (desk : Desk) (told : List Event) (x : Option Answer) → May call 0 → Fit indexes call told → Left indexes call (alters.deciding_by kept post desk told x)
deciding_by_fit indexes call kept post desk told (Some answer) m h = clearing_fit indexes call (Changes kept) (Answering answer) post desk told m h
deciding_by_fit indexes call kept post desk told None m h = h

deciding_fit : (indexes : ℕ) (call : Call) (kept : ChangeKept) (post : Post) (desk : Desk) (told : List Event) → May call 0 → Fit indexes call told → Left indexes call (alters.deciding kept post desk told)
deciding_fit indexes call kept post desk told m h = deciding_by_fit indexes call kept post desk told (alters.refused post.layout.config kept) m h

reading_fit : (indexes : ℕ) (call : Call) (kept : ChangeKept) (slot count : ℕ) (post : Post) (desk : Desk) (on : Bool) → May call 0 → Left indexes call (alters.reading kept slot count post desk on)
reading_fit indexes call kept slot count post desk true m = refl
reading_fit indexes call kept slot count post desk false m = deciding_fit indexes call kept post desk [] m refl

change_one : (indexes : ℕ) (call : Call) (bucket version : ℕ) (change : Change) → Fit indexes call (alters.told_change bucket version change ∷ [])
change_one indexes call bucket version (changes.Put key value) = refl
change_one indexes call bucket version (changes.Removed key) = refl

cut_fit : (indexes : ℕ) (call : Call) (link : ℕ) (none : Bool) → Fit indexes call (if none then [] else events.Cut (link - 1) ∷ [])
cut_fit indexes call link true = refl
cut_fit indexes call link false = refl

linked_fit : (indexes : ℕ) (call : Call) (kept : ChangeKept) (slot : ℕ) (post : Post) → Fit indexes call (alters.told_linked kept slot post)
linked_fit indexes call kept slot post =
    more_fit indexes call (alters.told_cut kept.link) (alters.told_change (alters.changed_bucket kept post) (kept.version + 1) kept.change ∷ []) (cut_fit indexes call kept.link (kept.link == 0)) (change_one indexes call (alters.changed_bucket kept post) (kept.version + 1) kept.change)

exchanged_fit : (indexes : ℕ) (call : Call) (kept : ChangeKept) (slot : ℕ) (post : Post) (desk : Desk) (same : Bool) → May call 0 → Left indexes call (alters.exchanged kept slot post desk same)
exchanged_fit indexes call kept slot post desk true m = clearing_fit indexes call (Changes (record kept { taken = None })) (alters.answer_done (kept.version + 1) kept.link) post desk (alters.told_linked kept slot post) m (linked_fit indexes call kept slot post)
exchanged_fit indexes call kept slot post desk false m = clearing_fit indexes call (Changes kept) Again post desk [] m refl

change_fit : (indexes : ℕ) (call : Call) (kept : ChangeKept) (at : ChangeAt) (post : Post) (desk : Desk) (found : ℕ) → May call 0 → Left indexes call (alters.change_turn kept at post desk found)
change_fit indexes call kept (LoadVersion slot) post desk found m = refl
change_fit indexes call kept (LoadCount slot) post desk found m = reading_fit indexes call kept slot found post desk (nat_lt 0 found) m
change_fit indexes call kept (LoadKey slot count) post desk found m = refl
change_fit indexes call kept (LoadValue slot count key) post desk found m = reading_fit indexes call (alters.with_read kept key found) slot count post desk (nat_lt (length kept.pairs + 1) count) m
change_fit indexes call kept (ExchangeRoot slot) post desk found m = exchanged_fit indexes call kept slot post desk (found == kept.link) m

-- an enqueue
link_fit : (indexes : ℕ) (call : Call) (root : Root) (slot : ℕ) (same : Bool) → Fit indexes call (enqueues.told_link root slot same)
link_fit indexes call root slot true = refl
link_fit indexes call root slot false = refl

appending_fit : (indexes : ℕ) (call : Call) (kept : EnqueueKept) (post : Post) (desk : Desk) (spent : Bool) → May call 0 → Left indexes call (enqueues.appending kept post desk spent)
appending_fit indexes call kept post desk true m = clearing_fit indexes call (Enqueues kept) (Answering (the_answers.Spent kept.number)) post desk [] m refl
appending_fit indexes call kept post desk false m = refl

at_next_fit : (indexes : ℕ) (call : Call) (kept : EnqueueKept) (next : ℕ) (post : Post) (desk : Desk) (none : Bool) → May call 0 → Left indexes call (enqueues.at_next kept next post desk none)
at_next_fit indexes call kept next post desk true m = appending_fit indexes call kept post desk (kept.number == post.layout.config.last_version) m
at_next_fit indexes call kept next post desk false m = refl

appended_fit : (indexes : ℕ) (call : Call) (kept : EnqueueKept) (slot : ℕ) (post : Post) (desk : Desk) (same : Bool) → May call 0 → Left indexes call (enqueues.appended kept slot post desk same)
appended_fit indexes call kept slot post desk true m = refl
appended_fit indexes call kept slot post desk false m = clearing_fit indexes call (Enqueues kept) Again post desk [] m refl

enqueue_fit : (indexes : ℕ) (call : Call) (kept : EnqueueKept) (at : EnqueueAt) (post : Post) (desk : Desk) (found : ℕ) → May call 0 → Left indexes call (enqueues.enqueue_turn kept at post desk found)
enqueue_fit indexes call kept LoadNumber post desk found m = refl
enqueue_fit indexes call kept LoadNext post desk found m = at_next_fit indexes call kept found post desk (found == 0) m
enqueue_fit indexes call kept (PassTail next) post desk found m = clearing_fit indexes call (Enqueues kept) Again post desk (enqueues.told_link roots.Tail (next - 1) (found == kept.tail + 1)) m (link_fit indexes call roots.Tail (next - 1) (found == kept.tail + 1))
enqueue_fit indexes call kept (ExchangeNext slot) post desk found m = appended_fit indexes call kept slot post desk (found == 0) m
enqueue_fit indexes call kept (ExchangeTail slot) post desk found m = clearing_fit indexes call (Enqueues kept) (Answering (the_answers.Queued (kept.number + 1))) post desk (enqueues.told_link roots.Tail slot (found == kept.tail + 1)) m (link_fit indexes call roots.Tail slot (found == kept.tail + 1))

-- a dequeue
followed_row_fit : (indexes : ℕ) (call : Call) (head next : ℕ) (post : Post) (desk : Desk) (told : List Event) (lags : Bool) → Fit indexes call told → Left indexes call (dequeues.followed_row head next post desk told lags)
followed_row_fit indexes call head next post desk told true h = h
followed_row_fit indexes call head next post desk told false h = h

followed_fit : (indexes : ℕ) (call : Call) (head tail : ℕ) (ending : FollowEnd) (post : Post) (desk : Desk) (told : List Event) → May call 0 → May call 1 → Fit indexes call told → Left indexes call (dequeues.followed head tail ending post desk told)
followed_fit indexes call head tail (follow_ends.Followed slot) post desk told m n h = followed_row_fit indexes call head slot post desk told (tail == head + 1) h
followed_fit indexes call head tail follow_ends.NoNext post desk told m n h = clearing_next_fit indexes call (Answering the_answers.Empty) post desk told m n h
followed_fit indexes call head tail (follow_ends.RootMoved seen) post desk told m n h = clearing_next_fit indexes call Again post desk told m n h

taken_fit : (indexes : ℕ) (call : Call) (head next number value : ℕ) (post : Post) (desk : Desk) (same : Bool) → May call 0 → May call 1 → Left indexes call (dequeues.taken head next number value post desk same)
taken_fit indexes call head next number value post desk true m n = clearing_next_fit indexes call (Retiring head (the_answers.Taken number value moves.Still)) post desk (events.Link roots.Head next ∷ events.Cut head ∷ events.Taken number value ∷ []) m n refl
taken_fit indexes call head next number value post desk false m n = clearing_next_fit indexes call Again post desk [] m n refl

dequeue_fit : (indexes : ℕ) (call : Call) (at : DequeueAt) (post : Post) (desk : Desk) (found : ℕ) → May call 0 → May call 1 → Left indexes call (dequeues.dequeue_turn at post desk found)
dequeue_fit indexes call (SwingTail head next) post desk found m n = clearing_next_fit indexes call Again post desk (enqueues.told_link roots.Tail next (found == head + 1)) m n (link_fit indexes call roots.Tail next (found == head + 1))
dequeue_fit indexes call (ExchangeHead head next number value) post desk found m n = taken_fit indexes call head next number value post desk (found == head + 1) m n
dequeue_fit indexes call at post desk found m n = refl

-- where a call may clear
change_may : (change : Change) (wanted : Option ℕ) → May (call_for change wanted) 0
change_may (changes.Put key value) None = refl
change_may (changes.Put key value) (Some version) = refl
change_may (changes.Removed key) wanted = refl

pub task_may : (call : Call) (task : Task) → TaskServes call task → May call (index_of task)
task_may call (Gets key) s = rw s refl
task_may call (Changes kept) s = subst (λ (x : Call). May x 0) (sym s.is) (change_may kept.change kept.wanted)
task_may call (Holds key) s = rw s refl
task_may call (Enqueues kept) s = rw s refl
task_may call Dequeues s = rw s refl

pub dequeue_may : (call : Call) (index : ℕ) → call ≡ names.Dequeue → May names.Dequeue index → May call index
dequeue_may call index s m = subst (λ (x : Call). May x index) (sym s) m

pub free_may : (config : Config) (call : Call) (let_go : LetGo) → KeptIn config (let_index let_go) → FreeServes call let_go → May call (let_index let_go)
free_may config call Released k s = rw s refl
free_may config call (Rehold key) k s = rw s refl
free_may config call (Dropped index) k s =
    let low : 2 ≤ index = k.kept in
    let kept : nat_le 2 index ≡ true = grind (arith, nat_tests) in
    subst (λ (x : Call). May x index) (sym s) (both (index == index) (nat_le 2 index) (same_number index) kept)
free_may config call (Parting index) k s =
    let low : 2 ≤ index = k.kept in
    let kept : nat_le 2 index ≡ true = grind (arith, nat_tests) in
    subst (λ (x : Call). May x index) (sym s) kept

copy_may : (config : Config) (call : Call) (from index : ℕ) → CopyIn config from index → call ≡ names.Copy from index → May call index
copy_may config call from index k s =
    let low : 2 ≤ from = k.kept in
    let up : from < index = k.rises in
    let kept : nat_le 2 from ≡ true = grind (arith, nat_tests) in
    let rises : nat_lt from index ≡ true = grind (arith, nat_tests) in
    subst (λ (x : Call). May x index) (sym s) (both (index == index) (nat_le 2 from && nat_lt from index) (same_number index) (both (nat_le 2 from) (nat_lt from index) kept rises))

-- a call on what is kept
up_may : (config : Config) (call : Call) (from index : ℕ) → CopyIn config from index → call ≡ names.Copy from index → copies_up config.indexes (Some call) from index ≡ true
up_may config call from index k s =
    let low : 2 ≤ from = k.kept in
    let up : from < index = k.rises in
    let few : index < config.indexes = k.below in
    let kept : nat_le 2 from ≡ true = grind (arith, nat_tests) in
    let rises : nat_lt from index ≡ true = grind (arith, nat_tests) in
    let below : nat_lt index config.indexes ≡ true = grind (arith, nat_tests) in
    subst (λ (x : Call). copies_up config.indexes (Some x) from index ≡ true) (sym s)
    (both (from == from && index == index) (rises_to config.indexes from index) (same_both from index)
    (both (nat_le 2 from) (nat_lt from index && nat_lt index config.indexes) kept (both (nat_lt from index) (nat_lt index config.indexes) rises below)))

copied_fit : (indexes : ℕ) (call : Call) (from index : ℕ) (post : Post) (reserved : List Event) (x : Option ℕ) → May call index → copies_up indexes (Some call) from index ≡ true → Fit indexes call reserved → Fit indexes call (copied_told from index post reserved x)
copied_fit indexes call from index post reserved None m u r = refl
copied_fit indexes call from index post reserved (Some slot) m u r =
    more_fit indexes call (cleared index (stands post index) ++ reserved) (events.Copied from index slot ∷ []) (more_fit indexes call (cleared index (stands post index)) reserved (cleared_fit indexes call index (stands post index) m) r) (rw u refl)

load_held_fit : (indexes : ℕ) (call : Call) (from index : ℕ) (post : Post) (one : Bool) → May call index → copies_up indexes (Some call) from index ≡ true → Fit indexes call (if one then copied_told from index post [] (stands post from) else [])
load_held_fit indexes call from index post true m u = copied_fit indexes call from index post [] (stands post from) m u refl
load_held_fit indexes call from index post false m u = refl

-- a call by which the seat leaves lets go of all from index 2 on
all_fit : (indexes : ℕ) (call : Call) (index : ℕ) (rows : List (Option ℕ)) → 2 ≤ index → call ≡ names.Leave → Fit indexes call (cleared_from index rows)
all_fit indexes call index [] l s = refl
all_fit indexes call index (row ∷ rows) l s =
    let high : nat_le 2 index ≡ true = grind (arith, nat_tests) in
    more_fit indexes call (cleared index row) (cleared_from (index + 1) rows) (cleared_fit indexes call index row (subst (λ (x : Call). May x index) (sym s) high)) (all_fit indexes call (index + 1) rows (omega (arith, l)) s)

kept_fit : (config : Config) (call : Call) (at : KeepAt) (post : Post) → KeepServes call at → KeepIn config at → Fit config.indexes call (keep_told at post)
kept_fit config call (Loosens let_go) post s k = cleared_fit config.indexes call (let_index let_go) (stands post (let_index let_go)) (free_may config call let_go k s)
kept_fit config call (LoadHeld from index) post s k = load_held_fit config.indexes call from index post (has_one_interval (scheme_of post)) (copy_may config call from index k s) (up_may config call from index k s)
kept_fit config call (StoreHeld from index number) post s k = copied_fit config.indexes call from index post (publishes_index (publishes_rows (scheme_of post)) post index number) (stands post from) (copy_may config call from index k s) (up_may config call from index k s) (by (publishes_rows (scheme_of post)))
  where
    by : (rows : Bool) → Fit config.indexes call (publishes_index rows post index number)
    by false = refl
    by true = refl
kept_fit config call (Looks index key at) post s k = refl
kept_fit config call (Misses index) post s k = refl
kept_fit config call HideSpan post s k = more_fit config.indexes call (cleared_from 2 (drop 2 post.standing)) (reserves_span post None) (all_fit config.indexes call 2 (drop 2 post.standing) (omega arith) s) refl
kept_fit config call MarkLeft post s k = refl
kept_fit config call (TakeList place) post s k = refl
kept_fit config call (MarkTaken place count) post s k = refl

-- and after it comes nothing of rows that stand
later_fit : (indexes : ℕ) (call : Call) (told : List Event) → list_all is_later told ≡ true → ((j s : ℕ) → list_any (is_clear j s) told ≡ false) → Fit indexes call told
later_fit indexes call [] l c = refl
later_fit indexes call (event ∷ told) l c =
    let a : is_later event ≡ true = grind (arith, nat_tests) in
    let b : list_all is_later told ≡ true = grind (arith, nat_tests) in
    both (fits indexes call event) (all_of (fits indexes call) told) (one event a (λ j s. or_left (is_clear j s event) (list_any (is_clear j s) told) (c j s)))
    (later_fit indexes call told b (λ j s. or_right (is_clear j s event) (list_any (is_clear j s) told) (c j s)))
  where
    one : (event : Event) → is_later event ≡ true → ((j s : ℕ) → is_clear j s event ≡ false) → fits indexes call event ≡ true
    one (events.Held index slot count) a c = absurd (cc)
    one (events.Null index count) a c = absurd (cc)
    one (events.Copied from index slot) a c = absurd (cc)
    one (events.Clear index slot) a c = absurd (false_not_true (index == index && slot == slot) (c index slot) (same_both index slot))
    one event a c = refl

-- so it is with what comes before other events
front_fit : (indexes : ℕ) (call : Call) (xs ys : List Event) → Fit indexes call (xs ++ ys) → Fit indexes call xs
front_fit indexes call [] ys h = refl
front_fit indexes call (event ∷ xs) ys h =
    both (fits indexes call event) (all_of (fits indexes call) xs) (first_of (fits indexes call event) (all_of (fits indexes call) (xs ++ ys)) h)
    (front_fit indexes call xs ys (rest_of (fits indexes call event) (all_of (fits indexes call) (xs ++ ys)) h))

keep_fit : (config : Config) (call : Call) (at : KeepAt) (post : Post) (desk : Desk) (found : ℕ) → KeepServes call at → KeepIn config at → Left config.indexes call (keeps.keep_turn at post desk found)
keep_fit config call at post desk found s k =
    let t : CallTurn = keeps.keep_turn at post desk found in
    let x = keep_just at post desk found in
    front_fit config.indexes call t.told (told_end t.post t.outcome)
    (subst (Fit config.indexes call) (sym x.told) (more_fit config.indexes call (keep_told at post) x.more (kept_fit config call at post s k) (later_fit config.indexes call x.more x.plain.later x.plain.clears)))

pub work_fit : (config : Config) (call : Call) (work : Work) (post : Post) (desk : Desk) (found : ℕ) → WorkServes call work → WorkIn config work → Left config.indexes call (steps.work_turn work post desk found)
work_fit config call (Getting key at) post desk found s k = get_fit config.indexes call key at post desk found (task_may call (Gets key) s)
work_fit config call (Changing kept at) post desk found s k = change_fit config.indexes call kept at post desk found (task_may call (Changes kept) s)
work_fit config call (Enqueuing kept at) post desk found s k = enqueue_fit config.indexes call kept at post desk found (task_may call (Enqueues kept) s)
work_fit config call (Dequeuing at) post desk found s k = dequeue_fit config.indexes call at post desk found (dequeue_may call 0 s refl) (dequeue_may call 1 s refl)
work_fit config call (Keeping at) post desk found s k = keep_fit config call at post desk found s k

-- what comes after a machine
opened_row_fit : (indexes : ℕ) (call : Call) (task : Task) (slot : ℕ) (post : Post) (desk : Desk) (told : List Event) → Fit indexes call told → Left indexes call (steps.opened_row task slot post desk told)
opened_row_fit indexes call (Gets key) slot post desk told h = h
opened_row_fit indexes call (Changes kept) slot post desk told h = h
opened_row_fit indexes call (Holds key) slot post desk told h = h
opened_row_fit indexes call (Enqueues kept) slot post desk told h = h
opened_row_fit indexes call Dequeues slot post desk told h = h

opened_null_fit : (indexes : ℕ) (call : Call) (task : Task) (post : Post) (desk : Desk) (told : List Event) → May call (index_of task) → Fit indexes call told → Left indexes call (steps.opened_null task post desk told)
opened_null_fit indexes call (Gets key) post desk told m h = got_fit indexes call key 0 None post desk told m h
opened_null_fit indexes call (Changes kept) post desk told m h = deciding_fit indexes call (alters.at_link kept 0) post desk told m h
opened_null_fit indexes call (Holds key) post desk told m h = clearing_fit indexes call (Holds key) (Answering the_answers.Nothing) post desk told m h
opened_null_fit indexes call (Enqueues kept) post desk told m h = clearing_fit indexes call (Enqueues kept) Again post desk told m h
opened_null_fit indexes call Dequeues post desk told m h = clearing_fit indexes call Dequeues Again post desk told m h

opened_fit : (indexes : ℕ) (call : Call) (task : Task) (ending : Ending) (post : Post) (desk : Desk) (told : List Event) → May call (index_of task) → Fit indexes call told → Left indexes call (steps.opened task ending post desk told)
opened_fit indexes call task (Protected (protect_ends.Held slot era)) post desk told m h = opened_row_fit indexes call task slot post desk told h
opened_fit indexes call task (Protected protect_ends.Null) post desk told m h = opened_null_fit indexes call task post desk told m h
opened_fit indexes call task ending post desk told m h = h

filled_by_fit : (indexes : ℕ) (call : Call) (task : Task) (ending : AllocateEnd) (post : Post) (desk : Desk) (told : List Event) → May call (index_of task) → Fit indexes call told → Left indexes call (steps.filled_by task ending post desk told)
filled_by_fit indexes call (Changes kept) (allocate_ends.Given slot birth) post desk told m h = h
filled_by_fit indexes call (Changes kept) allocate_ends.Full post desk told m h = clearing_fit indexes call (Changes (alters.with_walked kept)) (alters.no_room kept.walked) post desk told m h
filled_by_fit indexes call (Enqueues kept) (allocate_ends.Given slot birth) post desk told m h = h
filled_by_fit indexes call (Enqueues kept) allocate_ends.Full post desk told m h = clearing_fit indexes call (Enqueues (enqueues.item_walked kept)) (alters.no_room kept.walked) post desk told m h
filled_by_fit indexes call (Gets key) ending post desk told m h = closed_fit indexes call (Gets key) Again post desk told h
filled_by_fit indexes call (Holds key) ending post desk told m h = closed_fit indexes call (Holds key) Again post desk told h
filled_by_fit indexes call Dequeues ending post desk told m h = closed_fit indexes call Dequeues Again post desk told h

written_fit : (indexes : ℕ) (call : Call) (task : Task) (post : Post) (desk : Desk) (told : List Event) → Fit indexes call told → Left indexes call (steps.written_row task post desk told)
written_fit indexes call (Changes kept) post desk told h = h
written_fit indexes call (Enqueues kept) post desk told h = h
written_fit indexes call (Gets key) post desk told h = closed_fit indexes call (Gets key) Again post desk told h
written_fit indexes call (Holds key) post desk told h = closed_fit indexes call (Holds key) Again post desk told h
written_fit indexes call Dequeues post desk told h = closed_fit indexes call Dequeues Again post desk told h

filled_fit : (indexes : ℕ) (call : Call) (task : Task) (ending : Ending) (post : Post) (desk : Desk) (told : List Event) → May call (index_of task) → Fit indexes call told → Left indexes call (steps.filled task ending post desk told)
filled_fit indexes call task (Allocated ending) post desk told m h = filled_by_fit indexes call task ending post desk told m h
filled_fit indexes call task ending post desk told m h = written_fit indexes call task post desk told h

followed_by_fit : (indexes : ℕ) (call : Call) (head tail : ℕ) (ending : Ending) (post : Post) (desk : Desk) (told : List Event) → May call 0 → May call 1 → Fit indexes call told → Left indexes call (steps.followed_by head tail ending post desk told)
followed_by_fit indexes call head tail (Followed ending) post desk told m n h = followed_fit indexes call head tail ending post desk told m n h
followed_by_fit indexes call head tail ending post desk told m n h = closed_fit indexes call Dequeues Again post desk told h

tidying_fit : (indexes : ℕ) (call : Call) (answer : Answer) (post : Post) (desk : Desk) (told : List Event) (due : Bool) → Fit indexes call told → Left indexes call (steps.tidying answer post desk told due)
tidying_fit indexes call answer post desk told true h = h
tidying_fit indexes call answer post desk told false h = h

retired_fit : (indexes : ℕ) (call : Call) (answer : Answer) (ending : Ending) (post : Post) (desk : Desk) (told : List Event) → Fit indexes call told → Left indexes call (steps.retired_by answer ending post desk told)
retired_fit indexes call answer (Retired life) post desk told h = tidying_fit indexes call answer post (with_life desk life) told (post.retired % post.layout.config.every == 0) h
retired_fit indexes call answer ending post desk told h = h

tidied_fit : (indexes : ℕ) (call : Call) (later : AfterScan) (ending : Ending) (post : Post) (desk : Desk) (told : List Event) → Fit indexes call told → Left indexes call (steps.tidied later ending post desk told)
tidied_fit indexes call later (Clocked clock) post desk told h = h
tidied_fit indexes call later ending post desk told h = h

advanced_fit : (indexes : ℕ) (call : Call) (ending : Ending) (post : Post) (desk : Desk) (told : List Event) → Fit indexes call told → Left indexes call (steps.advanced ending post desk told)
advanced_fit indexes call (Clocked clock) post desk told h = h
advanced_fit indexes call ending post desk told h = h

released_fit : (indexes : ℕ) (call : Call) (let_go : LetGo) (post : Post) (desk : Desk) (told : List Event) → Fit indexes call told → Left indexes call (keeps.released let_go post desk told)
released_fit indexes call Released post desk told h = h
released_fit indexes call (Rehold key) post desk told h = h
released_fit indexes call (Dropped index) post desk told h = h
released_fit indexes call (Parting index) post desk told h = h

resume_fit : (indexes : ℕ) (call : Call) (why : Why) (ending : Ending) (post : Post) (desk : Desk) (told : List Event) → WhyServes call why → Fit indexes call told → Left indexes call (steps.resume why ending post desk told)
resume_fit indexes call (Opens task) ending post desk told s h = opened_fit indexes call task ending post desk told (task_may call task s) h
resume_fit indexes call (FollowsHead head tail) ending post desk told s h = followed_by_fit indexes call head tail ending post desk told (dequeue_may call 0 s refl) (dequeue_may call 1 s refl) h
resume_fit indexes call (Fills task) ending post desk told s h = filled_fit indexes call task ending post desk told (task_may call task s) h
resume_fit indexes call (ClearsNext next) ending post desk told s h = clearing_fit indexes call Dequeues next post desk told (dequeue_may call 0 s.0 refl) h
resume_fit indexes call (Clears task next) ending post desk told s h = finishing_fit indexes call task next post desk told h
resume_fit indexes call (Finishes task next) ending post desk told s h = closed_fit indexes call task next post desk told h
resume_fit indexes call (GivesUp answer) ending post desk told s h = h
resume_fit indexes call (Retires answer) ending post desk told s h = retired_fit indexes call answer ending post desk told h
resume_fit indexes call (Tidies later) ending post desk told s h = tidied_fit indexes call later ending post desk told h
resume_fit indexes call Advances ending post desk told s h = advanced_fit indexes call ending post desk told h
resume_fit indexes call (Releases let_go) ending post desk told s h = released_fit indexes call let_go post desk told h

pub resumed_fit : (indexes : ℕ) (call : Call) (why : Why) (desk : Desk) (post : Post) (told : List Event) (outcome : Outcome) → WhyServes call why → Fit indexes call told → Left indexes call (steps.resumed why desk post told outcome)
resumed_fit indexes call why desk post told (Goes base) s h = h
resumed_fit indexes call why desk post told (Ends ending) s h = resume_fit indexes call why ending post desk told s h
