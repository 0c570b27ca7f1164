-- What a step tells first: what its machine or scan tells, or what the call's own step links and changes. After it nothing comes
-- but what was got, what is cleared, what is published, what is copied, that a list is left or taken over, and the end.
use Rattle.std.proofs.Common.{ℕ, ◌≡◌, ◌+◌, ◌-◌, ◌%◌, Bool, true, false, List, [], ◌∷◌, ◌++◌, length, Option, Some, None, refl, sym, ◌∙◌}
use Rattle.std.proofs.lemmas.List.{append_assoc}
use Rattle.std.specs.Prelude.{◌==◌, drop, nat_lt}
use Rattle.law_reuse.specs.inv.model.words.declared.config.SchemeKind.{SchemeKind}
use Rattle.law_reuse.specs.inv.model.defs.declared.call.Answer.{Answer}
use Rattle.law_reuse.specs.inv.model.defs.declared.call.Answer.TheVariants as the_answers
use Rattle.law_reuse.specs.inv.model.defs.declared.call.ClockMove.TheVariants as moves
use Rattle.law_reuse.specs.inv.model.defs.declared.event.Event.{Event}
use Rattle.law_reuse.specs.inv.model.defs.declared.event.Event.TheVariants as events
use Rattle.law_reuse.specs.inv.model.defs.declared.event.Root.TheVariants as roots
use Rattle.law_reuse.specs.inv.model.declared.ends.AllocateEnd.{AllocateEnd}
use Rattle.law_reuse.specs.inv.model.declared.ends.AllocateEnd.TheVariants as allocate_ends
use Rattle.law_reuse.specs.inv.model.declared.ends.FollowEnd.{FollowEnd}
use Rattle.law_reuse.specs.inv.model.declared.ends.FollowEnd.TheVariants as follow_ends
use Rattle.law_reuse.specs.inv.model.declared.ends.ProtectEnd.TheVariants as protect_ends
use Rattle.law_reuse.specs.inv.model.declared.post.Post.{Post}
use Rattle.law_reuse.specs.inv.model.Change as alters
use Rattle.law_reuse.specs.inv.model.Dequeue as dequeues
use Rattle.law_reuse.specs.inv.model.Desks.{Desk, with_gift, with_life}
use Rattle.law_reuse.specs.inv.model.Enqueue as enqueues
use Rattle.law_reuse.specs.inv.model.Get as gets
use Rattle.law_reuse.specs.inv.model.Guards.{guards, guard_at, published}
use Rattle.law_reuse.specs.inv.model.Keep as keeps
use Rattle.law_reuse.specs.inv.model.Machine as machine
use Rattle.law_reuse.specs.inv.model.Posts.{cleared, cleared_from, publishes_index, reserves_span, stands, with_row, withdrawn, withdrawn_all}
use Rattle.law_reuse.specs.inv.model.words.Schemes.{has_one_interval, publishes_rows}
use Rattle.law_reuse.specs.inv.model.Scan as scan
use Rattle.law_reuse.specs.inv.model.Steps as steps
use Rattle.law_reuse.specs.inv.model.Rounds.{scheme_of, bucket_of, index_of, taken_of, finish_base, clear_base, clear_post, clear_told, given_up, closed, finishing_by, finishing, clearing_by, clearing, clearing_next_by, clearing_next, let_index}
use Rattle.law_reuse.specs.inv.model.Phases.{Base, Ending, Outcome, Goes, Ends}
use Rattle.law_reuse.specs.inv.model.Phases.Ending.{Done, Protected, Followed, Allocated, Retired, Clocked}
use Rattle.law_reuse.specs.inv.model.Calls.{Task, Gets, Changes, Holds, Enqueues, Dequeues, Next, Again, MakeRoom, Answering, Retiring, AfterScan, Answered, Repeated, Counted, ChangeKept, EnqueueKept, GetAt, FindVersion, FindCount, FindKey, FindValue, ChangeAt, LoadVersion, LoadCount, LoadKey, LoadValue, ExchangeRoot, EnqueueAt, LoadNumber, LoadNext, PassTail, ExchangeNext, ExchangeTail, DequeueAt, LoadTail, SwingTail, TakeNumber, TakeValue, ExchangeHead, Work, Getting, Changing, Enqueuing, Dequeuing, Keeping, KeepAt, Loosens, LoadHeld, StoreHeld, Looks, Misses, HideSpan, MarkLeft, TakeList, MarkTaken, LetGo, Released, Rehold, Dropped, Parting, ScanAt, ReadGuard, GiveBack, Why, Opens, FollowsHead, Fills, ClearsNext, Clears, Finishes, GivesUp, Retires, Tidies, Advances, Releases, Phase, Idle, Runs, Scans, Works, CallTurn, CallOutcome}
use Rattle.law_reuse.proofs.inv.history.Passes.{scan_told}
use Rattle.law_reuse.proofs.AnswersTold.Owed.{append_none}
use Rattle.law_reuse.proofs.inv.history.AllOf.{all_of, of_along}
use Rattle.law_reuse.proofs.inv.history.MayTell.{clear_all, cleared_all, cleared_from_all}

-- what comes after
abbrev pub is_after : Event → Bool
is_after (events.Got bucket version key value) = true
is_after (events.Clear index slot) = true
is_after (events.Reserve guard span) = true
is_after (events.Hazard guard slot) = true
is_after (events.Copied from index slot) = true
is_after (events.Left count) = true
is_after (events.Adopted place count) = true
is_after event = false

-- a turn tells these events, and then no others than those
pub record Starts (told : List Event) (t : CallTurn) : Type 0 where
  pub more : List Event
  pub is : t.told ≡ told ++ more
  pub calm : all_of is_after more ≡ true

here : (told : List Event) (post : Post) (desk : Desk) (outcome : CallOutcome) → Starts told (record { post = post; desk = desk; told = told; outcome = outcome })
here told post desk outcome = record { more = []; is = sym (append_none told); calm = refl }

later : (told some : List Event) (t : CallTurn) → all_of is_after some ≡ true → Starts (told ++ some) t → Starts told t
later told some t a b = record { more = some ++ b.more; is = b.is ∙ append_assoc told some b.more; calm = of_along is_after some b.more a b.calm }

clear_after : (scheme : SchemeKind) (post : Post) (index : ℕ) → all_of is_after (clear_told scheme post index) ≡ true
clear_after scheme post index = clear_all is_after scheme post index (λ index slot. refl)

-- the end of a round
given_up_starts : (answer : Answer) (post : Post) (desk : Desk) (told : List Event) (x : Option ℕ) → Starts told (given_up answer post desk told x)
given_up_starts answer post desk told None = here told post desk _
given_up_starts answer post desk told (Some slot) = here told post desk _

closed_starts : (task : Task) (next : Next) (post : Post) (desk : Desk) (told : List Event) → Starts told (closed task next post desk told)
closed_starts task Again post desk told = here told post desk _
closed_starts task MakeRoom post desk told = here told post desk _
closed_starts task (Answering answer) post desk told = given_up_starts answer post desk told (taken_of task)
closed_starts task (Retiring slot answer) post desk told = here told post desk _

finishing_by_starts : (task : Task) (next : Next) (post : Post) (desk : Desk) (told : List Event) (x : Option Base) → Starts told (finishing_by task next post desk told x)
finishing_by_starts task next post desk told None = closed_starts task next post desk told
finishing_by_starts task next post desk told (Some base) = here told post desk _

finishing_starts : (task : Task) (next : Next) (post : Post) (desk : Desk) (told : List Event) → Starts told (finishing task next post desk told)
finishing_starts task Again post desk told = closed_starts task Again post desk told
finishing_starts task MakeRoom post desk told = finishing_by_starts task MakeRoom post desk told (finish_base (scheme_of post) post)
finishing_starts task (Answering answer) post desk told = finishing_by_starts task (Answering answer) post desk told (finish_base (scheme_of post) post)
finishing_starts task (Retiring slot answer) post desk told = finishing_by_starts task (Retiring slot answer) post desk told (finish_base (scheme_of post) post)

clearing_by_starts : (task : Task) (next : Next) (post : Post) (desk : Desk) (told : List Event) (x : Option Base) → Starts told (clearing_by task next post desk told x)
clearing_by_starts task next post desk told None =
    later told (clear_told (scheme_of post) post (index_of task)) _ (clear_after (scheme_of post) post (index_of task))
    (finishing_starts task next (clear_post (scheme_of post) post (index_of task)) desk (told ++ clear_told (scheme_of post) post (index_of task)))
clearing_by_starts task next post desk told (Some base) = here told post desk _

clearing_starts : (task : Task) (next : Next) (post : Post) (desk : Desk) (told : List Event) → Starts told (clearing task next post desk told)
clearing_starts task next post desk told = clearing_by_starts task next post desk told (clear_base (scheme_of post) (index_of task))

next_by_starts : (next : Next) (post : Post) (desk : Desk) (told : List Event) (x : Option Base) → Starts told (clearing_next_by next post desk told x)
next_by_starts next post desk told None =
    later told (clear_told (scheme_of post) post 1) _ (clear_after (scheme_of post) post 1)
    (clearing_starts Dequeues next (clear_post (scheme_of post) post 1) desk (told ++ clear_told (scheme_of post) post 1))
next_by_starts next post desk told (Some base) = here told post desk _

clearing_next_starts : (next : Next) (post : Post) (desk : Desk) (told : List Event) → Starts told (clearing_next next post desk told)
clearing_next_starts next post desk told = next_by_starts next post desk told (clear_base (scheme_of post) 1)

-- a get
got_starts : (key version : ℕ) (value : Option ℕ) (post : Post) (desk : Desk) (told : List Event) → Starts told (gets.got key version value post desk told)
got_starts key version value post desk told =
    later told (events.Got (bucket_of post key) version key value ∷ []) _ refl
    (clearing_starts (Gets key) (Answering (the_answers.Got version value)) post desk (told ++ events.Got (bucket_of post key) version key value ∷ []))

finding_starts : (key slot version count : ℕ) (post : Post) (desk : Desk) (on : Bool) (pair : ℕ) → Starts [] (gets.finding key slot version count post desk on pair)
finding_starts key slot version count post desk true pair = here [] post desk _
finding_starts key slot version count post desk false pair = got_starts key version None post desk []

found_key_starts : (key slot version count pair : ℕ) (post : Post) (desk : Desk) (own : Bool) → Starts [] (gets.found_key key slot version count pair post desk own)
found_key_starts key slot version count pair post desk true = here [] post desk _
found_key_starts key slot version count pair post desk false = finding_starts key slot version count post desk (nat_lt (pair + 1) count) (pair + 1)

get_starts : (key : ℕ) (at : GetAt) (post : Post) (desk : Desk) (found : ℕ) → Starts [] (gets.get_turn key at post desk found)
get_starts key (FindVersion slot) post desk found = here [] post desk _
get_starts key (FindCount slot version) post desk found = finding_starts key slot version found post desk (nat_lt 0 found) 0
get_starts key (FindKey slot version count pair) post desk found = found_key_starts key slot version count pair post desk (found == key)
get_starts key (FindValue slot version pair) post desk found = got_starts key version (Some found) post desk []

-- a change
deciding_by_starts : (kept : ChangeKept) (post : Post) (desk : Desk) (told : List Event) (x : Option Answer) → Starts told (alters.deciding_by kept post desk told x)
deciding_by_starts kept post desk told (Some answer) = clearing_starts (Changes kept) (Answering answer) post desk told
deciding_by_starts kept post desk told None = here told post desk _

deciding_starts : (kept : ChangeKept) (post : Post) (desk : Desk) (told : List Event) → Starts told (alters.deciding kept post desk told)
deciding_starts kept post desk told = deciding_by_starts kept post desk told (alters.refused post.layout.config kept)

reading_starts : (kept : ChangeKept) (slot count : ℕ) (post : Post) (desk : Desk) (on : Bool) → Starts [] (alters.reading kept slot count post desk on)
reading_starts kept slot count post desk true = here [] post desk _
reading_starts kept slot count post desk false = deciding_starts kept post desk []

abbrev pub linked_front : ChangeKept → ℕ → Post → (same : Bool) → List Event
linked_front kept slot post true = alters.told_linked kept slot post
linked_front kept slot post false = []

abbrev pub change_front : ChangeKept → ChangeAt → Post → ℕ → List Event
change_front kept (LoadVersion slot) post found = []
change_front kept (LoadCount slot) post found = []
change_front kept (LoadKey slot count) post found = []
change_front kept (LoadValue slot count key) post found = []
change_front kept (ExchangeRoot slot) post found = linked_front kept slot post (found == kept.link)

exchanged_starts : (kept : ChangeKept) (slot : ℕ) (post : Post) (desk : Desk) (same : Bool) → Starts (linked_front kept slot post same) (alters.exchanged kept slot post desk same)
exchanged_starts kept slot post desk true = clearing_starts (Changes (record kept { taken = None })) (alters.answer_done (kept.version + 1) kept.link) post desk (alters.told_linked kept slot post)
exchanged_starts kept slot post desk false = clearing_starts (Changes kept) Again post desk []

change_starts : (kept : ChangeKept) (at : ChangeAt) (post : Post) (desk : Desk) (found : ℕ) → Starts (change_front kept at post found) (alters.change_turn kept at post desk found)
change_starts kept (LoadVersion slot) post desk found = here [] post desk _
change_starts kept (LoadCount slot) post desk found = reading_starts kept slot found post desk (nat_lt 0 found)
change_starts kept (LoadKey slot count) post desk found = here [] post desk _
change_starts kept (LoadValue slot count key) post desk found = reading_starts (alters.with_read kept key found) slot count post desk (nat_lt (length kept.pairs + 1) count)
change_starts kept (ExchangeRoot slot) post desk found = exchanged_starts kept slot post desk (found == kept.link)

-- an enqueue
appending_starts : (kept : EnqueueKept) (post : Post) (desk : Desk) (spent : Bool) → Starts [] (enqueues.appending kept post desk spent)
appending_starts kept post desk true = clearing_starts (Enqueues kept) (Answering (the_answers.Spent kept.number)) post desk []
appending_starts kept post desk false = here [] post desk _

at_next_starts : (kept : EnqueueKept) (next : ℕ) (post : Post) (desk : Desk) (none : Bool) → Starts [] (enqueues.at_next kept next post desk none)
at_next_starts kept next post desk true = appending_starts kept post desk (kept.number == post.layout.config.last_version)
at_next_starts kept next post desk false = here [] post desk _

abbrev pub queued_front : EnqueueKept → ℕ → (same : Bool) → List Event
queued_front kept slot true = events.Link (roots.Next kept.tail) slot ∷ events.Queued (kept.number + 1) kept.value ∷ []
queued_front kept slot false = []

abbrev pub enqueue_front : EnqueueKept → EnqueueAt → ℕ → List Event
enqueue_front kept LoadNumber found = []
enqueue_front kept LoadNext found = []
enqueue_front kept (PassTail next) found = enqueues.told_link roots.Tail (next - 1) (found == kept.tail + 1)
enqueue_front kept (ExchangeNext slot) found = queued_front kept slot (found == 0)
enqueue_front kept (ExchangeTail slot) found = enqueues.told_link roots.Tail slot (found == kept.tail + 1)

appended_starts : (kept : EnqueueKept) (slot : ℕ) (post : Post) (desk : Desk) (same : Bool) → Starts (queued_front kept slot same) (enqueues.appended kept slot post desk same)
appended_starts kept slot post desk true = here _ post desk _
appended_starts kept slot post desk false = clearing_starts (Enqueues kept) Again post desk []

enqueue_starts : (kept : EnqueueKept) (at : EnqueueAt) (post : Post) (desk : Desk) (found : ℕ) → Starts (enqueue_front kept at found) (enqueues.enqueue_turn kept at post desk found)
enqueue_starts kept LoadNumber post desk found = here [] post desk _
enqueue_starts kept LoadNext post desk found = at_next_starts kept found post desk (found == 0)
enqueue_starts kept (PassTail next) post desk found = clearing_starts (Enqueues kept) Again post desk (enqueues.told_link roots.Tail (next - 1) (found == kept.tail + 1))
enqueue_starts kept (ExchangeNext slot) post desk found = appended_starts kept slot post desk (found == 0)
enqueue_starts kept (ExchangeTail slot) post desk found =
    clearing_starts (Enqueues kept) (Answering (the_answers.Queued (kept.number + 1))) post desk (enqueues.told_link roots.Tail slot (found == kept.tail + 1))

-- a dequeue
followed_row_starts : (head next : ℕ) (post : Post) (desk : Desk) (told : List Event) (lags : Bool) → Starts told (dequeues.followed_row head next post desk told lags)
followed_row_starts head next post desk told true = here told post desk _
followed_row_starts head next post desk told false = here told post desk _

followed_starts : (head tail : ℕ) (ending : FollowEnd) (post : Post) (desk : Desk) (told : List Event) → Starts told (dequeues.followed head tail ending post desk told)
followed_starts head tail (follow_ends.Followed slot) post desk told = followed_row_starts head slot post desk told (tail == head + 1)
followed_starts head tail follow_ends.NoNext post desk told = clearing_next_starts (Answering the_answers.Empty) post desk told
followed_starts head tail (follow_ends.RootMoved seen) post desk told = clearing_next_starts Again post desk told

abbrev pub taken_front : (head next number value : ℕ) → (same : Bool) → List Event
taken_front head next number value true = events.Link roots.Head next ∷ events.Cut head ∷ events.Taken number value ∷ []
taken_front head next number value false = []

abbrev pub dequeue_front : DequeueAt → ℕ → List Event
dequeue_front (LoadTail head) found = []
dequeue_front (SwingTail head next) found = enqueues.told_link roots.Tail next (found == head + 1)
dequeue_front (TakeNumber head next) found = []
dequeue_front (TakeValue head next number) found = []
dequeue_front (ExchangeHead head next number value) found = taken_front head next number value (found == head + 1)

taken_starts : (head next number value : ℕ) (post : Post) (desk : Desk) (same : Bool) → Starts (taken_front head next number value same) (dequeues.taken head next number value post desk same)
taken_starts head next number value post desk true = clearing_next_starts (Retiring head (the_answers.Taken number value moves.Still)) post desk _
taken_starts head next number value post desk false = clearing_next_starts Again post desk []

dequeue_starts : (at : DequeueAt) (post : Post) (desk : Desk) (found : ℕ) → Starts (dequeue_front at found) (dequeues.dequeue_turn at post desk found)
dequeue_starts (SwingTail head next) post desk found = clearing_next_starts Again post desk (enqueues.told_link roots.Tail next (found == head + 1))
dequeue_starts (ExchangeHead head next number value) post desk found = taken_starts head next number value post desk (found == head + 1)
dequeue_starts at post desk found = here [] post desk _

-- what stands at indexes from 2 on
released_starts : (let_go : LetGo) (post : Post) (desk : Desk) (told : List Event) → Starts told (keeps.released let_go post desk told)
released_starts Released post desk told = here told post desk _
released_starts (Rehold key) post desk told = here told post desk _
released_starts (Dropped index) post desk told = here told post desk _
released_starts (Parting index) post desk told = here told post desk _

cleared_after : (index : ℕ) (o : Option ℕ) → all_of is_after (cleared index o) ≡ true
cleared_after index o = cleared_all is_after index o (λ index slot. refl)

copied_starts : (from index : ℕ) (post : Post) (desk : Desk) (reserved : List Event) (o : Option ℕ) → all_of is_after reserved ≡ true → Starts [] (keeps.copied from index post desk reserved o)
copied_starts from index post desk reserved None r = here [] post desk _
copied_starts from index post desk reserved (Some slot) r =
    let told : List Event = cleared index (stands post index) ++ reserved ++ events.Copied from index slot ∷ [] in
    later [] told _ (of_along is_after (cleared index (stands post index) ++ reserved) (events.Copied from index slot ∷ []) (of_along is_after (cleared index (stands post index)) reserved (cleared_after index (stands post index)) r) refl) (here told (with_row post index slot) desk _)

load_starts : (from index : ℕ) (post : Post) (desk : Desk) (found : ℕ) (one : Bool) → Starts [] (keeps.load_held from index post desk found one)
load_starts from index post desk found true = copied_starts from index post desk [] (stands post from) refl
load_starts from index post desk found false = here [] post desk _

looking_starts : (index key slot version count : ℕ) (post : Post) (desk : Desk) (on : Bool) (pair : ℕ) → Starts [] (keeps.looking index key slot version count post desk on pair)
looking_starts index key slot version count post desk true pair = here [] post desk _
looking_starts index key slot version count post desk false pair = here [] post desk _

looked_key_starts : (index key slot version count pair : ℕ) (post : Post) (desk : Desk) (own : Bool) → Starts [] (keeps.looked_key index key slot version count pair post desk own)
looked_key_starts index key slot version count pair post desk true = here [] post desk _
looked_key_starts index key slot version count pair post desk false = looking_starts index key slot version count post desk (nat_lt (pair + 1) count) (pair + 1)

look_starts : (index key : ℕ) (at : GetAt) (post : Post) (desk : Desk) (found : ℕ) → Starts [] (keeps.look_turn index key at post desk found)
look_starts index key (FindVersion slot) post desk found = here [] post desk _
look_starts index key (FindCount slot version) post desk found = looking_starts index key slot version found post desk (nat_lt 0 found) 0
look_starts index key (FindKey slot version count pair) post desk found = looked_key_starts index key slot version count pair post desk (found == key)
look_starts index key (FindValue slot version pair) post desk found = here [] post desk _

-- a list is left, or taken over
taking_starts : (place : ℕ) (post : Post) (desk : Desk) (left : Bool) (found : ℕ) → Starts [] (keeps.taking place post desk left found)
taking_starts place post desk true found = later [] (events.Adopted place (length desk.gift) ∷ []) _ refl (here (events.Adopted place (length desk.gift) ∷ []) post (with_gift desk) _)
taking_starts place post desk false found = here [] post desk _

published_after : (post : Post) (index number : ℕ) (rows : Bool) → all_of is_after (publishes_index rows post index number) ≡ true
published_after post index number true = refl
published_after post index number false = refl

keep_starts : (at : KeepAt) (post : Post) (desk : Desk) (found : ℕ) → Starts [] (keeps.keep_turn at post desk found)
keep_starts (Loosens let_go) post desk found =
    let told : List Event = cleared (let_index let_go) (stands post (let_index let_go)) in
    later [] told _ (cleared_after (let_index let_go) (stands post (let_index let_go))) (released_starts let_go (withdrawn post (let_index let_go)) desk told)
keep_starts (LoadHeld from index) post desk found = load_starts from index post desk found (has_one_interval (scheme_of post))
keep_starts (StoreHeld from index era) post desk found = copied_starts from index post desk (publishes_index (publishes_rows (scheme_of post)) post index era) (stands post from) (published_after post index era (publishes_rows (scheme_of post)))
keep_starts (Looks index key at) post desk found = look_starts index key at post desk found
keep_starts (Misses index) post desk found = here [] post desk _
keep_starts HideSpan post desk found =
    let rows : List Event = cleared_from 2 (drop 2 post.standing) in
    let told : List Event = rows ++ reserves_span post None in
    later [] told _ (of_along is_after rows (reserves_span post None) (cleared_from_all is_after 2 (drop 2 post.standing) (λ index slot. refl)) refl) (here told (withdrawn_all post) desk _)
keep_starts MarkLeft post desk found = later [] (events.Left (length desk.list) ∷ []) _ refl (here (events.Left (length desk.list) ∷ []) post desk _)
keep_starts (TakeList place) post desk found = taking_starts place post desk (found == 1) found
keep_starts (MarkTaken place count) post desk found = here [] post desk _

abbrev pub work_front : Work → Post → ℕ → List Event
work_front (Getting key at) post found = []
work_front (Changing kept at) post found = change_front kept at post found
work_front (Enqueuing kept at) post found = enqueue_front kept at found
work_front (Dequeuing at) post found = dequeue_front at found
work_front (Keeping at) post found = []

pub work_starts : (work : Work) (post : Post) (desk : Desk) (found : ℕ) → Starts (work_front work post found) (steps.work_turn work post desk found)
work_starts (Getting key at) post desk found = get_starts key at post desk found
work_starts (Changing kept at) post desk found = change_starts kept at post desk found
work_starts (Enqueuing kept at) post desk found = enqueue_starts kept at post desk found
work_starts (Dequeuing at) post desk found = dequeue_starts at post desk found
work_starts (Keeping at) post desk found = keep_starts at post desk found

-- a scan
scanned_starts : (later : AfterScan) (post : Post) (desk : Desk) (told : List Event) → Starts told (scan.scanned later post desk told)
scanned_starts (Answered answer) post desk told = here told post desk _
scanned_starts (Repeated task) post desk told = here told post desk _
scanned_starts Counted post desk told = here told post desk _

giving_starts : (later : AfterScan) (post : Post) (desk : Desk) (told : List Event) (x : Option scan.Entry) → Starts told (scan.giving_back later post desk told x)
giving_starts later post desk told None = scanned_starts later post (scan.with_kept desk) told
giving_starts later post desk told (Some entry) = here told post desk _

guard_starts : (later : AfterScan) (number : ℕ) (post : Post) (desk : Desk) (told : List Event) (on : Bool) → Starts told (scan.reading later number post desk told on)
guard_starts later number post desk told true = here told post desk _
guard_starts later number post desk told false = giving_starts later post desk told (scan.unmet_from desk 0)

scan_starts : (later : AfterScan) (at : ScanAt) (post : Post) (desk : Desk) (found : ℕ) → Starts (scan_told at post found) (scan.scan_turn later at post desk found)
scan_starts later (ReadGuard number) post desk found =
    guard_starts later number post (scan.with_read desk number (guard_at post.layout.config number, published (publishes_rows post.layout.config.scheme) (guard_at post.layout.config number) found)) (scan.reads_guard (publishes_rows post.layout.config.scheme) (guard_at post.layout.config number) found ∷ []) (nat_lt (number + 1) (guards post.layout.config))
scan_starts later (GiveBack place slot) post desk found = giving_starts later post (scan.with_back desk place) (events.Back slot ∷ []) (scan.unmet_from (scan.with_back desk place) place)

-- what comes after a machine
opened_row_starts : (task : Task) (slot : ℕ) (post : Post) (desk : Desk) (told : List Event) → Starts told (steps.opened_row task slot post desk told)
opened_row_starts (Gets key) slot post desk told = here told post desk _
opened_row_starts (Changes kept) slot post desk told = here told post desk _
opened_row_starts (Holds key) slot post desk told = here told post desk _
opened_row_starts (Enqueues kept) slot post desk told = here told post desk _
opened_row_starts Dequeues slot post desk told = here told post desk _

opened_null_starts : (task : Task) (post : Post) (desk : Desk) (told : List Event) → Starts told (steps.opened_null task post desk told)
opened_null_starts (Gets key) post desk told = got_starts key 0 None post desk told
opened_null_starts (Changes kept) post desk told = deciding_starts (alters.at_link kept 0) post desk told
opened_null_starts (Holds key) post desk told = clearing_starts (Holds key) (Answering the_answers.Nothing) post desk told
opened_null_starts (Enqueues kept) post desk told = clearing_starts (Enqueues kept) Again post desk told
opened_null_starts Dequeues post desk told = clearing_starts Dequeues Again post desk told

opened_starts : (task : Task) (ending : Ending) (post : Post) (desk : Desk) (told : List Event) → Starts told (steps.opened task ending post desk told)
opened_starts task (Protected (protect_ends.Held slot era)) post desk told = opened_row_starts task slot post desk told
opened_starts task (Protected protect_ends.Null) post desk told = opened_null_starts task post desk told
opened_starts task Done post desk told = here told post desk _
opened_starts task (Followed end) post desk told = here told post desk _
opened_starts task (Allocated end) post desk told = here told post desk _
opened_starts task (Retired life) post desk told = here told post desk _
opened_starts task (Clocked clock) post desk told = here told post desk _

filled_by_starts : (task : Task) (ending : AllocateEnd) (post : Post) (desk : Desk) (told : List Event) → Starts told (steps.filled_by task ending post desk told)
filled_by_starts (Changes kept) (allocate_ends.Given slot birth) post desk told = here told post desk _
filled_by_starts (Changes kept) allocate_ends.Full post desk told = clearing_starts (Changes (alters.with_walked kept)) (alters.no_room kept.walked) post desk told
filled_by_starts (Enqueues kept) (allocate_ends.Given slot birth) post desk told = here told post desk _
filled_by_starts (Enqueues kept) allocate_ends.Full post desk told = clearing_starts (Enqueues (enqueues.item_walked kept)) (alters.no_room kept.walked) post desk told
filled_by_starts (Gets key) ending post desk told = closed_starts (Gets key) Again post desk told
filled_by_starts (Holds key) ending post desk told = closed_starts (Holds key) Again post desk told
filled_by_starts Dequeues ending post desk told = closed_starts Dequeues Again post desk told

written_starts : (task : Task) (post : Post) (desk : Desk) (told : List Event) → Starts told (steps.written_row task post desk told)
written_starts (Changes kept) post desk told = here told post desk _
written_starts (Enqueues kept) post desk told = here told post desk _
written_starts (Gets key) post desk told = closed_starts (Gets key) Again post desk told
written_starts (Holds key) post desk told = closed_starts (Holds key) Again post desk told
written_starts Dequeues post desk told = closed_starts Dequeues Again post desk told

filled_starts : (task : Task) (ending : Ending) (post : Post) (desk : Desk) (told : List Event) → Starts told (steps.filled task ending post desk told)
filled_starts task (Allocated ending) post desk told = filled_by_starts task ending post desk told
filled_starts task Done post desk told = written_starts task post desk told
filled_starts task (Protected end) post desk told = written_starts task post desk told
filled_starts task (Followed end) post desk told = written_starts task post desk told
filled_starts task (Retired life) post desk told = written_starts task post desk told
filled_starts task (Clocked clock) post desk told = written_starts task post desk told

followed_by_starts : (head tail : ℕ) (ending : Ending) (post : Post) (desk : Desk) (told : List Event) → Starts told (steps.followed_by head tail ending post desk told)
followed_by_starts head tail (Followed ending) post desk told = followed_starts head tail ending post desk told
followed_by_starts head tail Done post desk told = closed_starts Dequeues Again post desk told
followed_by_starts head tail (Protected end) post desk told = closed_starts Dequeues Again post desk told
followed_by_starts head tail (Allocated end) post desk told = closed_starts Dequeues Again post desk told
followed_by_starts head tail (Retired life) post desk told = closed_starts Dequeues Again post desk told
followed_by_starts head tail (Clocked clock) post desk told = closed_starts Dequeues Again post desk told

tidying_starts : (answer : Answer) (post : Post) (desk : Desk) (told : List Event) (due : Bool) → Starts told (steps.tidying answer post desk told due)
tidying_starts answer post desk told true = here told post desk _
tidying_starts answer post desk told false = here told post desk _

retired_starts : (answer : Answer) (ending : Ending) (post : Post) (desk : Desk) (told : List Event) → Starts told (steps.retired_by answer ending post desk told)
retired_starts answer (Retired life) post desk told = tidying_starts answer post (with_life desk life) told (post.retired % post.layout.config.every == 0)
retired_starts answer Done post desk told = here told post desk _
retired_starts answer (Protected end) post desk told = here told post desk _
retired_starts answer (Followed end) post desk told = here told post desk _
retired_starts answer (Allocated end) post desk told = here told post desk _
retired_starts answer (Clocked clock) post desk told = here told post desk _

tidied_starts : (later : AfterScan) (ending : Ending) (post : Post) (desk : Desk) (told : List Event) → Starts told (steps.tidied later ending post desk told)
tidied_starts later (Clocked clock) post desk told = here told post desk _
tidied_starts later Done post desk told = here told post desk _
tidied_starts later (Protected end) post desk told = here told post desk _
tidied_starts later (Followed end) post desk told = here told post desk _
tidied_starts later (Allocated end) post desk told = here told post desk _
tidied_starts later (Retired life) post desk told = here told post desk _

advanced_starts : (ending : Ending) (post : Post) (desk : Desk) (told : List Event) → Starts told (steps.advanced ending post desk told)
advanced_starts (Clocked clock) post desk told = here told post desk _
advanced_starts Done post desk told = here told post desk _
advanced_starts (Protected end) post desk told = here told post desk _
advanced_starts (Followed end) post desk told = here told post desk _
advanced_starts (Allocated end) post desk told = here told post desk _
advanced_starts (Retired life) post desk told = here told post desk _

resume_starts : (why : Why) (ending : Ending) (post : Post) (desk : Desk) (told : List Event) → Starts told (steps.resume why ending post desk told)
resume_starts (Opens task) ending post desk told = opened_starts task ending post desk told
resume_starts (FollowsHead head tail) ending post desk told = followed_by_starts head tail ending post desk told
resume_starts (Fills task) ending post desk told = filled_starts task ending post desk told
resume_starts (ClearsNext next) ending post desk told = clearing_starts Dequeues next post desk told
resume_starts (Clears task next) ending post desk told = finishing_starts task next post desk told
resume_starts (Finishes task next) ending post desk told = closed_starts task next post desk told
resume_starts (GivesUp answer) ending post desk told = here told post desk _
resume_starts (Retires answer) ending post desk told = retired_starts answer ending post desk told
resume_starts (Tidies later) ending post desk told = tidied_starts later ending post desk told
resume_starts Advances ending post desk told = advanced_starts ending post desk told
resume_starts (Releases let_go) ending post desk told = released_starts let_go post desk told

resumed_starts : (why : Why) (desk : Desk) (post : Post) (told : List Event) (outcome : Outcome) → Starts told (steps.resumed why desk post told outcome)
resumed_starts why desk post told (Goes base) = here told post desk _
resumed_starts why desk post told (Ends ending) = resume_starts why ending post desk told

-- what a phase's step tells first
abbrev pub front : Phase → Post → ℕ → List Event
front Idle post found = []
front (Runs why base) post found = (machine.after base post found).told
front (Scans later at) post found = scan_told at post found
front (Works work) post found = work_front work post found

pub turn_starts : (phase : Phase) (post : Post) (desk : Desk) (found : ℕ) → Starts (front phase post found) (steps.phase_turn phase post desk found)
turn_starts Idle post desk found = here [] post desk _
turn_starts (Runs why base) post desk found = resumed_starts why desk (machine.after base post found).post (machine.after base post found).told (machine.after base post found).outcome
turn_starts (Scans later at) post desk found = scan_starts later at post desk found
turn_starts (Works work) post desk found = work_starts work post desk found
