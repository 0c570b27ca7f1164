-- How many rows go back in each turn of a seat.
use Rattle.std.proofs.Common.{ℕ, ◌≡◌, ◌≤◌, ◌+◌, ◌-◌, Bool, true, false, List, [], ◌∷◌, ◌++◌, length, drop, Option, Some, None, refl, ◌∙◌, arith, length-append, ◌<◌}
use Rattle.std.proofs.lemmas.Bool.Decides.{nat_tests}
use Rattle.std.proofs.lemmas.List.Edits.{length-remove}
use Rattle.std.specs.Prelude.{◌==◌, ◌%◌, nat_lt, if◌then◌else◌}
use Rattle.wfe_core.specs.defs.Shown.{Seen}
use Rattle.wfe_core.specs.words.declared.config.SchemeKind.{SchemeKind}
use Rattle.wfe_core.specs.defs.declared.fold.Change.{Change}
use Rattle.wfe_core.specs.defs.declared.fold.Change.TheVariants as changes
use Rattle.wfe_core.specs.defs.declared.call.Answer.{Answer}
use Rattle.wfe_core.specs.defs.declared.call.Answer.TheVariants as the_answers
use Rattle.wfe_core.specs.defs.declared.call.ClockMove.{ClockMove}
use Rattle.wfe_core.specs.defs.declared.call.ClockMove.TheVariants as moves
use Rattle.wfe_core.specs.defs.declared.event.Event.{Event}
use Rattle.wfe_core.specs.defs.declared.event.Event.TheVariants as events
use Rattle.wfe_core.specs.defs.declared.event.Root.TheVariants as roots
use Rattle.wfe_core.specs.defs.declared.lifetime.Interval.{Interval}
use Rattle.wfe_core.specs.declared.ends.AllocateEnd.{AllocateEnd}
use Rattle.wfe_core.specs.declared.ends.AllocateEnd.TheVariants as allocate_ends
use Rattle.wfe_core.specs.declared.ends.FollowEnd.{FollowEnd}
use Rattle.wfe_core.specs.declared.ends.FollowEnd.TheVariants as follow_ends
use Rattle.wfe_core.specs.declared.ends.ProtectEnd.TheVariants as protect_ends
use Rattle.wfe_core.specs.declared.post.Post.{Post}
use Rattle.wfe_core.specs.Desks.{Desk, with_life}
use Rattle.wfe_core.specs.Guards.{guards, guard_at, published}
use Rattle.wfe_core.specs.Posts.{stands, standing_from, cleared, cleared_from, publishes_index, reserves_span, withdrawn}
use Rattle.wfe_core.specs.words.Schemes.{has_one_interval, publishes_rows}
use Rattle.wfe_core.specs.words.Schemes.{moves as moves_clock}
use Rattle.wfe_core.specs.defs.declared.event.Guard.{Guard}
use Rattle.wfe_core.specs.Phases.{Ending, Base}
use Rattle.wfe_core.specs.Phases.Ending.{Done, Protected, Followed, Allocated, Retired, Clocked}
use Rattle.wfe_core.specs.Rounds.{scheme_of, begin_span, round, round_by, tidy_by, bucket_of, let_index, index_of, taken_of, finish_base, clear_base, clear_post, clear_told, given_up, closed, finishing_by, finishing, clearing_by, clearing, clearing_next_by, clearing_next}
use Rattle.wfe_core.specs.Get as gets
use Rattle.wfe_core.specs.Change as alters
use Rattle.wfe_core.specs.Enqueue as enqueues
use Rattle.wfe_core.specs.Dequeue as dequeues
use Rattle.wfe_core.specs.Keep as keeps
use Rattle.wfe_core.specs.Scan as scan
use Rattle.wfe_core.specs.Steps as steps
use Rattle.wfe_core.specs.Calls.{Task, Gets, Changes, Holds, Enqueues, Dequeues, Again, Answering, Retiring, AfterScan, Answered, Repeated, Counted, ChangeKept, EnqueueKept, GetAt, FindVersion, FindCount, FindKey, FindValue, ChangeAt, LoadVersion, LoadCount, LoadKey, LoadValue, ExchangeRoot, EnqueueAt, LoadNumber, LoadNext, PassTail, ExchangeNext, ExchangeTail, DequeueAt, LoadTail, SwingTail, TakeNumber, TakeValue, ExchangeHead, Work, Getting, Changing, Enqueuing, Dequeuing, LetGo, Released, Rehold, Dropped, Parting, KeepAt, Loosens, LoadHeld, StoreHeld, Looks, Misses, HideSpan, MarkLeft, TakeList, MarkTaken, Keeping, ScanAt, ReadGuard, GiveBack, Why, Opens, FollowsHead, Fills, ClearsNext, Clears, Finishes, GivesUp, Retires, Tidies, Advances, Releases, Next, MakeRoom, CallTurn, goes_on}
use Rattle.wfe_core.specs.defs.declared.event.Root.{Root}
use Rattle.inv_rows.specs.Shapes.Frame.{phase_left}
use Rattle.inv_rows.specs.Shapes.Noted.{backs, size, later_more, why_more, more, takes}
use Rattle.wfe_core.proofs.Schemes.{each_begin, each_clear_told}

-- what a turn tells to have gone back, with what it leaves on the list and what had gone back before; and no turn comes to
-- where a list is taken over
abbrev pub Counts : ℕ → CallTurn → Type 0
Counts b t = (backs t.told + size t.desk ≤ b + more (phase_left t.outcome)) × (takes (phase_left t.outcome) ≡ false)

backs_along : (xs ys : List Event) → backs (xs ++ ys) ≡ backs xs + backs ys
backs_along [] ys = omega arith
backs_along (x ∷ xs) ys = let h = backs_along xs ys in omega arith

pub quiet_along : (xs ys : List Event) → backs ys ≡ 0 → backs (xs ++ ys) ≡ backs xs
quiet_along xs ys e = let h = backs_along xs ys in omega arith

pub quiet_cleared : (index : ℕ) (x : Option ℕ) → backs (cleared index x) ≡ 0
quiet_cleared index None = refl
quiet_cleared index (Some slot) = refl

quiet_clear : (s : SchemeKind) (post : Post) (index : ℕ) → backs (clear_told s post index) ≡ 0
quiet_clear s post index = each_clear_told s post index (λ (events : List Event). backs events ≡ 0) refl (quiet_cleared index (stands post index))

given_up_counts : (b : ℕ) (answer : Answer) (post : Post) (desk : Desk) (told : List Event) (x : Option ℕ) → backs told + size desk ≤ b → Counts b (given_up answer post desk told x)
given_up_counts b answer post desk told None h = (omega arith, refl)
given_up_counts b answer post desk told (Some slot) h = (omega arith, refl)

-- a round begins
begun_free : (task : Task) (post : Post) (x : Option Interval) → takes (round_by task post (begin_span x)) ≡ false
begun_free task post None = refl
begun_free task post (Some span) = refl

round_free : (task : Task) (post : Post) → takes (round task post) ≡ false
round_free task post = each_begin (scheme_of post) post (λ (base : Option Base). takes (round_by task post base) ≡ false) refl (begun_free task post post.span)

round_counts : (b : ℕ) (task : Task) (post : Post) (desk : Desk) (told : List Event) → backs told + size desk ≤ b → Counts b (goes_on post desk told (round task post))
round_counts b task post desk told h = (omega arith, round_free task post)

-- the clock is to be moved, where retirements do that, and the list to be scanned
tidy_counts : (b : ℕ) (later : AfterScan) (moving : Bool) (post : Post) (desk : Desk) (told : List Event) → backs told + size desk ≤ b + later_more later → Counts b (goes_on post desk told (tidy_by moving later post))
tidy_counts b later true post desk told h = (h, refl)
tidy_counts b later false post desk told h = (h, refl)

closed_counts : (b : ℕ) (task : Task) (next : Next) (post : Post) (desk : Desk) (told : List Event) → backs told + size desk ≤ b → Counts b (closed task next post desk told)
closed_counts b task Again post desk told h = round_counts b task post desk told h
closed_counts b task MakeRoom post desk told h = tidy_counts b (Repeated task) (moves_clock (scheme_of post)) post desk told (omega arith)
closed_counts b task (Answering answer) post desk told h = given_up_counts b answer post desk told (taken_of task) h
closed_counts b task (Retiring slot answer) post desk told h = (omega arith, refl)

finishing_by_counts : (b : ℕ) (task : Task) (next : Next) (post : Post) (desk : Desk) (told : List Event) (x : Option Base) → backs told + size desk ≤ b → Counts b (finishing_by task next post desk told x)
finishing_by_counts b task next post desk told None h = closed_counts b task next post desk told h
finishing_by_counts b task next post desk told (Some base) h = (omega arith, refl)

finishing_counts : (b : ℕ) (task : Task) (next : Next) (post : Post) (desk : Desk) (told : List Event) → backs told + size desk ≤ b → Counts b (finishing task next post desk told)
finishing_counts b task Again post desk told h = closed_counts b task Again post desk told h
finishing_counts b task MakeRoom post desk told h = finishing_by_counts b task MakeRoom post desk told (finish_base (scheme_of post) post) h
finishing_counts b task (Answering answer) post desk told h = finishing_by_counts b task (Answering answer) post desk told (finish_base (scheme_of post) post) h
finishing_counts b task (Retiring slot answer) post desk told h = finishing_by_counts b task (Retiring slot answer) post desk told (finish_base (scheme_of post) post) h

clearing_by_counts : (b : ℕ) (task : Task) (next : Next) (post : Post) (desk : Desk) (told : List Event) (x : Option Base) → backs told + size desk ≤ b → Counts b (clearing_by task next post desk told x)
clearing_by_counts b task next post desk told None h = let e = quiet_along told (clear_told (scheme_of post) post (index_of task)) (quiet_clear (scheme_of post) post (index_of task)) in
    finishing_counts b task next (clear_post (scheme_of post) post (index_of task)) desk (told ++ clear_told (scheme_of post) post (index_of task)) (omega arith)
clearing_by_counts b task next post desk told (Some base) h = (omega arith, refl)

clearing_counts : (b : ℕ) (task : Task) (next : Next) (post : Post) (desk : Desk) (told : List Event) → backs told + size desk ≤ b → Counts b (clearing task next post desk told)
clearing_counts b task next post desk told h = clearing_by_counts b task next post desk told (clear_base (scheme_of post) (index_of task)) h

clearing_next_by_counts : (b : ℕ) (next : Next) (post : Post) (desk : Desk) (told : List Event) (x : Option Base) → backs told + size desk ≤ b → Counts b (clearing_next_by next post desk told x)
clearing_next_by_counts b next post desk told None h = let e = quiet_along told (clear_told (scheme_of post) post 1) (quiet_clear (scheme_of post) post 1) in
    clearing_counts b Dequeues next (clear_post (scheme_of post) post 1) desk (told ++ clear_told (scheme_of post) post 1) (omega arith)
clearing_next_by_counts b next post desk told (Some base) h = (omega arith, refl)

clearing_next_counts : (b : ℕ) (next : Next) (post : Post) (desk : Desk) (told : List Event) → backs told + size desk ≤ b → Counts b (clearing_next next post desk told)
clearing_next_counts b next post desk told h = clearing_next_by_counts b next post desk told (clear_base (scheme_of post) 1) h

-- a get
got_counts : (b key version : ℕ) (value : Option ℕ) (post : Post) (desk : Desk) (told : List Event) → backs told + size desk ≤ b → Counts b (gets.got key version value post desk told)
got_counts b key version value post desk told h = let e = quiet_along told (events.Got (bucket_of post key) version key value ∷ []) refl in
    clearing_counts b (Gets key) (Answering (the_answers.Got version value)) post desk (told ++ events.Got (bucket_of post key) version key value ∷ []) (omega arith)

finding_counts : (b key slot version count : ℕ) (post : Post) (desk : Desk) (on : Bool) (pair : ℕ) → size desk ≤ b → Counts b (gets.finding key slot version count post desk on pair)
finding_counts b key slot version count post desk true pair h = (omega arith, refl)
finding_counts b key slot version count post desk false pair h = got_counts b key version None post desk [] (omega arith)

found_key_counts : (b key slot version count pair : ℕ) (post : Post) (desk : Desk) (own : Bool) → size desk ≤ b → Counts b (gets.found_key key slot version count pair post desk own)
found_key_counts b key slot version count pair post desk true h = (omega arith, refl)
found_key_counts b key slot version count pair post desk false h = finding_counts b key slot version count post desk (nat_lt (pair + 1) count) (pair + 1) h

get_counts : (b key : ℕ) (at : GetAt) (post : Post) (desk : Desk) (found : ℕ) → size desk ≤ b → Counts b (gets.get_turn key at post desk found)
get_counts b key (FindVersion slot) post desk found h = (omega arith, refl)
get_counts b key (FindCount slot version) post desk found h = finding_counts b key slot version found post desk (nat_lt 0 found) 0 h
get_counts b key (FindKey slot version count pair) post desk found h = found_key_counts b key slot version count pair post desk (found == key) h
get_counts b key (FindValue slot version pair) post desk found h = got_counts b key version (Some found) post desk [] (omega arith)

-- a change
deciding_by_counts : (b : ℕ) (kept : ChangeKept) (post : Post) (desk : Desk) (told : List Event) (x : Option Answer) → backs told + size desk ≤ b → Counts b (alters.deciding_by kept post desk told x)
deciding_by_counts b kept post desk told (Some answer) h = clearing_counts b (Changes kept) (Answering answer) post desk told h
deciding_by_counts b kept post desk told None h = (omega arith, refl)

deciding_counts : (b : ℕ) (kept : ChangeKept) (post : Post) (desk : Desk) (told : List Event) → backs told + size desk ≤ b → Counts b (alters.deciding kept post desk told)
deciding_counts b kept post desk told h = deciding_by_counts b kept post desk told (alters.refused post.layout.config kept) h

reading_counts : (b : ℕ) (kept : ChangeKept) (slot count : ℕ) (post : Post) (desk : Desk) (on : Bool) → size desk ≤ b → Counts b (alters.reading kept slot count post desk on)
reading_counts b kept slot count post desk true h = (omega arith, refl)
reading_counts b kept slot count post desk false h = deciding_counts b kept post desk [] (omega arith)

quiet_cut : (link : ℕ) → backs (alters.told_cut link) ≡ 0
quiet_cut link = by (link == 0)
  where
    by : (c : Bool) → backs (if c then [] else events.Cut (link - 1) ∷ []) ≡ 0
    by true = refl
    by false = refl

quiet_change : (bucket version : ℕ) (c : Change) → backs (alters.told_change bucket version c ∷ []) ≡ 0
quiet_change bucket version (changes.Put key value) = refl
quiet_change bucket version (changes.Removed key) = refl

quiet_linked : (kept : ChangeKept) (slot : ℕ) (post : Post) → backs (alters.told_linked kept slot post) ≡ 0
quiet_linked kept slot post =
    let e = quiet_along (alters.told_cut kept.link) (alters.told_change (alters.changed_bucket kept post) (kept.version + 1) kept.change ∷ []) (quiet_change (alters.changed_bucket kept post) (kept.version + 1) kept.change) in
    let f = quiet_cut kept.link in omega arith

exchanged_counts : (b : ℕ) (kept : ChangeKept) (slot : ℕ) (post : Post) (desk : Desk) (same : Bool) → size desk ≤ b → Counts b (alters.exchanged kept slot post desk same)
exchanged_counts b kept slot post desk true h = let e = quiet_linked kept slot post in
    clearing_counts b (Changes (record kept { taken = None })) (alters.answer_done (kept.version + 1) kept.link) post desk (alters.told_linked kept slot post) (omega arith)
exchanged_counts b kept slot post desk false h = clearing_counts b (Changes kept) Again post desk [] (omega arith)

change_counts : (b : ℕ) (kept : ChangeKept) (at : ChangeAt) (post : Post) (desk : Desk) (found : ℕ) → size desk ≤ b → Counts b (alters.change_turn kept at post desk found)
change_counts b kept (LoadVersion slot) post desk found h = (omega arith, refl)
change_counts b kept (LoadCount slot) post desk found h = reading_counts b kept slot found post desk (nat_lt 0 found) h
change_counts b kept (LoadKey slot count) post desk found h = (omega arith, refl)
change_counts b kept (LoadValue slot count key) post desk found h = reading_counts b (alters.with_read kept key found) slot count post desk (nat_lt (length kept.pairs + 1) count) h
change_counts b kept (ExchangeRoot slot) post desk found h = exchanged_counts b kept slot post desk (found == kept.link) h

-- an enqueue
quiet_link : (root : Root) (slot : ℕ) (same : Bool) → backs (enqueues.told_link root slot same) ≡ 0
quiet_link root slot true = refl
quiet_link root slot false = refl

appending_counts : (b : ℕ) (kept : EnqueueKept) (post : Post) (desk : Desk) (spent : Bool) → size desk ≤ b → Counts b (enqueues.appending kept post desk spent)
appending_counts b kept post desk true h = clearing_counts b (Enqueues kept) (Answering (the_answers.Spent kept.number)) post desk [] (omega arith)
appending_counts b kept post desk false h = (omega arith, refl)

at_next_counts : (b : ℕ) (kept : EnqueueKept) (next : ℕ) (post : Post) (desk : Desk) (none : Bool) → size desk ≤ b → Counts b (enqueues.at_next kept next post desk none)
at_next_counts b kept next post desk true h = appending_counts b kept post desk (kept.number == post.layout.config.last_version) h
at_next_counts b kept next post desk false h = (omega arith, refl)

appended_counts : (b : ℕ) (kept : EnqueueKept) (slot : ℕ) (post : Post) (desk : Desk) (same : Bool) → size desk ≤ b → Counts b (enqueues.appended kept slot post desk same)
appended_counts b kept slot post desk true h = (omega arith, refl)
appended_counts b kept slot post desk false h = clearing_counts b (Enqueues kept) Again post desk [] (omega arith)

enqueue_counts : (b : ℕ) (kept : EnqueueKept) (at : EnqueueAt) (post : Post) (desk : Desk) (found : ℕ) → size desk ≤ b → Counts b (enqueues.enqueue_turn kept at post desk found)
enqueue_counts b kept LoadNumber post desk found h = (omega arith, refl)
enqueue_counts b kept LoadNext post desk found h = at_next_counts b kept found post desk (found == 0) h
enqueue_counts b kept (PassTail next) post desk found h = let e = quiet_link roots.Tail (next - 1) (found == kept.tail + 1) in
    clearing_counts b (Enqueues kept) Again post desk (enqueues.told_link roots.Tail (next - 1) (found == kept.tail + 1)) (omega arith)
enqueue_counts b kept (ExchangeNext slot) post desk found h = appended_counts b kept slot post desk (found == 0) h
enqueue_counts b kept (ExchangeTail slot) post desk found h = let e = quiet_link roots.Tail slot (found == kept.tail + 1) in
    clearing_counts b (Enqueues kept) (Answering (the_answers.Queued (kept.number + 1))) post desk (enqueues.told_link roots.Tail slot (found == kept.tail + 1)) (omega arith)

-- a dequeue
followed_row_counts : (b head next : ℕ) (post : Post) (desk : Desk) (told : List Event) (lags : Bool) → backs told + size desk ≤ b → Counts b (dequeues.followed_row head next post desk told lags)
followed_row_counts b head next post desk told true h = (omega arith, refl)
followed_row_counts b head next post desk told false h = (omega arith, refl)

followed_counts : (b head tail : ℕ) (ending : FollowEnd) (post : Post) (desk : Desk) (told : List Event) → backs told + size desk ≤ b → Counts b (dequeues.followed head tail ending post desk told)
followed_counts b head tail (follow_ends.Followed slot) post desk told h = followed_row_counts b head slot post desk told (tail == head + 1) h
followed_counts b head tail follow_ends.NoNext post desk told h = clearing_next_counts b (Answering the_answers.Empty) post desk told h
followed_counts b head tail (follow_ends.RootMoved seen) post desk told h = clearing_next_counts b Again post desk told h

taken_counts : (b head next number value : ℕ) (post : Post) (desk : Desk) (same : Bool) → size desk ≤ b → Counts b (dequeues.taken head next number value post desk same)
taken_counts b head next number value post desk true h = clearing_next_counts b (Retiring head (the_answers.Taken number value moves.Still)) post desk (events.Link roots.Head next ∷ events.Cut head ∷ events.Taken number value ∷ []) (omega arith)
taken_counts b head next number value post desk false h = clearing_next_counts b Again post desk [] (omega arith)

dequeue_counts : (b : ℕ) (at : DequeueAt) (post : Post) (desk : Desk) (found : ℕ) → size desk ≤ b → Counts b (dequeues.dequeue_turn at post desk found)
dequeue_counts b (LoadTail head) post desk found h = (omega arith, refl)
dequeue_counts b (SwingTail head next) post desk found h = let e = quiet_link roots.Tail next (found == head + 1) in
    clearing_next_counts b Again post desk (enqueues.told_link roots.Tail next (found == head + 1)) (omega arith)
dequeue_counts b (TakeNumber head next) post desk found h = (omega arith, refl)
dequeue_counts b (TakeValue head next number) post desk found h = (omega arith, refl)
dequeue_counts b (ExchangeHead head next number value) post desk found h = taken_counts b head next number value post desk (found == head + 1) h

-- a seat that leaves
parting_counts : (b : ℕ) (rows : Bool) (x : Option ℕ) (post : Post) (desk : Desk) (told : List Event) → backs told + size desk ≤ b → Counts b (goes_on post desk told (keeps.parting_index rows x))
parting_counts b rows None post desk told h = (omega arith, refl)
parting_counts b rows (Some index) post desk told h = (omega arith, refl)

quiet_all : (index : ℕ) (rows : List (Option ℕ)) → backs (cleared_from index rows) ≡ 0
quiet_all index [] = refl
quiet_all index (row ∷ rows) = let a = backs_along (cleared index row) (cleared_from (index + 1) rows) in let c = quiet_cleared index row in let d = quiet_all (index + 1) rows in omega arith

-- and one that takes a list over
taking_counts : (b place : ℕ) (post : Post) (desk : Desk) (left : Bool) (found : ℕ) → (left ≡ true → size desk + length desk.gift ≤ b) → size desk ≤ b → Counts b (keeps.taking place post desk left found)
taking_counts b place post desk true found g h = let a = g refl in let e = length-append desk.list desk.gift in (omega arith, refl)
taking_counts b place post desk false found g h = (omega arith, refl)

abbrev pub work_goes : ℕ → Work → Desk → ℕ → Type 0
work_goes b (Keeping (TakeList place)) desk found = found ≡ 1 → size desk + length desk.gift ≤ b
work_goes b work desk found = Unit {0}

-- a call on what is kept
released_counts : (b : ℕ) (let_go : LetGo) (post : Post) (desk : Desk) (told : List Event) → backs told + size desk ≤ b → Counts b (keeps.released let_go post desk told)
released_counts b Released post desk told h = (omega arith, refl)
released_counts b (Rehold key) post desk told h = round_counts b (Holds key) post desk told h
released_counts b (Dropped index) post desk told h = (omega arith, refl)
released_counts b (Parting index) post desk told h = parting_counts b (publishes_rows (scheme_of post)) (standing_from (index + 1) (drop (index + 1) post.standing)) post desk told h

pub quiet_shown : (rows : Bool) (post : Post) (index number : ℕ) → backs (publishes_index rows post index number) ≡ 0
quiet_shown true post index number = refl
quiet_shown false post index number = refl

quiet_copied : (from index slot : ℕ) (reserved : List Event) (x : Option ℕ) → backs reserved ≡ 0 → backs (cleared index x ++ reserved ++ events.Copied from index slot ∷ []) ≡ 0
quiet_copied from index slot reserved x r =
    quiet_along (cleared index x ++ reserved) (events.Copied from index slot ∷ []) refl ∙ quiet_along (cleared index x) reserved r ∙ quiet_cleared index x

copied_counts : (b from index : ℕ) (post : Post) (desk : Desk) (reserved : List Event) (x : Option ℕ) → backs reserved ≡ 0 → size desk ≤ b → Counts b (keeps.copied from index post desk reserved x)
copied_counts b from index post desk reserved None r h = (omega arith, refl)
copied_counts b from index post desk reserved (Some slot) r h =
    let e : backs (keeps.copied from index post desk reserved (Some slot)).told ≡ 0 = quiet_copied from index slot reserved (stands post index) r in (omega arith, refl)

load_held_counts : (b from index : ℕ) (post : Post) (desk : Desk) (found : ℕ) (one : Bool) → size desk ≤ b → Counts b (keeps.load_held from index post desk found one)
load_held_counts b from index post desk found true h = copied_counts b from index post desk [] (stands post from) refl h
load_held_counts b from index post desk found false h = (omega arith, refl)

looking_counts : (b index key slot version count : ℕ) (post : Post) (desk : Desk) (on : Bool) (pair : ℕ) → size desk ≤ b → Counts b (keeps.looking index key slot version count post desk on pair)
looking_counts b index key slot version count post desk true pair h = (omega arith, refl)
looking_counts b index key slot version count post desk false pair h = (omega arith, refl)

looked_key_counts : (b index key slot version count pair : ℕ) (post : Post) (desk : Desk) (own : Bool) → size desk ≤ b → Counts b (keeps.looked_key index key slot version count pair post desk own)
looked_key_counts b index key slot version count pair post desk true h = (omega arith, refl)
looked_key_counts b index key slot version count pair post desk false h = looking_counts b index key slot version count post desk (nat_lt (pair + 1) count) (pair + 1) h

look_counts : (b index key : ℕ) (at : GetAt) (post : Post) (desk : Desk) (found : ℕ) → size desk ≤ b → Counts b (keeps.look_turn index key at post desk found)
look_counts b index key (FindVersion slot) post desk found h = (omega arith, refl)
look_counts b index key (FindCount slot version) post desk found h = looking_counts b index key slot version found post desk (nat_lt 0 found) 0 h
look_counts b index key (FindKey slot version count pair) post desk found h = looked_key_counts b index key slot version count pair post desk (found == key) h
look_counts b index key (FindValue slot version pair) post desk found h = (omega arith, refl)

keep_counts : (b : ℕ) (at : KeepAt) (post : Post) (desk : Desk) (found : ℕ) → work_goes b (Keeping at) desk found → size desk ≤ b → Counts b (keeps.keep_turn at post desk found)
keep_counts b (Loosens let_go) post desk found g h = let c = quiet_cleared (let_index let_go) (stands post (let_index let_go)) in
    released_counts b let_go (withdrawn post (let_index let_go)) desk (cleared (let_index let_go) (stands post (let_index let_go))) (omega arith)
keep_counts b (LoadHeld from index) post desk found g h = load_held_counts b from index post desk found (has_one_interval (scheme_of post)) h
keep_counts b (StoreHeld from index era) post desk found g h = copied_counts b from index post desk (publishes_index (publishes_rows (scheme_of post)) post index era) (stands post from) (quiet_shown (publishes_rows (scheme_of post)) post index era) h
keep_counts b (Looks index key at) post desk found g h = look_counts b index key at post desk found h
keep_counts b (Misses index) post desk found g h = (omega arith, refl)
keep_counts b HideSpan post desk found g h = let e = quiet_all 2 (drop 2 post.standing) in let f = quiet_along (cleared_from 2 (drop 2 post.standing)) (reserves_span post None) refl in (omega arith, refl)
keep_counts b MarkLeft post desk found g h = (omega arith, refl)
keep_counts b (TakeList place) post desk found g h = taking_counts b place post desk (found == 1) found (λ e. g (grind (arith, nat_tests))) h
keep_counts b (MarkTaken place count) post desk found g h = (omega arith, refl)

-- a step of a call's own
pub work_counts : (b : ℕ) (work : Work) (post : Post) (desk : Desk) (found : ℕ) → work_goes b work desk found → size desk ≤ b → Counts b (steps.work_turn work post desk found)
work_counts b (Getting key at) post desk found g h = get_counts b key at post desk found h
work_counts b (Changing kept at) post desk found g h = change_counts b kept at post desk found h
work_counts b (Enqueuing kept at) post desk found g h = enqueue_counts b kept at post desk found h
work_counts b (Dequeuing at) post desk found g h = dequeue_counts b at post desk found h
work_counts b (Keeping at) post desk found g h = keep_counts b at post desk found g h

-- the entry that goes back is there
abbrev pub scan_goes : ScanAt → Desk → Type 0
scan_goes (ReadGuard number) desk = Unit {0}
scan_goes (GiveBack place slot) desk = place < length desk.list

-- a scan
scanned_counts : (b : ℕ) (later : AfterScan) (post : Post) (desk : Desk) (told : List Event) → backs told + size desk ≤ b + later_more later → Counts b (scan.scanned later post desk told)
scanned_counts b (Answered answer) post desk told h = (h, refl)
scanned_counts b (Repeated task) post desk told h = round_counts b task post desk told (omega arith)
scanned_counts b Counted post desk told h = (omega arith, refl)

giving_back_counts : (b : ℕ) (later : AfterScan) (post : Post) (desk : Desk) (told : List Event) (x : Option scan.Entry) → backs told + size desk ≤ b + later_more later → Counts b (scan.giving_back later post desk told x)
giving_back_counts b later post desk told None h = scanned_counts b later post (scan.with_kept desk) told h
giving_back_counts b later post desk told (Some entry) h = (h, refl)

guard_counts : (b : ℕ) (later : AfterScan) (number : ℕ) (post : Post) (desk : Desk) (told : List Event) (on : Bool) → backs told + size desk ≤ b + later_more later → Counts b (scan.reading later number post desk told on)
guard_counts b later number post desk told true h = (h, refl)
guard_counts b later number post desk told false h = giving_back_counts b later post desk told (scan.unmet_from desk 0) h

quiet_read : (rows : Bool) (guard : Guard) (word : ℕ) → backs (scan.reads_guard rows guard word ∷ []) ≡ 0
quiet_read true guard word = refl
quiet_read false guard word = refl

pub scan_counts : (b : ℕ) (later : AfterScan) (at : ScanAt) (post : Post) (desk : Desk) (found : ℕ) → scan_goes at desk → size desk ≤ b + later_more later → Counts b (scan.scan_turn later at post desk found)
scan_counts b later (ReadGuard number) post desk found f h =
    let rows = publishes_rows (scheme_of post) in
    let seen : Seen = (guard_at post.layout.config number, published rows (guard_at post.layout.config number) found) in
    let e = quiet_read rows seen.0 found in
    guard_counts b later number post (scan.with_read desk number seen) (scan.reads_guard rows seen.0 found ∷ []) (nat_lt (number + 1) (guards post.layout.config)) (omega arith)
scan_counts b later (GiveBack place slot) post desk found f h = let n = length-remove desk.list place f in
    giving_back_counts b later post (scan.with_back desk place) (events.Back slot ∷ []) (scan.unmet_from (scan.with_back desk place) place) (omega arith)

-- what comes after a machine
opened_row_counts : (b : ℕ) (task : Task) (slot : ℕ) (post : Post) (desk : Desk) (told : List Event) → backs told + size desk ≤ b → Counts b (steps.opened_row task slot post desk told)
opened_row_counts b (Gets key) slot post desk told h = (omega arith, refl)
opened_row_counts b (Changes kept) slot post desk told h = (omega arith, refl)
opened_row_counts b (Holds key) slot post desk told h = (omega arith, refl)
opened_row_counts b (Enqueues kept) slot post desk told h = (omega arith, refl)
opened_row_counts b Dequeues slot post desk told h = (omega arith, refl)

opened_null_counts : (b : ℕ) (task : Task) (post : Post) (desk : Desk) (told : List Event) → backs told + size desk ≤ b → Counts b (steps.opened_null task post desk told)
opened_null_counts b (Gets key) post desk told h = got_counts b key 0 None post desk told h
opened_null_counts b (Changes kept) post desk told h = deciding_counts b (alters.at_link kept 0) post desk told h
opened_null_counts b (Holds key) post desk told h = clearing_counts b (Holds key) (Answering the_answers.Nothing) post desk told h
opened_null_counts b (Enqueues kept) post desk told h = clearing_counts b (Enqueues kept) Again post desk told h
opened_null_counts b Dequeues post desk told h = clearing_counts b Dequeues Again post desk told h

opened_counts : (b : ℕ) (task : Task) (ending : Ending) (post : Post) (desk : Desk) (told : List Event) → backs told + size desk ≤ b → Counts b (steps.opened task ending post desk told)
opened_counts b task (Protected (protect_ends.Held slot era)) post desk told h = opened_row_counts b task slot post desk told h
opened_counts b task (Protected protect_ends.Null) post desk told h = opened_null_counts b task post desk told h
opened_counts b task Done post desk told h = (omega arith, refl)
opened_counts b task (Followed end) post desk told h = (omega arith, refl)
opened_counts b task (Allocated end) post desk told h = (omega arith, refl)
opened_counts b task (Retired life) post desk told h = (omega arith, refl)
opened_counts b task (Clocked clock) post desk told h = (omega arith, refl)

filled_by_counts : (b : ℕ) (task : Task) (ending : AllocateEnd) (post : Post) (desk : Desk) (told : List Event) → backs told + size desk ≤ b → Counts b (steps.filled_by task ending post desk told)
filled_by_counts b (Changes kept) (allocate_ends.Given slot birth) post desk told h = (omega arith, refl)
filled_by_counts b (Changes kept) allocate_ends.Full post desk told h = clearing_counts b (Changes (alters.with_walked kept)) (alters.no_room kept.walked) post desk told h
filled_by_counts b (Enqueues kept) (allocate_ends.Given slot birth) post desk told h = (omega arith, refl)
filled_by_counts b (Enqueues kept) allocate_ends.Full post desk told h = clearing_counts b (Enqueues (enqueues.item_walked kept)) (alters.no_room kept.walked) post desk told h
filled_by_counts b (Gets key) ending post desk told h = closed_counts b (Gets key) Again post desk told h
filled_by_counts b (Holds key) ending post desk told h = closed_counts b (Holds key) Again post desk told h
filled_by_counts b Dequeues ending post desk told h = closed_counts b Dequeues Again post desk told h

written_row_counts : (b : ℕ) (task : Task) (post : Post) (desk : Desk) (told : List Event) → backs told + size desk ≤ b → Counts b (steps.written_row task post desk told)
written_row_counts b (Changes kept) post desk told h = (omega arith, refl)
written_row_counts b (Enqueues kept) post desk told h = (omega arith, refl)
written_row_counts b (Gets key) post desk told h = closed_counts b (Gets key) Again post desk told h
written_row_counts b (Holds key) post desk told h = closed_counts b (Holds key) Again post desk told h
written_row_counts b Dequeues post desk told h = closed_counts b Dequeues Again post desk told h

filled_counts : (b : ℕ) (task : Task) (ending : Ending) (post : Post) (desk : Desk) (told : List Event) → backs told + size desk ≤ b → Counts b (steps.filled task ending post desk told)
filled_counts b task (Allocated ending) post desk told h = filled_by_counts b task ending post desk told h
filled_counts b task Done post desk told h = written_row_counts b task post desk told h
filled_counts b task (Protected end) post desk told h = written_row_counts b task post desk told h
filled_counts b task (Followed end) post desk told h = written_row_counts b task post desk told h
filled_counts b task (Retired life) post desk told h = written_row_counts b task post desk told h
filled_counts b task (Clocked clock) post desk told h = written_row_counts b task post desk told h

followed_by_counts : (b head tail : ℕ) (ending : Ending) (post : Post) (desk : Desk) (told : List Event) → backs told + size desk ≤ b → Counts b (steps.followed_by head tail ending post desk told)
followed_by_counts b head tail (Followed ending) post desk told h = followed_counts b head tail ending post desk told h
followed_by_counts b head tail Done post desk told h = closed_counts b Dequeues Again post desk told h
followed_by_counts b head tail (Protected end) post desk told h = closed_counts b Dequeues Again post desk told h
followed_by_counts b head tail (Allocated end) post desk told h = closed_counts b Dequeues Again post desk told h
followed_by_counts b head tail (Retired life) post desk told h = closed_counts b Dequeues Again post desk told h
followed_by_counts b head tail (Clocked clock) post desk told h = closed_counts b Dequeues Again post desk told h

-- one life more
tidying_counts : (b : ℕ) (answer : Answer) (post : Post) (desk : Desk) (told : List Event) (due : Bool) → backs told + size desk ≤ b + 1 → Counts b (steps.tidying answer post desk told due)
tidying_counts b answer post desk told true h = tidy_counts b (Answered answer) (moves_clock (scheme_of post)) post desk told h
tidying_counts b answer post desk told false h = (h, refl)

retired_by_counts : (b : ℕ) (answer : Answer) (ending : Ending) (post : Post) (desk : Desk) (told : List Event) → backs told + size desk ≤ b → Counts b (steps.retired_by answer ending post desk told)
retired_by_counts b answer (Retired life) post desk told h = let e = length-append desk.list (life ∷ []) in
    tidying_counts b answer post (with_life desk life) told (post.retired % post.layout.config.every == 0) (omega arith)
retired_by_counts b answer Done post desk told h = (omega arith, refl)
retired_by_counts b answer (Protected end) post desk told h = (omega arith, refl)
retired_by_counts b answer (Followed end) post desk told h = (omega arith, refl)
retired_by_counts b answer (Allocated end) post desk told h = (omega arith, refl)
retired_by_counts b answer (Clocked clock) post desk told h = (omega arith, refl)

moved_more : (later : AfterScan) (clock : ClockMove) → later_more (steps.after_move later clock) ≡ later_more later
moved_more (Answered answer) clock = refl
moved_more (Repeated task) clock = refl
moved_more Counted clock = refl

tidied_counts : (b : ℕ) (later : AfterScan) (ending : Ending) (post : Post) (desk : Desk) (told : List Event) → backs told + size desk ≤ b + later_more later → Counts b (steps.tidied later ending post desk told)
tidied_counts b later (Clocked clock) post desk told h = let e = moved_more later clock in (omega arith, refl)
tidied_counts b later Done post desk told h = (h, refl)
tidied_counts b later (Protected end) post desk told h = (h, refl)
tidied_counts b later (Followed end) post desk told h = (h, refl)
tidied_counts b later (Allocated end) post desk told h = (h, refl)
tidied_counts b later (Retired life) post desk told h = (h, refl)

advanced_counts : (b : ℕ) (ending : Ending) (post : Post) (desk : Desk) (told : List Event) → backs told + size desk ≤ b → Counts b (steps.advanced ending post desk told)
advanced_counts b (Clocked clock) post desk told h = (omega arith, refl)
advanced_counts b Done post desk told h = (omega arith, refl)
advanced_counts b (Protected end) post desk told h = (omega arith, refl)
advanced_counts b (Followed end) post desk told h = (omega arith, refl)
advanced_counts b (Allocated end) post desk told h = (omega arith, refl)
advanced_counts b (Retired life) post desk told h = (omega arith, refl)

pub resume_counts : (b : ℕ) (why : Why) (ending : Ending) (post : Post) (desk : Desk) (told : List Event) → backs told + size desk ≤ b + why_more why → Counts b (steps.resume why ending post desk told)
resume_counts b (Opens task) ending post desk told h = opened_counts b task ending post desk told (omega arith)
resume_counts b (FollowsHead head tail) ending post desk told h = followed_by_counts b head tail ending post desk told (omega arith)
resume_counts b (Fills task) ending post desk told h = filled_counts b task ending post desk told (omega arith)
resume_counts b (ClearsNext next) ending post desk told h = clearing_counts b Dequeues next post desk told (omega arith)
resume_counts b (Clears task next) ending post desk told h = finishing_counts b task next post desk told (omega arith)
resume_counts b (Finishes task next) ending post desk told h = closed_counts b task next post desk told (omega arith)
resume_counts b (GivesUp answer) ending post desk told h = (omega arith, refl)
resume_counts b (Retires answer) ending post desk told h = retired_by_counts b answer ending post desk told (omega arith)
resume_counts b (Tidies later) ending post desk told h = tidied_counts b later ending post desk told h
resume_counts b Advances ending post desk told h = advanced_counts b ending post desk told (omega arith)
resume_counts b (Releases let_go) ending post desk told h = released_counts b let_go post desk told (omega arith)
