-- What a call's own step leaves, and what comes after a machine: no scan that has read something, no try that has loaded a
-- link, and nothing stands that did not stand before.
use Rattle.std.proofs.Common.{ℕ, ◌+◌, Bool, true, false, List, [], ◌∷◌, ◌++◌, length, Option, Some, None, refl, subst, sym, ◌∙◌, ◌≡◌, drop}
use Rattle.std.specs.Prelude.{◌==◌, ◌%◌, ◌-◌, nat_lt}
use Rattle.inv_rows.specs.defs.declared.call.Answer.{Answer}
use Rattle.inv_rows.specs.defs.declared.call.Call.{Call}
use Rattle.inv_rows.specs.defs.declared.call.Call.TheVariants as names
use Rattle.inv_rows.specs.defs.declared.call.Answer.TheVariants as the_answers
use Rattle.inv_rows.specs.defs.declared.call.ClockMove.TheVariants as moves
use Rattle.inv_rows.specs.defs.declared.event.Event.{Event}
use Rattle.inv_rows.specs.defs.declared.event.Event.TheVariants as events
use Rattle.inv_rows.specs.defs.declared.event.Root.TheVariants as roots
use Rattle.inv_rows.specs.model.declared.ends.AllocateEnd.{AllocateEnd}
use Rattle.inv_rows.specs.model.declared.ends.AllocateEnd.TheVariants as allocate_ends
use Rattle.inv_rows.specs.model.declared.ends.FollowEnd.{FollowEnd}
use Rattle.inv_rows.specs.model.declared.ends.FollowEnd.TheVariants as follow_ends
use Rattle.inv_rows.specs.model.declared.ends.ProtectEnd.TheVariants as protect_ends
use Rattle.inv_rows.specs.model.declared.post.Post.{Post}
use Rattle.inv_rows.specs.model.Desks.{Desk, with_life}
use Rattle.inv_rows.specs.model.Phases.{Ending, Base}
use Rattle.inv_rows.specs.model.Phases.Ending.{Done, Protected, Followed, Allocated, Retired, Clocked}
use Rattle.inv_rows.specs.model.Rounds.{bucket_of, scheme_of, index_of, taken_of, begin_base, clear_base, clear_post, clear_told, finish_base, kept_row, release_span, let_index, letting_by, letting, round_by, round, given_up, closed, finishing_by, finishing, clearing_by, clearing, clearing_next_by, clearing_next, begin_span, finish_span, protect_base, opening, root_of, tidy_by}
use Rattle.inv_rows.specs.model.Get as gets
use Rattle.inv_rows.specs.model.Change as alters
use Rattle.inv_rows.specs.model.Enqueue as enqueues
use Rattle.inv_rows.specs.model.Dequeue as dequeues
use Rattle.inv_rows.specs.model.Keep as keeps
use Rattle.inv_rows.specs.model.Steps as steps
use Rattle.inv_rows.specs.model.Calls.{Task, Gets, Changes, Holds, Enqueues, Dequeues, Again, Answering, Retiring, AfterScan, Why, Phase, ChangeKept, EnqueueKept, GetAt, FindVersion, FindCount, FindKey, FindValue, ChangeAt, LoadVersion, LoadCount, LoadKey, LoadValue, ExchangeRoot, EnqueueAt, LoadNumber, LoadNext, PassTail, ExchangeNext, ExchangeTail, DequeueAt, LoadTail, SwingTail, TakeNumber, TakeValue, ExchangeHead, Work, Getting, Changing, Enqueuing, Dequeuing, Opens, FollowsHead, Fills, ClearsNext, Clears, Finishes, GivesUp, Retires, Tidies, Advances, Releases, LetGo, Released, Rehold, Dropped, Parting, Loosens, LoadHeld, StoreHeld, Looks, Misses, HideSpan, MarkLeft, TakeList, MarkTaken, Keeping, Next, MakeRoom, Runs, Works, CallTurn, Answered, Repeated, goes_on}
use Rattle.inv_rows.specs.words.declared.config.SchemeKind.{SchemeKind}
use Rattle.inv_rows.specs.words.declared.config.SchemeKind.TheVariants.{He, Hp, Ibr, Wfe}
use Rattle.inv_rows.specs.defs.declared.lifetime.Interval.{Interval}
use Rattle.inv_rows.specs.model.Posts.{stands, withdrawn, cleared, standing_from, publishes_index}
use Rattle.inv_rows.specs.Shapes.Frame.{phase_left}
use Rattle.inv_rows.specs.words.Schemes.{has_one_interval, publishes_rows, moves}
use Rattle.inv_rows.specs.defs.declared.event.Root.{Root}
use Rattle.inv_rows.proofs.Covering.Stands.{withdrawn_shrinks, bare_none}
use Rattle.inv_rows.specs.Covering.Covers.{is_fresh}
use Rattle.inv_rows.specs.Covering.Tries.{is_copy, is_start, starts_base, Begins, Leaves, Shrinks}
use Rattle.inv_rows.proofs.model.Schemes.{each_begin, each_clear, each_clear_post, each_finish, each_release}
use Rattle.inv_rows.proofs.model.Facts.{if_by}

opening_at : (task : Task) (post : Post) (index : ℕ) (root : Root) (scheme : SchemeKind) → Begins (Phase.Runs (Opens task) (protect_base scheme index root))
opening_at task post index root He = record { fresh = refl; starts = refl }
opening_at task post index root Hp = record { fresh = refl; starts = refl }
opening_at task post index root Ibr = record { fresh = refl; starts = refl }
opening_at task post index root Wfe = record { fresh = refl; starts = refl }

opening_fresh : (task : Task) (post : Post) → Begins (opening task post)
opening_fresh task post = opening_at task post (index_of task) (root_of task post) (scheme_of post)

follow_fresh : (head tail : ℕ) (scheme : SchemeKind) → Begins (Phase.Runs (FollowsHead head tail) (dequeues.follow_base scheme head))
follow_fresh head tail He = record { fresh = refl; starts = refl }
follow_fresh head tail Hp = record { fresh = refl; starts = refl }
follow_fresh head tail Ibr = record { fresh = refl; starts = refl }
follow_fresh head tail Wfe = record { fresh = refl; starts = refl }

begun_fresh : (task : Task) (post : Post) (x : Option Interval) → Begins (round_by task post (begin_span x))
begun_fresh task post None = record { fresh = refl; starts = refl }
begun_fresh task post (Some span) = opening_fresh task post

round_by_fresh : (task : Task) (post : Post) (scheme : SchemeKind) → Begins (round_by task post (begin_base scheme post))
round_by_fresh task post scheme = each_begin scheme post (λ (base : Option Base). Begins (round_by task post base)) (opening_fresh task post) (begun_fresh task post post.span)

-- a round begins
pub round_fresh : (task : Task) (post : Post) → Begins (round task post)
round_fresh task post = round_by_fresh task post (scheme_of post)

-- a list is tidied
tidy_fresh : (later : AfterScan) (moving : Bool) (post : Post) (desk : Desk) (told : List Event) → Leaves post (goes_on post desk told (tidy_by moving later post))
tidy_fresh later true post desk told = record { fresh = refl; starts = refl; shrinks = λ j s h. h }
tidy_fresh later false post desk told = record { fresh = refl; starts = refl; shrinks = λ j s h. h }

given_up_fresh : (answer : Answer) (post : Post) (desk : Desk) (told : List Event) (x : Option ℕ) → Leaves post (given_up answer post desk told x)
given_up_fresh answer post desk told None = record { fresh = refl; starts = refl; shrinks = λ j s h. h }
given_up_fresh answer post desk told (Some slot) = record { fresh = refl; starts = refl; shrinks = λ j s h. h }

closed_fresh : (task : Task) (next : Next) (post : Post) (desk : Desk) (told : List Event) → Leaves post (closed task next post desk told)
closed_fresh task Again post desk told = record { fresh = (round_fresh task post).fresh; starts = (round_fresh task post).starts; shrinks = λ j s h. h }
closed_fresh task MakeRoom post desk told = tidy_fresh (Repeated task) (moves (scheme_of post)) post desk told
closed_fresh task (Answering answer) post desk told = given_up_fresh answer post desk told (taken_of task)
closed_fresh task (Retiring slot answer) post desk told = record { fresh = refl; starts = refl; shrinks = λ j s h. h }

finish_fresh : (task : Task) (next : Next) (post : Post) (desk : Desk) (told : List Event) (x : Option ℕ) → Leaves post (finishing_by task next post desk told (finish_span x))
finish_fresh task next post desk told None = record { fresh = refl; starts = refl; shrinks = λ j s h. h }
finish_fresh task next post desk told (Some slot) = closed_fresh task next post desk told

finishing_by_fresh : (task : Task) (next : Next) (post : Post) (desk : Desk) (told : List Event) (scheme : SchemeKind) → Leaves post (finishing_by task next post desk told (finish_base scheme post))
finishing_by_fresh task next post desk told scheme =
    each_finish scheme post (λ (base : Option Base). Leaves post (finishing_by task next post desk told base))
    (closed_fresh task next post desk told)
    (finish_fresh task next post desk told (kept_row post))

finishing_fresh : (task : Task) (next : Next) (post : Post) (desk : Desk) (told : List Event) → Leaves post (finishing task next post desk told)
finishing_fresh task Again post desk told = closed_fresh task Again post desk told
finishing_fresh task MakeRoom post desk told = finishing_by_fresh task MakeRoom post desk told (scheme_of post)
finishing_fresh task (Answering answer) post desk told = finishing_by_fresh task (Answering answer) post desk told (scheme_of post)
finishing_fresh task (Retiring slot answer) post desk told = finishing_by_fresh task (Retiring slot answer) post desk told (scheme_of post)

leaves_through : (post next : Post) (t : CallTurn) → Shrinks post next → Leaves next t → Leaves post t
leaves_through post next t a b = record { fresh = b.fresh; starts = b.starts; shrinks = λ j s h. a j s (b.shrinks j s h) }

clear_shrinks : (scheme : SchemeKind) (post : Post) (index : ℕ) → Shrinks post (clear_post scheme post index)
clear_shrinks scheme post index = each_clear_post scheme post index (λ (p : Post). Shrinks post p) (λ j s h. h) (withdrawn_shrinks post index)

clearing_by_fresh : (task : Task) (next : Next) (post : Post) (desk : Desk) (told : List Event) (scheme : SchemeKind) → Leaves post (clearing_by task next post desk told (clear_base scheme (index_of task)))
clearing_by_fresh task next post desk told scheme =
    each_clear scheme (index_of task) (λ (base : Option Base). Leaves post (clearing_by task next post desk told base))
    (record { fresh = refl; starts = refl; shrinks = λ j s h. h })
    (let p : Post = clear_post (scheme_of post) post (index_of task) in
    let t : List Event = told ++ clear_told (scheme_of post) post (index_of task) in
    leaves_through post p (finishing task next p desk t) (clear_shrinks (scheme_of post) post (index_of task)) (finishing_fresh task next p desk t))

clearing_fresh : (task : Task) (next : Next) (post : Post) (desk : Desk) (told : List Event) → Leaves post (clearing task next post desk told)
clearing_fresh task next post desk told = clearing_by_fresh task next post desk told (scheme_of post)

clearing_next_by_fresh : (next : Next) (post : Post) (desk : Desk) (told : List Event) (scheme : SchemeKind) → Leaves post (clearing_next_by next post desk told (clear_base scheme 1))
clearing_next_by_fresh next post desk told scheme =
    each_clear scheme 1 (λ (base : Option Base). Leaves post (clearing_next_by next post desk told base))
    (record { fresh = refl; starts = refl; shrinks = λ j s h. h })
    (let p : Post = clear_post (scheme_of post) post 1 in
    let t : List Event = told ++ clear_told (scheme_of post) post 1 in
    leaves_through post p (clearing Dequeues next p desk t) (clear_shrinks (scheme_of post) post 1) (clearing_fresh Dequeues next p desk t))

clearing_next_fresh : (next : Next) (post : Post) (desk : Desk) (told : List Event) → Leaves post (clearing_next next post desk told)
clearing_next_fresh next post desk told = clearing_next_by_fresh next post desk told (scheme_of post)

got_fresh : (key version : ℕ) (value : Option ℕ) (post : Post) (desk : Desk) (told : List Event) → Leaves post (gets.got key version value post desk told)
got_fresh key version value post desk told = clearing_fresh (Gets key) (Answering (the_answers.Got version value)) post desk (told ++ events.Got (bucket_of post key) version key value ∷ [])

finding_fresh : (key slot version count : ℕ) (post : Post) (desk : Desk) (more : Bool) (pair : ℕ) → Leaves post (gets.finding key slot version count post desk more pair)
finding_fresh key slot version count post desk true pair = record { fresh = refl; starts = refl; shrinks = λ j s h. h }
finding_fresh key slot version count post desk false pair = got_fresh key version None post desk []

found_key_fresh : (key slot version count pair : ℕ) (post : Post) (desk : Desk) (own : Bool) → Leaves post (gets.found_key key slot version count pair post desk own)
found_key_fresh key slot version count pair post desk true = record { fresh = refl; starts = refl; shrinks = λ j s h. h }
found_key_fresh key slot version count pair post desk false = finding_fresh key slot version count post desk (nat_lt (pair + 1) count) (pair + 1)

get_fresh : (key : ℕ) (at : GetAt) (post : Post) (desk : Desk) (found : ℕ) → Leaves post (gets.get_turn key at post desk found)
get_fresh key (FindVersion slot) post desk found = record { fresh = refl; starts = refl; shrinks = λ j s h. h }
get_fresh key (FindCount slot version) post desk found = finding_fresh key slot version found post desk (nat_lt 0 found) 0
get_fresh key (FindKey slot version count pair) post desk found = found_key_fresh key slot version count pair post desk (found == key)
get_fresh key (FindValue slot version pair) post desk found = got_fresh key version (Some found) post desk []

filling_fresh : (kept : ChangeKept) (task : Task) (x : Option ℕ) (post : Post) → Begins (Phase.Runs (Fills task) (alters.filling_by kept x))
filling_fresh kept task None post = record { fresh = refl; starts = refl }
filling_fresh kept task (Some slot) post = record { fresh = refl; starts = refl }

deciding_by_fresh : (kept : ChangeKept) (post : Post) (desk : Desk) (told : List Event) (x : Option Answer) → Leaves post (alters.deciding_by kept post desk told x)
deciding_by_fresh kept post desk told (Some answer) = clearing_fresh (Changes kept) (Answering answer) post desk told
deciding_by_fresh kept post desk told None = record { fresh = (filling_fresh (alters.with_change kept) (Changes (alters.with_change kept)) kept.taken post).fresh; starts = (filling_fresh (alters.with_change kept) (Changes (alters.with_change kept)) kept.taken post).starts; shrinks = λ j s h. h }

deciding_fresh : (kept : ChangeKept) (post : Post) (desk : Desk) (told : List Event) → Leaves post (alters.deciding kept post desk told)
deciding_fresh kept post desk told = deciding_by_fresh kept post desk told (alters.refused post.layout.config kept)

reading_fresh : (kept : ChangeKept) (slot count : ℕ) (post : Post) (desk : Desk) (more : Bool) → Leaves post (alters.reading kept slot count post desk more)
reading_fresh kept slot count post desk true = record { fresh = refl; starts = refl; shrinks = λ j s h. h }
reading_fresh kept slot count post desk false = deciding_fresh kept post desk []

exchanged_fresh : (kept : ChangeKept) (slot : ℕ) (post : Post) (desk : Desk) (same : Bool) → Leaves post (alters.exchanged kept slot post desk same)
exchanged_fresh kept slot post desk true = clearing_fresh (Changes (record kept { taken = None })) (alters.answer_done (kept.version + 1) kept.link) post desk (alters.told_linked kept slot post)
exchanged_fresh kept slot post desk false = clearing_fresh (Changes kept) Again post desk []

change_fresh : (kept : ChangeKept) (at : ChangeAt) (post : Post) (desk : Desk) (found : ℕ) → Leaves post (alters.change_turn kept at post desk found)
change_fresh kept (LoadVersion slot) post desk found = record { fresh = refl; starts = refl; shrinks = λ j s h. h }
change_fresh kept (LoadCount slot) post desk found = reading_fresh kept slot found post desk (nat_lt 0 found)
change_fresh kept (LoadKey slot count) post desk found = record { fresh = refl; starts = refl; shrinks = λ j s h. h }
change_fresh kept (LoadValue slot count key) post desk found = reading_fresh (alters.with_read kept key found) slot count post desk (nat_lt (length kept.pairs + 1) count)
change_fresh kept (ExchangeRoot slot) post desk found = exchanged_fresh kept slot post desk (found == kept.link)

item_fresh : (kept : EnqueueKept) (task : Task) (x : Option ℕ) (post : Post) → Begins (Phase.Runs (Fills task) (enqueues.filling_by kept x))
item_fresh kept task None post = record { fresh = refl; starts = refl }
item_fresh kept task (Some slot) post = record { fresh = refl; starts = refl }

appending_fresh : (kept : EnqueueKept) (post : Post) (desk : Desk) (spent : Bool) → Leaves post (enqueues.appending kept post desk spent)
appending_fresh kept post desk true = clearing_fresh (Enqueues kept) (Answering (the_answers.Spent kept.number)) post desk []
appending_fresh kept post desk false = record { fresh = (item_fresh kept (Enqueues kept) kept.taken post).fresh; starts = (item_fresh kept (Enqueues kept) kept.taken post).starts; shrinks = λ j s h. h }

at_next_fresh : (kept : EnqueueKept) (next : ℕ) (post : Post) (desk : Desk) (none : Bool) → Leaves post (enqueues.at_next kept next post desk none)
at_next_fresh kept next post desk true = appending_fresh kept post desk (kept.number == post.layout.config.last_version)
at_next_fresh kept next post desk false = record { fresh = refl; starts = refl; shrinks = λ j s h. h }

appended_fresh : (kept : EnqueueKept) (slot : ℕ) (post : Post) (desk : Desk) (same : Bool) → Leaves post (enqueues.appended kept slot post desk same)
appended_fresh kept slot post desk true = record { fresh = refl; starts = refl; shrinks = λ j s h. h }
appended_fresh kept slot post desk false = clearing_fresh (Enqueues kept) Again post desk []

enqueue_fresh : (kept : EnqueueKept) (at : EnqueueAt) (post : Post) (desk : Desk) (found : ℕ) → Leaves post (enqueues.enqueue_turn kept at post desk found)
enqueue_fresh kept LoadNumber post desk found = record { fresh = refl; starts = refl; shrinks = λ j s h. h }
enqueue_fresh kept LoadNext post desk found = at_next_fresh kept found post desk (found == 0)
enqueue_fresh kept (PassTail next) post desk found = clearing_fresh (Enqueues kept) Again post desk (enqueues.told_link roots.Tail (next - 1) (found == kept.tail + 1))
enqueue_fresh kept (ExchangeNext slot) post desk found = appended_fresh kept slot post desk (found == 0)
enqueue_fresh kept (ExchangeTail slot) post desk found = clearing_fresh (Enqueues kept) (Answering (the_answers.Queued (kept.number + 1))) post desk (enqueues.told_link roots.Tail slot (found == kept.tail + 1))

followed_row_fresh : (head next : ℕ) (post : Post) (desk : Desk) (told : List Event) (lags : Bool) → Leaves post (dequeues.followed_row head next post desk told lags)
followed_row_fresh head next post desk told true = record { fresh = refl; starts = refl; shrinks = λ j s h. h }
followed_row_fresh head next post desk told false = record { fresh = refl; starts = refl; shrinks = λ j s h. h }

followed_fresh : (head tail : ℕ) (ending : FollowEnd) (post : Post) (desk : Desk) (told : List Event) → Leaves post (dequeues.followed head tail ending post desk told)
followed_fresh head tail (follow_ends.Followed slot) post desk told = followed_row_fresh head slot post desk told (tail == head + 1)
followed_fresh head tail follow_ends.NoNext post desk told = clearing_next_fresh (Answering the_answers.Empty) post desk told
followed_fresh head tail (follow_ends.RootMoved seen) post desk told = clearing_next_fresh Again post desk told

taken_fresh : (head next number value : ℕ) (post : Post) (desk : Desk) (same : Bool) → Leaves post (dequeues.taken head next number value post desk same)
taken_fresh head next number value post desk true = clearing_next_fresh (Retiring head (the_answers.Taken number value moves.Still)) post desk (events.Link roots.Head next ∷ events.Cut head ∷ events.Taken number value ∷ [])
taken_fresh head next number value post desk false = clearing_next_fresh Again post desk []

dequeue_fresh : (at : DequeueAt) (post : Post) (desk : Desk) (found : ℕ) → Leaves post (dequeues.dequeue_turn at post desk found)
dequeue_fresh (LoadTail head) post desk found = record { fresh = (follow_fresh head found (scheme_of post)).fresh; starts = (follow_fresh head found (scheme_of post)).starts; shrinks = λ j s h. h }
dequeue_fresh (SwingTail head next) post desk found = clearing_next_fresh Again post desk (enqueues.told_link roots.Tail next (found == head + 1))
dequeue_fresh (TakeNumber head next) post desk found = record { fresh = refl; starts = refl; shrinks = λ j s h. h }
dequeue_fresh (TakeValue head next number) post desk found = record { fresh = refl; starts = refl; shrinks = λ j s h. h }
dequeue_fresh (ExchangeHead head next number value) post desk found = taken_fresh head next number value post desk (found == head + 1)

-- a seat leaves
parting_begins : (rows : Bool) (x : Option ℕ) → Begins (keeps.parting_index rows x)
parting_begins rows None = record { fresh = refl; starts = refl }
parting_begins rows (Some index) = record { fresh = refl; starts = refl }

parting_span_begins : (x : Option Interval) → Begins (keeps.parting_span x)
parting_span_begins None = record { fresh = refl; starts = refl }
parting_span_begins (Some span) = record { fresh = refl; starts = refl }

leaving_begins : (post : Post) → Begins (keeps.parting post)
leaving_begins post =
    if_by (has_one_interval (scheme_of post)) (keeps.parting_span post.span) (keeps.parting_from 2 post) Begins
    (λ e. parting_span_begins post.span)
    (λ e. parting_begins (publishes_rows (scheme_of post)) (standing_from 2 (drop 2 post.standing)))

taking_fresh : (place : ℕ) (post : Post) (desk : Desk) (left : Bool) (found : ℕ) → Leaves post (keeps.taking place post desk left found)
taking_fresh place post desk true found = record { fresh = refl; starts = refl; shrinks = λ j s h. h }
taking_fresh place post desk false found = record { fresh = refl; starts = refl; shrinks = λ j s h. h }

released_fresh : (let_go : LetGo) (post : Post) (desk : Desk) (told : List Event) → Leaves post (keeps.released let_go post desk told)
released_fresh Released post desk told = record { fresh = refl; starts = refl; shrinks = λ j s h. h }
released_fresh (Rehold key) post desk told = record { fresh = (round_fresh (Holds key) post).fresh; starts = (round_fresh (Holds key) post).starts; shrinks = λ j s h. h }
released_fresh (Dropped index) post desk told = record { fresh = refl; starts = refl; shrinks = λ j s h. h }
released_fresh (Parting index) post desk told = let b = parting_begins (publishes_rows (scheme_of post)) (standing_from (index + 1) (drop (index + 1) post.standing)) in record { fresh = b.fresh; starts = b.starts; shrinks = λ j s h. h }

loosened_fresh : (let_go : LetGo) (post : Post) (desk : Desk) → Leaves post (keeps.released let_go (withdrawn post (let_index let_go)) desk (cleared (let_index let_go) (stands post (let_index let_go))))
loosened_fresh let_go post desk =
    let p : Post = withdrawn post (let_index let_go) in
    let t : List Event = cleared (let_index let_go) (stands post (let_index let_go)) in
    leaves_through post p (keeps.released let_go p desk t) (withdrawn_shrinks post (let_index let_go)) (released_fresh let_go p desk t)

looking_fresh : (index key slot version count : ℕ) (post : Post) (desk : Desk) (more : Bool) (pair : ℕ) → Leaves post (keeps.looking index key slot version count post desk more pair)
looking_fresh index key slot version count post desk true pair = record { fresh = refl; starts = refl; shrinks = λ j s h. h }
looking_fresh index key slot version count post desk false pair = record { fresh = refl; starts = refl; shrinks = λ j s h. h }

looked_key_fresh : (index key slot version count pair : ℕ) (post : Post) (desk : Desk) (own : Bool) → Leaves post (keeps.looked_key index key slot version count pair post desk own)
looked_key_fresh index key slot version count pair post desk true = record { fresh = refl; starts = refl; shrinks = λ j s h. h }
looked_key_fresh index key slot version count pair post desk false = looking_fresh index key slot version count post desk (nat_lt (pair + 1) count) (pair + 1)

look_fresh : (index key : ℕ) (at : GetAt) (post : Post) (desk : Desk) (found : ℕ) → Leaves post (keeps.look_turn index key at post desk found)
look_fresh index key (FindVersion slot) post desk found = record { fresh = refl; starts = refl; shrinks = λ j s h. h }
look_fresh index key (FindCount slot version) post desk found = looking_fresh index key slot version found post desk (nat_lt 0 found) 0
look_fresh index key (FindKey slot version count pair) post desk found = looked_key_fresh index key slot version count pair post desk (found == key)
look_fresh index key (FindValue slot version pair) post desk found = record { fresh = refl; starts = refl; shrinks = λ j s h. h }

-- a step of a call's own, but those of a copy
pub work_fresh : (work : Work) (post : Post) (desk : Desk) (found : ℕ) → is_copy work ≡ false → Leaves post (steps.work_turn work post desk found)
work_fresh (Getting key at) post desk found c = get_fresh key at post desk found
work_fresh (Changing kept at) post desk found c = change_fresh kept at post desk found
work_fresh (Enqueuing kept at) post desk found c = enqueue_fresh kept at post desk found
work_fresh (Dequeuing at) post desk found c = dequeue_fresh at post desk found
work_fresh (Keeping (Loosens let_go)) post desk found c = loosened_fresh let_go post desk
work_fresh (Keeping (LoadHeld from index)) post desk found c = absurd (cc)
work_fresh (Keeping (StoreHeld from index era)) post desk found c = absurd (cc)
work_fresh (Keeping (Looks index key at)) post desk found c = look_fresh index key at post desk found
work_fresh (Keeping (Misses index)) post desk found c = record { fresh = refl; starts = refl; shrinks = λ j s h. h }
work_fresh (Keeping HideSpan) post desk found c = record { fresh = refl; starts = refl; shrinks = λ j s h. absurd (bare_none post j s h) }
work_fresh (Keeping MarkLeft) post desk found c = record { fresh = refl; starts = refl; shrinks = λ j s h. h }
work_fresh (Keeping (TakeList place)) post desk found c = taking_fresh place post desk (found == 1) found
work_fresh (Keeping (MarkTaken place count)) post desk found c = record { fresh = refl; starts = refl; shrinks = λ j s h. h }

begins_start : (next : Phase) (why : Why) (base : Base) → Begins next → next ≡ Runs why base → starts_base base ≡ true
begins_start next why base b e = subst (λ (p : Phase). is_start p ≡ true) e b.starts

leaves_start : (post : Post) (t : CallTurn) (why : Why) (base : Base) → Leaves post t → phase_left t.outcome ≡ Runs why base → starts_base base ≡ true
leaves_start post t why base b e = subst (λ (p : Phase). is_start p ≡ true) e b.starts

-- a copy ends, or goes on to its second step
pub copied_begins : (from index : ℕ) (post : Post) (desk : Desk) (reserved : List Event) (x : Option ℕ) → Begins (phase_left (keeps.copied from index post desk reserved x).outcome)
copied_begins from index post desk reserved None = record { fresh = refl; starts = refl }
copied_begins from index post desk reserved (Some slot) = record { fresh = refl; starts = refl }

-- it goes on where each index publishes by itself
pub data Loaded (post : Post) (from index found : ℕ) (next : Phase) : Type 0 where
  Ended : Begins next → Loaded post from index found next
  Stored : has_one_interval (scheme_of post) ≡ false → next ≡ Works (Keeping (StoreHeld from index (keeps.held_number (publishes_rows (scheme_of post)) found))) → Loaded post from index found next

loaded_by : (from index : ℕ) (post : Post) (desk : Desk) (found : ℕ) (one : Bool) → has_one_interval (scheme_of post) ≡ one → Loaded post from index found (phase_left (keeps.load_held from index post desk found one).outcome)
loaded_by from index post desk found true e = Ended (copied_begins from index post desk [] (stands post from))
loaded_by from index post desk found false e = Stored e refl

pub loaded : (from index : ℕ) (post : Post) (desk : Desk) (found : ℕ) → Loaded post from index found (phase_left (steps.work_turn (Keeping (LoadHeld from index)) post desk found).outcome)
loaded from index post desk found = loaded_by from index post desk found (has_one_interval (scheme_of post)) refl

loaded_fresh : (post : Post) (from index found : ℕ) (next : Phase) → Loaded post from index found next → is_fresh next ≡ true
loaded_fresh post from index found next (Ended b) = b.fresh
loaded_fresh post from index found next (Stored i e) = rw e refl

loaded_start : (post : Post) (from index found : ℕ) (next : Phase) (why : Why) (base : Base) → Loaded post from index found next → next ≡ Runs why base → starts_base base ≡ true
loaded_start post from index found next why base (Ended b) q = begins_start next why base b q
loaded_start post from index found next why base (Stored i e) q = absurd (let z : Works (Keeping (StoreHeld from index (keeps.held_number (publishes_rows (scheme_of post)) found))) ≡ Runs why base = sym e ∙ q in cc)

-- no step of a call's own leaves a scan that has read something
pub works_fresh : (work : Work) (post : Post) (desk : Desk) (found : ℕ) → is_fresh (phase_left (steps.work_turn work post desk found).outcome) ≡ true
works_fresh (Keeping (LoadHeld from index)) post desk found = loaded_fresh post from index found _ (loaded from index post desk found)
works_fresh (Keeping (StoreHeld from index era)) post desk found = (copied_begins from index post desk (publishes_index (publishes_rows (scheme_of post)) post index era) (stands post from)).fresh
works_fresh (Keeping (Loosens let_go)) post desk found = (work_fresh (Keeping (Loosens let_go)) post desk found refl).fresh
works_fresh (Keeping (Looks index key at)) post desk found = (work_fresh (Keeping (Looks index key at)) post desk found refl).fresh
works_fresh (Keeping (Misses index)) post desk found = refl
works_fresh (Keeping HideSpan) post desk found = (work_fresh (Keeping HideSpan) post desk found refl).fresh
works_fresh (Keeping MarkLeft) post desk found = (work_fresh (Keeping MarkLeft) post desk found refl).fresh
works_fresh (Keeping (TakeList place)) post desk found = (work_fresh (Keeping (TakeList place)) post desk found refl).fresh
works_fresh (Keeping (MarkTaken place count)) post desk found = (work_fresh (Keeping (MarkTaken place count)) post desk found refl).fresh
works_fresh (Getting key at) post desk found = (work_fresh (Getting key at) post desk found refl).fresh
works_fresh (Changing kept at) post desk found = (work_fresh (Changing kept at) post desk found refl).fresh
works_fresh (Enqueuing kept at) post desk found = (work_fresh (Enqueuing kept at) post desk found refl).fresh
works_fresh (Dequeuing at) post desk found = (work_fresh (Dequeuing at) post desk found refl).fresh

-- nor a machine within a try
pub works_start : (work : Work) (post : Post) (desk : Desk) (found : ℕ) (why : Why) (base : Base) → phase_left (steps.work_turn work post desk found).outcome ≡ Runs why base → starts_base base ≡ true
works_start (Keeping (LoadHeld from index)) post desk found why base e = loaded_start post from index found _ why base (loaded from index post desk found) e
works_start (Keeping (StoreHeld from index era)) post desk found why base e = begins_start _ why base (copied_begins from index post desk (publishes_index (publishes_rows (scheme_of post)) post index era) (stands post from)) e
works_start (Keeping (Loosens let_go)) post desk found why base e = leaves_start post _ why base (work_fresh (Keeping (Loosens let_go)) post desk found refl) e
works_start (Keeping (Looks index key at)) post desk found why base e = leaves_start post _ why base (work_fresh (Keeping (Looks index key at)) post desk found refl) e
works_start (Keeping (Misses index)) post desk found why base e = absurd (cc)
works_start (Keeping HideSpan) post desk found why base e = leaves_start post _ why base (work_fresh (Keeping HideSpan) post desk found refl) e
works_start (Keeping MarkLeft) post desk found why base e = leaves_start post _ why base (work_fresh (Keeping MarkLeft) post desk found refl) e
works_start (Keeping (TakeList place)) post desk found why base e = leaves_start post _ why base (work_fresh (Keeping (TakeList place)) post desk found refl) e
works_start (Keeping (MarkTaken place count)) post desk found why base e = leaves_start post _ why base (work_fresh (Keeping (MarkTaken place count)) post desk found refl) e
works_start (Getting key at) post desk found why base e = leaves_start post _ why base (work_fresh (Getting key at) post desk found refl) e
works_start (Changing kept at) post desk found why base e = leaves_start post _ why base (work_fresh (Changing kept at) post desk found refl) e
works_start (Enqueuing kept at) post desk found why base e = leaves_start post _ why base (work_fresh (Enqueuing kept at) post desk found refl) e
works_start (Dequeuing at) post desk found why base e = leaves_start post _ why base (work_fresh (Dequeuing at) post desk found refl) e

opened_row_fresh : (task : Task) (slot : ℕ) (post : Post) (desk : Desk) (told : List Event) → Leaves post (steps.opened_row task slot post desk told)
opened_row_fresh (Gets key) slot post desk told = record { fresh = refl; starts = refl; shrinks = λ j s h. h }
opened_row_fresh (Changes kept) slot post desk told = record { fresh = refl; starts = refl; shrinks = λ j s h. h }
opened_row_fresh (Holds key) slot post desk told = record { fresh = refl; starts = refl; shrinks = λ j s h. h }
opened_row_fresh (Enqueues kept) slot post desk told = record { fresh = refl; starts = refl; shrinks = λ j s h. h }
opened_row_fresh Dequeues slot post desk told = record { fresh = refl; starts = refl; shrinks = λ j s h. h }

opened_null_fresh : (task : Task) (post : Post) (desk : Desk) (told : List Event) → Leaves post (steps.opened_null task post desk told)
opened_null_fresh (Gets key) post desk told = got_fresh key 0 None post desk told
opened_null_fresh (Changes kept) post desk told = deciding_fresh (alters.at_link kept 0) post desk told
opened_null_fresh (Holds key) post desk told = clearing_fresh (Holds key) (Answering the_answers.Nothing) post desk told
opened_null_fresh (Enqueues kept) post desk told = clearing_fresh (Enqueues kept) Again post desk told
opened_null_fresh Dequeues post desk told = clearing_fresh Dequeues Again post desk told

opened_fresh : (task : Task) (ending : Ending) (post : Post) (desk : Desk) (told : List Event) → Leaves post (steps.opened task ending post desk told)
opened_fresh task (Protected (protect_ends.Held slot era)) post desk told = opened_row_fresh task slot post desk told
opened_fresh task (Protected protect_ends.Null) post desk told = opened_null_fresh task post desk told
opened_fresh task Done post desk told = record { fresh = (opening_fresh task post).fresh; starts = (opening_fresh task post).starts; shrinks = λ j s h. h }
opened_fresh task (Followed end) post desk told = record { fresh = (opening_fresh task post).fresh; starts = (opening_fresh task post).starts; shrinks = λ j s h. h }
opened_fresh task (Allocated end) post desk told = record { fresh = (opening_fresh task post).fresh; starts = (opening_fresh task post).starts; shrinks = λ j s h. h }
opened_fresh task (Retired life) post desk told = record { fresh = (opening_fresh task post).fresh; starts = (opening_fresh task post).starts; shrinks = λ j s h. h }
opened_fresh task (Clocked clock) post desk told = record { fresh = (opening_fresh task post).fresh; starts = (opening_fresh task post).starts; shrinks = λ j s h. h }

filled_by_fresh : (task : Task) (ending : AllocateEnd) (post : Post) (desk : Desk) (told : List Event) → Leaves post (steps.filled_by task ending post desk told)
filled_by_fresh (Changes kept) (allocate_ends.Given slot birth) post desk told = record { fresh = refl; starts = refl; shrinks = λ j s h. h }
filled_by_fresh (Changes kept) allocate_ends.Full post desk told = clearing_fresh (Changes (alters.with_walked kept)) (alters.no_room kept.walked) post desk told
filled_by_fresh (Enqueues kept) (allocate_ends.Given slot birth) post desk told = record { fresh = refl; starts = refl; shrinks = λ j s h. h }
filled_by_fresh (Enqueues kept) allocate_ends.Full post desk told = clearing_fresh (Enqueues (enqueues.item_walked kept)) (alters.no_room kept.walked) post desk told
filled_by_fresh (Gets key) ending post desk told = closed_fresh (Gets key) Again post desk told
filled_by_fresh (Holds key) ending post desk told = closed_fresh (Holds key) Again post desk told
filled_by_fresh Dequeues ending post desk told = closed_fresh Dequeues Again post desk told

written_row_fresh : (task : Task) (post : Post) (desk : Desk) (told : List Event) → Leaves post (steps.written_row task post desk told)
written_row_fresh (Changes kept) post desk told = record { fresh = refl; starts = refl; shrinks = λ j s h. h }
written_row_fresh (Enqueues kept) post desk told = record { fresh = refl; starts = refl; shrinks = λ j s h. h }
written_row_fresh (Gets key) post desk told = closed_fresh (Gets key) Again post desk told
written_row_fresh (Holds key) post desk told = closed_fresh (Holds key) Again post desk told
written_row_fresh Dequeues post desk told = closed_fresh Dequeues Again post desk told

filled_fresh : (task : Task) (ending : Ending) (post : Post) (desk : Desk) (told : List Event) → Leaves post (steps.filled task ending post desk told)
filled_fresh task (Allocated ending) post desk told = filled_by_fresh task ending post desk told
filled_fresh task Done post desk told = written_row_fresh task post desk told
filled_fresh task (Protected end) post desk told = written_row_fresh task post desk told
filled_fresh task (Followed end) post desk told = written_row_fresh task post desk told
filled_fresh task (Retired life) post desk told = written_row_fresh task post desk told
filled_fresh task (Clocked clock) post desk told = written_row_fresh task post desk told

followed_by_fresh : (head tail : ℕ) (ending : Ending) (post : Post) (desk : Desk) (told : List Event) → Leaves post (steps.followed_by head tail ending post desk told)
followed_by_fresh head tail (Followed ending) post desk told = followed_fresh head tail ending post desk told
followed_by_fresh head tail Done post desk told = closed_fresh Dequeues Again post desk told
followed_by_fresh head tail (Protected end) post desk told = closed_fresh Dequeues Again post desk told
followed_by_fresh head tail (Allocated end) post desk told = closed_fresh Dequeues Again post desk told
followed_by_fresh head tail (Retired life) post desk told = closed_fresh Dequeues Again post desk told
followed_by_fresh head tail (Clocked clock) post desk told = closed_fresh Dequeues Again post desk told

tidying_fresh : (answer : Answer) (post : Post) (desk : Desk) (told : List Event) (due : Bool) → Leaves post (steps.tidying answer post desk told due)
tidying_fresh answer post desk told true = tidy_fresh (Answered answer) (moves (scheme_of post)) post desk told
tidying_fresh answer post desk told false = record { fresh = refl; starts = refl; shrinks = λ j s h. h }

retired_by_fresh : (answer : Answer) (ending : Ending) (post : Post) (desk : Desk) (told : List Event) → Leaves post (steps.retired_by answer ending post desk told)
retired_by_fresh answer (Retired life) post desk told = tidying_fresh answer post (with_life desk life) told (post.retired % post.layout.config.every == 0)
retired_by_fresh answer Done post desk told = record { fresh = refl; starts = refl; shrinks = λ j s h. h }
retired_by_fresh answer (Protected end) post desk told = record { fresh = refl; starts = refl; shrinks = λ j s h. h }
retired_by_fresh answer (Followed end) post desk told = record { fresh = refl; starts = refl; shrinks = λ j s h. h }
retired_by_fresh answer (Allocated end) post desk told = record { fresh = refl; starts = refl; shrinks = λ j s h. h }
retired_by_fresh answer (Clocked clock) post desk told = record { fresh = refl; starts = refl; shrinks = λ j s h. h }

tidied_fresh : (later : AfterScan) (ending : Ending) (post : Post) (desk : Desk) (told : List Event) → Leaves post (steps.tidied later ending post desk told)
tidied_fresh later (Clocked clock) post desk told = record { fresh = refl; starts = refl; shrinks = λ j s h. h }
tidied_fresh later Done post desk told = record { fresh = refl; starts = refl; shrinks = λ j s h. h }
tidied_fresh later (Protected end) post desk told = record { fresh = refl; starts = refl; shrinks = λ j s h. h }
tidied_fresh later (Followed end) post desk told = record { fresh = refl; starts = refl; shrinks = λ j s h. h }
tidied_fresh later (Allocated end) post desk told = record { fresh = refl; starts = refl; shrinks = λ j s h. h }
tidied_fresh later (Retired life) post desk told = record { fresh = refl; starts = refl; shrinks = λ j s h. h }

advanced_fresh : (ending : Ending) (post : Post) (desk : Desk) (told : List Event) → Leaves post (steps.advanced ending post desk told)
advanced_fresh (Clocked clock) post desk told = record { fresh = refl; starts = refl; shrinks = λ j s h. h }
advanced_fresh Done post desk told = record { fresh = refl; starts = refl; shrinks = λ j s h. h }
advanced_fresh (Protected end) post desk told = record { fresh = refl; starts = refl; shrinks = λ j s h. h }
advanced_fresh (Followed end) post desk told = record { fresh = refl; starts = refl; shrinks = λ j s h. h }
advanced_fresh (Allocated end) post desk told = record { fresh = refl; starts = refl; shrinks = λ j s h. h }
advanced_fresh (Retired life) post desk told = record { fresh = refl; starts = refl; shrinks = λ j s h. h }

-- what comes after a machine
pub resume_fresh : (why : Why) (ending : Ending) (post : Post) (desk : Desk) (told : List Event) → Leaves post (steps.resume why ending post desk told)
resume_fresh (Opens task) ending post desk told = opened_fresh task ending post desk told
resume_fresh (FollowsHead head tail) ending post desk told = followed_by_fresh head tail ending post desk told
resume_fresh (Fills task) ending post desk told = filled_fresh task ending post desk told
resume_fresh (ClearsNext next) ending post desk told = clearing_fresh Dequeues next post desk told
resume_fresh (Clears task next) ending post desk told = finishing_fresh task next post desk told
resume_fresh (Finishes task next) ending post desk told = closed_fresh task next post desk told
resume_fresh (GivesUp answer) ending post desk told = record { fresh = refl; starts = refl; shrinks = λ j s h. h }
resume_fresh (Retires answer) ending post desk told = retired_by_fresh answer ending post desk told
resume_fresh (Tidies later) ending post desk told = tidied_fresh later ending post desk told
resume_fresh Advances ending post desk told = advanced_fresh ending post desk told
resume_fresh (Releases let_go) ending post desk told = released_fresh let_go post desk told

-- a call begins
let_span_begins : (let_go : LetGo) (x : Option ℕ) → Begins (letting_by let_go (release_span (let_index let_go) x))
let_span_begins let_go None = record { fresh = refl; starts = refl }
let_span_begins let_go (Some slot) = record { fresh = refl; starts = refl }

letting_begins : (let_go : LetGo) (post : Post) → Begins (letting let_go post)
letting_begins let_go post =
    each_release (scheme_of post) post (let_index let_go) (λ (x : Option Base). Begins (letting_by let_go x))
    (record { fresh = refl; starts = refl })
    (let_span_begins let_go (kept_row (withdrawn post (let_index let_go))))

holding_begins : (key : ℕ) (post : Post) (x : Option ℕ) → Begins (steps.holding key post x)
holding_begins key post None = round_fresh (Holds key) post
holding_begins key post (Some slot) = letting_begins (Rehold key) post

copying_begins : (from index : ℕ) (x : Option ℕ) → Begins (steps.copying from index x)
copying_begins from index None = record { fresh = refl; starts = refl }
copying_begins from index (Some slot) = record { fresh = refl; starts = refl }

looking_begins : (index key : ℕ) (x : Option ℕ) → Begins (steps.looking_at index key x)
looking_begins index key None = record { fresh = refl; starts = refl }
looking_begins index key (Some slot) = record { fresh = refl; starts = refl }

pub first_begins : (call : Call) (post : Post) → Begins (steps.first_phase call post)
first_begins (names.Get key) post = round_fresh (Gets key) post
first_begins (names.Put key value) post = round_fresh (Changes _) post
first_begins (names.Remove key) post = round_fresh (Changes _) post
first_begins (names.Enqueue value) post = round_fresh (Enqueues _) post
first_begins names.Dequeue post = round_fresh Dequeues post
first_begins (names.Hold key) post = holding_begins key post (stands post 2)
first_begins names.Release post = letting_begins Released post
first_begins names.Advance post = record { fresh = refl; starts = refl }
first_begins names.Scan post = record { fresh = refl; starts = refl }
first_begins (names.Copy from index) post = copying_begins from index (stands post from)
first_begins (names.DropIndex index) post = letting_begins (Dropped index) post
first_begins (names.Look index key) post = looking_begins index key (stands post index)
first_begins (names.PutIf key value version) post = round_fresh (Changes _) post
first_begins names.Leave post = leaving_begins post
first_begins (names.Adopt place) post = record { fresh = refl; starts = refl }
