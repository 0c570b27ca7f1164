-- Where nothing stands after a call's own step, and after what comes after a machine.
use Rattle.std.proofs.Common.{ℕ, ◌≡◌, ◌≢◌, ◌≤◌, ◌+◌, ◌∙◌, Bool, true, false, List, [], ◌∷◌, ◌++◌, length, Option, Some, None, refl, ap, sym, subst, arith, drop}
use Rattle.std.proofs.lemmas.Bool.Decides.{nat_tests}
use Rattle.std.specs.Prelude.{◌==◌, ◌%◌, ◌-◌, nat_lt, if◌then◌else◌, ◌||◌}
use Rattle.inv_rows.specs.defs.declared.call.Answer.{Answer}
use Rattle.inv_rows.specs.defs.declared.call.Answer.TheVariants as the_answers
use Rattle.inv_rows.specs.defs.declared.call.ClockMove.TheVariants as moves
use Rattle.inv_rows.specs.defs.declared.event.Event.{Event}
use Rattle.inv_rows.specs.defs.declared.event.Event.TheVariants as events
use Rattle.inv_rows.specs.defs.declared.event.Root.TheVariants as roots
use Rattle.inv_rows.specs.model.declared.ends.AllocateEnd.{AllocateEnd}
use Rattle.inv_rows.specs.model.declared.ends.AllocateEnd.TheVariants as allocate_ends
use Rattle.inv_rows.specs.model.declared.ends.FollowEnd.{FollowEnd}
use Rattle.inv_rows.specs.model.declared.ends.FollowEnd.TheVariants as follow_ends
use Rattle.inv_rows.specs.model.declared.ends.ProtectEnd.TheVariants as protect_ends
use Rattle.inv_rows.specs.model.declared.post.Post.{Post}
use Rattle.inv_rows.specs.model.Desks.{Desk, with_life}
use Rattle.inv_rows.specs.model.Phases.{Ending, Base}
use Rattle.inv_rows.specs.model.Phases.Ending.{Done, Protected, Followed, Allocated, Retired, Clocked}
use Rattle.inv_rows.specs.model.Rounds.{bucket_of, scheme_of, index_of, root_of, taken_of, begin_span, begin_base, clear_post, clear_told, finish_base, kept_row, let_index, round_by, round, given_up, closed, finishing_by, finishing, clearing_by, clearing, clearing_next_by, clearing_next, finish_span, protect_base, opening, tidy_by}
use Rattle.inv_rows.specs.model.Get as gets
use Rattle.inv_rows.specs.model.Change as alters
use Rattle.inv_rows.specs.model.Enqueue as enqueues
use Rattle.inv_rows.specs.model.Dequeue as dequeues
use Rattle.inv_rows.specs.model.Keep as keeps
use Rattle.inv_rows.specs.model.Steps as steps
use Rattle.inv_rows.specs.model.Calls.{Task, Gets, Changes, Holds, Enqueues, Dequeues, Again, Answering, Retiring, AfterScan, Why, Phase, ChangeKept, EnqueueKept, GetAt, FindVersion, FindCount, FindKey, FindValue, ChangeAt, LoadVersion, LoadCount, LoadKey, LoadValue, ExchangeRoot, EnqueueAt, LoadNumber, LoadNext, PassTail, ExchangeNext, ExchangeTail, DequeueAt, LoadTail, SwingTail, TakeNumber, TakeValue, ExchangeHead, Work, Getting, Changing, Enqueuing, Dequeuing, Opens, FollowsHead, Fills, ClearsNext, Clears, Finishes, GivesUp, Retires, Tidies, Advances, Releases, LetGo, Released, Rehold, Dropped, Parting, KeepAt, Loosens, LoadHeld, StoreHeld, Looks, Misses, HideSpan, MarkLeft, TakeList, MarkTaken, Keeping, Next, MakeRoom, CallTurn, Answered, Repeated}
use Rattle.inv_rows.specs.Shapes.Slots.{CopyIn, KeepIn}
use Rattle.inv_rows.specs.words.declared.config.Config.{Config}
use Rattle.inv_rows.specs.words.declared.config.SchemeKind.{SchemeKind}
use Rattle.inv_rows.specs.words.declared.config.SchemeKind.TheVariants.{He, Hp, Ibr, Wfe}
use Rattle.inv_rows.specs.model.Posts.{stands, withdrawn, with_row, cleared, standing_from, publishes_index}
use Rattle.inv_rows.specs.defs.declared.event.Root.{Root}
use Rattle.inv_rows.specs.defs.declared.lifetime.Interval.{Interval}
use Rattle.inv_rows.specs.Shapes.Frame.{phase_left}
use Rattle.inv_rows.specs.Covering.Rests.{spare, bare, beside, within, deep, vacant_later, vacant_dequeue, vacant_work, vacant, vacant_filled, vacant_opened, vacant_followed, vacant_released, vacant_after, Vacant, vacant_let, vacant_keep}
use Rattle.inv_rows.proofs.model.Standing.{stands-withdrawn_same, stands-withdrawn_other, stands-with_row_other}
use Rattle.inv_rows.proofs.model.Schemes.{each_begin, each_finish}
use Rattle.inv_rows.specs.words.Schemes.{has_one_interval, publishes_rows, moves}
use Rattle.inv_rows.specs.model.Phases.Base.{Clear}
use Rattle.inv_rows.proofs.Covering.Stands.{bare_stands}
use Rattle.inv_rows.proofs.Shapes.Leaving.{next_stands, none_stand}

-- nothing stands where the next phase says so
abbrev pub Turned : CallTurn → Type 0
Turned t = Vacant (vacant (phase_left t.outcome)) t.post

pub spare_bare : (task : Task) (j : ℕ) → spare j ≡ true → bare task j ≡ true
spare_bare (Gets key) j h = h
spare_bare (Changes kept) j h = h
spare_bare (Holds key) j h = grind (arith, nat_tests)
spare_bare (Enqueues kept) j h = h
spare_bare Dequeues j h = h

opening_at : (task : Task) (post : Post) (index : ℕ) (root : Root) (scheme : SchemeKind) → Vacant (bare task) post → Vacant (vacant (Phase.Runs (Opens task) (protect_base scheme index root))) post
opening_at task post index root He h = h
opening_at task post index root Hp h = h
opening_at task post index root Ibr h = h
opening_at task post index root Wfe h = h

opening_vacant : (task : Task) (post : Post) → Vacant (bare task) post → Vacant (vacant (opening task post)) post
opening_vacant task post h = opening_at task post (index_of task) (root_of task post) (scheme_of post) h

span_vacant : (task : Task) (post : Post) (x : Option Interval) → Vacant (bare task) post → Vacant (vacant (round_by task post (begin_span x))) post
span_vacant task post None h = h
span_vacant task post (Some span) h = opening_vacant task post h

round_by_vacant : (task : Task) (post : Post) (scheme : SchemeKind) → Vacant (bare task) post → Vacant (vacant (round_by task post (begin_base scheme post))) post
round_by_vacant task post scheme h =
    each_begin scheme post (λ (base : Option Base). Vacant (vacant (round_by task post base)) post)
    (opening_vacant task post h)
    (span_vacant task post post.span h)

pub round_vacant : (task : Task) (post : Post) → Vacant (bare task) post → Vacant (vacant (round task post)) post
round_vacant task post h = round_by_vacant task post (scheme_of post) h

given_up_vacant : (answer : Answer) (post : Post) (desk : Desk) (told : List Event) (x : Option ℕ) → Vacant spare post → Turned (given_up answer post desk told x)
given_up_vacant answer post desk told None h = h
given_up_vacant answer post desk told (Some slot) h = h

-- a list is tidied
tidy_vacant : (later : AfterScan) (moving : Bool) (post : Post) → Vacant (vacant_later later) post → Vacant (vacant (tidy_by moving later post)) post
tidy_vacant later true post h = h
tidy_vacant later false post h = h

closed_vacant : (task : Task) (next : Next) (post : Post) (desk : Desk) (told : List Event) → Vacant (bare task) post → Turned (closed task next post desk told)
closed_vacant task Again post desk told h = round_vacant task post h
closed_vacant task MakeRoom post desk told h = tidy_vacant (Repeated task) (moves (scheme_of post)) post h
closed_vacant task (Answering answer) post desk told h = given_up_vacant answer post desk told (taken_of task) (λ j e. h j (spare_bare task j e))
closed_vacant task (Retiring slot answer) post desk told h = λ j e. h j (spare_bare task j e)

finish_vacant : (task : Task) (next : Next) (post : Post) (desk : Desk) (told : List Event) (x : Option ℕ) → Vacant (bare task) post → Turned (finishing_by task next post desk told (finish_span x))
finish_vacant task next post desk told None h = h
finish_vacant task next post desk told (Some slot) h = closed_vacant task next post desk told h

finishing_by_vacant : (task : Task) (next : Next) (post : Post) (desk : Desk) (told : List Event) (scheme : SchemeKind) → Vacant (bare task) post → Turned (finishing_by task next post desk told (finish_base scheme post))
finishing_by_vacant task next post desk told scheme h =
    each_finish scheme post (λ (base : Option Base). Turned (finishing_by task next post desk told base))
    (closed_vacant task next post desk told h)
    (finish_vacant task next post desk told (kept_row post) h)

finishing_vacant : (task : Task) (next : Next) (post : Post) (desk : Desk) (told : List Event) → Vacant (bare task) post → Turned (finishing task next post desk told)
finishing_vacant task Again post desk told h = closed_vacant task Again post desk told h
finishing_vacant task MakeRoom post desk told h = finishing_by_vacant task MakeRoom post desk told (scheme_of post) h
finishing_vacant task (Answering answer) post desk told h = finishing_by_vacant task (Answering answer) post desk told (scheme_of post) h
finishing_vacant task (Retiring slot answer) post desk told h = finishing_by_vacant task (Retiring slot answer) post desk told (scheme_of post) h

-- withdrawing leaves one index more with nothing
pub withdrawn_vacant : (f g : ℕ → Bool) (post : Post) (index : ℕ) → ((j : ℕ) → (j == index) ≡ false → g j ≡ true → f j ≡ true) → Vacant f post → Vacant g (withdrawn post index)
withdrawn_vacant f g post index w h j e = by_own (j == index) refl where
  by_own : (own : Bool) → (j == index) ≡ own → stands (withdrawn post index) j ≡ None
  by_own true q = let z : j ≡ index = grind (arith, nat_tests) in rw z (stands-withdrawn_same post index)
  by_own false q = let z : j ≢ index = grind (arith, nat_tests) in stands-withdrawn_other post index j z ∙ h j (w j q e)

pub bare_beside : (task : Task) (j : ℕ) → (j == index_of task) ≡ false → bare task j ≡ true → beside task j ≡ true
bare_beside task j n h = grind (arith, nat_tests)

cleared_vacant : (task : Task) (next : Next) (post : Post) (desk : Desk) (told : List Event) → Vacant (beside task) post → Turned (finishing task next (withdrawn post (index_of task)) desk told)
cleared_vacant task next post desk told h = finishing_vacant task next (withdrawn post (index_of task)) desk told (withdrawn_vacant (beside task) (bare task) post (index_of task) (λ j n k. bare_beside task j n k) h)

clearing_by_vacant : (task : Task) (next : Next) (post : Post) (desk : Desk) (told : List Event) (interval : Bool) → has_one_interval (scheme_of post) ≡ interval → Vacant (beside task) post → Turned (clearing_by task next post desk told (if interval then None else Some (Clear (publishes_rows (scheme_of post)) (index_of task))))
clearing_by_vacant task next post desk told false e h = h
clearing_by_vacant task next post desk told true e h =
    let q : clear_post (scheme_of post) post (index_of task) ≡ withdrawn post (index_of task) = ap (λ (b : Bool). if b then withdrawn post (index_of task) else post) e in
    subst (λ (p : Post). Turned (finishing task next p desk (told ++ clear_told (scheme_of post) post (index_of task)))) (sym q) (cleared_vacant task next post desk (told ++ clear_told (scheme_of post) post (index_of task)) h)

pub clearing_vacant : (task : Task) (next : Next) (post : Post) (desk : Desk) (told : List Event) → Vacant (beside task) post → Turned (clearing task next post desk told)
clearing_vacant task next post desk told h = clearing_by_vacant task next post desk told (has_one_interval (scheme_of post)) refl h

clearing_next_by_vacant : (next : Next) (post : Post) (desk : Desk) (told : List Event) (interval : Bool) → has_one_interval (scheme_of post) ≡ interval → Vacant deep post → Turned (clearing_next_by next post desk told (if interval then None else Some (Clear (publishes_rows (scheme_of post)) 1)))
clearing_next_by_vacant next post desk told false e h = h
clearing_next_by_vacant next post desk told true e h =
    let q : clear_post (scheme_of post) post 1 ≡ withdrawn post 1 = ap (λ (b : Bool). if b then withdrawn post 1 else post) e in
    subst (λ (p : Post). Turned (clearing Dequeues next p desk (told ++ clear_told (scheme_of post) post 1))) (sym q) (clearing_vacant Dequeues next (withdrawn post 1) desk (told ++ clear_told (scheme_of post) post 1) (withdrawn_vacant deep within post 1 (λ j n k. grind (arith, nat_tests)) h))

clearing_next_vacant : (next : Next) (post : Post) (desk : Desk) (told : List Event) → Vacant deep post → Turned (clearing_next next post desk told)
clearing_next_vacant next post desk told h = clearing_next_by_vacant next post desk told (has_one_interval (scheme_of post)) refl h

got_vacant : (key version : ℕ) (value : Option ℕ) (post : Post) (desk : Desk) (told : List Event) → Vacant (beside (Gets key)) post → Turned (gets.got key version value post desk told)
got_vacant key version value post desk told h = clearing_vacant (Gets key) (Answering (the_answers.Got version value)) post desk (told ++ events.Got (bucket_of post key) version key value ∷ []) (λ j e. h j (grind (arith, nat_tests)))

finding_vacant : (key slot version count : ℕ) (post : Post) (desk : Desk) (more : Bool) (pair : ℕ) → Vacant within post → Turned (gets.finding key slot version count post desk more pair)
finding_vacant key slot version count post desk true pair h = λ j e. h j (grind (arith, nat_tests))
finding_vacant key slot version count post desk false pair h = got_vacant key version None post desk [] (λ j e. h j (grind (arith, nat_tests)))

found_key_vacant : (key slot version count pair : ℕ) (post : Post) (desk : Desk) (own : Bool) → Vacant within post → Turned (gets.found_key key slot version count pair post desk own)
found_key_vacant key slot version count pair post desk true h = λ j e. h j (grind (arith, nat_tests))
found_key_vacant key slot version count pair post desk false h = finding_vacant key slot version count post desk (nat_lt (pair + 1) count) (pair + 1) (λ j e. h j (grind (arith, nat_tests)))

get_vacant : (key : ℕ) (at : GetAt) (post : Post) (desk : Desk) (found : ℕ) → Vacant within post → Turned (gets.get_turn key at post desk found)
get_vacant key (FindVersion slot) post desk found h = λ j e. h j (grind (arith, nat_tests))
get_vacant key (FindCount slot version) post desk found h = finding_vacant key slot version found post desk (nat_lt 0 found) 0 (λ j e. h j (grind (arith, nat_tests)))
get_vacant key (FindKey slot version count pair) post desk found h = found_key_vacant key slot version count pair post desk (found == key) (λ j e. h j (grind (arith, nat_tests)))
get_vacant key (FindValue slot version pair) post desk found h = got_vacant key version (Some found) post desk [] (λ j e. h j (grind (arith, nat_tests)))

deciding_by_vacant : (kept : ChangeKept) (post : Post) (desk : Desk) (told : List Event) (x : Option Answer) → Vacant within post → Turned (alters.deciding_by kept post desk told x)
deciding_by_vacant kept post desk told (Some answer) h = clearing_vacant (Changes kept) (Answering answer) post desk told (λ j e. h j (grind (arith, nat_tests)))
deciding_by_vacant kept post desk told None h = λ j e. h j (grind (arith, nat_tests))

deciding_vacant : (kept : ChangeKept) (post : Post) (desk : Desk) (told : List Event) → Vacant within post → Turned (alters.deciding kept post desk told)
deciding_vacant kept post desk told h = deciding_by_vacant kept post desk told (alters.refused post.layout.config kept) (λ j e. h j (grind (arith, nat_tests)))

reading_vacant : (kept : ChangeKept) (slot count : ℕ) (post : Post) (desk : Desk) (more : Bool) → Vacant within post → Turned (alters.reading kept slot count post desk more)
reading_vacant kept slot count post desk true h = λ j e. h j (grind (arith, nat_tests))
reading_vacant kept slot count post desk false h = deciding_vacant kept post desk [] (λ j e. h j (grind (arith, nat_tests)))

exchanged_vacant : (kept : ChangeKept) (slot : ℕ) (post : Post) (desk : Desk) (same : Bool) → Vacant within post → Turned (alters.exchanged kept slot post desk same)
exchanged_vacant kept slot post desk true h = clearing_vacant (Changes (record kept { taken = None })) (alters.answer_done (kept.version + 1) kept.link) post desk (alters.told_linked kept slot post) (λ j e. h j (grind (arith, nat_tests)))
exchanged_vacant kept slot post desk false h = clearing_vacant (Changes kept) Again post desk [] (λ j e. h j (grind (arith, nat_tests)))

change_vacant : (kept : ChangeKept) (at : ChangeAt) (post : Post) (desk : Desk) (found : ℕ) → Vacant within post → Turned (alters.change_turn kept at post desk found)
change_vacant kept (LoadVersion slot) post desk found h = λ j e. h j (grind (arith, nat_tests))
change_vacant kept (LoadCount slot) post desk found h = reading_vacant kept slot found post desk (nat_lt 0 found) (λ j e. h j (grind (arith, nat_tests)))
change_vacant kept (LoadKey slot count) post desk found h = λ j e. h j (grind (arith, nat_tests))
change_vacant kept (LoadValue slot count key) post desk found h = reading_vacant (alters.with_read kept key found) slot count post desk (nat_lt (length kept.pairs + 1) count) (λ j e. h j (grind (arith, nat_tests)))
change_vacant kept (ExchangeRoot slot) post desk found h = exchanged_vacant kept slot post desk (found == kept.link) (λ j e. h j (grind (arith, nat_tests)))

appending_vacant : (kept : EnqueueKept) (post : Post) (desk : Desk) (spent : Bool) → Vacant within post → Turned (enqueues.appending kept post desk spent)
appending_vacant kept post desk true h = clearing_vacant (Enqueues kept) (Answering (the_answers.Spent kept.number)) post desk [] (λ j e. h j (grind (arith, nat_tests)))
appending_vacant kept post desk false h = λ j e. h j (grind (arith, nat_tests))

at_next_vacant : (kept : EnqueueKept) (next : ℕ) (post : Post) (desk : Desk) (none : Bool) → Vacant within post → Turned (enqueues.at_next kept next post desk none)
at_next_vacant kept next post desk true h = appending_vacant kept post desk (kept.number == post.layout.config.last_version) (λ j e. h j (grind (arith, nat_tests)))
at_next_vacant kept next post desk false h = λ j e. h j (grind (arith, nat_tests))

appended_vacant : (kept : EnqueueKept) (slot : ℕ) (post : Post) (desk : Desk) (same : Bool) → Vacant within post → Turned (enqueues.appended kept slot post desk same)
appended_vacant kept slot post desk true h = λ j e. h j (grind (arith, nat_tests))
appended_vacant kept slot post desk false h = clearing_vacant (Enqueues kept) Again post desk [] (λ j e. h j (grind (arith, nat_tests)))

enqueue_vacant : (kept : EnqueueKept) (at : EnqueueAt) (post : Post) (desk : Desk) (found : ℕ) → Vacant within post → Turned (enqueues.enqueue_turn kept at post desk found)
enqueue_vacant kept LoadNumber post desk found h = λ j e. h j (grind (arith, nat_tests))
enqueue_vacant kept LoadNext post desk found h = at_next_vacant kept found post desk (found == 0) (λ j e. h j (grind (arith, nat_tests)))
enqueue_vacant kept (PassTail next) post desk found h = clearing_vacant (Enqueues kept) Again post desk (enqueues.told_link roots.Tail (next - 1) (found == kept.tail + 1)) (λ j e. h j (grind (arith, nat_tests)))
enqueue_vacant kept (ExchangeNext slot) post desk found h = appended_vacant kept slot post desk (found == 0) (λ j e. h j (grind (arith, nat_tests)))
enqueue_vacant kept (ExchangeTail slot) post desk found h = clearing_vacant (Enqueues kept) (Answering (the_answers.Queued (kept.number + 1))) post desk (enqueues.told_link roots.Tail slot (found == kept.tail + 1)) (λ j e. h j (grind (arith, nat_tests)))

followed_row_vacant : (head next : ℕ) (post : Post) (desk : Desk) (told : List Event) (lags : Bool) → Vacant deep post → Turned (dequeues.followed_row head next post desk told lags)
followed_row_vacant head next post desk told true h = λ j e. h j (grind (arith, nat_tests))
followed_row_vacant head next post desk told false h = λ j e. h j (grind (arith, nat_tests))

followed_vacant : (head tail : ℕ) (ending : FollowEnd) (post : Post) (desk : Desk) (told : List Event) → Vacant deep post → Turned (dequeues.followed head tail ending post desk told)
followed_vacant head tail (follow_ends.Followed slot) post desk told h = followed_row_vacant head slot post desk told (tail == head + 1) (λ j e. h j (grind (arith, nat_tests)))
followed_vacant head tail follow_ends.NoNext post desk told h = clearing_next_vacant (Answering the_answers.Empty) post desk told (λ j e. h j (grind (arith, nat_tests)))
followed_vacant head tail (follow_ends.RootMoved seen) post desk told h = clearing_next_vacant Again post desk told (λ j e. h j (grind (arith, nat_tests)))

taken_vacant : (head next number value : ℕ) (post : Post) (desk : Desk) (same : Bool) → Vacant deep post → Turned (dequeues.taken head next number value post desk same)
taken_vacant head next number value post desk true h = clearing_next_vacant (Retiring head (the_answers.Taken number value moves.Still)) post desk (events.Link roots.Head next ∷ events.Cut head ∷ events.Taken number value ∷ []) (λ j e. h j (grind (arith, nat_tests)))
taken_vacant head next number value post desk false h = clearing_next_vacant Again post desk [] (λ j e. h j (grind (arith, nat_tests)))

dequeue_vacant : (at : DequeueAt) (post : Post) (desk : Desk) (found : ℕ) → Vacant (vacant_dequeue at) post → Turned (dequeues.dequeue_turn at post desk found)
dequeue_vacant (LoadTail head) post desk found h = λ j e. h j (grind (arith, nat_tests))
dequeue_vacant (SwingTail head next) post desk found h = clearing_next_vacant Again post desk (enqueues.told_link roots.Tail next (found == head + 1)) (λ j e. h j (grind (arith, nat_tests)))
dequeue_vacant (TakeNumber head next) post desk found h = λ j e. h j (grind (arith, nat_tests))
dequeue_vacant (TakeValue head next number) post desk found h = λ j e. h j (grind (arith, nat_tests))
dequeue_vacant (ExchangeHead head next number value) post desk found h = taken_vacant head next number value post desk (found == head + 1) (λ j e. h j (grind (arith, nat_tests)))

-- a seat leaves: nothing stands below the next index at which something does
parting_at : (index : ℕ) (post : Post) (rows : Bool) (x : Option ℕ) → standing_from index (drop index post.standing) ≡ x → Vacant (λ j. spare j || nat_lt j index) post → Vacant (vacant (keeps.parting_index rows x)) post
parting_at index post rows None e h j k = by_low (nat_lt j index) refl where
  by_low : (low : Bool) → nat_lt j index ≡ low → stands post j ≡ None
  by_low true l = h j (grind (arith, nat_tests))
  by_low false l = none_stand post index e j (grind (arith, nat_tests))
parting_at index post rows (Some next) e h j k = by_low (spare j || nat_lt j index) refl where
  by_low : (low : Bool) → (spare j || nat_lt j index) ≡ low → stands post j ≡ None
  by_low true l = h j l
  by_low false l = (next_stands post index next e).none j (grind (arith, nat_tests)) (grind (arith, nat_tests))

pub parting_vacant : (index : ℕ) (post : Post) → Vacant (λ j. spare j || nat_lt j index) post → Vacant (vacant (keeps.parting_from index post)) post
parting_vacant index post h = parting_at index post (publishes_rows (scheme_of post)) (standing_from index (drop index post.standing)) refl h

-- what is vacant between calls is so where something is let go
pub spare_let : (let_go : LetGo) (j : ℕ) → spare j ≡ true → vacant_let let_go j ≡ true
spare_let Released j h = h
spare_let (Rehold key) j h = h
spare_let (Dropped index) j h = h
spare_let (Parting index) j h = grind (arith, nat_tests)

taking_vacant : (place : ℕ) (post : Post) (desk : Desk) (left : Bool) (found : ℕ) → Vacant spare post → Turned (keeps.taking place post desk left found)
taking_vacant place post desk true found h = h
taking_vacant place post desk false found h = h

released_vacant : (let_go : LetGo) (post : Post) (desk : Desk) (told : List Event) → Vacant (vacant_released let_go) post → Turned (keeps.released let_go post desk told)
released_vacant Released post desk told h = h
released_vacant (Rehold key) post desk told h = round_vacant (Holds key) post h
released_vacant (Dropped index) post desk told h = h
released_vacant (Parting index) post desk told h = parting_vacant (index + 1) post h

-- what was let go stands no more
pub let_vacant : (let_go : LetGo) (post : Post) → Vacant (vacant_let let_go) post → Vacant (vacant_released let_go) (withdrawn post (let_index let_go))
let_vacant Released post h = withdrawn_vacant spare spare post 2 (λ j n k. k) h
let_vacant (Rehold key) post h = withdrawn_vacant spare (λ j. nat_lt j 3) post 2 (λ j n k. grind (arith, nat_tests)) h
let_vacant (Dropped index) post h = withdrawn_vacant spare spare post index (λ j n k. k) h
let_vacant (Parting index) post h = withdrawn_vacant (vacant_let (Parting index)) (vacant_released (Parting index)) post index (λ j n k. grind (arith, nat_tests)) h

-- a copy goes to an index from 2 on
row_above : (post : Post) (index slot : ℕ) → 2 ≤ index → Vacant spare post → Vacant spare (with_row post index slot)
row_above post index slot b h j e = let n : j ≢ index = grind (arith, nat_tests) in stands-with_row_other post index slot j n ∙ h j e

copied_vacant : (from index : ℕ) (post : Post) (desk : Desk) (reserved : List Event) (x : Option ℕ) → 2 ≤ index → Vacant spare post → Turned (keeps.copied from index post desk reserved x)
copied_vacant from index post desk reserved None b h = h
copied_vacant from index post desk reserved (Some slot) b h = row_above post index slot b h

load_held_vacant : (from index : ℕ) (post : Post) (desk : Desk) (found : ℕ) (one : Bool) → 2 ≤ index → Vacant spare post → Turned (keeps.load_held from index post desk found one)
load_held_vacant from index post desk found true b h = copied_vacant from index post desk [] (stands post from) b h
load_held_vacant from index post desk found false b h = h

looking_vacant : (index key slot version count : ℕ) (post : Post) (desk : Desk) (more : Bool) (pair : ℕ) → Vacant spare post → Turned (keeps.looking index key slot version count post desk more pair)
looking_vacant index key slot version count post desk true pair h = h
looking_vacant index key slot version count post desk false pair h = h

looked_key_vacant : (index key slot version count pair : ℕ) (post : Post) (desk : Desk) (own : Bool) → Vacant spare post → Turned (keeps.looked_key index key slot version count pair post desk own)
looked_key_vacant index key slot version count pair post desk true h = h
looked_key_vacant index key slot version count pair post desk false h = looking_vacant index key slot version count post desk (nat_lt (pair + 1) count) (pair + 1) h

look_vacant : (index key : ℕ) (at : GetAt) (post : Post) (desk : Desk) (found : ℕ) → Vacant spare post → Turned (keeps.look_turn index key at post desk found)
look_vacant index key (FindVersion slot) post desk found h = h
look_vacant index key (FindCount slot version) post desk found h = looking_vacant index key slot version found post desk (nat_lt 0 found) 0 h
look_vacant index key (FindKey slot version count pair) post desk found h = looked_key_vacant index key slot version count pair post desk (found == key) h
look_vacant index key (FindValue slot version pair) post desk found h = h

copy_high : (config : Config) (from index : ℕ) → CopyIn config from index → 2 ≤ index
copy_high config from index c = omega (arith, c.kept, c.rises)

keep_vacant : (config : Config) (at : KeepAt) (post : Post) (desk : Desk) (found : ℕ) → KeepIn config at → Vacant (vacant_keep at) post → Turned (keeps.keep_turn at post desk found)
keep_vacant config (Loosens let_go) post desk found k h = released_vacant let_go (withdrawn post (let_index let_go)) desk (cleared (let_index let_go) (stands post (let_index let_go))) (let_vacant let_go post h)
keep_vacant config (LoadHeld from index) post desk found k h = load_held_vacant from index post desk found (has_one_interval (scheme_of post)) (copy_high config from index k) h
keep_vacant config (StoreHeld from index era) post desk found k h = copied_vacant from index post desk (publishes_index (publishes_rows (scheme_of post)) post index era) (stands post from) (copy_high config from index k) h
keep_vacant config (Looks index key at) post desk found k h = look_vacant index key at post desk found h
keep_vacant config (Misses index) post desk found k h = h
keep_vacant config HideSpan post desk found k h = λ j e. bare_stands post j
keep_vacant config MarkLeft post desk found k h = λ j e. h j refl
keep_vacant config (TakeList place) post desk found k h = taking_vacant place post desk (found == 1) found h
keep_vacant config (MarkTaken place count) post desk found k h = h

pub work_vacant : (config : Config) (work : Work) (post : Post) (desk : Desk) (found : ℕ) → ((at : KeepAt) → work ≡ Keeping at → KeepIn config at) → Vacant (vacant_work work) post → Turned (steps.work_turn work post desk found)
work_vacant config (Getting key at) post desk found k h = get_vacant key at post desk found (λ j e. h j (grind (arith, nat_tests)))
work_vacant config (Changing kept at) post desk found k h = change_vacant kept at post desk found (λ j e. h j (grind (arith, nat_tests)))
work_vacant config (Enqueuing kept at) post desk found k h = enqueue_vacant kept at post desk found (λ j e. h j (grind (arith, nat_tests)))
work_vacant config (Dequeuing at) post desk found k h = dequeue_vacant at post desk found (λ j e. h j (grind (arith, nat_tests)))
work_vacant config (Keeping at) post desk found k h = keep_vacant config at post desk found (k at refl) h

opened_row_vacant : (task : Task) (slot : ℕ) (post : Post) (desk : Desk) (told : List Event) → Vacant (beside task) post → Turned (steps.opened_row task slot post desk told)
opened_row_vacant (Gets key) slot post desk told h = λ j e. h j (grind (arith, nat_tests))
opened_row_vacant (Changes kept) slot post desk told h = λ j e. h j (grind (arith, nat_tests))
opened_row_vacant (Holds key) slot post desk told h = λ j e. h j (grind (arith, nat_tests))
opened_row_vacant (Enqueues kept) slot post desk told h = λ j e. h j (grind (arith, nat_tests))
opened_row_vacant Dequeues slot post desk told h = λ j e. h j (grind (arith, nat_tests))

opened_null_vacant : (task : Task) (post : Post) (desk : Desk) (told : List Event) → Vacant (beside task) post → Turned (steps.opened_null task post desk told)
opened_null_vacant (Gets key) post desk told h = got_vacant key 0 None post desk told (λ j e. h j (grind (arith, nat_tests)))
opened_null_vacant (Changes kept) post desk told h = deciding_vacant (alters.at_link kept 0) post desk told (λ j e. h j (grind (arith, nat_tests)))
opened_null_vacant (Holds key) post desk told h = clearing_vacant (Holds key) (Answering the_answers.Nothing) post desk told (λ j e. h j (grind (arith, nat_tests)))
opened_null_vacant (Enqueues kept) post desk told h = clearing_vacant (Enqueues kept) Again post desk told (λ j e. h j (grind (arith, nat_tests)))
opened_null_vacant Dequeues post desk told h = clearing_vacant Dequeues Again post desk told (λ j e. h j (grind (arith, nat_tests)))

opened_vacant : (task : Task) (ending : Ending) (post : Post) (desk : Desk) (told : List Event) → Vacant (vacant_opened task ending) post → Turned (steps.opened task ending post desk told)
opened_vacant task (Protected (protect_ends.Held slot era)) post desk told h = opened_row_vacant task slot post desk told (λ j e. h j (grind (arith, nat_tests)))
opened_vacant task (Protected protect_ends.Null) post desk told h = opened_null_vacant task post desk told (λ j e. h j (grind (arith, nat_tests)))
opened_vacant task Done post desk told h = opening_vacant task post h
opened_vacant task (Followed end) post desk told h = opening_vacant task post h
opened_vacant task (Allocated end) post desk told h = opening_vacant task post h
opened_vacant task (Retired life) post desk told h = opening_vacant task post h
opened_vacant task (Clocked clock) post desk told h = opening_vacant task post h

filled_by_vacant : (task : Task) (ending : AllocateEnd) (post : Post) (desk : Desk) (told : List Event) → Vacant (vacant_filled task) post → Turned (steps.filled_by task ending post desk told)
filled_by_vacant (Changes kept) (allocate_ends.Given slot birth) post desk told h = λ j e. h j (grind (arith, nat_tests))
filled_by_vacant (Changes kept) allocate_ends.Full post desk told h = clearing_vacant (Changes (alters.with_walked kept)) (alters.no_room kept.walked) post desk told (λ j e. h j (grind (arith, nat_tests)))
filled_by_vacant (Enqueues kept) (allocate_ends.Given slot birth) post desk told h = λ j e. h j (grind (arith, nat_tests))
filled_by_vacant (Enqueues kept) allocate_ends.Full post desk told h = clearing_vacant (Enqueues (enqueues.item_walked kept)) (alters.no_room kept.walked) post desk told (λ j e. h j (grind (arith, nat_tests)))
filled_by_vacant (Gets key) ending post desk told h = closed_vacant (Gets key) Again post desk told (λ j e. h j (grind (arith, nat_tests)))
filled_by_vacant (Holds key) ending post desk told h = closed_vacant (Holds key) Again post desk told (λ j e. h j (grind (arith, nat_tests)))
filled_by_vacant Dequeues ending post desk told h = closed_vacant Dequeues Again post desk told (λ j e. h j (grind (arith, nat_tests)))

written_row_vacant : (task : Task) (post : Post) (desk : Desk) (told : List Event) → Vacant (vacant_filled task) post → Turned (steps.written_row task post desk told)
written_row_vacant (Changes kept) post desk told h = λ j e. h j (grind (arith, nat_tests))
written_row_vacant (Enqueues kept) post desk told h = λ j e. h j (grind (arith, nat_tests))
written_row_vacant (Gets key) post desk told h = closed_vacant (Gets key) Again post desk told (λ j e. h j (grind (arith, nat_tests)))
written_row_vacant (Holds key) post desk told h = closed_vacant (Holds key) Again post desk told (λ j e. h j (grind (arith, nat_tests)))
written_row_vacant Dequeues post desk told h = closed_vacant Dequeues Again post desk told (λ j e. h j (grind (arith, nat_tests)))

filled_vacant : (task : Task) (ending : Ending) (post : Post) (desk : Desk) (told : List Event) → Vacant (vacant_filled task) post → Turned (steps.filled task ending post desk told)
filled_vacant task (Allocated ending) post desk told h = filled_by_vacant task ending post desk told (λ j e. h j (grind (arith, nat_tests)))
filled_vacant task Done post desk told h = written_row_vacant task post desk told (λ j e. h j (grind (arith, nat_tests)))
filled_vacant task (Protected end) post desk told h = written_row_vacant task post desk told (λ j e. h j (grind (arith, nat_tests)))
filled_vacant task (Followed end) post desk told h = written_row_vacant task post desk told (λ j e. h j (grind (arith, nat_tests)))
filled_vacant task (Retired life) post desk told h = written_row_vacant task post desk told (λ j e. h j (grind (arith, nat_tests)))
filled_vacant task (Clocked clock) post desk told h = written_row_vacant task post desk told (λ j e. h j (grind (arith, nat_tests)))

followed_by_vacant : (head tail : ℕ) (ending : Ending) (post : Post) (desk : Desk) (told : List Event) → Vacant (vacant_followed ending) post → Turned (steps.followed_by head tail ending post desk told)
followed_by_vacant head tail (Followed ending) post desk told h = followed_vacant head tail ending post desk told (λ j e. h j (grind (arith, nat_tests)))
followed_by_vacant head tail Done post desk told h = closed_vacant Dequeues Again post desk told (λ j e. h j (grind (arith, nat_tests)))
followed_by_vacant head tail (Protected end) post desk told h = closed_vacant Dequeues Again post desk told (λ j e. h j (grind (arith, nat_tests)))
followed_by_vacant head tail (Allocated end) post desk told h = closed_vacant Dequeues Again post desk told (λ j e. h j (grind (arith, nat_tests)))
followed_by_vacant head tail (Retired life) post desk told h = closed_vacant Dequeues Again post desk told (λ j e. h j (grind (arith, nat_tests)))
followed_by_vacant head tail (Clocked clock) post desk told h = closed_vacant Dequeues Again post desk told (λ j e. h j (grind (arith, nat_tests)))

tidying_vacant : (answer : Answer) (post : Post) (desk : Desk) (told : List Event) (due : Bool) → Vacant spare post → Turned (steps.tidying answer post desk told due)
tidying_vacant answer post desk told true h = tidy_vacant (Answered answer) (moves (scheme_of post)) post h
tidying_vacant answer post desk told false h = λ j e. h j (grind (arith, nat_tests))

retired_by_vacant : (answer : Answer) (ending : Ending) (post : Post) (desk : Desk) (told : List Event) → Vacant spare post → Turned (steps.retired_by answer ending post desk told)
retired_by_vacant answer (Retired life) post desk told h = tidying_vacant answer post (with_life desk life) told (post.retired % post.layout.config.every == 0) (λ j e. h j (grind (arith, nat_tests)))
retired_by_vacant answer Done post desk told h = λ j e. h j (grind (arith, nat_tests))
retired_by_vacant answer (Protected end) post desk told h = λ j e. h j (grind (arith, nat_tests))
retired_by_vacant answer (Followed end) post desk told h = λ j e. h j (grind (arith, nat_tests))
retired_by_vacant answer (Allocated end) post desk told h = λ j e. h j (grind (arith, nat_tests))
retired_by_vacant answer (Clocked clock) post desk told h = λ j e. h j (grind (arith, nat_tests))

tidied_vacant : (later : AfterScan) (ending : Ending) (post : Post) (desk : Desk) (told : List Event) → Vacant (vacant_later later) post → Turned (steps.tidied later ending post desk told)
tidied_vacant later (Clocked clock) post desk told h = λ j e. h j (grind (arith, nat_tests))
tidied_vacant later Done post desk told h = λ j e. h j (grind (arith, nat_tests))
tidied_vacant later (Protected end) post desk told h = λ j e. h j (grind (arith, nat_tests))
tidied_vacant later (Followed end) post desk told h = λ j e. h j (grind (arith, nat_tests))
tidied_vacant later (Allocated end) post desk told h = λ j e. h j (grind (arith, nat_tests))
tidied_vacant later (Retired life) post desk told h = λ j e. h j (grind (arith, nat_tests))

advanced_vacant : (ending : Ending) (post : Post) (desk : Desk) (told : List Event) → Vacant spare post → Turned (steps.advanced ending post desk told)
advanced_vacant (Clocked clock) post desk told h = λ j e. h j (grind (arith, nat_tests))
advanced_vacant Done post desk told h = λ j e. h j (grind (arith, nat_tests))
advanced_vacant (Protected end) post desk told h = λ j e. h j (grind (arith, nat_tests))
advanced_vacant (Followed end) post desk told h = λ j e. h j (grind (arith, nat_tests))
advanced_vacant (Allocated end) post desk told h = λ j e. h j (grind (arith, nat_tests))
advanced_vacant (Retired life) post desk told h = λ j e. h j (grind (arith, nat_tests))

pub resume_vacant : (why : Why) (ending : Ending) (post : Post) (desk : Desk) (told : List Event) → Vacant (vacant_after why ending) post → Turned (steps.resume why ending post desk told)
resume_vacant (Opens task) ending post desk told h = opened_vacant task ending post desk told (λ j e. h j (grind (arith, nat_tests)))
resume_vacant (FollowsHead head tail) ending post desk told h = followed_by_vacant head tail ending post desk told (λ j e. h j (grind (arith, nat_tests)))
resume_vacant (Fills task) ending post desk told h = filled_vacant task ending post desk told (λ j e. h j (grind (arith, nat_tests)))
resume_vacant (ClearsNext next) ending post desk told h = clearing_vacant Dequeues next post desk told (λ j e. h j (grind (arith, nat_tests)))
resume_vacant (Clears task next) ending post desk told h = finishing_vacant task next post desk told (λ j e. h j (grind (arith, nat_tests)))
resume_vacant (Finishes task next) ending post desk told h = closed_vacant task next post desk told (λ j e. h j (grind (arith, nat_tests)))
resume_vacant (GivesUp answer) ending post desk told h = λ j e. h j (grind (arith, nat_tests))
resume_vacant (Retires answer) ending post desk told h = retired_by_vacant answer ending post desk told (λ j e. h j (grind (arith, nat_tests)))
resume_vacant (Tidies later) ending post desk told h = tidied_vacant later ending post desk told (λ j e. h j (grind (arith, nat_tests)))
resume_vacant Advances ending post desk told h = advanced_vacant ending post desk told (λ j e. h j (grind (arith, nat_tests)))
resume_vacant (Releases let_go) ending post desk told h = released_vacant let_go post desk told h
