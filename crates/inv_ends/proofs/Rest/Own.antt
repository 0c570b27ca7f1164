-- A call's own step has lost no more rounds than its task may.
use Rattle.std.proofs.Common.{ℕ, ◌∙◌, ◌≡◌, ◌≤◌, ◌+◌, ◌-◌, Bool, true, false, [], ◌∷◌, refl}
use Rattle.inv_rows.specs.model.Change as alters
use Rattle.inv_rows.specs.model.Enqueue as enqueues
use Rattle.inv_rows.specs.model.Dequeue as dequeues
use Rattle.inv_rows.specs.model.Get as gets
use Rattle.inv_rows.specs.model.Keep as keeps
use Rattle.inv_rows.specs.model.Steps as steps
use Rattle.inv_rows.specs.defs.declared.event.Event.TheVariants as events
use Rattle.inv_rows.specs.defs.declared.event.Root.TheVariants as roots
use Rattle.inv_rows.specs.defs.declared.call.Answer.TheVariants as answers
use Rattle.inv_rows.specs.defs.declared.call.ClockMove.TheVariants as moves
use Rattle.inv_rows.specs.model.Calls.{ChangeAt, ChangeKept, DequeueAt, EnqueueAt, EnqueueKept, GetAt, KeepAt, Next, Task, Work}
use Rattle.inv_rows.specs.model.Calls.ChangeAt.{ExchangeRoot, LoadCount, LoadKey, LoadValue, LoadVersion}
use Rattle.inv_rows.specs.model.Calls.DequeueAt.{ExchangeHead, LoadTail, SwingTail, TakeNumber, TakeValue}
use Rattle.inv_rows.specs.model.Calls.EnqueueAt.{ExchangeNext, ExchangeTail, LoadNext, LoadNumber, PassTail}
use Rattle.inv_rows.specs.model.Calls.GetAt.{FindCount, FindKey, FindValue, FindVersion}
use Rattle.inv_rows.specs.model.Calls.KeepAt.{HideSpan, LoadHeld, Looks, Loosens, MarkLeft, MarkTaken, Misses, StoreHeld, TakeList}
use Rattle.inv_rows.specs.model.Calls.Next.{Again, Answering, Retiring}
use Rattle.inv_rows.specs.model.Calls.Task.{Changes, Dequeues, Enqueues, Gets}
use Rattle.inv_rows.specs.model.Calls.Work.{Changing, Dequeuing, Enqueuing, Getting, Keeping}
use Rattle.inv_rows.specs.model.Dequeue.{taken}
use Rattle.inv_rows.specs.model.Desks.{Desk}
use Rattle.inv_rows.specs.model.Posts.{cleared, stands, withdrawn, publishes_index}
use Rattle.inv_rows.specs.model.Rest.{rounds_most}
use Rattle.inv_rows.specs.model.Rounds.{bucket_of, let_index, scheme_of}
use Rattle.inv_rows.specs.model.declared.post.Post.{Post}
use Rattle.inv_rows.specs.defs.declared.event.Event.{Event}
use Rattle.inv_ends.proofs.Rest.Fits.{TurnFit, clearing_fit, clearing_next_fit, deciding_fit, released_fit}
use Rattle.inv_ends.proofs.Rest.Closings.{cleared_rounds, all_cleared}
use Rattle.inv_ends.proofs.Rest.Works.{link_told}
use Rattle.inv_ends.specs.Losses.{InRound, lost_fit, next_fit, work_fit, rounds_in}
use Rattle.inv_rows.specs.words.Schemes.{has_one_interval, publishes_rows}
use Rattle.inv_rows.specs.words.declared.config.Config.{Config}
use Rattle.std.specs.Prelude.{List, ◌++◌, length, Option, Some, None, nat_lt, ◌==◌}
use Rattle.inv_rows.proofs.model.Facts.{if_by}

got_fit : (c : Config) (rounds key version : ℕ) (value : Option ℕ) (post : Post) (desk : Desk) (told : List Event) → TurnFit c rounds (gets.got key version value post desk told)
got_fit c rounds key version value post desk told = clearing_fit c rounds (Gets key) (Answering (answers.Got version value)) post desk (told ++ events.Got (bucket_of post key) version key value ∷ []) tt

finding_fit : (c : Config) (rounds key slot version count : ℕ) (post : Post) (desk : Desk) (more : Bool) (pair : ℕ) → InRound (rounds_most c (Gets key)) rounds → TurnFit c rounds (gets.finding key slot version count post desk more pair)
finding_fit c rounds key slot version count post desk true pair i = i
finding_fit c rounds key slot version count post desk false pair i = got_fit c rounds key version None post desk []

key_fit : (c : Config) (rounds key slot version count pair : ℕ) (post : Post) (desk : Desk) (own : Bool) → InRound (rounds_most c (Gets key)) rounds → TurnFit c rounds (gets.found_key key slot version count pair post desk own)
key_fit c rounds key slot version count pair post desk true i = i
key_fit c rounds key slot version count pair post desk false i = finding_fit c rounds key slot version count post desk (nat_lt (pair + 1) count) (pair + 1) i

get_fit : (c : Config) (rounds key : ℕ) (at : GetAt) (post : Post) (desk : Desk) (found : ℕ) → InRound (rounds_most c (Gets key)) rounds → TurnFit c rounds (gets.get_turn key at post desk found)
get_fit c rounds key (FindVersion slot) post desk found i = i
get_fit c rounds key (FindCount slot version) post desk found i = finding_fit c rounds key slot version found post desk (nat_lt 0 found) 0 i
get_fit c rounds key (FindKey slot version count pair) post desk found i = key_fit c rounds key slot version count pair post desk (found == key) i
get_fit c rounds key (FindValue slot version pair) post desk found i = got_fit c rounds key version (Some found) post desk []

reading_fit : (c : Config) (rounds : ℕ) (kept : ChangeKept) (slot count : ℕ) (post : Post) (desk : Desk) (more : Bool) → InRound (rounds_most c (Changes kept)) rounds → TurnFit c rounds (alters.reading kept slot count post desk more)
reading_fit c rounds kept slot count post desk true i = i
reading_fit c rounds kept slot count post desk false i = deciding_fit c rounds kept post desk [] i

done_fit : (c : Config) (rounds version link : ℕ) (task : Task) → next_fit c rounds task (alters.answer_done version link)
done_fit c rounds version link task =
    if_by (link == 0) (Answering (answers.Done version moves.Still)) (Retiring (link - 1) (answers.Done version moves.Still)) (λ (next : Next). next_fit c rounds task next) (λ e. tt) (λ e. tt)

exchanged_fit : (c : Config) (rounds : ℕ) (kept : ChangeKept) (slot : ℕ) (post : Post) (desk : Desk) (same : Bool) → InRound (rounds_most c (Changes kept)) rounds → (same ≡ false → rounds ≤ rounds_most c (Changes kept)) → TurnFit c rounds (alters.exchanged kept slot post desk same)
exchanged_fit c rounds kept slot post desk true i l =
    clearing_fit c rounds (Changes (record kept { taken = None })) (alters.answer_done (kept.version + 1) kept.link) post desk (alters.told_linked kept slot post) (done_fit c (rounds_in c rounds (alters.told_linked kept slot post)) (kept.version + 1) kept.link (Changes (record kept { taken = None })))
exchanged_fit c rounds kept slot post desk false i l = clearing_fit c rounds (Changes kept) Again post desk [] (record { told = i.told; few = l refl })

-- what a step of a call's own needs where its round is lost
abbrev pub WorkFew : Config → ℕ → Work → ℕ → Type 0
WorkFew c rounds (Getting key at) found = Unit {0}
WorkFew c rounds (Changing kept (LoadVersion slot)) found = Unit {0}
WorkFew c rounds (Changing kept (LoadCount slot)) found = Unit {0}
WorkFew c rounds (Changing kept (LoadKey slot count)) found = Unit {0}
WorkFew c rounds (Changing kept (LoadValue slot count key)) found = Unit {0}
WorkFew c rounds (Changing kept (ExchangeRoot slot)) found = (found == kept.link) ≡ false → rounds ≤ rounds_most c (Changes kept)
WorkFew c rounds (Enqueuing kept LoadNumber) found = Unit {0}
WorkFew c rounds (Enqueuing kept LoadNext) found = Unit {0}
WorkFew c rounds (Enqueuing kept (PassTail next)) found = rounds ≤ rounds_most c (Enqueues kept)
WorkFew c rounds (Enqueuing kept (ExchangeNext slot)) found = (found == 0) ≡ false → rounds ≤ rounds_most c (Enqueues kept)
WorkFew c rounds (Enqueuing kept (ExchangeTail slot)) found = Unit {0}
WorkFew c rounds (Dequeuing (LoadTail head)) found = Unit {0}
WorkFew c rounds (Dequeuing (SwingTail head next)) found = rounds ≤ rounds_most c Dequeues
WorkFew c rounds (Dequeuing (TakeNumber head next)) found = Unit {0}
WorkFew c rounds (Dequeuing (TakeValue head next number)) found = Unit {0}
WorkFew c rounds (Dequeuing (ExchangeHead head next number value)) found = (found == head + 1) ≡ false → rounds ≤ rounds_most c Dequeues
WorkFew c rounds (Keeping at) found = Unit {0}

change_fit : (c : Config) (rounds : ℕ) (kept : ChangeKept) (at : ChangeAt) (post : Post) (desk : Desk) (found : ℕ) → InRound (rounds_most c (Changes kept)) rounds → WorkFew c rounds (Changing kept at) found → TurnFit c rounds (alters.change_turn kept at post desk found)
change_fit c rounds kept (LoadVersion slot) post desk found i l = i
change_fit c rounds kept (LoadCount slot) post desk found i l = reading_fit c rounds kept slot found post desk (nat_lt 0 found) i
change_fit c rounds kept (LoadKey slot count) post desk found i l = i
change_fit c rounds kept (LoadValue slot count key) post desk found i l = reading_fit c rounds (alters.with_read kept key found) slot count post desk (nat_lt (length kept.pairs + 1) count) i
change_fit c rounds kept (ExchangeRoot slot) post desk found i l = exchanged_fit c rounds kept slot post desk (found == kept.link) i l

appending_fit : (c : Config) (rounds : ℕ) (kept : EnqueueKept) (post : Post) (desk : Desk) (spent : Bool) → InRound (rounds_most c (Enqueues kept)) rounds → TurnFit c rounds (enqueues.appending kept post desk spent)
appending_fit c rounds kept post desk true i = clearing_fit c rounds (Enqueues kept) (Answering (answers.Spent kept.number)) post desk [] tt
appending_fit c rounds kept post desk false i = i

at_next_fit : (c : Config) (rounds : ℕ) (kept : EnqueueKept) (next : ℕ) (post : Post) (desk : Desk) (none : Bool) → InRound (rounds_most c (Enqueues kept)) rounds → TurnFit c rounds (enqueues.at_next kept next post desk none)
at_next_fit c rounds kept next post desk true i = appending_fit c rounds kept post desk (kept.number == post.layout.config.last_version) i
at_next_fit c rounds kept next post desk false i = i

appended_fit : (c : Config) (rounds : ℕ) (kept : EnqueueKept) (slot : ℕ) (post : Post) (desk : Desk) (same : Bool) → InRound (rounds_most c (Enqueues kept)) rounds → (same ≡ false → rounds ≤ rounds_most c (Enqueues kept)) → TurnFit c rounds (enqueues.appended kept slot post desk same)
appended_fit c rounds kept slot post desk true i l = i
appended_fit c rounds kept slot post desk false i l = clearing_fit c rounds (Enqueues kept) Again post desk [] (record { told = i.told; few = l refl })

told_same : (c : Config) (rounds : ℕ) (task : Task) (told : List Event) → rounds_in c rounds told ≡ rounds → lost_fit c rounds task → lost_fit c (rounds_in c rounds told) task
told_same c rounds task told e l = rw e l

enqueue_fit : (c : Config) (rounds : ℕ) (kept : EnqueueKept) (at : EnqueueAt) (post : Post) (desk : Desk) (found : ℕ) → InRound (rounds_most c (Enqueues kept)) rounds → WorkFew c rounds (Enqueuing kept at) found → TurnFit c rounds (enqueues.enqueue_turn kept at post desk found)
enqueue_fit c rounds kept LoadNumber post desk found i l = i
enqueue_fit c rounds kept LoadNext post desk found i l = at_next_fit c rounds kept found post desk (found == 0) i
enqueue_fit c rounds kept (PassTail next) post desk found i l =
    let told : List Event = enqueues.told_link roots.Tail (next - 1) (found == kept.tail + 1) in
    clearing_fit c rounds (Enqueues kept) Again post desk told (told_same c rounds (Enqueues kept) told (link_told (publishes_rows c.scheme) rounds roots.Tail (next - 1) (found == kept.tail + 1)) (record { told = i.told; few = l }))
enqueue_fit c rounds kept (ExchangeNext slot) post desk found i l = appended_fit c rounds kept slot post desk (found == 0) i l
enqueue_fit c rounds kept (ExchangeTail slot) post desk found i l = clearing_fit c rounds (Enqueues kept) (Answering (answers.Queued (kept.number + 1))) post desk (enqueues.told_link roots.Tail slot (found == kept.tail + 1)) tt

taken_fit : (c : Config) (rounds head next number value : ℕ) (post : Post) (desk : Desk) (same : Bool) → InRound (rounds_most c Dequeues) rounds → (same ≡ false → rounds ≤ rounds_most c Dequeues) → TurnFit c rounds (dequeues.taken head next number value post desk same)
taken_fit c rounds head next number value post desk true i l =
    clearing_next_fit c rounds (Retiring head (answers.Taken number value moves.Still)) post desk (events.Link roots.Head next ∷ events.Cut head ∷ events.Taken number value ∷ []) tt
taken_fit c rounds head next number value post desk false i l = clearing_next_fit c rounds Again post desk [] (record { told = i.told; few = l refl })

dequeue_fit : (c : Config) (rounds : ℕ) (at : DequeueAt) (post : Post) (desk : Desk) (found : ℕ) → InRound (rounds_most c Dequeues) rounds → WorkFew c rounds (Dequeuing at) found → TurnFit c rounds (dequeues.dequeue_turn at post desk found)
dequeue_fit c rounds (LoadTail head) post desk found i l = i
dequeue_fit c rounds (SwingTail head next) post desk found i l =
    let told : List Event = enqueues.told_link roots.Tail next (found == head + 1) in
    clearing_next_fit c rounds Again post desk told (told_same c rounds Dequeues told (link_told (publishes_rows c.scheme) rounds roots.Tail next (found == head + 1)) (record { told = i.told; few = l }))
dequeue_fit c rounds (TakeNumber head next) post desk found i l = i
dequeue_fit c rounds (TakeValue head next number) post desk found i l = i
dequeue_fit c rounds (ExchangeHead head next number value) post desk found i l = taken_fit c rounds head next number value post desk (found == head + 1) i l

copied_fit : (c : Config) (rounds from index : ℕ) (post : Post) (desk : Desk) (reserved : List Event) (x : Option ℕ) → TurnFit c rounds (keeps.copied from index post desk reserved x)
copied_fit c rounds from index post desk reserved (Some slot) = tt
copied_fit c rounds from index post desk reserved None = tt

held_fit : (c : Config) (rounds from index : ℕ) (post : Post) (desk : Desk) (found : ℕ) (one : Bool) → rounds ≡ 0 → TurnFit c rounds (keeps.load_held from index post desk found one)
held_fit c rounds from index post desk found true i = copied_fit c rounds from index post desk [] (stands post from)
held_fit c rounds from index post desk found false i = i

looking_fit : (c : Config) (rounds index key slot version count : ℕ) (post : Post) (desk : Desk) (more : Bool) (pair : ℕ) → rounds ≡ 0 → TurnFit c rounds (keeps.looking index key slot version count post desk more pair)
looking_fit c rounds index key slot version count post desk true pair i = i
looking_fit c rounds index key slot version count post desk false pair i = tt

looked_fit : (c : Config) (rounds index key slot version count pair : ℕ) (post : Post) (desk : Desk) (own : Bool) → rounds ≡ 0 → TurnFit c rounds (keeps.looked_key index key slot version count pair post desk own)
looked_fit c rounds index key slot version count pair post desk true i = i
looked_fit c rounds index key slot version count pair post desk false i = looking_fit c rounds index key slot version count post desk (nat_lt (pair + 1) count) (pair + 1) i

look_fit : (c : Config) (rounds index key : ℕ) (at : GetAt) (post : Post) (desk : Desk) (found : ℕ) → rounds ≡ 0 → TurnFit c rounds (keeps.look_turn index key at post desk found)
look_fit c rounds index key (FindVersion slot) post desk found i = i
look_fit c rounds index key (FindCount slot version) post desk found i = looking_fit c rounds index key slot version found post desk (nat_lt 0 found) 0 i
look_fit c rounds index key (FindKey slot version count pair) post desk found i = looked_fit c rounds index key slot version count pair post desk (found == key) i
look_fit c rounds index key (FindValue slot version pair) post desk found i = tt

taking_fit : (c : Config) (rounds place : ℕ) (post : Post) (desk : Desk) (left : Bool) (found : ℕ) → rounds ≡ 0 → TurnFit c rounds (keeps.taking place post desk left found)
taking_fit c rounds place post desk true found i = i
taking_fit c rounds place post desk false found i = tt

keep_fit : (c : Config) (rounds : ℕ) (at : KeepAt) (post : Post) (desk : Desk) (found : ℕ) → rounds ≡ 0 → TurnFit c rounds (keeps.keep_turn at post desk found)
keep_fit c rounds (Loosens let_go) post desk found i =
    released_fit c rounds let_go (withdrawn post (let_index let_go)) desk (cleared (let_index let_go) (stands post (let_index let_go))) (cleared_rounds (publishes_rows c.scheme) rounds (let_index let_go) (stands post (let_index let_go)) ∙ i)
keep_fit c rounds (LoadHeld from index) post desk found i = held_fit c rounds from index post desk found (has_one_interval (scheme_of post)) i
keep_fit c rounds (StoreHeld from index era) post desk found i = copied_fit c rounds from index post desk (publishes_index (publishes_rows (scheme_of post)) post index era) (stands post from)
keep_fit c rounds (Looks index key at) post desk found i = look_fit c rounds index key at post desk found i
keep_fit c rounds (Misses index) post desk found i = tt
keep_fit c rounds HideSpan post desk found i = all_cleared (publishes_rows c.scheme) rounds post ∙ i
keep_fit c rounds MarkLeft post desk found i = tt
keep_fit c rounds (TakeList place) post desk found i = taking_fit c rounds place post desk (found == 1) found i
keep_fit c rounds (MarkTaken place count) post desk found i = tt

pub work_turn_fit : (c : Config) (rounds : ℕ) (work : Work) (post : Post) (desk : Desk) (found : ℕ) → work_fit c rounds work → WorkFew c rounds work found → TurnFit c rounds (steps.work_turn work post desk found)
work_turn_fit c rounds (Getting key at) post desk found i l = get_fit c rounds key at post desk found i
work_turn_fit c rounds (Changing kept at) post desk found i l = change_fit c rounds kept at post desk found i l
work_turn_fit c rounds (Enqueuing kept at) post desk found i l = enqueue_fit c rounds kept at post desk found i l
work_turn_fit c rounds (Dequeuing at) post desk found i l = dequeue_fit c rounds at post desk found i l
work_turn_fit c rounds (Keeping at) post desk found i l = keep_fit c rounds at post desk found i
