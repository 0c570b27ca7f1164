-- A call's own step leaves fewer steps.
use Rattle.std.proofs.Common.{ℕ, ◌∙◌, ◌≡◌, ◌≤◌, ◌<◌, ◌+◌, ◌*◌, ◌-◌, Bool, true, false, [], ◌∷◌, arith, refl, subst}
use Rattle.inv_ends.proofs.Rest.Amounts.{PhaseKnown}
use Rattle.inv_rows.specs.Shapes.Frame.{phase_left as stands_at}
use Rattle.inv_rows.specs.model.Change as alters
use Rattle.inv_rows.specs.model.Enqueue as enqueues
use Rattle.inv_rows.specs.model.Dequeue as dequeues
use Rattle.inv_rows.specs.model.Get as gets
use Rattle.inv_rows.specs.model.Keep as keeps
use Rattle.inv_rows.specs.model.Steps as steps
use Rattle.inv_rows.specs.defs.declared.event.Event.TheVariants as events
use Rattle.inv_rows.specs.defs.declared.event.Root.TheVariants as roots
use Rattle.inv_rows.specs.defs.declared.call.Answer.TheVariants as answers
use Rattle.inv_rows.specs.defs.declared.call.ClockMove.TheVariants as moves
use Rattle.inv_rows.specs.model.Calls.{ChangeAt, ChangeKept, DequeueAt, EnqueueAt, EnqueueKept, GetAt, KeepAt, Next, Task, Work}
use Rattle.inv_rows.specs.model.Calls.ChangeAt.{ExchangeRoot, LoadCount, LoadKey, LoadValue, LoadVersion}
use Rattle.inv_rows.specs.model.Calls.DequeueAt.{ExchangeHead, LoadTail, SwingTail, TakeNumber, TakeValue}
use Rattle.inv_rows.specs.model.Calls.EnqueueAt.{ExchangeNext, ExchangeTail, LoadNext, LoadNumber, PassTail}
use Rattle.inv_rows.specs.model.Calls.GetAt.{FindCount, FindKey, FindValue, FindVersion}
use Rattle.inv_rows.specs.model.Calls.KeepAt.{HideSpan, LoadHeld, Looks, Loosens, MarkLeft, MarkTaken, Misses, StoreHeld, TakeList}
use Rattle.inv_rows.specs.model.Calls.Next.{Again, Answering, Retiring}
use Rattle.inv_rows.specs.model.Calls.Task.{Changes, Dequeues, Enqueues, Gets}
use Rattle.inv_rows.specs.model.Calls.Work.{Changing, Dequeuing, Enqueuing, Getting, Keeping}
use Rattle.inv_rows.specs.model.Dequeue.{taken}
use Rattle.inv_rows.specs.model.Desks.{Desk}
use Rattle.inv_rows.specs.model.Locals.{rounds_told}
use Rattle.inv_rows.specs.model.Posts.{cleared, stands, withdrawn, publishes_index}
use Rattle.inv_rows.specs.model.Rest.{base_left, change_left, closing_left, dequeue_left, enqueue_left, get_left, keep_left, protect_most, room_most, rounds_most, task_left, work_left}
use Rattle.inv_rows.specs.model.Rounds.{bucket_of, let_index, scheme_of}
use Rattle.inv_rows.specs.model.declared.post.Post.{Post}
use Rattle.inv_rows.specs.defs.Pairs.{Pair}
use Rattle.inv_rows.specs.defs.declared.event.Event.{Event}
use Rattle.inv_rows.specs.defs.declared.event.Root.{Root}
use Rattle.inv_rows.specs.Shapes.Slots.{ChangeAtIn, GetIn, KeepIn, WorkIn}
use Rattle.inv_ends.proofs.Rest.Closings.{cleared_rounds, clearing_left, clearing_next_left, turn_left}
use Rattle.inv_ends.proofs.Rest.Opens.{deciding_left, enqueue_fills}
use Rattle.inv_ends.proofs.Rest.Ways.{lost_left, released_left}
use Rattle.inv_ends.specs.Losses.{InRound, work_fit, rounds_in}
use Rattle.inv_rows.specs.words.Schemes.{has_one_interval, publishes_rows}
use Rattle.inv_rows.specs.words.declared.config.Config.{Config}
use Rattle.inv_rows.specs.words.declared.config.SchemeKind.{SchemeKind}
use Rattle.inv_rows.specs.words.declared.config.SchemeKind.TheVariants.{He, Ibr, Wfe, Hp}
use Rattle.inv_rows.specs.words.declared.layout.Layout.{Layout}
use Rattle.std.specs.Prelude.{List, ◌++◌, length, Option, Some, None, nat_lt, ◌==◌}
use Rattle.inv_rows.proofs.model.Facts.{if_by}

-- a get

ends_get : (c : Config) (rounds : ℕ) (key version : ℕ) (value : Option ℕ) (post : Post) (desk : Desk) (told : List Event) → turn_left c rounds (gets.got key version value post desk told) ≤ 3
ends_get c rounds key version value post desk told = clearing_left c rounds (Gets key) (Answering (answers.Got version value)) post desk (told ++ events.Got (bucket_of post key) version key value ∷ [])

finding_left : (c : Config) (layout : Layout) (rounds key slot version count : ℕ) (post : Post) (desk : Desk) (more : Bool) (pair : ℕ) → layout.config ≡ c → PhaseKnown layout (stands_at (gets.finding key slot version count post desk more pair).outcome)
    → turn_left c rounds (gets.finding key slot version count post desk more pair) ≤ (count - pair) + 3 + task_left c (length desk.list) (Gets key) (rounds - 1)
finding_left c layout rounds key slot version count post desk true pair t p = omega arith
finding_left c layout rounds key slot version count post desk false pair t p = let h = ends_get c rounds key version None post desk [] in omega (arith, h)

finding_most : (c : Config) (layout : Layout) (rounds key slot version count : ℕ) (post : Post) (desk : Desk) (more : Bool) → layout.config ≡ c → PhaseKnown layout (stands_at (gets.finding key slot version count post desk more 0).outcome)
    → turn_left c rounds (gets.finding key slot version count post desk more 0) ≤ c.pairs + 3 + task_left c (length desk.list) (Gets key) (rounds - 1)
finding_most c layout rounds key slot version count post desk true t p = let q : count ≤ c.pairs = subst (λ (d : Config). count ≤ d.pairs) t p.2 in omega (arith, q)
finding_most c layout rounds key slot version count post desk false t p = let h = ends_get c rounds key version None post desk [] in omega (arith, h)

key_left : (c : Config) (layout : Layout) (rounds key slot version count pair : ℕ) (post : Post) (desk : Desk) (own : Bool) → layout.config ≡ c → pair < count → PhaseKnown layout (stands_at (gets.found_key key slot version count pair post desk own).outcome)
    → turn_left c rounds (gets.found_key key slot version count pair post desk own) + 1 ≤ (count - pair) + 3 + task_left c (length desk.list) (Gets key) (rounds - 1)
key_left c layout rounds key slot version count pair post desk true t b p = omega (arith, b)
key_left c layout rounds key slot version count pair post desk false t b p = let h = finding_left c layout rounds key slot version count post desk (nat_lt (pair + 1) count) (pair + 1) t p in omega (arith, b, h)

get_falls : (c : Config) (layout : Layout) (rounds key : ℕ) (at : GetAt) (post : Post) (desk : Desk) (found : ℕ) → layout.config ≡ c → GetIn layout.config at → PhaseKnown layout (stands_at (gets.get_turn key at post desk found).outcome)
    → turn_left c rounds (gets.get_turn key at post desk found) + 1 ≤ get_left c at + task_left c (length desk.list) (Gets key) (rounds - 1)
get_falls c layout rounds key (FindVersion slot) post desk found t g p = omega arith
get_falls c layout rounds key (FindCount slot version) post desk found t g p = let h = finding_most c layout rounds key slot version found post desk (nat_lt 0 found) t p in omega (arith, h)
get_falls c layout rounds key (FindKey slot version count pair) post desk found t g p = key_left c layout rounds key slot version count pair post desk (found == key) t g.1 p
get_falls c layout rounds key (FindValue slot version pair) post desk found t g p = let h = ends_get c rounds key version (Some found) post desk [] in omega (arith, h)

-- a change

reading_most : (c : Config) (layout : Layout) (rounds : ℕ) (kept : ChangeKept) (slot count : ℕ) (post : Post) (desk : Desk) (more : Bool) → layout.config ≡ c → PhaseKnown layout (stands_at (alters.reading kept slot count post desk more).outcome)
    → turn_left c rounds (alters.reading kept slot count post desk more) ≤ 4 * c.pairs + 7 + task_left c (length desk.list) (Changes kept) (rounds - 1)
reading_most c layout rounds kept slot count post desk true t p = let q : count ≤ c.pairs = subst (λ (d : Config). count ≤ d.pairs) t p.1.2 in omega (arith, q)
reading_most c layout rounds kept slot count post desk false t p = let h = deciding_left c layout rounds kept post desk [] t p in omega (arith, h)

one_more : (pairs : List Pair) (pair : Pair) → length (pairs ++ pair ∷ []) ≡ length pairs + 1
one_more [] pair = refl
one_more (x ∷ pairs) pair = let h = one_more pairs pair in omega (arith, h)

next_pair : (c : Config) (layout : Layout) (rounds : ℕ) (kept : ChangeKept) (slot count read : ℕ) (post : Post) (desk : Desk) (more : Bool) → layout.config ≡ c → length kept.pairs ≡ read + 1 → read < count → PhaseKnown layout (stands_at (alters.reading kept slot count post desk more).outcome)
    → turn_left c rounds (alters.reading kept slot count post desk more) + 1 ≤ 2 * (count - read) + 2 * c.pairs + 6 + task_left c (length desk.list) (Changes kept) (rounds - 1)
next_pair c layout rounds kept slot count read post desk true t e b p = rw e (omega (arith, b))
next_pair c layout rounds kept slot count read post desk false t e b p = let h = deciding_left c layout rounds kept post desk [] t p in omega (arith, b, h)

done_left : (c : Config) (lives rounds version link : ℕ) (task : Task) → closing_left c lives rounds task (alters.answer_done version link) ≤ 4 + room_most c (lives + 1)
done_left c lives rounds version link task =
    if_by (link == 0) (Answering (answers.Done version moves.Still)) (Retiring (link - 1) (answers.Done version moves.Still)) (λ (next : Next). closing_left c lives rounds task next ≤ 4 + room_most c (lives + 1)) (λ e. omega arith) (λ e. omega arith)

exchanged_falls : (c : Config) (rounds : ℕ) (kept : ChangeKept) (slot : ℕ) (post : Post) (desk : Desk) (same : Bool) → InRound (rounds_most c (Changes kept)) rounds → turn_left c rounds (alters.exchanged kept slot post desk same) + 1 ≤ 4 + task_left c (length desk.list) (Changes kept) (rounds - 1)
exchanged_falls c rounds kept slot post desk true i =
    let h = clearing_left c rounds (Changes (record kept { taken = None })) (alters.answer_done (kept.version + 1) kept.link) post desk (alters.told_linked kept slot post) in
    let k = done_left c (length desk.list) (rounds_in c rounds (alters.told_linked kept slot post)) (kept.version + 1) kept.link (Changes (record kept { taken = None })) in
    omega (arith, h, k)
exchanged_falls c rounds kept slot post desk false i =
    let h = clearing_left c rounds (Changes kept) Again post desk [] in let a = lost_left c rounds (Changes kept) post desk [] i refl in omega (arith, h, a)

change_falls : (c : Config) (layout : Layout) (rounds : ℕ) (kept : ChangeKept) (at : ChangeAt) (post : Post) (desk : Desk) (found : ℕ) → layout.config ≡ c → InRound (rounds_most c (Changes kept)) rounds → ChangeAtIn layout.config kept at → PhaseKnown layout (stands_at (alters.change_turn kept at post desk found).outcome)
    → turn_left c rounds (alters.change_turn kept at post desk found) + 1 ≤ change_left c (length kept.pairs) at + task_left c (length desk.list) (Changes kept) (rounds - 1)
change_falls c layout rounds kept (LoadVersion slot) post desk found t i g p = omega arith
change_falls c layout rounds kept (LoadCount slot) post desk found t i g p = let h = reading_most c layout rounds kept slot found post desk (nat_lt 0 found) t p in omega (arith, h)
change_falls c layout rounds kept (LoadKey slot count) post desk found t i g p = omega arith
change_falls c layout rounds kept (LoadValue slot count key) post desk found t i g p =
    let h = next_pair c layout rounds (alters.with_read kept key found) slot count (length kept.pairs) post desk (nat_lt (length kept.pairs + 1) count) t (one_more kept.pairs (key, found)) g.1 p in omega (arith, h)
change_falls c layout rounds kept (ExchangeRoot slot) post desk found t i g p = exchanged_falls c rounds kept slot post desk (found == kept.link) i

-- an enqueue

pub link_told : (rows : Bool) (rounds : ℕ) (root : Root) (slot : ℕ) (same : Bool) → rounds_told rows rounds (enqueues.told_link root slot same) ≡ rounds
link_told rows rounds root slot true = refl
link_told rows rounds root slot false = refl

appending_left : (c : Config) (rounds : ℕ) (kept : EnqueueKept) (post : Post) (desk : Desk) (spent : Bool) → turn_left c rounds (enqueues.appending kept post desk spent) ≤ 8 + task_left c (length desk.list) (Enqueues kept) (rounds - 1)
appending_left c rounds kept post desk true = let h = clearing_left c rounds (Enqueues kept) (Answering (answers.Spent kept.number)) post desk [] in omega (arith, h)
appending_left c rounds kept post desk false = enqueue_fills c rounds (length desk.list) kept kept.taken refl

at_next_left : (c : Config) (rounds : ℕ) (kept : EnqueueKept) (next : ℕ) (post : Post) (desk : Desk) (none : Bool) → turn_left c rounds (enqueues.at_next kept next post desk none) ≤ 8 + task_left c (length desk.list) (Enqueues kept) (rounds - 1)
at_next_left c rounds kept next post desk true = appending_left c rounds kept post desk (kept.number == post.layout.config.last_version)
at_next_left c rounds kept next post desk false = omega arith

appended_left : (c : Config) (rounds : ℕ) (kept : EnqueueKept) (slot : ℕ) (post : Post) (desk : Desk) (same : Bool) → InRound (rounds_most c (Enqueues kept)) rounds → turn_left c rounds (enqueues.appended kept slot post desk same) + 1 ≤ 5 + task_left c (length desk.list) (Enqueues kept) (rounds - 1)
appended_left c rounds kept slot post desk true i = omega arith
appended_left c rounds kept slot post desk false i =
    let h = clearing_left c rounds (Enqueues kept) Again post desk [] in let a = lost_left c rounds (Enqueues kept) post desk [] i refl in omega (arith, h, a)

enqueue_falls : (c : Config) (rounds : ℕ) (kept : EnqueueKept) (at : EnqueueAt) (post : Post) (desk : Desk) (found : ℕ) → InRound (rounds_most c (Enqueues kept)) rounds
    → turn_left c rounds (enqueues.enqueue_turn kept at post desk found) + 1 ≤ enqueue_left at (task_left c (length desk.list) (Enqueues kept) (rounds - 1))
enqueue_falls c rounds kept LoadNumber post desk found i = omega arith
enqueue_falls c rounds kept LoadNext post desk found i = let h = at_next_left c rounds kept found post desk (found == 0) in omega (arith, h)
enqueue_falls c rounds kept (PassTail next) post desk found i =
    let told : List Event = enqueues.told_link roots.Tail (next - 1) (found == kept.tail + 1) in
    let h = clearing_left c rounds (Enqueues kept) Again post desk told in
    let a = lost_left c rounds (Enqueues kept) post desk told i (link_told (publishes_rows c.scheme) rounds roots.Tail (next - 1) (found == kept.tail + 1)) in omega (arith, h, a)
enqueue_falls c rounds kept (ExchangeNext slot) post desk found i = appended_left c rounds kept slot post desk (found == 0) i
enqueue_falls c rounds kept (ExchangeTail slot) post desk found i = let h = clearing_left c rounds (Enqueues kept) (Answering (answers.Queued (kept.number + 1))) post desk (enqueues.told_link roots.Tail slot (found == kept.tail + 1)) in omega (arith, h)

-- a dequeue

follows_most : (c : Config) (scheme : SchemeKind) (parent : ℕ) → base_left c (dequeues.follow_base scheme parent) ≤ protect_most c + 1
follows_most c He parent = omega arith
follows_most c Ibr parent = omega arith
follows_most c Wfe parent = omega arith
follows_most c Hp parent = omega arith

taken_left : (c : Config) (rounds head next number value : ℕ) (post : Post) (desk : Desk) (same : Bool) → InRound (rounds_most c Dequeues) rounds → turn_left c rounds (dequeues.taken head next number value post desk same) + 1 ≤ 4 + task_left c (length desk.list) Dequeues (rounds - 1)
taken_left c rounds head next number value post desk true i =
    let h = clearing_next_left c rounds (Retiring head (answers.Taken number value moves.Still)) post desk (events.Link roots.Head next ∷ events.Cut head ∷ events.Taken number value ∷ []) in omega (arith, h)
taken_left c rounds head next number value post desk false i =
    let h = clearing_next_left c rounds Again post desk [] in let a = lost_left c rounds Dequeues post desk [] i refl in omega (arith, h, a)

dequeue_falls : (c : Config) (rounds : ℕ) (at : DequeueAt) (post : Post) (desk : Desk) (found : ℕ) → InRound (rounds_most c Dequeues) rounds → turn_left c rounds (dequeues.dequeue_turn at post desk found) + 1 ≤ dequeue_left c at + task_left c (length desk.list) Dequeues (rounds - 1)
dequeue_falls c rounds (LoadTail head) post desk found i = let h = follows_most c (scheme_of post) head in omega (arith, h)
dequeue_falls c rounds (SwingTail head next) post desk found i =
    let told : List Event = enqueues.told_link roots.Tail next (found == head + 1) in
    let h = clearing_next_left c rounds Again post desk told in
    let a = lost_left c rounds Dequeues post desk told i (link_told (publishes_rows c.scheme) rounds roots.Tail next (found == head + 1)) in omega (arith, h, a)
dequeue_falls c rounds (TakeNumber head next) post desk found i = omega arith
dequeue_falls c rounds (TakeValue head next number) post desk found i = omega arith
dequeue_falls c rounds (ExchangeHead head next number value) post desk found i = taken_left c rounds head next number value post desk (found == head + 1) i

-- a call on what is kept

copied_left : (c : Config) (rounds from index : ℕ) (post : Post) (desk : Desk) (reserved : List Event) (x : Option ℕ) → turn_left c rounds (keeps.copied from index post desk reserved x) ≤ 0
copied_left c rounds from index post desk reserved (Some slot) = omega arith
copied_left c rounds from index post desk reserved None = omega arith

held_left : (c : Config) (rounds from index : ℕ) (post : Post) (desk : Desk) (found : ℕ) (one : Bool) → turn_left c rounds (keeps.load_held from index post desk found one) ≤ 1
held_left c rounds from index post desk found true = let h = copied_left c rounds from index post desk [] (stands post from) in omega (arith, h)
held_left c rounds from index post desk found false = omega arith

looking_left : (c : Config) (rounds index key slot version count : ℕ) (post : Post) (desk : Desk) (more : Bool) (pair : ℕ) → turn_left c rounds (keeps.looking index key slot version count post desk more pair) ≤ (count - pair) + 3
looking_left c rounds index key slot version count post desk true pair = omega arith
looking_left c rounds index key slot version count post desk false pair = omega arith

looking_most : (c : Config) (layout : Layout) (rounds index key slot version count : ℕ) (post : Post) (desk : Desk) (more : Bool) → layout.config ≡ c → PhaseKnown layout (stands_at (keeps.looking index key slot version count post desk more 0).outcome)
    → turn_left c rounds (keeps.looking index key slot version count post desk more 0) ≤ c.pairs + 3
looking_most c layout rounds index key slot version count post desk true t p = let q : count ≤ c.pairs = subst (λ (d : Config). count ≤ d.pairs) t p.1.2 in omega (arith, q)
looking_most c layout rounds index key slot version count post desk false t p = omega arith

looked_left : (c : Config) (rounds index key slot version count pair : ℕ) (post : Post) (desk : Desk) (own : Bool) → pair < count
    → turn_left c rounds (keeps.looked_key index key slot version count pair post desk own) + 1 ≤ (count - pair) + 3
looked_left c rounds index key slot version count pair post desk true b = omega (arith, b)
looked_left c rounds index key slot version count pair post desk false b = let h = looking_left c rounds index key slot version count post desk (nat_lt (pair + 1) count) (pair + 1) in omega (arith, b, h)

look_falls : (c : Config) (layout : Layout) (rounds index key : ℕ) (at : GetAt) (post : Post) (desk : Desk) (found : ℕ) → layout.config ≡ c → GetIn layout.config at → PhaseKnown layout (stands_at (keeps.look_turn index key at post desk found).outcome)
    → turn_left c rounds (keeps.look_turn index key at post desk found) + 1 ≤ get_left c at
look_falls c layout rounds index key (FindVersion slot) post desk found t g p = omega arith
look_falls c layout rounds index key (FindCount slot version) post desk found t g p = let h = looking_most c layout rounds index key slot version found post desk (nat_lt 0 found) t p in omega (arith, h)
look_falls c layout rounds index key (FindKey slot version count pair) post desk found t g p = looked_left c rounds index key slot version count pair post desk (found == key) g.1
look_falls c layout rounds index key (FindValue slot version pair) post desk found t g p = omega arith

taking_falls : (c : Config) (rounds place : ℕ) (post : Post) (desk : Desk) (left : Bool) (found : ℕ) → turn_left c rounds (keeps.taking place post desk left found) ≤ 1
taking_falls c rounds place post desk true found = omega arith
taking_falls c rounds place post desk false found = omega arith

keep_falls : (c : Config) (layout : Layout) (rounds : ℕ) (at : KeepAt) (post : Post) (desk : Desk) (found : ℕ) → layout.config ≡ c → c.indexes ≤ 8 → rounds ≡ 0 → KeepIn layout.config at → PhaseKnown layout (stands_at (keeps.keep_turn at post desk found).outcome)
    → turn_left c rounds (keeps.keep_turn at post desk found) + 1 ≤ keep_left c (length desk.list) at
keep_falls c layout rounds (Loosens let_go) post desk found t q i g p =
    let told : List Event = cleared (let_index let_go) (stands post (let_index let_go)) in
    let k : let_index let_go < c.indexes = subst (λ (d : Config). let_index let_go < d.indexes) t g.below in
    let h = released_left c rounds (length desk.list) let_go (withdrawn post (let_index let_go)) desk told (omega (arith, q, k)) refl (cleared_rounds (publishes_rows c.scheme) rounds (let_index let_go) (stands post (let_index let_go)) ∙ i) in
    omega (arith, h)
keep_falls c layout rounds (LoadHeld from index) post desk found t q i g p = let h = held_left c rounds from index post desk found (has_one_interval (scheme_of post)) in omega (arith, h)
keep_falls c layout rounds (StoreHeld from index era) post desk found t q i g p = let h = copied_left c rounds from index post desk (publishes_index (publishes_rows (scheme_of post)) post index era) (stands post from) in omega (arith, h)
keep_falls c layout rounds (Looks index key at) post desk found t q i g p = look_falls c layout rounds index key at post desk found t g.1 p
keep_falls c layout rounds (Misses index) post desk found t q i g p = omega arith
keep_falls c layout rounds HideSpan post desk found t q i g p = omega arith
keep_falls c layout rounds MarkLeft post desk found t q i g p = omega arith
keep_falls c layout rounds (TakeList place) post desk found t q i g p = let h = taking_falls c rounds place post desk (found == 1) found in omega (arith, h)
keep_falls c layout rounds (MarkTaken place count) post desk found t q i g p = omega arith

pub work_falls : (c : Config) (layout : Layout) (rounds : ℕ) (work : Work) (post : Post) (desk : Desk) (found : ℕ) → layout.config ≡ c → c.indexes ≤ 8 → work_fit c rounds work → WorkIn layout.config work → PhaseKnown layout (stands_at (steps.work_turn work post desk found).outcome)
    → turn_left c rounds (steps.work_turn work post desk found) + 1 ≤ work_left c (length desk.list) rounds work
work_falls c layout rounds (Getting key at) post desk found t q i g p = get_falls c layout rounds key at post desk found t g p
work_falls c layout rounds (Changing kept at) post desk found t q i g p = change_falls c layout rounds kept at post desk found t i g.1 p
work_falls c layout rounds (Enqueuing kept at) post desk found t q i g p = enqueue_falls c rounds kept at post desk found i
work_falls c layout rounds (Dequeuing at) post desk found t q i g p = dequeue_falls c rounds at post desk found i
work_falls c layout rounds (Keeping at) post desk found t q i g p = keep_falls c layout rounds at post desk found t q i g p
