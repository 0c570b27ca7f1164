-- The steps of a call's own and those of a scan, and what comes after a machine: what is in hand, and the list.
use Rattle.std.proofs.Common.{ℕ, zero, suc, ◌+◌, ◌-◌, ◌≡◌, Bool, true, false, arith, refl, ap, ◌∙◌, sym, List, [], ◌∷◌, suc-add, zero-add}
use Rattle.std.specs.Prelude.{◌==◌, nat_lt, Option, Some, None, drop}
use Rattle.wfe_core.specs.defs.Shown.{Seen, keeps_any}
use Rattle.wfe_core.specs.defs.declared.call.Answer.TheVariants as the_answers
use Rattle.wfe_core.specs.defs.declared.event.Event.TheVariants as events
use Rattle.wfe_core.specs.defs.declared.call.ClockMove.{ClockMove}
use Rattle.wfe_core.specs.defs.declared.call.ClockMove.TheVariants as clock_moves
use Rattle.wfe_core.specs.Guards as the_guards
use Rattle.wfe_core.specs.defs.declared.event.Event.{Event}
use Rattle.wfe_core.specs.defs.declared.lifetime.Lifetime.{Lifetime}
use Rattle.wfe_core.specs.declared.ends.ProtectEnd.TheVariants as protect_ends
use Rattle.wfe_core.specs.declared.post.Post.{Post}
use Rattle.wfe_core.specs.Desks.{Desk}
use Rattle.wfe_core.specs.Phases.{Ending, Ending as endings}
use Rattle.wfe_core.specs.Phases.Ending.{Done, Protected, Followed, Allocated, Clocked}
use Rattle.wfe_core.specs.Rounds.{let_index, scheme_of, taken_of}
use Rattle.wfe_core.specs.Change as alters
use Rattle.wfe_core.specs.Enqueue as enqueues
use Rattle.wfe_core.specs.Dequeue as dequeues
use Rattle.wfe_core.specs.Scan as scan
use Rattle.wfe_core.specs.Keep as keeps
use Rattle.wfe_core.specs.Posts.{cleared, stands, withdrawn, publishes_index}
use Rattle.wfe_core.specs.words.Schemes.{has_one_interval, publishes_rows}
use Rattle.wfe_core.specs.Steps as steps
use Rattle.wfe_core.specs.Calls.{ChangeKept, EnqueueKept, Task, Gets, Changes, Holds, Enqueues, Dequeues, Again, Answering, Retiring, AfterScan, Answered, Repeated, Counted, GiveBack, LetGo, Released, Rehold, Dropped, Parting, GetAt, FindVersion, FindCount, FindKey, FindValue, KeepAt, Loosens, LoadHeld, StoreHeld, Looks, Misses, HideSpan, MarkLeft, TakeList, MarkTaken}
use Rattle.inv_rows.specs.Rows.Hand.{Empty, Old}
use Rattle.inv_rows.specs.Hands.{hand_of, hand_task, hand_next, hand_later, Leaves, stands_at}
use Rattle.std.specs.List.{remove}
use Rattle.wfe_core.specs.defs.declared.event.Guard.{Guard}
use Rattle.wfe_core.specs.defs.declared.event.Root.TheVariants as roots
use Rattle.wfe_core.proofs.Facts.{same_number, no_truth}
use Rattle.inv_rows.proofs.Rounds.{round_hand, round_right, closed_leaves, clearing_leaves, clearing_next_leaves, leaves_along, deciding_leaves, got_leaves, followed_leaves, parting_leaves}

-- the change's root is exchanged: its row is no longer in hand, and the one that it replaces is
done_first : (version link : ℕ) (task : Task) → taken_of task ≡ None → (link == 0) ≡ true → hand_next task (alters.answer_done version link) ≡ Empty
done_first version link task e h = rw (h, e) refl

done_over : (version link : ℕ) (task : Task) → (link == 0) ≡ false → hand_next task (alters.answer_done version link) ≡ Old (link - 1)
done_over version link task h = rw h refl

pub linked_leaves : (kept : ChangeKept) (slot : ℕ) (post : Post) (desk : Desk) → (kept.link == 0) ≡ true → Leaves Empty desk.list (alters.exchanged kept slot post desk true)
linked_leaves kept slot post desk h =
    leaves_along
    (hand_next (Changes (record kept { taken = None })) (alters.answer_done (kept.version + 1) kept.link))
    Empty
    desk.list
    (alters.exchanged kept slot post desk true)
    (done_first (kept.version + 1) kept.link (Changes (record kept { taken = None })) refl h)
    (clearing_leaves (Changes (record kept { taken = None })) (alters.answer_done (kept.version + 1) kept.link) post desk (alters.told_linked kept slot post))

pub replaced_leaves : (kept : ChangeKept) (slot : ℕ) (post : Post) (desk : Desk) → (kept.link == 0) ≡ false → Leaves (Old (kept.link - 1)) desk.list (alters.exchanged kept slot post desk true)
replaced_leaves kept slot post desk h =
    leaves_along
    (hand_next (Changes (record kept { taken = None })) (alters.answer_done (kept.version + 1) kept.link))
    (Old (kept.link - 1))
    desk.list
    (alters.exchanged kept slot post desk true)
    (done_over (kept.version + 1) kept.link (Changes (record kept { taken = None })) h)
    (clearing_leaves (Changes (record kept { taken = None })) (alters.answer_done (kept.version + 1) kept.link) post desk (alters.told_linked kept slot post))

pub missed_leaves : (kept : ChangeKept) (slot : ℕ) (post : Post) (desk : Desk) → Leaves (hand_of kept.taken) desk.list (alters.exchanged kept slot post desk false)
missed_leaves kept slot post desk = clearing_leaves (Changes kept) Again post desk []

pub appended_leaves : (kept : EnqueueKept) (slot : ℕ) (post : Post) (desk : Desk) → Leaves Empty desk.list (enqueues.appended kept slot post desk true)
appended_leaves kept slot post desk = record { hand = refl; right = refl; list = refl }

pub unappended_leaves : (kept : EnqueueKept) (slot : ℕ) (post : Post) (desk : Desk) → Leaves (hand_of kept.taken) desk.list (enqueues.appended kept slot post desk false)
unappended_leaves kept slot post desk = clearing_leaves (Enqueues kept) Again post desk []

pub popped_leaves : (head next number value : ℕ) (post : Post) (desk : Desk) → Leaves (Old head) desk.list (dequeues.taken head next number value post desk true)
popped_leaves head next number value post desk =
    clearing_next_leaves
    (Retiring head (the_answers.Taken number value clock_moves.Still))
    post
    desk
    (events.Link roots.Head next ∷ events.Cut head ∷ events.Taken number value ∷ [])

pub unpopped_leaves : (head next number value : ℕ) (post : Post) (desk : Desk) → Leaves Empty desk.list (dequeues.taken head next number value post desk false)
unpopped_leaves head next number value post desk = clearing_next_leaves Again post desk []

-- the entry that a scan finds stands at its place of the list
abbrev FoundIn : List Lifetime → ℕ → Option scan.Entry → Type 0
FoundIn lives n None = Unit {0}
FoundIn lives n (Some entry) = (q : ℕ) × (entry.0 ≡ n + q) × (stands_at lives q entry.1.slot ≡ true)

found_more : (life : Lifetime) (lives : List Lifetime) (n : ℕ) (x : Option scan.Entry) → FoundIn lives (n + 1) x → FoundIn (life ∷ lives) n x
found_more life lives n None h = tt
found_more life lives n (Some entry) h = (suc h.0, omega (arith, h.1), h.2)

found_by : (read : List Seen) (n : ℕ) (life : Lifetime) (lives : List Lifetime) (met : Bool) → FoundIn lives (n + 1) (scan.first_unmet read (n + 1) lives) → FoundIn (life ∷ lives) n (elim met [ true ↦ scan.first_unmet read (n + 1) lives | false ↦ Some (n, life) ])
found_by read n life lives true h = found_more life lives n (scan.first_unmet read (n + 1) lives) h
found_by read n life lives false h = (0, omega arith, same_number life.slot)

first_found : (read : List Seen) (n : ℕ) (lives : List Lifetime) → FoundIn lives n (scan.first_unmet read n lives)
first_found read n [] = tt
first_found read n (life ∷ lives) = found_by read n life lives (keeps_any life read) (first_found read (n + 1) lives)

stands_drop : (n q slot : ℕ) (lives : List Lifetime) → stands_at (drop n lives) q slot ≡ stands_at lives (n + q) slot
stands_drop zero q slot [] = refl
stands_drop zero q slot (life ∷ lives) = rw zero-add refl
stands_drop (suc n) q slot [] = refl
stands_drop (suc n) q slot (life ∷ lives) = stands_drop n q slot lives ∙ sym (ap (λ (k : ℕ). stands_at (life ∷ lives) k slot) (suc-add n q))

abbrev StandsIn : List Lifetime → Option scan.Entry → Type 0
StandsIn lives None = Unit {0}
StandsIn lives (Some entry) = stands_at lives entry.0 entry.1.slot ≡ true

found_stands : (lives : List Lifetime) (n : ℕ) (x : Option scan.Entry) → FoundIn (drop n lives) n x → StandsIn lives x
found_stands lives n None h = tt
found_stands lives n (Some entry) h = rw h.1 (sym (stands_drop n h.0 entry.1.slot lives) ∙ h.2)

unmet_stands : (desk : Desk) (place : ℕ) → StandsIn desk.list (scan.unmet_from desk place)
unmet_stands desk place = found_stands desk.list place (scan.unmet_from desk place) (first_found desk.report.read place (drop place desk.list))

-- a scan's steps
scanned_leaves : (later : AfterScan) (post : Post) (desk : Desk) (told : List Event) → Leaves (hand_later later) desk.list (scan.scanned later post desk told)
scanned_leaves (Answered answer) post desk told = record { hand = refl; right = refl; list = refl }
scanned_leaves (Repeated task) post desk told = record { hand = round_hand task post; right = round_right task post desk.list; list = refl }
scanned_leaves Counted post desk told = record { hand = refl; right = refl; list = refl }

giving_back_leaves : (later : AfterScan) (post : Post) (desk : Desk) (told : List Event) (x : Option scan.Entry) → StandsIn desk.list x → Leaves (hand_later later) desk.list (scan.giving_back later post desk told x)
giving_back_leaves later post desk told None h = scanned_leaves later post (scan.with_kept desk) told
giving_back_leaves later post desk told (Some entry) h = record { hand = refl; right = h; list = refl }

read_more_leaves : (later : AfterScan) (number : ℕ) (post : Post) (desk : Desk) (told : List Event) (more : Bool) → Leaves (hand_later later) desk.list (scan.reading later number post desk told more)
read_more_leaves later number post desk told true = record { hand = refl; right = refl; list = refl }
read_more_leaves later number post desk told false = giving_back_leaves later post desk told (scan.unmet_from desk 0) (unmet_stands desk 0)

pub read_leaves : (later : AfterScan) (number : ℕ) (post : Post) (desk : Desk) (rows : Bool) (guard : Guard) (word : ℕ) → Leaves (hand_later later) desk.list (scan.read_guard later number post desk rows guard word)
read_leaves later number post desk rows guard word =
    read_more_leaves
    later
    number
    post
    (scan.with_read desk number (guard, the_guards.published rows guard word))
    (scan.reads_guard rows guard word ∷ [])
    (nat_lt (number + 1) (the_guards.guards post.layout.config))

pub back_leaves : (later : AfterScan) (place slot : ℕ) (post : Post) (desk : Desk) (found : ℕ) → Leaves (hand_later later) (remove desk.list place) (scan.scan_turn later (GiveBack place slot) post desk found)
back_leaves later place slot post desk found =
    giving_back_leaves
    later
    post
    (scan.with_back desk place)
    (events.Back slot ∷ [])
    (scan.unmet_from (scan.with_back desk place) place)
    (unmet_stands (scan.with_back desk place) place)

-- a root was protected
opened_row_leaves : (task : Task) (slot : ℕ) (post : Post) (desk : Desk) (told : List Event) → Leaves (hand_task task) desk.list (steps.opened_row task slot post desk told)
opened_row_leaves (Gets key) slot post desk told = record { hand = refl; right = refl; list = refl }
opened_row_leaves (Changes kept) slot post desk told = record { hand = refl; right = refl; list = refl }
opened_row_leaves (Holds key) slot post desk told = record { hand = refl; right = refl; list = refl }
opened_row_leaves (Enqueues kept) slot post desk told = record { hand = refl; right = refl; list = refl }
opened_row_leaves Dequeues slot post desk told = record { hand = refl; right = refl; list = refl }

opened_null_leaves : (task : Task) (post : Post) (desk : Desk) (told : List Event) → Leaves (hand_task task) desk.list (steps.opened_null task post desk told)
opened_null_leaves (Gets key) post desk told = got_leaves key 0 None post desk told
opened_null_leaves (Changes kept) post desk told = deciding_leaves (alters.at_link kept 0) post desk told
opened_null_leaves (Holds key) post desk told = clearing_leaves (Holds key) (Answering the_answers.Nothing) post desk told
opened_null_leaves (Enqueues kept) post desk told = clearing_leaves (Enqueues kept) Again post desk told
opened_null_leaves Dequeues post desk told = clearing_leaves Dequeues Again post desk told

pub opened_leaves : (task : Task) (ending : Ending) (post : Post) (desk : Desk) (told : List Event) → Leaves (hand_task task) desk.list (steps.opened task ending post desk told)
opened_leaves task (Protected (protect_ends.Held slot era)) post desk told = opened_row_leaves task slot post desk told
opened_leaves task (Protected protect_ends.Null) post desk told = opened_null_leaves task post desk told
opened_leaves task Done post desk told = record { hand = refl; right = refl; list = refl }
opened_leaves task (Followed end) post desk told = record { hand = refl; right = refl; list = refl }
opened_leaves task (Allocated end) post desk told = record { hand = refl; right = refl; list = refl }
opened_leaves task (endings.Retired life) post desk told = record { hand = refl; right = refl; list = refl }
opened_leaves task (Clocked clock) post desk told = record { hand = refl; right = refl; list = refl }

pub followed_by_leaves : (head tail : ℕ) (ending : Ending) (post : Post) (desk : Desk) (told : List Event) → Leaves Empty desk.list (steps.followed_by head tail ending post desk told)
followed_by_leaves head tail (Followed end) post desk told = followed_leaves head tail end post desk told
followed_by_leaves head tail (Protected end) post desk told = closed_leaves Dequeues Again post desk told
followed_by_leaves head tail Done post desk told = closed_leaves Dequeues Again post desk told
followed_by_leaves head tail (Allocated end) post desk told = closed_leaves Dequeues Again post desk told
followed_by_leaves head tail (endings.Retired life) post desk told = closed_leaves Dequeues Again post desk told
followed_by_leaves head tail (Clocked clock) post desk told = closed_leaves Dequeues Again post desk told

moved_later : (later : AfterScan) (clock : ClockMove) → hand_later (steps.after_move later clock) ≡ hand_later later
moved_later (Answered answer) clock = refl
moved_later (Repeated task) clock = refl
moved_later Counted clock = refl

pub tidied_leaves : (later : AfterScan) (ending : Ending) (post : Post) (desk : Desk) (told : List Event) → Leaves (hand_later later) desk.list (steps.tidied later ending post desk told)
tidied_leaves later (Clocked clock) post desk told = record { hand = moved_later later clock; right = refl; list = refl }
tidied_leaves later (Protected end) post desk told = record { hand = refl; right = refl; list = refl }
tidied_leaves later Done post desk told = record { hand = refl; right = refl; list = refl }
tidied_leaves later (Followed end) post desk told = record { hand = refl; right = refl; list = refl }
tidied_leaves later (Allocated end) post desk told = record { hand = refl; right = refl; list = refl }
tidied_leaves later (endings.Retired life) post desk told = record { hand = refl; right = refl; list = refl }

pub advanced_leaves : (ending : Ending) (post : Post) (desk : Desk) (told : List Event) → Leaves Empty desk.list (steps.advanced ending post desk told)
advanced_leaves (Clocked clock) post desk told = record { hand = refl; right = refl; list = refl }
advanced_leaves (Protected end) post desk told = record { hand = refl; right = refl; list = refl }
advanced_leaves Done post desk told = record { hand = refl; right = refl; list = refl }
advanced_leaves (Followed end) post desk told = record { hand = refl; right = refl; list = refl }
advanced_leaves (Allocated end) post desk told = record { hand = refl; right = refl; list = refl }
advanced_leaves (endings.Retired life) post desk told = record { hand = refl; right = refl; list = refl }

pub released_leaves : (let_go : LetGo) (post : Post) (desk : Desk) (told : List Event) → Leaves Empty desk.list (keeps.released let_go post desk told)
released_leaves Released post desk told = record { hand = refl; right = refl; list = refl }
released_leaves (Dropped index) post desk told = record { hand = refl; right = refl; list = refl }
released_leaves (Parting index) post desk told = parting_leaves index post desk told
released_leaves (Rehold key) post desk told = record { hand = round_hand (Holds key) post; right = round_right (Holds key) post desk.list; list = refl }

-- calls on what is kept
copied_leaves : (from index : ℕ) (post : Post) (desk : Desk) (reserved : List Event) (x : Option ℕ) → Leaves Empty desk.list (keeps.copied from index post desk reserved x)
copied_leaves from index post desk reserved None = record { hand = refl; right = refl; list = refl }
copied_leaves from index post desk reserved (Some slot) = record { hand = refl; right = refl; list = refl }

load_held_leaves : (from index : ℕ) (post : Post) (desk : Desk) (found : ℕ) (one : Bool) → Leaves Empty desk.list (keeps.load_held from index post desk found one)
load_held_leaves from index post desk found true = copied_leaves from index post desk [] (stands post from)
load_held_leaves from index post desk found false = record { hand = refl; right = refl; list = refl }

looking_leaves : (index key slot version count : ℕ) (post : Post) (desk : Desk) (more : Bool) (pair : ℕ) → Leaves Empty desk.list (keeps.looking index key slot version count post desk more pair)
looking_leaves index key slot version count post desk true pair = record { hand = refl; right = refl; list = refl }
looking_leaves index key slot version count post desk false pair = record { hand = refl; right = refl; list = refl }

looked_key_leaves : (index key slot version count pair : ℕ) (post : Post) (desk : Desk) (own : Bool) → Leaves Empty desk.list (keeps.looked_key index key slot version count pair post desk own)
looked_key_leaves index key slot version count pair post desk true = record { hand = refl; right = refl; list = refl }
looked_key_leaves index key slot version count pair post desk false = looking_leaves index key slot version count post desk (nat_lt (pair + 1) count) (pair + 1)

look_leaves : (index key : ℕ) (at : GetAt) (post : Post) (desk : Desk) (found : ℕ) → Leaves Empty desk.list (keeps.look_turn index key at post desk found)
look_leaves index key (FindVersion slot) post desk found = record { hand = refl; right = refl; list = refl }
look_leaves index key (FindCount slot version) post desk found = looking_leaves index key slot version found post desk (nat_lt 0 found) 0
look_leaves index key (FindKey slot version count pair) post desk found = looked_key_leaves index key slot version count pair post desk (found == key)
look_leaves index key (FindValue slot version pair) post desk found = record { hand = refl; right = refl; list = refl }

-- a place from which no list can be taken
pub not_taken_leaves : (place : ℕ) (post : Post) (desk : Desk) (found : ℕ) → Leaves Empty desk.list (keeps.taking place post desk false found)
not_taken_leaves place post desk found = record { hand = refl; right = refl; list = refl }

abbrev pub takes_list : KeepAt → Bool
takes_list (Loosens let_go) = false
takes_list (LoadHeld from index) = false
takes_list (StoreHeld from index era) = false
takes_list (Looks index key at) = false
takes_list (Misses index) = false
takes_list HideSpan = false
takes_list MarkLeft = false
takes_list (TakeList place) = true
takes_list (MarkTaken place count) = false

-- not of the step that may take a list over
pub keep_leaves : (at : KeepAt) (post : Post) (desk : Desk) (found : ℕ) → takes_list at ≡ false → Leaves Empty desk.list (keeps.keep_turn at post desk found)
keep_leaves (Loosens let_go) post desk found h =
    released_leaves let_go (withdrawn post (let_index let_go)) desk (cleared (let_index let_go) (stands post (let_index let_go)))
keep_leaves (LoadHeld from index) post desk found h = load_held_leaves from index post desk found (has_one_interval (scheme_of post))
keep_leaves (StoreHeld from index era) post desk found h = copied_leaves from index post desk (publishes_index (publishes_rows (scheme_of post)) post index era) (stands post from)
keep_leaves (Looks index key at) post desk found h = look_leaves index key at post desk found
keep_leaves (Misses index) post desk found h = record { hand = refl; right = refl; list = refl }
keep_leaves HideSpan post desk found h = record { hand = refl; right = refl; list = refl }
keep_leaves MarkLeft post desk found h = record { hand = refl; right = refl; list = refl }
keep_leaves (TakeList place) post desk found h = absurd (no_truth (sym h))
keep_leaves (MarkTaken place count) post desk found h = record { hand = refl; right = refl; list = refl }
