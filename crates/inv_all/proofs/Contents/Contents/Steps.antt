-- Each step of a seat that links no row: what it tells, and what the phase that it leaves knows.
use Rattle.std.proofs.Common.{ℕ, ◌+◌, ◌-◌, ◌*◌, ◌%◌, ◌≡◌, Bool, true, false, arith, refl, sym, subst, List, [], ◌∷◌, ◌++◌, length}
use Rattle.std.proofs.lemmas.Bool.Decides.{nat_tests}
use Rattle.std.specs.Prelude.{◌==◌, if◌then◌else◌, Option, Some, None, drop}
use Rattle.inv_ends.specs.model.words.Place.{Place}
use Rattle.inv_ends.specs.model.words.Place.Place.{Row}
use Rattle.inv_ends.specs.model.defs.declared.call.Answer.{Answer}
use Rattle.inv_ends.specs.model.defs.declared.call.Answer.TheVariants as the_answers
use Rattle.inv_ends.specs.model.defs.declared.call.ClockMove.TheVariants as moves
use Rattle.inv_ends.specs.model.defs.declared.event.Event.{Event}
use Rattle.inv_ends.specs.model.defs.declared.event.Event.TheVariants as events
use Rattle.inv_ends.specs.model.defs.declared.event.Root.TheVariants as roots
use Rattle.inv_ends.specs.model.declared.ends.AllocateEnd.{AllocateEnd}
use Rattle.inv_ends.specs.model.declared.ends.AllocateEnd.TheVariants as allocate_ends
use Rattle.inv_ends.specs.model.declared.ends.FollowEnd.{FollowEnd}
use Rattle.inv_ends.specs.model.declared.ends.FollowEnd.TheVariants as follow_ends
use Rattle.inv_ends.specs.model.declared.ends.ProtectEnd.TheVariants as protect_ends
use Rattle.inv_ends.specs.model.declared.post.Post.{Post}
use Rattle.inv_ends.specs.model.Allocate.{is_claimed, walking, walk_past}
use Rattle.inv_ends.specs.model.Desks.{Desk, with_life}
use Rattle.inv_ends.specs.model.Machine as machine
use Rattle.inv_ends.specs.model.Machine.{base_move}
use Rattle.inv_ends.specs.model.Memory.{place_in, found, put, written}
use Rattle.inv_ends.specs.model.Phases.{RowOf, Base, Walk, AllocateAt, Ending, Outcome, Goes, Ends, Turn, goes, ends}
use Rattle.inv_ends.specs.model.Phases.Ending.{Done, Protected, Followed, Allocated, Retired, Clocked}
use Rattle.inv_ends.specs.model.Phases.AllocateAt.{LoadBirth, ClaimSlot, StoreLife}
use Rattle.inv_ends.specs.model.Phases.Base.{Begin, Protect, Reload, Clear, Finish, Release, Allocate, Write, GiveUp, Retire, Move}
use Rattle.inv_ends.specs.model.words.Schemes.{has_one_interval, publishes_rows}
use Rattle.inv_ends.specs.model.Posts.{cleared, cleared_from, reserves_span, stands, withdrawn, publishes_index}
use Rattle.inv_ends.specs.model.Rounds.{clearing_next, let_index, opening, scheme_of}
use Rattle.inv_ends.specs.model.Change as alters
use Rattle.inv_ends.specs.model.Enqueue as enqueues
use Rattle.inv_ends.specs.model.Dequeue as dequeues
use Rattle.inv_ends.specs.model.Keep as keeps
use Rattle.inv_ends.specs.model.Steps as steps
use Rattle.inv_ends.specs.model.WriteRow.{row_word, last_written}
use Rattle.inv_ends.specs.model.Calls.{ChangeKept, EnqueueKept, Task, Gets, Changes, Holds, Enqueues, Dequeues, Next, Again, Answering, Retiring, AfterScan, Why, Opens, FollowsHead, Fills, ClearsNext, Clears, Finishes, GivesUp, Retires, Tidies, Advances, Releases, EnqueueAt, LoadNumber, LoadNext, PassTail, ExchangeNext, ExchangeTail, DequeueAt, LoadTail, SwingTail, TakeNumber, TakeValue, ExchangeHead, Runs, goes_on, LetGo, Released, Rehold, Dropped, Parting, KeepAt, Loosens, LoadHeld, StoreHeld, Looks, Misses, HideSpan, MarkLeft, TakeList, MarkTaken}
use Rattle.inv_ends.specs.rows.Hands.{fills_right, holds_slot}
use Rattle.inv_all.specs.Contents.Shelf.{Shelf, Filled}
use Rattle.inv_all.specs.Contents.Knows.{ItemKnows, WritingItem, Ground, FillKnows, Decided, Writing, changes_in}
use Rattle.inv_all.proofs.Contents.Contents.Told.{all_calm, calm_append, calm_claimed, FromNone}
use Rattle.inv_all.proofs.Contents.Contents.Lasts.{on}
use Rattle.inv_all.proofs.Contents.Contents.Machines.{cleared_calm, shown_calm, base_calm}
use Rattle.inv_all.proofs.Contents.Contents.Begun.{free_plain}
use Rattle.inv_all.proofs.Contents.Stands.Rounds.{parting_from_free}
use Rattle.inv_all.proofs.Contents.Contents.Reading.{filled_next}
use Rattle.inv_all.proofs.Contents.Contents.Rounds.{got_turns, Adds, Turns, turns_adds, adds_none, plain_knows, why_plain, task_plain, round_plain, closed_adds, finishing_adds, clearing_adds, clearing_next_adds, tidying_adds}
use Rattle.inv_all.proofs.Contents.Contents.Turns.{clearing_turns, deciding_turns, null_decided}
use Rattle.inv_ends.proofs.rows.Own.{taken_in}
use Rattle.inv_ends.proofs.model.Facts.{no_truth}

-- the queue's ends are moved
told_link_calm : (tail : Bool) (slot : ℕ) (same : Bool) → all_calm (enqueues.told_link (if tail then roots.Tail else roots.Head) slot same) ≡ true
told_link_calm true slot true = refl
told_link_calm false slot true = refl
told_link_calm true slot false = refl
told_link_calm false slot false = refl

-- an enqueue that appends no row
item_filling : (g : Ground) (kept : EnqueueKept) (x : Option ℕ) → ItemKnows g kept (enqueues.filling_by kept x)
item_filling g kept None = tt
item_filling g kept (Some slot) = record { same = refl; words = λ q low high. absurd (omega arith) }

appending_turns : (g : Ground) (kept : EnqueueKept) (post : Post) (desk : Desk) (spent : Bool) → Turns g (enqueues.appending kept post desk spent)
appending_turns g kept post desk true = clearing_turns g (Enqueues kept) (Answering (the_answers.Spent kept.number)) post desk [] refl
appending_turns g kept post desk false = record { calm = tt; knows = item_filling g kept kept.taken }

at_next_turns : (g : Ground) (kept : EnqueueKept) (next : ℕ) (post : Post) (desk : Desk) (none : Bool) → Turns g (enqueues.at_next kept next post desk none)
at_next_turns g kept next post desk true = appending_turns g kept post desk (kept.number == post.layout.config.last_version)
at_next_turns g kept next post desk false = record { calm = tt; knows = tt }

abbrev pub joins : EnqueueAt → ℕ → Bool
joins LoadNumber found = false
joins LoadNext found = false
joins (PassTail next) found = false
joins (ExchangeNext slot) found = found == 0
joins (ExchangeTail slot) found = false

pub enqueue_turns : (g : Ground) (kept : EnqueueKept) (at : EnqueueAt) (post : Post) (desk : Desk) (word : ℕ) → joins at word ≡ false → Turns g (enqueues.enqueue_turn kept at post desk word)
enqueue_turns g kept LoadNumber post desk word h = record { calm = tt; knows = tt }
enqueue_turns g kept LoadNext post desk word h = at_next_turns g kept word post desk (word == 0)
enqueue_turns g kept (PassTail next) post desk word h = clearing_turns g (Enqueues kept) Again post desk (enqueues.told_link roots.Tail (next - 1) (word == kept.tail + 1)) (told_link_calm true (next - 1) (word == kept.tail + 1))
enqueue_turns g kept (ExchangeNext slot) post desk word h = rw h (clearing_turns g (Enqueues kept) Again post desk [] refl)
enqueue_turns g kept (ExchangeTail slot) post desk word h = clearing_turns g (Enqueues kept) (Answering (the_answers.Queued (kept.number + 1))) post desk (enqueues.told_link roots.Tail slot (word == kept.tail + 1)) (told_link_calm true slot (word == kept.tail + 1))

next_turns : (g : Ground) (next : Next) (post : Post) (desk : Desk) (told : List Event) → all_calm told ≡ true → Turns g (clearing_next next post desk told)
next_turns g next post desk told h = turns_adds g told (clearing_next next post desk told) h (clearing_next_adds next post desk told)

taken_turns : (g : Ground) (head next number value : ℕ) (post : Post) (desk : Desk) (same : Bool) → Turns g (dequeues.taken head next number value post desk same)
taken_turns g head next number value post desk true = next_turns g (Retiring head (the_answers.Taken number value moves.Still)) post desk (events.Link roots.Head next ∷ events.Cut head ∷ events.Taken number value ∷ []) refl
taken_turns g head next number value post desk false = next_turns g Again post desk [] refl

pub dequeue_turns : (g : Ground) (at : DequeueAt) (post : Post) (desk : Desk) (word : ℕ) → Turns g (dequeues.dequeue_turn at post desk word)
dequeue_turns g (LoadTail head) post desk word = record { calm = tt; knows = tt }
dequeue_turns g (SwingTail head next) post desk word = next_turns g Again post desk (enqueues.told_link roots.Tail next (word == head + 1)) (told_link_calm true next (word == head + 1))
dequeue_turns g (TakeNumber head next) post desk word = record { calm = tt; knows = tt }
dequeue_turns g (TakeValue head next number) post desk word = record { calm = tt; knows = tt }
dequeue_turns g (ExchangeHead head next number value) post desk word = taken_turns g head next number value post desk (word == head + 1)

-- what comes after a machine, for tasks that know nothing of rows of the map

followed_row_adds : (head next : ℕ) (post : Post) (desk : Desk) (told : List Event) (lags : Bool) → Adds told (dequeues.followed_row head next post desk told lags)
followed_row_adds head next post desk told true = adds_none told (dequeues.followed_row head next post desk told true) refl refl
followed_row_adds head next post desk told false = adds_none told (dequeues.followed_row head next post desk told false) refl refl

followed_adds : (head tail : ℕ) (ending : FollowEnd) (post : Post) (desk : Desk) (told : List Event) → Adds told (dequeues.followed head tail ending post desk told)
followed_adds head tail (follow_ends.Followed slot) post desk told = followed_row_adds head slot post desk told (tail == head + 1)
followed_adds head tail follow_ends.NoNext post desk told = clearing_next_adds (Answering the_answers.Empty) post desk told
followed_adds head tail (follow_ends.RootMoved seen) post desk told = clearing_next_adds Again post desk told

followed_by_adds : (head tail : ℕ) (ending : Ending) (post : Post) (desk : Desk) (told : List Event) → Adds told (steps.followed_by head tail ending post desk told)
followed_by_adds head tail (Followed ending) post desk told = followed_adds head tail ending post desk told
followed_by_adds head tail Done post desk told = closed_adds Dequeues Again post desk told
followed_by_adds head tail (Protected ending) post desk told = closed_adds Dequeues Again post desk told
followed_by_adds head tail (Allocated ending) post desk told = closed_adds Dequeues Again post desk told
followed_by_adds head tail (Retired life) post desk told = closed_adds Dequeues Again post desk told
followed_by_adds head tail (Clocked clock) post desk told = closed_adds Dequeues Again post desk told

-- a task that gets nothing of the map from its root
abbrev pub opens_plain : Task → Bool
opens_plain (Gets key) = false
opens_plain (Changes kept) = false
opens_plain task = true

opened_row_adds : (task : Task) (slot : ℕ) (post : Post) (desk : Desk) (told : List Event) → opens_plain task ≡ true → Adds told (steps.opened_row task slot post desk told)
opened_row_adds (Gets key) slot post desk told h = absurd (cc)
opened_row_adds (Changes kept) slot post desk told h = absurd (cc)
opened_row_adds (Holds key) slot post desk told h = adds_none told (steps.opened_row (Holds key) slot post desk told) refl refl
opened_row_adds (Enqueues kept) slot post desk told h = adds_none told (steps.opened_row (Enqueues kept) slot post desk told) refl refl
opened_row_adds Dequeues slot post desk told h = adds_none told (steps.opened_row Dequeues slot post desk told) refl refl

opened_null_adds : (task : Task) (post : Post) (desk : Desk) (told : List Event) → opens_plain task ≡ true → Adds told (steps.opened_null task post desk told)
opened_null_adds (Gets key) post desk told h = absurd (cc)
opened_null_adds (Changes kept) post desk told h = absurd (cc)
opened_null_adds (Holds key) post desk told h = clearing_adds (Holds key) (Answering the_answers.Nothing) post desk told
opened_null_adds (Enqueues kept) post desk told h = clearing_adds (Enqueues kept) Again post desk told
opened_null_adds Dequeues post desk told h = clearing_adds Dequeues Again post desk told

opening_adds : (task : Task) (ending : Ending) (post : Post) (desk : Desk) (told : List Event) → steps.opened task ending post desk told ≡ goes_on post desk told (opening task post) → Adds told (steps.opened task ending post desk told)
opening_adds task ending post desk told e = rw e (adds_none told (goes_on post desk told (opening task post)) refl refl)

opened_adds : (task : Task) (ending : Ending) (post : Post) (desk : Desk) (told : List Event) → opens_plain task ≡ true → Adds told (steps.opened task ending post desk told)
opened_adds task (Protected (protect_ends.Held slot era)) post desk told h = opened_row_adds task slot post desk told h
opened_adds task (Protected protect_ends.Null) post desk told h = opened_null_adds task post desk told h
opened_adds task Done post desk told h = opening_adds task Done post desk told refl
opened_adds task (Followed ending) post desk told h = opening_adds task (Followed ending) post desk told refl
opened_adds task (Allocated ending) post desk told h = opening_adds task (Allocated ending) post desk told refl
opened_adds task (Retired life) post desk told h = opening_adds task (Retired life) post desk told refl
opened_adds task (Clocked clock) post desk told h = opening_adds task (Clocked clock) post desk told refl

written_adds : (task : Task) (post : Post) (desk : Desk) (told : List Event) → task_plain task ≡ true → Adds told (steps.written_row task post desk told)
written_adds (Gets key) post desk told h = closed_adds (Gets key) Again post desk told
written_adds (Changes kept) post desk told h = absurd (cc)
written_adds (Holds key) post desk told h = closed_adds (Holds key) Again post desk told
written_adds (Enqueues kept) post desk told h = absurd (cc)
written_adds Dequeues post desk told h = closed_adds Dequeues Again post desk told

filled_by_adds : (task : Task) (ending : AllocateEnd) (post : Post) (desk : Desk) (told : List Event) → task_plain task ≡ true → Adds told (steps.filled_by task ending post desk told)
filled_by_adds (Gets key) ending post desk told h = closed_adds (Gets key) Again post desk told
filled_by_adds (Changes kept) ending post desk told h = absurd (cc)
filled_by_adds (Holds key) ending post desk told h = closed_adds (Holds key) Again post desk told
filled_by_adds (Enqueues kept) ending post desk told h = absurd (cc)
filled_by_adds Dequeues ending post desk told h = closed_adds Dequeues Again post desk told

filled_adds : (task : Task) (ending : Ending) (post : Post) (desk : Desk) (told : List Event) → task_plain task ≡ true → Adds told (steps.filled task ending post desk told)
filled_adds task (Allocated ending) post desk told h = filled_by_adds task ending post desk told h
filled_adds task Done post desk told h = written_adds task post desk told h
filled_adds task (Protected ending) post desk told h = written_adds task post desk told h
filled_adds task (Followed ending) post desk told h = written_adds task post desk told h
filled_adds task (Retired life) post desk told h = written_adds task post desk told h
filled_adds task (Clocked clock) post desk told h = written_adds task post desk told h

retired_adds : (answer : Answer) (ending : Ending) (post : Post) (desk : Desk) (told : List Event) → Adds told (steps.retired_by answer ending post desk told)
retired_adds answer (Retired life) post desk told = tidying_adds answer post (with_life desk life) told (post.retired % post.layout.config.every == 0)
retired_adds answer Done post desk told = adds_none told (steps.retired_by answer Done post desk told) refl refl
retired_adds answer (Protected ending) post desk told = adds_none told (steps.retired_by answer (Protected ending) post desk told) refl refl
retired_adds answer (Followed ending) post desk told = adds_none told (steps.retired_by answer (Followed ending) post desk told) refl refl
retired_adds answer (Allocated ending) post desk told = adds_none told (steps.retired_by answer (Allocated ending) post desk told) refl refl
retired_adds answer (Clocked clock) post desk told = adds_none told (steps.retired_by answer (Clocked clock) post desk told) refl refl

tidied_adds : (later : AfterScan) (ending : Ending) (post : Post) (desk : Desk) (told : List Event) → Adds told (steps.tidied later ending post desk told)
tidied_adds later (Clocked clock) post desk told = adds_none told (steps.tidied later (Clocked clock) post desk told) refl refl
tidied_adds later Done post desk told = adds_none told (steps.tidied later Done post desk told) refl refl
tidied_adds later (Protected ending) post desk told = adds_none told (steps.tidied later (Protected ending) post desk told) refl refl
tidied_adds later (Followed ending) post desk told = adds_none told (steps.tidied later (Followed ending) post desk told) refl refl
tidied_adds later (Allocated ending) post desk told = adds_none told (steps.tidied later (Allocated ending) post desk told) refl refl
tidied_adds later (Retired life) post desk told = adds_none told (steps.tidied later (Retired life) post desk told) refl refl

advanced_adds : (ending : Ending) (post : Post) (desk : Desk) (told : List Event) → Adds told (steps.advanced ending post desk told)
advanced_adds (Clocked clock) post desk told = adds_none told (steps.advanced (Clocked clock) post desk told) refl refl
advanced_adds Done post desk told = adds_none told (steps.advanced Done post desk told) refl refl
advanced_adds (Protected ending) post desk told = adds_none told (steps.advanced (Protected ending) post desk told) refl refl
advanced_adds (Followed ending) post desk told = adds_none told (steps.advanced (Followed ending) post desk told) refl refl
advanced_adds (Allocated ending) post desk told = adds_none told (steps.advanced (Allocated ending) post desk told) refl refl
advanced_adds (Retired life) post desk told = adds_none told (steps.advanced (Retired life) post desk told) refl refl

released_adds : (let_go : LetGo) (post : Post) (desk : Desk) (told : List Event) → Adds told (keeps.released let_go post desk told)
released_adds Released post desk told = adds_none told (keeps.released Released post desk told) refl refl
released_adds (Rehold key) post desk told = adds_none told (keeps.released (Rehold key) post desk told) refl (round_plain (Holds key) post)
released_adds (Dropped index) post desk told = adds_none told (keeps.released (Dropped index) post desk told) refl refl
released_adds (Parting index) post desk told = adds_none told (keeps.released (Parting index) post desk told) refl (free_plain (keeps.parting_from (index + 1) post) (parting_from_free (index + 1) post))

-- a copy that ends tells nothing of rows of the map
copied_turns : (g : Ground) (from index : ℕ) (post : Post) (desk : Desk) (reserved : List Event) (kept : Option ℕ) → all_calm reserved ≡ true → Turns g (keeps.copied from index post desk reserved kept)
copied_turns g from index post desk reserved None c = record { calm = tt; knows = tt }
copied_turns g from index post desk reserved (Some slot) c = record {
  calm = calm_claimed g.shelf (keeps.copied from index post desk reserved (Some slot)).told (calm_append (cleared index (stands post index) ++ reserved) (events.Copied from index slot ∷ []) (calm_append (cleared index (stands post index)) reserved (cleared_calm index (stands post index)) c) refl);
  knows = tt;
}

load_held_turns : (g : Ground) (from index : ℕ) (post : Post) (desk : Desk) (word : ℕ) (one : Bool) → Turns g (keeps.load_held from index post desk word one)
load_held_turns g from index post desk word true = copied_turns g from index post desk [] (stands post from) refl
load_held_turns g from index post desk word false = record { calm = tt; knows = tt }

-- a look is left to another lemma
abbrev pub is_look : KeepAt → Bool
is_look (Looks index key at) = true
is_look at = false

-- all that stood is withdrawn
hidden_calm : (index : ℕ) (rows : List (Option ℕ)) → all_calm (cleared_from index rows) ≡ true
hidden_calm index [] = refl
hidden_calm index (row ∷ rows) = calm_append (cleared index row) (cleared_from (index + 1) rows) (cleared_calm index row) (hidden_calm (index + 1) rows)

taking_turns : (g : Ground) (place : ℕ) (post : Post) (desk : Desk) (left : Bool) (word : ℕ) → Turns g (keeps.taking place post desk left word)
taking_turns g place post desk true word = record { calm = (refl, tt); knows = tt }
taking_turns g place post desk false word = record { calm = tt; knows = tt }

pub keep_turns : (g : Ground) (at : KeepAt) (post : Post) (desk : Desk) (word : ℕ) → is_look at ≡ false → Turns g (keeps.keep_turn at post desk word)
keep_turns g (Loosens let_go) post desk word h =
    let told : List Event = cleared (let_index let_go) (stands post (let_index let_go)) in
    turns_adds g told (keeps.keep_turn (Loosens let_go) post desk word) (cleared_calm (let_index let_go) (stands post (let_index let_go))) (released_adds let_go (withdrawn post (let_index let_go)) desk told)
keep_turns g (LoadHeld from index) post desk word h = load_held_turns g from index post desk word (has_one_interval (scheme_of post))
keep_turns g (StoreHeld from index era) post desk word h = copied_turns g from index post desk (publishes_index (publishes_rows (scheme_of post)) post index era) (stands post from) (shown_calm (publishes_rows (scheme_of post)) post index era)
keep_turns g (Looks index key at) post desk word h = absurd (cc)
keep_turns g (Misses index) post desk word h = record { calm = tt; knows = tt }
keep_turns g HideSpan post desk word h = record {
  calm = calm_claimed g.shelf (cleared_from 2 (drop 2 post.standing) ++ reserves_span post None) (calm_append (cleared_from 2 (drop 2 post.standing)) (reserves_span post None) (hidden_calm 2 (drop 2 post.standing)) refl);
  knows = tt;
}
keep_turns g MarkLeft post desk word h = record { calm = (refl, tt); knows = tt }
keep_turns g (TakeList place) post desk word h = taking_turns g place post desk (word == 1) word
keep_turns g (MarkTaken place count) post desk word h = record { calm = tt; knows = tt }

-- a machine's end that no get or change waits for
abbrev pub resumes_plain : Why → Bool
resumes_plain (Opens task) = opens_plain task
resumes_plain (FollowsHead head tail) = true
resumes_plain (Fills task) = task_plain task
resumes_plain why = true

resume_adds : (why : Why) (ending : Ending) (post : Post) (desk : Desk) (told : List Event) → resumes_plain why ≡ true → Adds told (steps.resume why ending post desk told)
resume_adds (Opens task) ending post desk told h = opened_adds task ending post desk told h
resume_adds (FollowsHead head tail) ending post desk told h = followed_by_adds head tail ending post desk told
resume_adds (Fills task) ending post desk told h = filled_adds task ending post desk told h
resume_adds (ClearsNext next) ending post desk told h = clearing_adds Dequeues next post desk told
resume_adds (Clears task next) ending post desk told h = finishing_adds task next post desk told
resume_adds (Finishes task next) ending post desk told h = closed_adds task next post desk told
resume_adds (GivesUp answer) ending post desk told h = adds_none told (steps.resume (GivesUp answer) ending post desk told) refl refl
resume_adds (Retires answer) ending post desk told h = retired_adds answer ending post desk told
resume_adds (Tidies later) ending post desk told h = tidied_adds later ending post desk told
resume_adds Advances ending post desk told h = advanced_adds ending post desk told
resume_adds (Releases let_go) ending post desk told h = released_adds let_go post desk told

resumed_turns : (g : Ground) (why : Why) (desk : Desk) (post : Post) (told : List Event) (outcome : Outcome) → resumes_plain why ≡ true → why_plain why ≡ true → all_calm told ≡ true → Turns g (steps.resumed why desk post told outcome)
resumed_turns g why desk post told (Goes base) h p c = record { calm = calm_claimed g.shelf told c; knows = plain_knows g (Runs why base) p }
resumed_turns g why desk post told (Ends ending) h p c = turns_adds g told (steps.resume why ending post desk told) c (resume_adds why ending post desk told h)

pub plain_turns : (g : Ground) (why : Why) (base : Base) (desk : Desk) (next : Post) (word : ℕ) → resumes_plain why ≡ true → why_plain why ≡ true → Turns g (steps.run_turn why desk (machine.after base next word))
plain_turns g why base desk next word h p =
    let t : Turn = machine.after base next word in
    resumed_turns g why desk t.post t.told t.outcome h p (base_calm base next word)

-- a get's root is protected
abbrev pub Holding : Outcome → (ℕ → Type 0) → Type 0
Holding outcome p = (slot era : ℕ) → outcome ≡ Ends (Protected (protect_ends.Held slot era)) → p slot

opened_get : (g : Ground) (key : ℕ) (ending : Ending) (post : Post) (desk : Desk) (told : List Event) → all_calm told ≡ true → Holding (Ends ending) (λ s. g.shelf.root s ≡ roots.Bucket (key % g.buckets)) → Turns g (steps.opened (Gets key) ending post desk told)
opened_get g key (Protected (protect_ends.Held slot era)) post desk told c h = record { calm = calm_claimed g.shelf told c; knows = h slot era refl }
opened_get g key (Protected protect_ends.Null) post desk told c h = got_turns g key 0 None post desk told c (FromNone refl refl)
opened_get g key Done post desk told c h = record { calm = calm_claimed g.shelf told c; knows = tt }
opened_get g key (Followed ending) post desk told c h = record { calm = calm_claimed g.shelf told c; knows = tt }
opened_get g key (Allocated ending) post desk told c h = record { calm = calm_claimed g.shelf told c; knows = tt }
opened_get g key (Retired life) post desk told c h = record { calm = calm_claimed g.shelf told c; knows = tt }
opened_get g key (Clocked clock) post desk told c h = record { calm = calm_claimed g.shelf told c; knows = tt }

pub get_resumed : (g : Ground) (key : ℕ) (desk : Desk) (post : Post) (told : List Event) (outcome : Outcome) → all_calm told ≡ true → Holding outcome (λ s. g.shelf.root s ≡ roots.Bucket (key % g.buckets)) → Turns g (steps.resumed (Opens (Gets key)) desk post told outcome)
get_resumed g key desk post told (Goes base) c h = record { calm = calm_claimed g.shelf told c; knows = tt }
get_resumed g key desk post told (Ends ending) c h = opened_get g key ending post desk told c h

-- a change's root is protected
opened_change : (g : Ground) (kept : ChangeKept) (ending : Ending) (post : Post) (desk : Desk) (told : List Event) → all_calm told ≡ true → Holding (Ends ending) (λ s. g.shelf.root s ≡ roots.Bucket (changes_in g kept)) → Turns g (steps.opened (Changes kept) ending post desk told)
opened_change g kept (Protected (protect_ends.Held slot era)) post desk told c h = record { calm = calm_claimed g.shelf told c; knows = record { link = refl; root = h slot era refl; none = refl } }
opened_change g kept (Protected protect_ends.Null) post desk told c h = deciding_turns g (alters.at_link kept 0) post desk told c (null_decided g kept)
opened_change g kept Done post desk told c h = record { calm = calm_claimed g.shelf told c; knows = tt }
opened_change g kept (Followed ending) post desk told c h = record { calm = calm_claimed g.shelf told c; knows = tt }
opened_change g kept (Allocated ending) post desk told c h = record { calm = calm_claimed g.shelf told c; knows = tt }
opened_change g kept (Retired life) post desk told c h = record { calm = calm_claimed g.shelf told c; knows = tt }
opened_change g kept (Clocked clock) post desk told c h = record { calm = calm_claimed g.shelf told c; knows = tt }

pub change_resumed : (g : Ground) (kept : ChangeKept) (desk : Desk) (post : Post) (told : List Event) (outcome : Outcome) → all_calm told ≡ true → Holding outcome (λ s. g.shelf.root s ≡ roots.Bucket (changes_in g kept)) → Turns g (steps.resumed (Opens (Changes kept)) desk post told outcome)
change_resumed g kept desk post told (Goes base) c h = record { calm = calm_claimed g.shelf told c; knows = tt }
change_resumed g kept desk post told (Ends ending) c h = opened_change g kept ending post desk told c h

-- a change fills its row

decided_on : (n : ℕ) (a : Shelf) (m k : Place → ℕ) (kept : ChangeKept) → Decided (on n a m) kept → Decided (on n a k) kept
decided_on n a m k kept h = record { fresh = h.fresh; none = h.none; root = h.root; version = h.version; pairs = h.pairs }

taken_decided : (g : Ground) (kept : ChangeKept) (slot : ℕ) → Decided g kept → Decided g (alters.with_taken kept slot)
taken_decided g kept slot h = record { fresh = h.fresh; none = h.none; root = h.root; version = h.version; pairs = h.pairs }

given_turns : (g : Ground) (kept : ChangeKept) (ending : AllocateEnd) (post : Post) (desk : Desk) → Decided g kept → Turns g (steps.resumed (Fills (Changes kept)) desk post [] (Ends (Allocated ending)))
given_turns g kept (allocate_ends.Given slot birth) post desk h = record { calm = tt; knows = record { decided = taken_decided g kept slot h; same = refl; words = λ q low high. absurd (omega arith) } }
given_turns g kept allocate_ends.Full post desk h = clearing_turns g (Changes (alters.with_walked kept)) (alters.no_room kept.walked) post desk [] refl

walking_turns : (g : Ground) (kept : ChangeKept) (birth : ℕ) (post : Post) (desk : Desk) (x : Option Walk) → Decided g kept → Turns g (steps.run_turn (Fills (Changes kept)) desk (walking birth post x))
walking_turns g kept birth post desk None h = given_turns g kept allocate_ends.Full post desk h
walking_turns g kept birth post desk (Some walk) h = record { calm = tt; knows = h }

claiming_turns : (g : Ground) (kept : ChangeKept) (birth : ℕ) (walk : Walk) (post : Post) (desk : Desk) (word : ℕ) → Decided g kept → Turns g (steps.run_turn (Fills (Changes kept)) desk (machine.allocate_turn (ClaimSlot birth walk) post word))
claiming_turns g kept birth walk post desk word h = by_shown (is_claimed word walk.slot) refl
  where
    by_shown : (x : Bool) → is_claimed word walk.slot ≡ x → Turns g (steps.run_turn (Fills (Changes kept)) desk (machine.allocate_turn (ClaimSlot birth walk) post word))
    by_shown true e = rw e (walking_turns g kept birth post desk (walk_past post.layout.config.slots walk word) h)
    by_shown false e = rw e (record { calm = (refl, tt); knows = h })

allocate_turns : (g : Ground) (kept : ChangeKept) (at : AllocateAt) (post : Post) (desk : Desk) (word : ℕ) → Decided g kept → Turns g (steps.run_turn (Fills (Changes kept)) desk (machine.allocate_turn at post word))
allocate_turns g kept LoadBirth post desk word h = record { calm = tt; knows = h }
allocate_turns g kept (ClaimSlot birth walk) post desk word h = claiming_turns g kept birth walk post desk word h
allocate_turns g kept (StoreLife birth slot) post desk word h = given_turns g kept (allocate_ends.Given slot birth) post desk h

last_place : (row : RowOf) (place : ℕ) (kept : ChangeKept) → (place == last_written row) ≡ true → row ≡ alters.new_row kept → place + 1 ≡ 3 + 2 * length kept.pairs
last_place row place kept e h =
    let there : (place == 2 + 2 * length kept.pairs) ≡ true = subst (λ (r : RowOf). (place == last_written r) ≡ true) h e in
    let at : place ≡ 2 + 2 * length kept.pairs = grind (arith, nat_tests) in
    omega arith

write_turns : (n : ℕ) (a : Shelf) (mem : Place → ℕ) (kept : ChangeKept) (slot : ℕ) (row : RowOf) (place : ℕ) (post : Post) (desk : Desk) (last : Bool) → (place == last_written row) ≡ last → holds_slot kept.taken slot ≡ true → Writing (on n a mem) kept slot row place
    → Turns (on n a (put mem (Row slot place) (row_word row place))) (steps.run_turn (Fills (Changes kept)) desk (if last then ends post [] Done else goes post [] (Write slot row (place + 1))))
write_turns n a mem kept slot row place post desk false e t h =
    record { calm = tt; knows = record { decided = decided_on n a mem (put mem (Row slot place) (row_word row place)) kept h.decided; same = h.same; words = filled_next mem slot row place h.words } }
write_turns n a mem kept slot row place post desk true e t h =
    let after : Place → ℕ = put mem (Row slot place) (row_word row place) in
    let all : Filled after slot row (place + 1) = filled_next mem slot row place h.words in
    let last : place + 1 ≡ 3 + 2 * length kept.pairs = last_place row place kept e h.same in
    record {
      calm = tt;
      knows = record {
        decided = decided_on n a mem after kept h.decided;
        words = subst (λ (s : ℕ). Filled after s (alters.new_row kept) (3 + 2 * length kept.pairs)) (sym (taken_in kept.taken slot t)) (subst (λ (k : ℕ). Filled after slot (alters.new_row kept) k) last (subst (λ (r : RowOf). Filled after slot r (place + 1)) h.same all));
      };
    }

-- one step of a seat that fills a row for a change
pub fill_turns : (n : ℕ) (a : Shelf) (mem : Place → ℕ) (kept : ChangeKept) (base : Base) (post next : Post) (desk : Desk) → fills_right base kept.taken ≡ true → FillKnows (on n a mem) kept base
    → Turns (on n a (written mem (base_move base post))) (steps.run_turn (Fills (Changes kept)) desk (machine.after base next (found (base_move base post) (mem (place_in (base_move base post))))))
fill_turns n a mem kept (Allocate at) post next desk r h =
    allocate_turns (on n a (written mem (machine.allocate_move at))) kept at next desk (found (machine.allocate_move at) (mem (place_in (machine.allocate_move at)))) (decided_on n a mem (written mem (machine.allocate_move at)) kept h)
fill_turns n a mem kept (Write slot row place) post next desk r h = write_turns n a mem kept slot row place next desk (place == last_written row) refl r h
fill_turns n a mem kept (Begin at) post next desk r h = absurd (no_truth r)
fill_turns n a mem kept (Protect aim index root count at) post next desk r h = absurd (no_truth r)
fill_turns n a mem kept (Reload parent index slot era count) post next desk r h = absurd (no_truth r)
fill_turns n a mem kept (Clear rows index) post next desk r h = absurd (no_truth r)
fill_turns n a mem kept Finish post next desk r h = absurd (no_truth r)
fill_turns n a mem kept (Release index) post next desk r h = absurd (no_truth r)
fill_turns n a mem kept (GiveUp slot) post next desk r h = absurd (no_truth r)
fill_turns n a mem kept (Retire at) post next desk r h = absurd (no_truth r)
fill_turns n a mem kept (Move at) post next desk r h = absurd (no_truth r)

-- an enqueue fills its row

item_given : (g : Ground) (kept : EnqueueKept) (ending : AllocateEnd) (post : Post) (desk : Desk) → Turns g (steps.resumed (Fills (Enqueues kept)) desk post [] (Ends (Allocated ending)))
item_given g kept (allocate_ends.Given slot birth) post desk = record { calm = tt; knows = record { same = refl; words = λ q low high. absurd (omega arith) } }
item_given g kept allocate_ends.Full post desk = clearing_turns g (Enqueues (enqueues.item_walked kept)) (alters.no_room kept.walked) post desk [] refl

item_walking : (g : Ground) (kept : EnqueueKept) (birth : ℕ) (post : Post) (desk : Desk) (x : Option Walk) → Turns g (steps.run_turn (Fills (Enqueues kept)) desk (walking birth post x))
item_walking g kept birth post desk None = item_given g kept allocate_ends.Full post desk
item_walking g kept birth post desk (Some walk) = record { calm = tt; knows = tt }

item_allocate : (g : Ground) (kept : EnqueueKept) (at : AllocateAt) (post : Post) (desk : Desk) (word : ℕ) → Turns g (steps.run_turn (Fills (Enqueues kept)) desk (machine.allocate_turn at post word))
item_allocate g kept LoadBirth post desk word = record { calm = tt; knows = tt }
item_allocate g kept (ClaimSlot birth walk) post desk word = by_shown (is_claimed word walk.slot) refl
  where
    by_shown : (x : Bool) → is_claimed word walk.slot ≡ x → Turns g (steps.run_turn (Fills (Enqueues kept)) desk (machine.allocate_turn (ClaimSlot birth walk) post word))
    by_shown true e = rw e (item_walking g kept birth post desk (walk_past post.layout.config.slots walk word))
    by_shown false e = rw e (record { calm = (refl, tt); knows = tt })
item_allocate g kept (StoreLife birth slot) post desk word = item_given g kept (allocate_ends.Given slot birth) post desk

item_last : (row : RowOf) (place : ℕ) (kept : EnqueueKept) → (place == last_written row) ≡ true → row ≡ enqueues.new_item kept → place + 1 ≡ 3
item_last row place kept e h =
    let there : (place == 2) ≡ true = subst (λ (r : RowOf). (place == last_written r) ≡ true) h e in
    let at : place ≡ 2 = grind (arith, nat_tests) in
    omega arith

item_writes : (n : ℕ) (a : Shelf) (mem : Place → ℕ) (kept : EnqueueKept) (slot : ℕ) (row : RowOf) (place : ℕ) (post : Post) (desk : Desk) (last : Bool) → (place == last_written row) ≡ last → holds_slot kept.taken slot ≡ true → WritingItem (on n a mem) kept slot row place
    → Turns (on n a (put mem (Row slot place) (row_word row place))) (steps.run_turn (Fills (Enqueues kept)) desk (if last then ends post [] Done else goes post [] (Write slot row (place + 1))))
item_writes n a mem kept slot row place post desk false e t h = record { calm = tt; knows = record { same = h.same; words = filled_next mem slot row place h.words } }
item_writes n a mem kept slot row place post desk true e t h =
    let after : Place → ℕ = put mem (Row slot place) (row_word row place) in
    let all : Filled after slot row (place + 1) = filled_next mem slot row place h.words in
    record {
      calm = tt;
      knows = subst (λ (s : ℕ). Filled after s (enqueues.new_item kept) 3) (sym (taken_in kept.taken slot t)) (subst (λ (k : ℕ). Filled after slot (enqueues.new_item kept) k) (item_last row place kept e h.same) (subst (λ (r : RowOf). Filled after slot r (place + 1)) h.same all));
    }

pub item_turns : (n : ℕ) (a : Shelf) (mem : Place → ℕ) (kept : EnqueueKept) (base : Base) (post next : Post) (desk : Desk) → fills_right base kept.taken ≡ true → ItemKnows (on n a mem) kept base
    → Turns (on n a (written mem (base_move base post))) (steps.run_turn (Fills (Enqueues kept)) desk (machine.after base next (found (base_move base post) (mem (place_in (base_move base post))))))
item_turns n a mem kept (Allocate at) post next desk r h = item_allocate (on n a (written mem (machine.allocate_move at))) kept at next desk (found (machine.allocate_move at) (mem (place_in (machine.allocate_move at))))
item_turns n a mem kept (Write slot row place) post next desk r h = item_writes n a mem kept slot row place next desk (place == last_written row) refl r h
item_turns n a mem kept (Begin at) post next desk r h = absurd (no_truth r)
item_turns n a mem kept (Protect aim index root count at) post next desk r h = absurd (no_truth r)
item_turns n a mem kept (Reload parent index slot era count) post next desk r h = absurd (no_truth r)
item_turns n a mem kept (Clear rows index) post next desk r h = absurd (no_truth r)
item_turns n a mem kept Finish post next desk r h = absurd (no_truth r)
item_turns n a mem kept (Release index) post next desk r h = absurd (no_truth r)
item_turns n a mem kept (GiveUp slot) post next desk r h = absurd (no_truth r)
item_turns n a mem kept (Retire at) post next desk r h = absurd (no_truth r)
item_turns n a mem kept (Move at) post next desk r h = absurd (no_truth r)
