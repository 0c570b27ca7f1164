-- A step of a machine, by what comes after it: what is in hand, and the list.
use Rattle.std.proofs.Common.{ℕ, ◌%◌, ◌≡◌, Bool, true, false, arith, refl, ap, List, [], ◌∷◌, ◌++◌}
use Rattle.std.proofs.lemmas.Bool.Decides.{nat_tests}
use Rattle.std.specs.Prelude.{◌==◌, Option, Some, None}
use Rattle.wfe_core.specs.defs.declared.call.Answer.{Answer}
use Rattle.wfe_core.specs.defs.declared.event.Event.{Event}
use Rattle.wfe_core.specs.defs.declared.lifetime.Lifetime.{Lifetime}
use Rattle.wfe_core.specs.declared.ends.AllocateEnd.TheVariants as allocate_ends
use Rattle.wfe_core.specs.declared.post.Post.{Post}
use Rattle.wfe_core.specs.Desks.{Desk, with_life}
use Rattle.wfe_core.specs.Phases.{Base, Ending as endings, Aim, Alone, Follows, BeginAt, ProtectAt, AllocateAt, MoveAt, RowOf, Outcome, Goes, Ends, Turn}
use Rattle.wfe_core.specs.Phases.Ending.{Done, Allocated}
use Rattle.wfe_core.specs.Change as alters
use Rattle.wfe_core.specs.Enqueue as enqueues
use Rattle.wfe_core.specs.Steps as steps
use Rattle.wfe_core.specs.Calls.{Task, Gets, Changes, Holds, Enqueues, Dequeues, Again, Why, Opens, FollowsHead, Fills, ClearsNext, Clears, Finishes, GivesUp, Retires, Tidies, Advances, Releases, Answered}
use Rattle.inv_rows.specs.Rows.Hand.{Empty, Taken}
use Rattle.inv_rows.specs.Hands.{hand_of, hand_task, hand_next, is_plain, fills_right, holds_none, holds_slot, Leaves, hand_why, task_fills}
use Rattle.wfe_core.specs.defs.declared.event.Root.{Root}
use Rattle.wfe_core.specs.Phases.BeginAt.{LoadLower, PublishSpan}
use Rattle.wfe_core.specs.Phases.ProtectAt.{LoadClock, PublishEra, LoadLink, CheckClock, PublishRequest, LoadOwnClock, PublishHelper, LoadOwnLink, CheckOwnClock, AnswerOwn, LoadAnswer, TakeAnswer, WithdrawRequest, WithdrawHelper, LoadWithin, CheckUpper, RaiseUpper, ByHazard}
use Rattle.wfe_core.specs.Phases.HazardAt.{FirstLink, PublishLink, CheckLink}
use Rattle.wfe_core.specs.Phases.MoveAt.{LoadEra, LoadRequest, ShowEra, LoadAsked, CheckEra, AnswerAsked, LoadReserved, HandOver, HideEra, HideLate, ExchangeClock}
use Rattle.wfe_core.specs.Phases.Base.{Begin, Protect, Reload, Clear, Finish, Release, Allocate, Write, GiveUp, Retire, Move}
use Rattle.wfe_core.specs.Machine as machine
use Rattle.wfe_core.specs.Machine.{base_move}
use Rattle.wfe_core.specs.Memory.{bump}
use Rattle.wfe_core.specs.Protect as protects
use Rattle.wfe_core.specs.MoveClock as movers
use Rattle.wfe_core.specs.words.Packed.{reservation_word}
use Rattle.wfe_core.specs.Posts.{reserves_helper}
use Rattle.wfe_core.proofs.Facts.{same_number}
use Rattle.inv_rows.proofs.Words.{is_writing}
use Rattle.inv_rows.proofs.Rounds.{closed_leaves, finishing_leaves, clearing_leaves, leaves_along, tidy_hand, tidy_right}
use Rattle.inv_rows.proofs.Turns.{opened_leaves, followed_by_leaves, tidied_leaves, advanced_leaves, released_leaves}

-- a machine that handles no row goes on as one
abbrev goes_plain : Outcome → Bool
goes_plain (Goes base) = is_plain base
goes_plain (Ends ending) = true

abbrev Plain : Turn → Type 0
Plain t = goes_plain t.outcome ≡ true

concluded_plain : (aim : Aim) (index : ℕ) (root : Root) (n link era : ℕ) (post : Post) (told : List Event) → Plain (protects.concluded aim index root n link era post told)
concluded_plain Alone index root n link era post told = refl
concluded_plain Follows index root n link era post told = grind arith

protected_plain : (aim : Aim) (index : ℕ) (root : Root) (n link era : ℕ) (post : Post) → Plain (protects.protected aim index root n link era post)
protected_plain aim index root n link era post = concluded_plain aim index root n link era (protects.held_post post index root link) (protects.told_held index root link n)

begin_goes : (at : BeginAt) (post : Post) (found : ℕ) → Plain (machine.begin_turn at post found)
begin_goes LoadLower post found = refl
begin_goes (PublishSpan era) post found = refl

protect_goes : (aim : Aim) (index : ℕ) (root : Root) (n : ℕ) (at : ProtectAt) (post : Post) (found : ℕ) → Plain (machine.protect_turn aim index root n at post found)
protect_goes aim index root n (LoadClock tries) post found = refl
protect_goes aim index root n (PublishEra era tries) post found = refl
protect_goes aim index root n (LoadLink era tries) post found = refl
protect_goes aim index root n (CheckClock era tries link) post found = grind (arith, protected_plain aim index root n link era post)
protect_goes aim index root n PublishRequest post found = refl
protect_goes aim index root n LoadOwnClock post found = refl
protect_goes aim index root n (PublishHelper first era last) post found = refl
protect_goes aim index root n (LoadOwnLink first era last) post found = refl
protect_goes aim index root n (CheckOwnClock first era last link) post found = grind arith
protect_goes aim index root n (AnswerOwn first era link) post found = grind arith
protect_goes aim index root n (LoadAnswer first) post found = refl
protect_goes aim index root n (TakeAnswer link era) post found = refl
protect_goes aim index root n (WithdrawRequest link era) post found = refl
protect_goes aim index root n (WithdrawHelper link era) post found = concluded_plain aim index root n link era post (reserves_helper post 0)
protect_goes aim index root n LoadWithin post found = refl
protect_goes aim index root n (CheckUpper link) post found = grind (arith, protected_plain aim index root n link found post)
protect_goes aim index root n (RaiseUpper era) post found = refl
protect_goes aim index root n (ByHazard FirstLink) post found = grind (arith, protected_plain aim index root n found 0 post)
protect_goes aim index root n (ByHazard (PublishLink link)) post found = refl
protect_goes aim index root n (ByHazard (CheckLink link)) post found = grind (arith, protected_plain aim index root n found 0 post)

move_goes : (at : MoveAt) (post : Post) (found : ℕ) → Plain (machine.move_turn at post found)
move_goes (LoadEra helps) post found = grind arith
move_goes (LoadRequest era seat shows) post found = refl
move_goes (ShowEra era seat tag index root) post found = refl
move_goes (LoadAsked era seat tag index root) post found = refl
move_goes (CheckEra era seat tag index root link) post found = grind arith
move_goes (AnswerAsked era seat tag index root link) post found = grind arith
move_goes (LoadReserved era seat tag index root link) post found = grind arith
move_goes (HandOver era seat tag index root link old) post found = handed (found == reservation_word (record { era = old; tag = tag }))
  where
    handed : (same : Bool) → Plain (movers.after_hand_over era seat tag index old post same)
    handed true = refl
    handed false = refl
move_goes (HideEra era) post found = refl
move_goes (HideLate seen) post found = refl
move_goes (ExchangeClock era) post found = grind arith

pub plain_goes : (base : Base) (post : Post) (found : ℕ) → is_plain base ≡ true → Plain (machine.after base post found)
plain_goes (Begin at) post found h = begin_goes at post found
plain_goes (Protect aim index root steps at) post found h = protect_goes aim index root (bump steps) at post found
plain_goes (Reload parent index slot era steps) post found h = grind arith
plain_goes (Clear rows index) post found h = refl
plain_goes Finish post found h = refl
plain_goes (Release index) post found h = refl
plain_goes (Allocate at) post found h = cc
plain_goes (Write slot row place) post found h = cc
plain_goes (GiveUp slot) post found h = cc
plain_goes (Retire at) post found h = cc
plain_goes (Move at) post found h = move_goes at post found

-- it writes no word by which rows are known
protect_writes : (index : ℕ) (root : Root) (at : ProtectAt) (post : Post) → is_writing (machine.protect_move index root at post) ≡ false
protect_writes index root (LoadClock tries) post = refl
protect_writes index root (PublishEra era tries) post = refl
protect_writes index root (LoadLink era tries) post = refl
protect_writes index root (CheckClock era tries link) post = refl
protect_writes index root PublishRequest post = refl
protect_writes index root LoadOwnClock post = refl
protect_writes index root (PublishHelper first era last) post = refl
protect_writes index root (LoadOwnLink first era last) post = refl
protect_writes index root (CheckOwnClock first era last link) post = refl
protect_writes index root (AnswerOwn first era link) post = refl
protect_writes index root (LoadAnswer first) post = refl
protect_writes index root (TakeAnswer link era) post = refl
protect_writes index root (WithdrawRequest link era) post = refl
protect_writes index root (WithdrawHelper link era) post = refl
protect_writes index root LoadWithin post = refl
protect_writes index root (CheckUpper link) post = refl
protect_writes index root (RaiseUpper era) post = refl
protect_writes index root (ByHazard FirstLink) post = refl
protect_writes index root (ByHazard (PublishLink link)) post = refl
protect_writes index root (ByHazard (CheckLink link)) post = refl

move_writes : (at : MoveAt) (post : Post) → is_writing (machine.move_move at post) ≡ false
move_writes (LoadEra helps) post = refl
move_writes (LoadRequest era seat shows) post = refl
move_writes (ShowEra era seat tag index root) post = refl
move_writes (LoadAsked era seat tag index root) post = refl
move_writes (CheckEra era seat tag index root link) post = refl
move_writes (AnswerAsked era seat tag index root link) post = refl
move_writes (LoadReserved era seat tag index root link) post = refl
move_writes (HandOver era seat tag index root link old) post = refl
move_writes (HideEra era) post = refl
move_writes (HideLate seen) post = refl
move_writes (ExchangeClock era) post = refl

begin_writes : (at : BeginAt) (post : Post) → is_writing (machine.begin_move at post) ≡ false
begin_writes LoadLower post = refl
begin_writes (PublishSpan era) post = refl

pub plain_writes : (base : Base) (post : Post) → is_plain base ≡ true → is_writing (base_move base post) ≡ false
plain_writes (Begin at) post h = begin_writes at post
plain_writes (Protect aim index root steps at) post h = protect_writes index root at post
plain_writes (Reload parent index slot era steps) post h = refl
plain_writes (Clear rows index) post h = refl
plain_writes Finish post h = refl
plain_writes (Release index) post h = refl
plain_writes (Allocate at) post h = cc
plain_writes (Write slot row place) post h = cc
plain_writes (GiveUp slot) post h = cc
plain_writes (Retire at) post h = cc
plain_writes (Move at) post h = move_writes at post

-- what comes after it has in hand what it had
abbrev pub is_plain_why : Why → Bool
is_plain_why (Opens task) = true
is_plain_why (FollowsHead head tail) = true
is_plain_why (Fills task) = false
is_plain_why (ClearsNext next) = true
is_plain_why (Clears task next) = true
is_plain_why (Finishes task next) = true
is_plain_why (GivesUp answer) = false
is_plain_why (Retires answer) = false
is_plain_why why = true

pub plain_leaves : (why : Why) (base : Base) (desk : Desk) (post : Post) (told : List Event) (outcome : Outcome) → is_plain_why why ≡ true → goes_plain outcome ≡ true → Leaves (hand_why why base) desk.list (steps.resumed why desk post told outcome)
plain_leaves (Opens task) base desk post told (Goes next_base) h g = record { hand = refl; right = g; list = refl }
plain_leaves (Opens task) base desk post told (Ends ending) h g = opened_leaves task ending post desk told
plain_leaves (FollowsHead head tail) base desk post told (Goes next_base) h g = record { hand = refl; right = g; list = refl }
plain_leaves (FollowsHead head tail) base desk post told (Ends ending) h g = followed_by_leaves head tail ending post desk told
plain_leaves (ClearsNext next) base desk post told (Goes next_base) h g = record { hand = refl; right = g; list = refl }
plain_leaves (ClearsNext next) base desk post told (Ends ending) h g = clearing_leaves Dequeues next post desk told
plain_leaves (Clears task next) base desk post told (Goes next_base) h g = record { hand = refl; right = g; list = refl }
plain_leaves (Clears task next) base desk post told (Ends ending) h g = finishing_leaves task next post desk told
plain_leaves (Finishes task next) base desk post told (Goes next_base) h g = record { hand = refl; right = g; list = refl }
plain_leaves (Finishes task next) base desk post told (Ends ending) h g = closed_leaves task next post desk told
plain_leaves (Tidies later) base desk post told (Goes next_base) h g = record { hand = refl; right = g; list = refl }
plain_leaves (Tidies later) base desk post told (Ends ending) h g = tidied_leaves later ending post desk told
plain_leaves Advances base desk post told (Goes next_base) h g = record { hand = refl; right = g; list = refl }
plain_leaves Advances base desk post told (Ends ending) h g = advanced_leaves ending post desk told
plain_leaves (Releases let_go) base desk post told (Goes next_base) h g = record { hand = refl; right = g; list = refl }
plain_leaves (Releases let_go) base desk post told (Ends ending) h g = released_leaves let_go post desk told
plain_leaves why base desk post told outcome h g = cc

-- a row is filled: the task's row, or one that is taken now
room_hand : (task : Task) (walked : Bool) → hand_next task (alters.no_room walked) ≡ hand_task task
room_hand task true = refl
room_hand task false = refl

full_leaves : (task : Task) (post : Post) (desk : Desk) (told : List Event) → Leaves (hand_task task) desk.list (steps.resume (Fills task) (Allocated allocate_ends.Full) post desk told)
full_leaves (Gets key) post desk told = closed_leaves (Gets key) Again post desk told
full_leaves (Changes kept) post desk told =
    leaves_along
    (hand_next (Changes (alters.with_walked kept)) (alters.no_room kept.walked))
    (hand_of kept.taken)
    desk.list
    (steps.resume (Fills (Changes kept)) (Allocated allocate_ends.Full) post desk told)
    (room_hand (Changes (alters.with_walked kept)) kept.walked)
    (clearing_leaves (Changes (alters.with_walked kept)) (alters.no_room kept.walked) post desk told)
full_leaves (Holds key) post desk told = closed_leaves (Holds key) Again post desk told
full_leaves (Enqueues kept) post desk told =
    leaves_along
    (hand_next (Enqueues (enqueues.item_walked kept)) (alters.no_room kept.walked))
    (hand_of kept.taken)
    desk.list
    (steps.resume (Fills (Enqueues kept)) (Allocated allocate_ends.Full) post desk told)
    (room_hand (Enqueues (enqueues.item_walked kept)) kept.walked)
    (clearing_leaves (Enqueues (enqueues.item_walked kept)) (alters.no_room kept.walked) post desk told)
full_leaves Dequeues post desk told = closed_leaves Dequeues Again post desk told

taken_empty : (x : Option ℕ) → holds_none x ≡ true → hand_of x ≡ Empty
taken_empty None h = refl
taken_empty (Some slot) h = cc

pub taken_slot : (x : Option ℕ) (slot : ℕ) → holds_slot x slot ≡ true → hand_of x ≡ Taken slot
taken_slot None slot h = cc
taken_slot (Some taken) slot h = let e : taken ≡ slot = grind (arith, nat_tests) in ap Taken e

slot_taken : (x : Option ℕ) (slot : ℕ) → holds_slot x slot ≡ true → holds_slot x (steps.slot_in x) ≡ true
slot_taken None slot h = cc
slot_taken (Some taken) slot h = grind (arith, nat_tests)

task_empty : (task : Task) (at : AllocateAt) → task_fills task (Allocate at) ≡ true → hand_task task ≡ Empty
task_empty (Gets key) at h = cc
task_empty (Changes kept) at h = taken_empty kept.taken h
task_empty (Holds key) at h = cc
task_empty (Enqueues kept) at h = taken_empty kept.taken h
task_empty Dequeues at h = cc

pub spent_leaves : (task : Task) (at : AllocateAt) (post : Post) (desk : Desk) (told : List Event) → task_fills task (Allocate at) ≡ true → Leaves Empty desk.list (steps.resume (Fills task) (Allocated allocate_ends.Full) post desk told)
spent_leaves task at post desk told h =
    leaves_along (hand_task task) Empty desk.list (steps.resume (Fills task) (Allocated allocate_ends.Full) post desk told) (task_empty task at h) (full_leaves task post desk told)

pub given_leaves : (task : Task) (at : AllocateAt) (slot birth : ℕ) (post : Post) (desk : Desk) (told : List Event) → task_fills task (Allocate at) ≡ true → Leaves (Taken slot) desk.list (steps.resume (Fills task) (Allocated (allocate_ends.Given slot birth)) post desk told)
given_leaves (Gets key) at slot birth post desk told h = absurd (cc)
given_leaves (Changes kept) at slot birth post desk told h = record { hand = refl; right = same_number slot; list = refl }
given_leaves (Holds key) at slot birth post desk told h = absurd (cc)
given_leaves (Enqueues kept) at slot birth post desk told h = record { hand = refl; right = same_number slot; list = refl }
given_leaves Dequeues at slot birth post desk told h = absurd (cc)

pub written_leaves : (task : Task) (slot : ℕ) (row : RowOf) (place : ℕ) (post : Post) (desk : Desk) (told : List Event) → task_fills task (Write slot row place) ≡ true → Leaves (Taken slot) desk.list (steps.resume (Fills task) Done post desk told)
written_leaves (Gets key) slot row place post desk told h = absurd (cc)
written_leaves (Changes kept) slot row place post desk told h = record { hand = taken_slot kept.taken slot h; right = slot_taken kept.taken slot h; list = refl }
written_leaves (Holds key) slot row place post desk told h = absurd (cc)
written_leaves (Enqueues kept) slot row place post desk told h = record { hand = taken_slot kept.taken slot h; right = slot_taken kept.taken slot h; list = refl }
written_leaves Dequeues slot row place post desk told h = absurd (cc)

-- the row is retired: its life goes into the list
pub retired_leaves : (answer : Answer) (life : Lifetime) (post : Post) (desk : Desk) (told : List Event) → Leaves Empty (desk.list ++ life ∷ []) (steps.resume (Retires answer) (endings.Retired life) post desk told)
retired_leaves answer life post desk told = by_due (post.retired % post.layout.config.every == 0)
  where
    by_due : (due : Bool) → Leaves Empty (desk.list ++ life ∷ []) (steps.tidying answer post (with_life desk life) told due)
    by_due true = record { hand = tidy_hand (Answered answer) post; right = tidy_right (Answered answer) post (desk.list ++ life ∷ []); list = refl }
    by_due false = record { hand = refl; right = refl; list = refl }

-- only rows are taken and written where a row is filled
abbrev pub is_filling : Base → Bool
is_filling (Begin at) = false
is_filling (Protect aim index root steps at) = false
is_filling (Reload parent index slot era steps) = false
is_filling (Clear rows index) = false
is_filling Finish = false
is_filling (Release index) = false
is_filling (Allocate at) = true
is_filling (Write slot row place) = true
is_filling base = false

right_fills : (base : Base) (x : Option ℕ) → fills_right base x ≡ true → is_filling base ≡ true
right_fills (Begin at) x h = h
right_fills (Protect aim index root steps at) x h = h
right_fills (Reload parent index slot era steps) x h = h
right_fills (Clear rows index) x h = h
right_fills Finish x h = h
right_fills (Release index) x h = h
right_fills (Allocate at) x h = refl
right_fills (Write slot row place) x h = refl
right_fills base x h = h

pub only_fills : (task : Task) (base : Base) → task_fills task base ≡ true → is_filling base ≡ true
only_fills (Gets key) base h = absurd (cc)
only_fills (Changes kept) base h = right_fills base kept.taken h
only_fills (Holds key) base h = absurd (cc)
only_fills (Enqueues kept) base h = right_fills base kept.taken h
only_fills Dequeues base h = absurd (cc)
