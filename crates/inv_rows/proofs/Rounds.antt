-- Where a round ends and where the call goes on, what was in hand is in hand, and the list stays.
use Rattle.std.proofs.Common.{ℕ, ◌+◌, ◌≡◌, Bool, true, false, refl, ◌∙◌, List, [], ◌∷◌, ◌++◌}
use Rattle.std.specs.Prelude.{◌==◌, nat_lt, Option, Some, None, drop}
use Rattle.wfe_core.specs.words.Schemes.{has_one_interval, moves, publishes_rows}
use Rattle.wfe_core.specs.words.declared.config.SchemeKind.{SchemeKind}
use Rattle.wfe_core.specs.defs.declared.call.Answer.{Answer}
use Rattle.wfe_core.specs.defs.declared.call.Answer.TheVariants as the_answers
use Rattle.wfe_core.specs.defs.declared.event.Event.TheVariants as events
use Rattle.wfe_core.specs.defs.declared.event.Event.{Event}
use Rattle.wfe_core.specs.defs.declared.lifetime.Interval.{Interval}
use Rattle.wfe_core.specs.defs.declared.lifetime.Lifetime.{Lifetime}
use Rattle.wfe_core.specs.declared.ends.FollowEnd.{FollowEnd}
use Rattle.wfe_core.specs.declared.ends.FollowEnd.TheVariants as follow_ends
use Rattle.wfe_core.specs.declared.post.Post.{Post}
use Rattle.wfe_core.specs.Desks.{Desk}
use Rattle.wfe_core.specs.Posts.{withdrawn, standing_from}
use Rattle.wfe_core.specs.Phases.{Base}
use Rattle.wfe_core.specs.Rounds as rounds
use Rattle.wfe_core.specs.Rounds.{scheme_of, taken_of, round, round_by, begin_base, begin_span, finish_base, finish_span, clear_base, clear_post, clear_told, index_of, closed, given_up, finishing, finishing_by, clearing, clearing_by, clearing_next, clearing_next_by}
use Rattle.wfe_core.specs.Get as gets
use Rattle.wfe_core.specs.Keep as keeps
use Rattle.wfe_core.specs.Change as alters
use Rattle.wfe_core.specs.Enqueue as enqueues
use Rattle.wfe_core.specs.Dequeue as dequeues
use Rattle.wfe_core.specs.Calls.{AfterScan, Repeated, ChangeKept, EnqueueKept, Task, Gets, Changes, Enqueues, Dequeues, Next, Again, MakeRoom, Answering, Retiring, GetAt, FindVersion, FindCount, FindKey, FindValue, CallTurn, LetGo, Parting}
use Rattle.inv_rows.specs.Rows.{Hand}
use Rattle.inv_rows.specs.Rows.Hand.{Empty}
use Rattle.inv_rows.specs.Hands.{hand_of, hand_task, hand_next, hand_base, hand_in, hand_later, is_plain, goes_right, fills_right, Leaves}
use Rattle.wfe_core.proofs.Facts.{same_number, if_by}
use Rattle.wfe_core.proofs.Schemes.{each_begin, each_clear, each_finish, each_release}

-- a scheme's machine, where it takes a step, handles no row
abbrev plain_some : Option Base → Bool
plain_some None = true
plain_some (Some base) = is_plain base

span_plain : (x : Option Interval) → plain_some (begin_span x) ≡ true
span_plain None = refl
span_plain (Some span) = refl

begin_plain : (scheme : SchemeKind) (post : Post) → plain_some (begin_base scheme post) ≡ true
begin_plain scheme post = each_begin scheme post (λ (base : Option Base). plain_some base ≡ true) refl (span_plain post.span)

stands_plain : (x : Option ℕ) → plain_some (finish_span x) ≡ true
stands_plain None = refl
stands_plain (Some slot) = refl

finish_plain : (scheme : SchemeKind) (post : Post) → plain_some (finish_base scheme post) ≡ true
finish_plain scheme post = each_finish scheme post (λ (base : Option Base). plain_some base ≡ true) refl (stands_plain (rounds.kept_row post))

clear_plain : (scheme : SchemeKind) (index : ℕ) → plain_some (clear_base scheme index) ≡ true
clear_plain scheme index = each_clear scheme index (λ (base : Option Base). plain_some base ≡ true) refl refl

let_plain : (index : ℕ) (x : Option ℕ) → plain_some (rounds.release_span index x) ≡ true
let_plain index None = refl
let_plain index (Some slot) = refl

release_plain : (scheme : SchemeKind) (post : Post) (index : ℕ) → plain_some (rounds.release_base scheme post index) ≡ true
release_plain scheme post index = each_release scheme post index (λ (base : Option Base). plain_some base ≡ true) refl (let_plain index (rounds.kept_row (withdrawn post index)))

let_by_hand : (let_go : LetGo) (x : Option Base) → hand_in (rounds.letting_by let_go x) ≡ Empty
let_by_hand let_go None = refl
let_by_hand let_go (Some base) = refl

pub letting_hand : (let_go : LetGo) (post : Post) → hand_in (rounds.letting let_go post) ≡ Empty
letting_hand let_go post = let_by_hand let_go (rounds.release_base (scheme_of post) post (rounds.let_index let_go))

let_by_right : (let_go : LetGo) (x : Option Base) (list : List Lifetime) → plain_some x ≡ true → goes_right (rounds.letting_by let_go x) list ≡ true
let_by_right let_go None list h = refl
let_by_right let_go (Some base) list h = h

pub letting_right : (let_go : LetGo) (post : Post) (list : List Lifetime) → goes_right (rounds.letting let_go post) list ≡ true
letting_right let_go post list =
    let_by_right let_go (rounds.release_base (scheme_of post) post (rounds.let_index let_go)) list (release_plain (scheme_of post) post (rounds.let_index let_go))

round_by_hand : (task : Task) (post : Post) (x : Option Base) → hand_in (round_by task post x) ≡ hand_task task
round_by_hand task post None = refl
round_by_hand task post (Some base) = refl

pub round_hand : (task : Task) (post : Post) → hand_in (round task post) ≡ hand_task task
round_hand task post = round_by_hand task post (begin_base (scheme_of post) post)

round_by_right : (task : Task) (post : Post) (x : Option Base) (list : List Lifetime) → plain_some x ≡ true → goes_right (round_by task post x) list ≡ true
round_by_right task post None list h = refl
round_by_right task post (Some base) list h = h

pub round_right : (task : Task) (post : Post) (list : List Lifetime) → goes_right (round task post) list ≡ true
round_right task post list = round_by_right task post (begin_base (scheme_of post) post) list (begin_plain (scheme_of post) post)

-- a seat that leaves lets go of what stands, and then marks its place
parting_by_hand : (rows : Bool) (x : Option ℕ) → hand_in (keeps.parting_index rows x) ≡ Empty
parting_by_hand rows None = refl
parting_by_hand rows (Some index) = refl

parting_from_hand : (index : ℕ) (post : Post) → hand_in (keeps.parting_from index post) ≡ Empty
parting_from_hand index post = parting_by_hand (publishes_rows (scheme_of post)) (standing_from index (drop index post.standing))

parting_span_hand : (x : Option Interval) → hand_in (keeps.parting_span x) ≡ Empty
parting_span_hand None = refl
parting_span_hand (Some span) = refl

pub parting_hand : (post : Post) → hand_in (keeps.parting post) ≡ Empty
parting_hand post = if_by (has_one_interval (scheme_of post)) (keeps.parting_span post.span) (keeps.parting_from 2 post) (λ phase. hand_in phase ≡ Empty) (λ e. parting_span_hand post.span) (λ e. parting_from_hand 2 post)

parting_by_right : (rows : Bool) (x : Option ℕ) (list : List Lifetime) → goes_right (keeps.parting_index rows x) list ≡ true
parting_by_right rows None list = refl
parting_by_right rows (Some index) list = refl

parting_from_right : (index : ℕ) (post : Post) (list : List Lifetime) → goes_right (keeps.parting_from index post) list ≡ true
parting_from_right index post list = parting_by_right (publishes_rows (scheme_of post)) (standing_from index (drop index post.standing)) list

parting_span_right : (x : Option Interval) (list : List Lifetime) → goes_right (keeps.parting_span x) list ≡ true
parting_span_right None list = refl
parting_span_right (Some span) list = refl

pub parting_right : (post : Post) (list : List Lifetime) → goes_right (keeps.parting post) list ≡ true
parting_right post list = if_by (has_one_interval (scheme_of post)) (keeps.parting_span post.span) (keeps.parting_from 2 post) (λ phase. goes_right phase list ≡ true) (λ e. parting_span_right post.span list) (λ e. parting_from_right 2 post list)

pub parting_leaves : (index : ℕ) (post : Post) (desk : Desk) (told : List Event) → Leaves Empty desk.list (keeps.released (Parting index) post desk told)
parting_leaves index post desk told = record { hand = parting_from_hand (index + 1) post; right = parting_from_right (index + 1) post desk.list; list = refl }

-- a list is tidied: first the clock moves, or the scan comes at once
tidy_by_hand : (moving : Bool) (later : AfterScan) (post : Post) → hand_in (rounds.tidy_by moving later post) ≡ hand_later later
tidy_by_hand true later post = refl
tidy_by_hand false later post = refl

pub tidy_hand : (later : AfterScan) (post : Post) → hand_in (rounds.first_tidy later post) ≡ hand_later later
tidy_hand later post = tidy_by_hand (moves (scheme_of post)) later post

tidy_by_right : (moving : Bool) (later : AfterScan) (post : Post) (list : List Lifetime) → goes_right (rounds.tidy_by moving later post) list ≡ true
tidy_by_right true later post list = refl
tidy_by_right false later post list = refl

pub tidy_right : (later : AfterScan) (post : Post) (list : List Lifetime) → goes_right (rounds.first_tidy later post) list ≡ true
tidy_right later post list = tidy_by_right (moves (scheme_of post)) later post list

given_up_leaves : (answer : Answer) (post : Post) (desk : Desk) (told : List Event) (x : Option ℕ) → Leaves (hand_of x) desk.list (given_up answer post desk told x)
given_up_leaves answer post desk told None = record { hand = refl; right = refl; list = refl }
given_up_leaves answer post desk told (Some slot) = record { hand = refl; right = refl; list = refl }

pub closed_leaves : (task : Task) (next : Next) (post : Post) (desk : Desk) (told : List Event) → Leaves (hand_next task next) desk.list (closed task next post desk told)
closed_leaves task Again post desk told = record { hand = round_hand task post; right = round_right task post desk.list; list = refl }
closed_leaves task MakeRoom post desk told = record { hand = tidy_hand (Repeated task) post; right = tidy_right (Repeated task) post desk.list; list = refl }
closed_leaves task (Answering answer) post desk told = given_up_leaves answer post desk told (taken_of task)
closed_leaves task (Retiring slot answer) post desk told = record { hand = refl; right = refl; list = refl }

finishing_by_leaves : (task : Task) (next : Next) (post : Post) (desk : Desk) (told : List Event) (x : Option Base) → plain_some x ≡ true → Leaves (hand_next task next) desk.list (finishing_by task next post desk told x)
finishing_by_leaves task next post desk told None h = closed_leaves task next post desk told
finishing_by_leaves task next post desk told (Some base) h = record { hand = refl; right = h; list = refl }

pub finishing_leaves : (task : Task) (next : Next) (post : Post) (desk : Desk) (told : List Event) → Leaves (hand_next task next) desk.list (finishing task next post desk told)
finishing_leaves task Again post desk told = closed_leaves task Again post desk told
finishing_leaves task MakeRoom post desk told = finishing_by_leaves task MakeRoom post desk told (finish_base (scheme_of post) post) (finish_plain (scheme_of post) post)
finishing_leaves task (Answering answer) post desk told = finishing_by_leaves task (Answering answer) post desk told (finish_base (scheme_of post) post) (finish_plain (scheme_of post) post)
finishing_leaves task (Retiring slot answer) post desk told = finishing_by_leaves task (Retiring slot answer) post desk told (finish_base (scheme_of post) post) (finish_plain (scheme_of post) post)

clearing_by_leaves : (task : Task) (next : Next) (post : Post) (desk : Desk) (told : List Event) (x : Option Base) → plain_some x ≡ true → Leaves (hand_next task next) desk.list (clearing_by task next post desk told x)
clearing_by_leaves task next post desk told None h = finishing_leaves task next (clear_post (scheme_of post) post (index_of task)) desk (told ++ clear_told (scheme_of post) post (index_of task))
clearing_by_leaves task next post desk told (Some base) h = record { hand = refl; right = h; list = refl }

pub clearing_leaves : (task : Task) (next : Next) (post : Post) (desk : Desk) (told : List Event) → Leaves (hand_next task next) desk.list (clearing task next post desk told)
clearing_leaves task next post desk told = clearing_by_leaves task next post desk told (clear_base (scheme_of post) (index_of task)) (clear_plain (scheme_of post) (index_of task))

clearing_next_by_leaves : (next : Next) (post : Post) (desk : Desk) (told : List Event) (x : Option Base) → plain_some x ≡ true → Leaves (hand_next Dequeues next) desk.list (clearing_next_by next post desk told x)
clearing_next_by_leaves next post desk told None h = clearing_leaves Dequeues next (clear_post (scheme_of post) post 1) desk (told ++ clear_told (scheme_of post) post 1)
clearing_next_by_leaves next post desk told (Some base) h = record { hand = refl; right = h; list = refl }

pub clearing_next_leaves : (next : Next) (post : Post) (desk : Desk) (told : List Event) → Leaves (hand_next Dequeues next) desk.list (clearing_next next post desk told)
clearing_next_leaves next post desk told = clearing_next_by_leaves next post desk told (clear_base (scheme_of post) 1) (clear_plain (scheme_of post) 1)

-- a change of what is in hand, by an equation
pub leaves_along : (h g : Hand) (list : List Lifetime) (t : CallTurn) → h ≡ g → Leaves h list t → Leaves g list t
leaves_along h g list t e l = record { hand = l.hand ∙ e; right = l.right; list = l.list }

filling_hand : (kept : ChangeKept) (x : Option ℕ) → hand_base (alters.filling_by kept x) ≡ hand_of x
filling_hand kept None = refl
filling_hand kept (Some slot) = refl

filling_right : (kept : ChangeKept) (x : Option ℕ) → fills_right (alters.filling_by kept x) x ≡ true
filling_right kept None = refl
filling_right kept (Some slot) = same_number slot

item_hand : (kept : EnqueueKept) (x : Option ℕ) → hand_base (enqueues.filling_by kept x) ≡ hand_of x
item_hand kept None = refl
item_hand kept (Some slot) = refl

item_right : (kept : EnqueueKept) (x : Option ℕ) → fills_right (enqueues.filling_by kept x) x ≡ true
item_right kept None = refl
item_right kept (Some slot) = same_number slot

deciding_by_leaves : (kept : ChangeKept) (post : Post) (desk : Desk) (told : List Event) (x : Option Answer) → Leaves (hand_of kept.taken) desk.list (alters.deciding_by kept post desk told x)
deciding_by_leaves kept post desk told (Some answer) = clearing_leaves (Changes kept) (Answering answer) post desk told
deciding_by_leaves kept post desk told None = record { hand = filling_hand (alters.with_change kept) kept.taken; right = filling_right (alters.with_change kept) kept.taken; list = refl }

pub deciding_leaves : (kept : ChangeKept) (post : Post) (desk : Desk) (told : List Event) → Leaves (hand_of kept.taken) desk.list (alters.deciding kept post desk told)
deciding_leaves kept post desk told = deciding_by_leaves kept post desk told (alters.refused post.layout.config kept)

pub got_leaves : (key version : ℕ) (value : Option ℕ) (post : Post) (desk : Desk) (told : List Event) → Leaves Empty desk.list (gets.got key version value post desk told)
got_leaves key version value post desk told = clearing_leaves (Gets key) (Answering (the_answers.Got version value)) post desk (told ++ events.Got (rounds.bucket_of post key) version key value ∷ [])

-- the call's own steps that change no row

finding_leaves : (key slot version count : ℕ) (post : Post) (desk : Desk) (more : Bool) (pair : ℕ) → Leaves Empty desk.list (gets.finding key slot version count post desk more pair)
finding_leaves key slot version count post desk true pair = record { hand = refl; right = refl; list = refl }
finding_leaves key slot version count post desk false pair = got_leaves key version None post desk []

found_key_leaves : (key slot version count pair : ℕ) (post : Post) (desk : Desk) (own : Bool) → Leaves Empty desk.list (gets.found_key key slot version count pair post desk own)
found_key_leaves key slot version count pair post desk true = record { hand = refl; right = refl; list = refl }
found_key_leaves key slot version count pair post desk false = finding_leaves key slot version count post desk (nat_lt (pair + 1) count) (pair + 1)

pub get_leaves : (key : ℕ) (at : GetAt) (post : Post) (desk : Desk) (found : ℕ) → Leaves Empty desk.list (gets.get_turn key at post desk found)
get_leaves key (FindVersion slot) post desk found = record { hand = refl; right = refl; list = refl }
get_leaves key (FindCount slot version) post desk found = finding_leaves key slot version found post desk (nat_lt 0 found) 0
get_leaves key (FindKey slot version count pair) post desk found = found_key_leaves key slot version count pair post desk (found == key)
get_leaves key (FindValue slot version pair) post desk found = got_leaves key version (Some found) post desk []

pub reading_leaves : (kept : ChangeKept) (slot count : ℕ) (post : Post) (desk : Desk) (more : Bool) → Leaves (hand_of kept.taken) desk.list (alters.reading kept slot count post desk more)
reading_leaves kept slot count post desk true = record { hand = refl; right = refl; list = refl }
reading_leaves kept slot count post desk false = deciding_leaves kept post desk []

appending_leaves : (kept : EnqueueKept) (post : Post) (desk : Desk) (spent : Bool) → Leaves (hand_of kept.taken) desk.list (enqueues.appending kept post desk spent)
appending_leaves kept post desk true = clearing_leaves (Enqueues kept) (Answering (the_answers.Spent kept.number)) post desk []
appending_leaves kept post desk false = record { hand = item_hand kept kept.taken; right = item_right kept kept.taken; list = refl }

pub at_next_leaves : (kept : EnqueueKept) (next : ℕ) (post : Post) (desk : Desk) (none : Bool) → Leaves (hand_of kept.taken) desk.list (enqueues.at_next kept next post desk none)
at_next_leaves kept next post desk true = appending_leaves kept post desk (kept.number == post.layout.config.last_version)
at_next_leaves kept next post desk false = record { hand = refl; right = refl; list = refl }

followed_row_leaves : (head next : ℕ) (post : Post) (desk : Desk) (told : List Event) (lags : Bool) → Leaves Empty desk.list (dequeues.followed_row head next post desk told lags)
followed_row_leaves head next post desk told true = record { hand = refl; right = refl; list = refl }
followed_row_leaves head next post desk told false = record { hand = refl; right = refl; list = refl }

pub followed_leaves : (head tail : ℕ) (ending : FollowEnd) (post : Post) (desk : Desk) (told : List Event) → Leaves Empty desk.list (dequeues.followed head tail ending post desk told)
followed_leaves head tail (follow_ends.Followed slot) post desk told = followed_row_leaves head slot post desk told (tail == head + 1)
followed_leaves head tail follow_ends.NoNext post desk told = clearing_next_leaves (Answering the_answers.Empty) post desk told
followed_leaves head tail (follow_ends.RootMoved seen) post desk told = clearing_next_leaves Again post desk told
