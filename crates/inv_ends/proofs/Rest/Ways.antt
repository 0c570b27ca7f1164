-- What comes after the other machines, and after a call's own steps.
use Rattle.std.proofs.Common.{ℕ, ◌∙◌, ◌≡◌, ◌≤◌, ◌<◌, ◌+◌, ◌-◌, Bool, true, false, [], ◌∷◌, arith, refl, subst}
use Rattle.inv_ends.proofs.Rest.Amounts.{PhaseKnown}
use Rattle.inv_rows.specs.Shapes.Frame.{phase_left as stands_at}
use Rattle.inv_rows.specs.model.Change as alters
use Rattle.inv_rows.specs.model.Enqueue as enqueues
use Rattle.inv_rows.specs.model.Dequeue as dequeues
use Rattle.inv_rows.specs.model.Keep as keeps
use Rattle.inv_rows.specs.model.Steps as steps
use Rattle.inv_rows.specs.defs.declared.call.Answer.TheVariants as answers
use Rattle.inv_rows.specs.model.declared.ends.FollowEnd.TheVariants as follow_ends
use Rattle.inv_rows.specs.model.Calls.{Task, AfterScan, LetGo, Next}
use Rattle.inv_rows.specs.model.Calls.LetGo.{Dropped, Parting, Rehold, Released}
use Rattle.inv_rows.specs.model.Calls.Next.{Again, Answering, MakeRoom}
use Rattle.inv_rows.specs.model.Calls.Task.{Changes, Dequeues, Enqueues, Gets, Holds}
use Rattle.inv_rows.specs.model.Desks.{Desk, with_life}
use Rattle.inv_rows.specs.model.Phases.{Ending}
use Rattle.inv_rows.specs.model.Phases.Ending.{Allocated, Clocked, Done, Followed, Protected, Retired}
use Rattle.inv_rows.specs.model.Rest.{closing_left, ending_most, room_most, rounds_left, rounds_most, task_left, walks_after, walks_by, fill_left, has_walked, later_left, let_left, open_left, phase_left, scan_most, walk_most}
use Rattle.inv_rows.specs.model.Posts.{standing_from}
use Rattle.inv_rows.specs.model.Rounds.{clearing, closed, let_index, round, scheme_of, taken_of}
use Rattle.inv_rows.specs.model.declared.ends.FollowEnd.{FollowEnd}
use Rattle.inv_rows.specs.model.declared.post.Post.{Post}
use Rattle.inv_rows.specs.defs.declared.event.Event.{Event}
use Rattle.inv_ends.proofs.Rest.Closings.{clearing_left, clearing_next_left, closed_left, turn_left, round_begins, tidy_begins}
use Rattle.inv_ends.proofs.Rest.Opens.{again_left}
use Rattle.inv_ends.specs.Losses.{InRound, fills_fit, rounds_in}
use Rattle.inv_rows.specs.words.declared.config.Config.{Config}
use Rattle.inv_rows.proofs.Shapes.Leaving.{next_stands}
use Rattle.std.specs.Prelude.{List, drop, length, None, ◌==◌, ◌++◌, Option, Some, ◌%◌}
use Rattle.inv_rows.specs.model.declared.ends.AllocateEnd.TheVariants as allocate_ends
use Rattle.inv_rows.specs.model.Calls.AfterScan.{Answered, Counted, Repeated}
use Rattle.inv_rows.specs.model.declared.ends.AllocateEnd.{AllocateEnd}
use Rattle.inv_rows.specs.defs.declared.call.Answer.{Answer}
use Rattle.inv_rows.specs.defs.declared.call.ClockMove.{ClockMove}
use Rattle.inv_rows.specs.defs.declared.lifetime.Lifetime.{Lifetime}
use Rattle.inv_rows.specs.words.declared.layout.Layout.{Layout}
use Rattle.inv_rows.specs.words.Schemes.{publishes_rows, moves}

lost_is : (most rounds : ℕ) → InRound most rounds → (rounds ≡ rounds - 1 + 1) × (rounds - 1 ≤ most)
lost_is most rounds i = let a = i.told in let b = i.few in (omega (arith, a), omega (arith, a, b))

-- the round is lost
pub lost_left : (c : Config) (rounds : ℕ) (task : Task) (post : Post) (desk : Desk) (told : List Event) → InRound (rounds_most c task) rounds → rounds_in c rounds told ≡ rounds → closing_left c (length desk.list) (rounds_in c rounds told) task Again + 3 ≤ task_left c (length desk.list) task (rounds - 1)
lost_left c rounds task post desk told i e = let k = lost_is (rounds_most c task) rounds i in again_left c rounds task post desk told (rounds - 1) (e ∙ k.0) k.1

row_followed : (c : Config) (rounds head next : ℕ) (post : Post) (desk : Desk) (told : List Event) (lags : Bool) → rounds_in c rounds told ≡ rounds → turn_left c rounds (dequeues.followed_row head next post desk told lags) ≤ 6 + task_left c (length desk.list) Dequeues (rounds - 1)
row_followed c rounds head next post desk told true e = rw e (omega arith)
row_followed c rounds head next post desk told false e = rw e (omega arith)

end_followed : (c : Config) (rounds head tail : ℕ) (ending : FollowEnd) (post : Post) (desk : Desk) (told : List Event) → InRound (rounds_most c Dequeues) rounds → rounds_in c rounds told ≡ rounds → turn_left c rounds (dequeues.followed head tail ending post desk told) ≤ 6 + task_left c (length desk.list) Dequeues (rounds - 1)
end_followed c rounds head tail (follow_ends.Followed slot) post desk told i e = row_followed c rounds head slot post desk told (tail == head + 1) e
end_followed c rounds head tail follow_ends.NoNext post desk told i e = let h = clearing_next_left c rounds (Answering answers.Empty) post desk told in omega (arith, h)
end_followed c rounds head tail (follow_ends.RootMoved seen) post desk told i e =
    let h = clearing_next_left c rounds Again post desk told in let a = lost_left c rounds Dequeues post desk told i e in omega (arith, h, a)

-- another round at once
again_closed : (c : Config) (rounds : ℕ) (task : Task) (post : Post) (desk : Desk) (told : List Event) → InRound (rounds_most c task) rounds → rounds_in c rounds told ≡ rounds → turn_left c rounds (closed task Again post desk told) ≤ task_left c (length desk.list) task (rounds - 1)
again_closed c rounds task post desk told i e = let h = closed_left c rounds task Again post desk told in let a = lost_left c rounds task post desk told i e in omega (arith, h, a)

pub followed_by_left : (c : Config) (rounds head tail : ℕ) (ending : Ending) (post : Post) (desk : Desk) (told : List Event) → InRound (rounds_most c Dequeues) rounds → rounds_in c rounds told ≡ rounds → turn_left c rounds (steps.followed_by head tail ending post desk told) ≤ 6 + task_left c (length desk.list) Dequeues (rounds - 1)
followed_by_left c rounds head tail (Followed ending) post desk told i e = end_followed c rounds head tail ending post desk told i e
followed_by_left c rounds head tail Done post desk told i e = let h = again_closed c rounds Dequeues post desk told i e in omega (arith, h)
followed_by_left c rounds head tail (Protected ending) post desk told i e = let h = again_closed c rounds Dequeues post desk told i e in omega (arith, h)
followed_by_left c rounds head tail (Allocated ending) post desk told i e = let h = again_closed c rounds Dequeues post desk told i e in omega (arith, h)
followed_by_left c rounds head tail (Retired life) post desk told i e = let h = again_closed c rounds Dequeues post desk told i e in omega (arith, h)
followed_by_left c rounds head tail (Clocked clock) post desk told i e = let h = again_closed c rounds Dequeues post desk told i e in omega (arith, h)

-- after one failed walk no more than one walk is left
walks_once : (c : Config) (lives : ℕ) (walked : Bool) (taken : Option ℕ) → walked ≡ true → walks_by c lives walked taken ≤ walk_most c
walks_once c lives walked (Some slot) w = omega arith
walks_once c lives walked None w = rw w (omega arith)

clears_at : (c : Config) (rounds : ℕ) (task : Task) (next : Next) (post : Post) (desk : Desk) (told : List Event) → rounds_in c rounds told ≡ rounds → turn_left c rounds (clearing task next post desk told) ≤ 1 + closing_left c (length desk.list) rounds task next
clears_at c rounds task next post desk told e = subst (λ (r : ℕ). turn_left c rounds (clearing task next post desk told) ≤ 1 + closing_left c (length desk.list) r task next) e (clearing_left c rounds task next post desk told)

-- a walk failed
no_room_left : (c : Config) (rounds : ℕ) (task : Task) (walked : Bool) (post : Post) (desk : Desk) (told : List Event) → has_walked task ≡ true → rounds_in c rounds told ≡ rounds → turn_left c rounds (clearing task (alters.no_room walked) post desk told) ≤ 3 + rounds_left c task (rounds - 1) + walks_after c (length desk.list) walked + ending_most c (length desk.list)
no_room_left c rounds task true post desk told w e = let h = clears_at c rounds task (Answering answers.Full) post desk told e in omega (arith, h)
no_room_left c rounds task false post desk told w e =
    let h = clears_at c rounds task MakeRoom post desk told e in let k = walks_once c (length desk.list) (has_walked task) (taken_of task) w in omega (arith, h, k)

-- a row was given, and is written; or none was
pub filled_by_left : (c : Config) (layout : Layout) (rounds : ℕ) (task : Task) (ending : AllocateEnd) (post : Post) (desk : Desk) (told : List Event) → layout.config ≡ c → fills_fit c rounds task → rounds_in c rounds told ≡ rounds
    → PhaseKnown layout (stands_at (steps.filled_by task ending post desk told).outcome)
    → turn_left c rounds (steps.filled_by task ending post desk told) ≤ fill_left c task + rounds_left c task (rounds - 1) + walks_after c (length desk.list) (has_walked task) + ending_most c (length desk.list)
filled_by_left c layout rounds (Gets key) ending post desk told t f e p = absurd (cc)
filled_by_left c layout rounds (Holds key) ending post desk told t f e p = absurd (cc)
filled_by_left c layout rounds Dequeues ending post desk told t f e p = absurd (cc)
filled_by_left c layout rounds (Changes kept) (allocate_ends.Given slot birth) post desk told t f e p =
    let q : length kept.pairs ≤ c.pairs = subst (λ (d : Config). length kept.pairs ≤ d.pairs) t p.0.0.pairs in rw e (omega (arith, q))
filled_by_left c layout rounds (Changes kept) allocate_ends.Full post desk told t f e p = let h = no_room_left c rounds (Changes (alters.with_walked kept)) kept.walked post desk told refl e in omega (arith, h)
filled_by_left c layout rounds (Enqueues kept) (allocate_ends.Given slot birth) post desk told t f e p = rw e (omega arith)
filled_by_left c layout rounds (Enqueues kept) allocate_ends.Full post desk told t f e p = let h = no_room_left c rounds (Enqueues (enqueues.item_walked kept)) kept.walked post desk told refl e in omega (arith, h)

pub written_row_left : (c : Config) (rounds : ℕ) (task : Task) (post : Post) (desk : Desk) (told : List Event) → fills_fit c rounds task → rounds_in c rounds told ≡ rounds → turn_left c rounds (steps.written_row task post desk told) ≤ 5 + task_left c (length desk.list) task (rounds - 1)
written_row_left c rounds (Gets key) post desk told f e = absurd (cc)
written_row_left c rounds (Holds key) post desk told f e = absurd (cc)
written_row_left c rounds Dequeues post desk told f e = absurd (cc)
written_row_left c rounds (Changes kept) post desk told f e = rw e (omega arith)
written_row_left c rounds (Enqueues kept) post desk told f e = rw e (omega arith)

-- the list is tidied after a row was retired
tidying_left : (c : Config) (rounds : ℕ) (answer : Answer) (post : Post) (desk : Desk) (told : List Event) (due : Bool) → turn_left c rounds (steps.tidying answer post desk told due) ≤ room_most c (length desk.list)
tidying_left c rounds answer post desk told true = let h = tidy_begins c (rounds_in c rounds told) desk.list (Answered answer) post (moves (scheme_of post)) in omega (arith, h)
tidying_left c rounds answer post desk told false = omega arith

one_longer : (lives : List Lifetime) (life : Lifetime) → length (lives ++ life ∷ []) ≡ length lives + 1
one_longer [] life = refl
one_longer (x ∷ lives) life = let h = one_longer lives life in omega (arith, h)

pub retired_by_left : (c : Config) (rounds : ℕ) (answer : Answer) (ending : Ending) (post : Post) (desk : Desk) (told : List Event) → turn_left c rounds (steps.retired_by answer ending post desk told) ≤ room_most c (length desk.list + 1)
retired_by_left c rounds answer (Retired life) post desk told =
    let h = tidying_left c rounds answer post (with_life desk life) told (post.retired % post.layout.config.every == 0) in
    subst (λ (n : ℕ). turn_left c rounds (steps.tidying answer post (with_life desk life) told (post.retired % post.layout.config.every == 0)) ≤ room_most c n) (one_longer desk.list life) h
retired_by_left c rounds answer Done post desk told = omega arith
retired_by_left c rounds answer (Protected ending) post desk told = omega arith
retired_by_left c rounds answer (Followed ending) post desk told = omega arith
retired_by_left c rounds answer (Allocated ending) post desk told = omega arith
retired_by_left c rounds answer (Clocked clock) post desk told = omega arith

moved_later : (c : Config) (lives rounds : ℕ) (later : AfterScan) (clock : ClockMove) → later_left c lives rounds (steps.after_move later clock) ≡ later_left c lives rounds later
moved_later c lives rounds (Answered answer) clock = refl
moved_later c lives rounds (Repeated task) clock = refl
moved_later c lives rounds Counted clock = refl

pub tidied_left : (c : Config) (rounds : ℕ) (later : AfterScan) (ending : Ending) (post : Post) (desk : Desk) (told : List Event) → rounds_in c rounds told ≡ rounds → turn_left c rounds (steps.tidied later ending post desk told) ≤ scan_most c (length desk.list) + later_left c (length desk.list) rounds later
tidied_left c rounds later (Clocked clock) post desk told e = rw (e, moved_later c (length desk.list) rounds later clock) (omega arith)
tidied_left c rounds later Done post desk told e = rw e (omega arith)
tidied_left c rounds later (Protected ending) post desk told e = rw e (omega arith)
tidied_left c rounds later (Followed ending) post desk told e = rw e (omega arith)
tidied_left c rounds later (Allocated ending) post desk told e = rw e (omega arith)
tidied_left c rounds later (Retired life) post desk told e = rw e (omega arith)

pub advanced_left : (c : Config) (rounds : ℕ) (ending : Ending) (post : Post) (desk : Desk) (told : List Event) → turn_left c rounds (steps.advanced ending post desk told) ≤ 0
advanced_left c rounds (Clocked clock) post desk told = omega arith
advanced_left c rounds Done post desk told = omega arith
advanced_left c rounds (Protected ending) post desk told = omega arith
advanced_left c rounds (Followed ending) post desk told = omega arith
advanced_left c rounds (Allocated ending) post desk told = omega arith
advanced_left c rounds (Retired life) post desk told = omega arith

-- a seat that leaves goes on at a greater index
parting_left : (c : Config) (rounds index : ℕ) (lives : List Lifetime) (post : Post) (x : Option ℕ) → standing_from (index + 1) (drop (index + 1) post.standing) ≡ x → index < 8 → phase_left c rounds lives (keeps.parting_index (publishes_rows (scheme_of post)) x) ≤ 8 - index
parting_left c rounds index lives post None e b = omega (arith, b)
parting_left c rounds index lives post (Some next) e b = let n = (next_stands post (index + 1) next e).from in omega (arith, b, n)

-- what comes once something is let go
pub released_left : (c : Config) (rounds lives : ℕ) (let_go : LetGo) (post : Post) (desk : Desk) (told : List Event) → let_index let_go < 8 → length desk.list ≡ lives → rounds_in c rounds told ≡ 0 → turn_left c rounds (keeps.released let_go post desk told) ≤ let_left c lives let_go
released_left c rounds lives Released post desk told b l e = omega arith
released_left c rounds lives (Dropped index) post desk told b l e = omega arith
released_left c rounds lives (Parting index) post desk told b l e = parting_left c (rounds_in c rounds told) index desk.list post (standing_from (index + 1) (drop (index + 1) post.standing)) refl b
released_left c rounds lives (Rehold key) post desk told b l e =
    let h = round_begins c (rounds_in c rounds told) desk.list (Holds key) post in
    subst (λ (n : ℕ). phase_left c (rounds_in c rounds told) desk.list (round (Holds key) post) ≤ open_left c (Holds key) + task_left c n (Holds key) 0) l
    (subst (λ (r : ℕ). phase_left c (rounds_in c rounds told) desk.list (round (Holds key) post) ≤ open_left c (Holds key) + task_left c (length desk.list) (Holds key) r) e h)
