-- What comes after the protection of a task's root, after a follow, and once a row is filled.
use Rattle.std.proofs.Common.{ℕ, ◌≡◌, ◌≤◌, ◌+◌, ◌*◌, ◌-◌, Bool, true, false, [], ◌∷◌, arith, refl, subst}
use Rattle.inv_ends.proofs.Rest.Amounts.{PhaseKnown, opens_worth, task_drops, task_falls}
use Rattle.inv_rows.specs.Shapes.Frame.{phase_left as stands_at}
use Rattle.inv_rows.specs.model.Change.{filling_by as change_filling, with_change, at_link, deciding, deciding_by, refused}
use Rattle.inv_rows.specs.model.Enqueue.{filling_by as item_filling}
use Rattle.inv_rows.specs.defs.declared.event.Event.TheVariants as events
use Rattle.inv_rows.specs.defs.declared.call.Answer.TheVariants as answers
use Rattle.inv_rows.specs.model.Calls.{ChangeKept, EnqueueKept, Task}
use Rattle.inv_rows.specs.model.Calls.Next.{Again, Answering}
use Rattle.inv_rows.specs.model.Calls.Task.{Changes, Dequeues, Enqueues, Gets, Holds}
use Rattle.inv_rows.specs.model.Calls.Why.{Fills}
use Rattle.inv_rows.specs.model.Desks.{Desk}
use Rattle.inv_rows.specs.model.Rest.{closing_left, ending_most, round_left, rounds_left, rounds_most, task_left, walk_most, walks_after, walks_by, why_left}
use Rattle.inv_rows.specs.model.Rounds.{bucket_of}
use Rattle.inv_rows.specs.model.Steps.{opened_null, opened_row}
use Rattle.inv_rows.specs.model.declared.post.Post.{Post}
use Rattle.inv_rows.specs.defs.declared.call.Answer.{Answer}
use Rattle.inv_rows.specs.defs.declared.event.Event.{Event}
use Rattle.inv_ends.proofs.Rest.Closings.{clearing_left, turn_left}
use Rattle.inv_rows.specs.words.declared.config.Config.{Config}
use Rattle.inv_rows.specs.words.declared.layout.Layout.{Layout}
use Rattle.std.specs.Prelude.{List, ◌++◌, length, Option, Some, None}
use Rattle.inv_rows.proofs.model.Facts.{one_before}
use Rattle.inv_ends.specs.Losses.{rounds_in}

-- a round is lost: another begins
pub again_left : (c : Config) (rounds : ℕ) (task : Task) (post : Post) (desk : Desk) (told : List Event) (lost : ℕ) → rounds_in c rounds told ≡ lost + 1 → lost ≤ rounds_most c task → closing_left c (length desk.list) (rounds_in c rounds told) task Again + 3 ≤ task_left c (length desk.list) task lost
again_left c rounds task post desk told lost e h =
    let a = task_drops c (length desk.list) (length desk.list) task lost (omega arith) h in
    let b = opens_worth c task in
    rw e (omega (arith, a, b))

-- two rounds are
twice_left : (c : Config) (rounds : ℕ) (task : Task) (post : Post) (desk : Desk) (told : List Event) (lost : ℕ) → rounds_in c rounds told ≡ lost + 2 → lost ≤ rounds_most c task → closing_left c (length desk.list) (rounds_in c rounds told) task Again + 3 ≤ task_left c (length desk.list) task lost
twice_left c rounds task post desk told lost e h =
    let a = task_drops c (length desk.list) (length desk.list) task lost (omega arith) h in
    let m = task_falls c (length desk.list) task (lost + 1) in
    let b = opens_worth c task in
    let same : lost + 1 + 1 ≡ lost + 2 = omega arith in
    let q : task_left c (length desk.list) task (lost + 2) ≤ task_left c (length desk.list) task (lost + 1) = subst (λ (r : ℕ). task_left c (length desk.list) task r ≤ task_left c (length desk.list) task (lost + 1)) same m in
    rw e (omega (arith, a, b, q))

pub opened_row_left : (c : Config) (rounds : ℕ) (task : Task) (slot : ℕ) (post : Post) (desk : Desk) (told : List Event) (lost : ℕ) → rounds_in c rounds told ≡ lost + 1 → turn_left c rounds (opened_row task slot post desk told) ≤ round_left c task + task_left c (length desk.list) task lost
opened_row_left c rounds (Gets key) slot post desk told lost e = let b = one_before (rounds_in c rounds told) lost e in rw b (omega arith)
opened_row_left c rounds (Changes kept) slot post desk told lost e = let b = one_before (rounds_in c rounds told) lost e in rw b (omega arith)
opened_row_left c rounds (Holds key) slot post desk told lost e = omega arith
opened_row_left c rounds (Enqueues kept) slot post desk told lost e = let b = one_before (rounds_in c rounds told) lost e in rw b (omega arith)
opened_row_left c rounds Dequeues slot post desk told lost e = let b = one_before (rounds_in c rounds told) lost e in rw b (omega arith)

-- a row is taken and written, or only written
change_fills : (c : Config) (rounds lives : ℕ) (kept : ChangeKept) (taken : Option ℕ) → kept.taken ≡ taken → length kept.pairs ≤ c.pairs → why_left c lives rounds (change_filling kept taken) (Fills (Changes kept)) ≤ 2 * c.pairs + 7 + task_left c lives (Changes kept) (rounds - 1)
change_fills c rounds lives kept None e h = rw e (by_walked kept.walked)
  where
    by_walked : (walked : Bool) → walk_most c + (2 * c.pairs + 7) + rounds_left c (Changes kept) (rounds - 1) + walks_after c lives walked + ending_most c lives ≤ 2 * c.pairs + 7 + (rounds_left c (Changes kept) (rounds - 1) + walks_by c lives walked None + ending_most c lives)
    by_walked true = omega arith
    by_walked false = omega arith
change_fills c rounds lives kept (Some slot) e h = omega (arith, h)

pub enqueue_fills : (c : Config) (rounds lives : ℕ) (kept : EnqueueKept) (taken : Option ℕ) → kept.taken ≡ taken → why_left c lives rounds (item_filling kept taken) (Fills (Enqueues kept)) ≤ 8 + task_left c lives (Enqueues kept) (rounds - 1)
enqueue_fills c rounds lives kept None e = rw e (by_walked kept.walked)
  where
    by_walked : (walked : Bool) → walk_most c + 8 + rounds_left c (Enqueues kept) (rounds - 1) + walks_after c lives walked + ending_most c lives ≤ 8 + (rounds_left c (Enqueues kept) (rounds - 1) + walks_by c lives walked None + ending_most c lives)
    by_walked true = omega arith
    by_walked false = omega arith
enqueue_fills c rounds lives kept (Some slot) e = omega arith

-- a change is decided: it is refused, or its row is filled
deciding_by_left : (c : Config) (layout : Layout) (rounds : ℕ) (kept : ChangeKept) (post : Post) (desk : Desk) (told : List Event) (refused : Option Answer) → layout.config ≡ c
    → PhaseKnown layout (stands_at (deciding_by kept post desk told refused).outcome)
    → turn_left c rounds (deciding_by kept post desk told refused) ≤ 2 * c.pairs + 7 + task_left c (length desk.list) (Changes kept) (rounds_in c rounds told - 1)
deciding_by_left c layout rounds kept post desk told (Some answer) t p = let h = clearing_left c rounds (Changes kept) (Answering answer) post desk told in omega (arith, h)
deciding_by_left c layout rounds kept post desk told None t p =
    let q : length (with_change kept).pairs ≤ c.pairs = subst (λ (d : Config). length (with_change kept).pairs ≤ d.pairs) t p.0.0.pairs in
    change_fills c (rounds_in c rounds told) (length desk.list) (with_change kept) kept.taken refl q

pub deciding_left : (c : Config) (layout : Layout) (rounds : ℕ) (kept : ChangeKept) (post : Post) (desk : Desk) (told : List Event) → layout.config ≡ c
    → PhaseKnown layout (stands_at (deciding kept post desk told).outcome)
    → turn_left c rounds (deciding kept post desk told) ≤ 2 * c.pairs + 7 + task_left c (length desk.list) (Changes kept) (rounds_in c rounds told - 1)
deciding_left c layout rounds kept post desk told t p = deciding_by_left c layout rounds kept post desk told (refused post.layout.config kept) t p

pub opened_null_left : (c : Config) (layout : Layout) (rounds : ℕ) (task : Task) (post : Post) (desk : Desk) (told : List Event) (lost : ℕ) → layout.config ≡ c → rounds_in c rounds told ≡ lost + 1 → lost ≤ rounds_most c task
    → PhaseKnown layout (stands_at (opened_null task post desk told).outcome)
    → turn_left c rounds (opened_null task post desk told) ≤ round_left c task + task_left c (length desk.list) task lost
opened_null_left c layout rounds (Gets key) post desk told lost t e h p =
    let k = clearing_left c rounds (Gets key) (Answering (answers.Got 0 None)) post desk (told ++ events.Got (bucket_of post key) 0 key None ∷ []) in omega (arith, k)
opened_null_left c layout rounds (Changes kept) post desk told lost t e h p =
    let b = one_before (rounds_in c rounds told) lost e in
    let k = deciding_left c layout rounds (at_link kept 0) post desk told t p in
    let m : turn_left c rounds (deciding (at_link kept 0) post desk told) ≤ 2 * c.pairs + 7 + task_left c (length desk.list) (Changes kept) lost = subst (λ (r : ℕ). turn_left c rounds (deciding (at_link kept 0) post desk told) ≤ 2 * c.pairs + 7 + task_left c (length desk.list) (Changes kept) r) b k in
    omega (arith, m)
opened_null_left c layout rounds (Holds key) post desk told lost t e h p = let k = clearing_left c rounds (Holds key) (Answering answers.Nothing) post desk told in omega (arith, k)
opened_null_left c layout rounds (Enqueues kept) post desk told lost t e h p =
    let k = clearing_left c rounds (Enqueues kept) Again post desk told in let a = again_left c rounds (Enqueues kept) post desk told lost e h in omega (arith, k, a)
opened_null_left c layout rounds Dequeues post desk told lost t e h p =
    let k = clearing_left c rounds Dequeues Again post desk told in let a = again_left c rounds Dequeues post desk told lost e h in omega (arith, k, a)

-- a reload has found null: one round more is lost
pub lost_null_left : (c : Config) (layout : Layout) (rounds : ℕ) (task : Task) (post : Post) (desk : Desk) (told : List Event) (lost : ℕ) → layout.config ≡ c → rounds_in c rounds told ≡ lost + 2 → lost ≤ rounds_most c task
    → PhaseKnown layout (stands_at (opened_null task post desk told).outcome)
    → turn_left c rounds (opened_null task post desk told) ≤ round_left c task + task_left c (length desk.list) task lost
lost_null_left c layout rounds (Gets key) post desk told lost t e h p =
    let k = clearing_left c rounds (Gets key) (Answering (answers.Got 0 None)) post desk (told ++ events.Got (bucket_of post key) 0 key None ∷ []) in omega (arith, k)
lost_null_left c layout rounds (Changes kept) post desk told lost t e h p =
    let b : rounds_in c rounds told - 1 ≡ lost + 1 = omega (arith, e) in
    let k = deciding_left c layout rounds (at_link kept 0) post desk told t p in
    let m : turn_left c rounds (deciding (at_link kept 0) post desk told) ≤ 2 * c.pairs + 7 + task_left c (length desk.list) (Changes kept) (lost + 1) = subst (λ (r : ℕ). turn_left c rounds (deciding (at_link kept 0) post desk told) ≤ 2 * c.pairs + 7 + task_left c (length desk.list) (Changes kept) r) b k in
    let d = task_drops c (length desk.list) (length desk.list) (Changes kept) lost (omega arith) h in
    omega (arith, m, d)
lost_null_left c layout rounds (Holds key) post desk told lost t e h p = let k = clearing_left c rounds (Holds key) (Answering answers.Nothing) post desk told in omega (arith, k)
lost_null_left c layout rounds (Enqueues kept) post desk told lost t e h p =
    let k = clearing_left c rounds (Enqueues kept) Again post desk told in let a = twice_left c rounds (Enqueues kept) post desk told lost e h in omega (arith, k, a)
lost_null_left c layout rounds Dequeues post desk told lost t e h p =
    let k = clearing_left c rounds Dequeues Again post desk told in let a = twice_left c rounds Dequeues post desk told lost e h in omega (arith, k, a)
