-- How a round begins and ends: the steps that are left where its next machine, or what comes after it, is reached.
use Rattle.std.proofs.Common.{ℕ, ◌∙◌, ◌≡◌, ◌≤◌, ◌+◌, true, false, [], ◌∷◌, arith, refl, subst, ap, Bool}
use Rattle.inv_rows.specs.model.Calls.{CallOutcome, CallTurn, Next, Task, AfterScan}
use Rattle.inv_rows.specs.model.Calls.CallOutcome.{Answers, GoesOn}
use Rattle.inv_rows.specs.model.Calls.Next.{Again, Answering, MakeRoom, Retiring}
use Rattle.inv_rows.specs.model.Calls.Task.{Dequeues}
use Rattle.inv_rows.specs.model.Desks.{Desk}
use Rattle.inv_rows.specs.model.Locals.{rounds_told, found_by}
use Rattle.inv_rows.specs.model.Posts.{cleared, stands, cleared_from, reserves_span}
use Rattle.inv_rows.specs.model.Rest.{base_left, closing_left, is_told, move_most, open_left, phase_left, protect_most, task_left, scan_most, later_left}
use Rattle.inv_rows.specs.model.Rounds.{begin_base, begin_span, clear_base, clear_post, clear_told, clearing, clearing_by, clearing_next, clearing_next_by, closed, finish_base, finish_span, finishing, finishing_by, given_up, index_of, kept_row, move_base, opening, protect_base, root_of, round, round_by, scheme_of, taken_of, tidy_by}
use Rattle.inv_rows.specs.model.declared.post.Post.{Post}
use Rattle.inv_rows.specs.defs.declared.call.Answer.{Answer}
use Rattle.inv_rows.specs.defs.declared.event.Event.{Event}
use Rattle.inv_rows.specs.defs.declared.event.Root.{Root}
use Rattle.inv_rows.specs.defs.declared.lifetime.Interval.{Interval}
use Rattle.inv_rows.specs.defs.declared.lifetime.Lifetime.{Lifetime}
use Rattle.inv_rows.specs.words.declared.config.Config.{Config}
use Rattle.inv_rows.specs.words.declared.config.SchemeKind.{SchemeKind}
use Rattle.inv_rows.specs.words.declared.config.SchemeKind.TheVariants.{He, Ibr, Wfe, Hp}
use Rattle.std.specs.Prelude.{List, ◌++◌, length, Option, Some, None, drop}
use Rattle.inv_rows.proofs.model.Schemes.{each_begin, each_clear, each_clear_told, each_finish}
use Rattle.inv_rows.specs.model.Phases.{Base}
use Rattle.inv_ends.specs.Losses.{rounds_in}
use Rattle.inv_rows.specs.words.Schemes.{publishes_rows, moves}
use Rattle.inv_rows.specs.model.Calls.AfterScan.{Repeated}

-- what a turn leaves
abbrev pub outcome_left : Config → ℕ → List Lifetime → CallOutcome → ℕ
outcome_left c rounds lives (GoesOn phase) = phase_left c rounds lives phase
outcome_left c rounds lives (Answers answer) = 0

-- the same with the rounds that it tells
abbrev pub turn_left : Config → ℕ → CallTurn → ℕ
turn_left c rounds t = outcome_left c (rounds_in c rounds t.told) t.desk.list t.outcome

opened_most : (c : Config) (scheme : SchemeKind) (index : ℕ) (root : Root) → base_left c (protect_base scheme index root) ≤ protect_most c
opened_most c He index root = omega arith
opened_most c Ibr index root = omega arith
opened_most c Wfe index root = omega arith
opened_most c Hp index root = omega arith

pub opened_untold : (scheme : SchemeKind) (index : ℕ) (root : Root) → is_told (protect_base scheme index root) ≡ false
opened_untold He index root = refl
opened_untold Ibr index root = refl
opened_untold Wfe index root = refl
opened_untold Hp index root = refl

pub opening_left : (c : Config) (rounds : ℕ) (lives : List Lifetime) (task : Task) (post : Post) → phase_left c rounds lives (opening task post) + 2 ≤ open_left c task + task_left c (length lives) task rounds
opening_left c rounds lives task post =
    let m = opened_most c (scheme_of post) (index_of task) (root_of task post) in
    rw (opened_untold (scheme_of post) (index_of task) (root_of task post)) (omega (arith, m))

span_left : (c : Config) (rounds : ℕ) (lives : List Lifetime) (task : Task) (post : Post) (span : Option Interval) → phase_left c rounds lives (round_by task post (begin_span span)) ≤ open_left c task + task_left c (length lives) task rounds
span_left c rounds lives task post None = omega arith
span_left c rounds lives task post (Some span) = let h = opening_left c rounds lives task post in omega (arith, h)

began_left : (c : Config) (rounds : ℕ) (lives : List Lifetime) (task : Task) (post : Post) (scheme : SchemeKind) → phase_left c rounds lives (round_by task post (begin_base scheme post)) ≤ open_left c task + task_left c (length lives) task rounds
began_left c rounds lives task post scheme =
    each_begin scheme post (λ (base : Option Base). phase_left c rounds lives (round_by task post base) ≤ open_left c task + task_left c (length lives) task rounds)
    (let h = opening_left c rounds lives task post in omega (arith, h))
    (span_left c rounds lives task post post.span)

-- a round from its beginning
pub round_begins : (c : Config) (rounds : ℕ) (lives : List Lifetime) (task : Task) (post : Post) → phase_left c rounds lives (round task post) ≤ open_left c task + task_left c (length lives) task rounds
round_begins c rounds lives task post = began_left c rounds lives task post (scheme_of post)

pub move_begins : (c : Config) (scheme : SchemeKind) → base_left c (move_base scheme) ≡ move_most c
move_begins c He = refl
move_begins c Ibr = refl
move_begins c Wfe = refl
move_begins c Hp = refl

-- a list is tidied by a move of the clock, where retirements move it, and a scan
pub tidy_begins : (c : Config) (rounds : ℕ) (lives : List Lifetime) (later : AfterScan) (post : Post) (moving : Bool) → phase_left c rounds lives (tidy_by moving later post) ≤ move_most c + scan_most c (length lives) + later_left c (length lives) rounds later
tidy_begins c rounds lives later post true = rw (move_begins c (scheme_of post)) (omega arith)
tidy_begins c rounds lives later post false = omega arith

given_left : (c : Config) (rounds : ℕ) (answer : Answer) (post : Post) (desk : Desk) (told : List Event) (taken : Option ℕ) → turn_left c rounds (given_up answer post desk told taken) ≤ 1
given_left c rounds answer post desk told None = omega arith
given_left c rounds answer post desk told (Some slot) = omega arith

-- what comes after a round has one step less, unless it is another round
abbrev pub spare : Next → ℕ
spare Again = 0
spare MakeRoom = 1
spare (Answering answer) = 1
spare (Retiring slot answer) = 1

pub closed_left : (c : Config) (rounds : ℕ) (task : Task) (next : Next) (post : Post) (desk : Desk) (told : List Event) → turn_left c rounds (closed task next post desk told) + spare next ≤ closing_left c (length desk.list) (rounds_in c rounds told) task next
closed_left c rounds task Again post desk told = let h = round_begins c (rounds_in c rounds told) desk.list task post in omega (arith, h)
closed_left c rounds task MakeRoom post desk told = let h = tidy_begins c (rounds_in c rounds told) desk.list (Repeated task) post (moves (scheme_of post)) in omega (arith, h)
closed_left c rounds task (Answering answer) post desk told = let h = given_left c rounds answer post desk told (taken_of task) in omega (arith, h)
closed_left c rounds task (Retiring slot answer) post desk told = omega arith

span_finishes : (c : Config) (rounds : ℕ) (task : Task) (next : Next) (post : Post) (desk : Desk) (told : List Event) (stood : Option ℕ) → turn_left c rounds (finishing_by task next post desk told (finish_span stood)) ≤ closing_left c (length desk.list) (rounds_in c rounds told) task next
span_finishes c rounds task next post desk told None = omega arith
span_finishes c rounds task next post desk told (Some slot) = let h = closed_left c rounds task next post desk told in omega (arith, h)

scheme_finishes : (c : Config) (rounds : ℕ) (task : Task) (next : Next) (post : Post) (desk : Desk) (told : List Event) (scheme : SchemeKind) → turn_left c rounds (finishing_by task next post desk told (finish_base scheme post)) ≤ closing_left c (length desk.list) (rounds_in c rounds told) task next
scheme_finishes c rounds task next post desk told scheme =
    each_finish scheme post (λ (base : Option Base). turn_left c rounds (finishing_by task next post desk told base) ≤ closing_left c (length desk.list) (rounds_in c rounds told) task next)
    (let h = closed_left c rounds task next post desk told in omega (arith, h))
    (span_finishes c rounds task next post desk told (kept_row post))

pub finishing_left : (c : Config) (rounds : ℕ) (task : Task) (next : Next) (post : Post) (desk : Desk) (told : List Event) → turn_left c rounds (finishing task next post desk told) ≤ closing_left c (length desk.list) (rounds_in c rounds told) task next
finishing_left c rounds task Again post desk told = let h = closed_left c rounds task Again post desk told in omega (arith, h)
finishing_left c rounds task MakeRoom post desk told = scheme_finishes c rounds task MakeRoom post desk told (scheme_of post)
finishing_left c rounds task (Answering answer) post desk told = scheme_finishes c rounds task (Answering answer) post desk told (scheme_of post)
finishing_left c rounds task (Retiring slot answer) post desk told = scheme_finishes c rounds task (Retiring slot answer) post desk told (scheme_of post)

-- clearing tells no root
pub cleared_rounds : (rows : Bool) (rounds index : ℕ) (stood : Option ℕ) → rounds_told rows rounds (cleared index stood) ≡ rounds
cleared_rounds rows rounds index None = refl
cleared_rounds rows rounds index (Some slot) = refl

clears_rounds : (rows : Bool) (rounds index : ℕ) (scheme : SchemeKind) (post : Post) → rounds_told rows rounds (clear_told scheme post index) ≡ rounds
clears_rounds rows rounds index scheme post =
    each_clear_told scheme post index (λ (events : List Event). rounds_told rows rounds events ≡ rounds)
    refl
    (cleared_rounds rows rounds index (stands post index))

pub rounds_join : (rows : Bool) (rounds : ℕ) (told more : List Event) → rounds_told rows rounds (told ++ more) ≡ rounds_told rows (rounds_told rows rounds told) more
rounds_join rows rounds [] more = refl
rounds_join rows rounds (event ∷ told) more = rounds_join rows (found_by rows rounds event) told more

cleared_all : (rows : Bool) (rounds index : ℕ) (stood : List (Option ℕ)) → rounds_told rows rounds (cleared_from index stood) ≡ rounds
cleared_all rows rounds index [] = refl
cleared_all rows rounds index (row ∷ stood) =
    rounds_join rows rounds (cleared index row) (cleared_from (index + 1) stood) ∙ ap (λ (r : ℕ). rounds_told rows r (cleared_from (index + 1) stood)) (cleared_rounds rows rounds index row) ∙ cleared_all rows rounds (index + 1) stood

-- a seat that leaves withdraws all rows with its interval
pub all_cleared : (rows : Bool) (rounds : ℕ) (post : Post) → rounds_told rows rounds (cleared_from 2 (drop 2 post.standing) ++ reserves_span post None) ≡ rounds
all_cleared rows rounds post = rounds_join rows rounds (cleared_from 2 (drop 2 post.standing)) (reserves_span post None) ∙ cleared_all rows rounds 2 (drop 2 post.standing)

pub cleared_told : (rows : Bool) (rounds index : ℕ) (told : List Event) (post : Post) → rounds_told rows rounds (told ++ clear_told (scheme_of post) post index) ≡ rounds_told rows rounds told
cleared_told rows rounds index told post = rounds_join rows rounds told (clear_told (scheme_of post) post index) ∙ clears_rounds rows (rounds_told rows rounds told) index (scheme_of post) post

cleared_finishes : (c : Config) (rounds : ℕ) (task : Task) (next : Next) (post left : Post) (index : ℕ) (desk : Desk) (told : List Event) → turn_left c rounds (finishing task next left desk (told ++ clear_told (scheme_of post) post index)) ≤ closing_left c (length desk.list) (rounds_in c rounds told) task next
cleared_finishes c rounds task next post left index desk told =
    let h = finishing_left c rounds task next left desk (told ++ clear_told (scheme_of post) post index) in
    subst (λ (r : ℕ). turn_left c rounds (finishing task next left desk (told ++ clear_told (scheme_of post) post index)) ≤ closing_left c (length desk.list) r task next) (cleared_told (publishes_rows c.scheme) rounds index told post) h

clearing_by_left : (c : Config) (rounds : ℕ) (task : Task) (next : Next) (post : Post) (desk : Desk) (told : List Event) (scheme : SchemeKind) → turn_left c rounds (clearing_by task next post desk told (clear_base scheme (index_of task))) ≤ 1 + closing_left c (length desk.list) (rounds_in c rounds told) task next
clearing_by_left c rounds task next post desk told scheme =
    each_clear scheme (index_of task) (λ (base : Option Base). turn_left c rounds (clearing_by task next post desk told base) ≤ 1 + closing_left c (length desk.list) (rounds_in c rounds told) task next)
    (omega arith)
    (let h = cleared_finishes c rounds task next post (clear_post (scheme_of post) post (index_of task)) (index_of task) desk told in omega (arith, h))

pub clearing_left : (c : Config) (rounds : ℕ) (task : Task) (next : Next) (post : Post) (desk : Desk) (told : List Event) → turn_left c rounds (clearing task next post desk told) ≤ 1 + closing_left c (length desk.list) (rounds_in c rounds told) task next
clearing_left c rounds task next post desk told = clearing_by_left c rounds task next post desk told (scheme_of post)

cleared_clears : (c : Config) (rounds : ℕ) (next : Next) (post left : Post) (desk : Desk) (told : List Event) → turn_left c rounds (clearing Dequeues next left desk (told ++ clear_told (scheme_of post) post 1)) ≤ 1 + closing_left c (length desk.list) (rounds_in c rounds told) Dequeues next
cleared_clears c rounds next post left desk told =
    let h = clearing_left c rounds Dequeues next left desk (told ++ clear_told (scheme_of post) post 1) in
    subst (λ (r : ℕ). turn_left c rounds (clearing Dequeues next left desk (told ++ clear_told (scheme_of post) post 1)) ≤ 1 + closing_left c (length desk.list) r Dequeues next) (cleared_told (publishes_rows c.scheme) rounds 1 told post) h

clearing_next_by_left : (c : Config) (rounds : ℕ) (next : Next) (post : Post) (desk : Desk) (told : List Event) (scheme : SchemeKind) → turn_left c rounds (clearing_next_by next post desk told (clear_base scheme 1)) ≤ 2 + closing_left c (length desk.list) (rounds_in c rounds told) Dequeues next
clearing_next_by_left c rounds next post desk told scheme =
    each_clear scheme 1 (λ (base : Option Base). turn_left c rounds (clearing_next_by next post desk told base) ≤ 2 + closing_left c (length desk.list) (rounds_in c rounds told) Dequeues next)
    (omega arith)
    (let h = cleared_clears c rounds next post (clear_post (scheme_of post) post 1) desk told in omega (arith, h))

pub clearing_next_left : (c : Config) (rounds : ℕ) (next : Next) (post : Post) (desk : Desk) (told : List Event) → turn_left c rounds (clearing_next next post desk told) ≤ 2 + closing_left c (length desk.list) (rounds_in c rounds told) Dequeues next
clearing_next_left c rounds next post desk told = clearing_next_by_left c rounds next post desk told (scheme_of post)
