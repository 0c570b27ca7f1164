-- A round ends: what was told before is noted, and the indexes are cleared.
use Rattle.std.proofs.Common.{Bool, List, None, Option, Some, [], ap, append-nil, false, refl, true, sym, ℕ, ◌++◌, ◌∙◌, ◌∷◌, ◌≡◌, if◌then◌else◌}
use Rattle.wfe_core.specs.words.Schemes.{has_one_interval, publishes_rows}
use Rattle.wfe_core.specs.defs.declared.call.Answer.{Answer}
use Rattle.wfe_core.specs.defs.declared.event.Event.{Event}
use Rattle.wfe_core.specs.defs.declared.event.Event.TheVariants as events
use Rattle.wfe_core.specs.Calls.{Again, Answering, CallTurn, Clears, ClearsNext, Dequeues, MakeRoom, Next, Retiring, Runs, Task, goes_on}
use Rattle.wfe_core.specs.Calls as calls
use Rattle.wfe_core.specs.Desks.{Desk, Notes, noting}
use Rattle.wfe_core.specs.Phases.{Base}
use Rattle.wfe_core.specs.Phases.Base.{Clear}
use Rattle.wfe_core.specs.Posts.{cleared, publishes_index}
use Rattle.wfe_core.specs.Rounds.{clear_base, clear_post, clear_told, clearing, clearing_by, clearing_next, clearing_next_by, closed, finish_base, finish_span, finishing, finishing_by, given_up, index_of, kept_row, scheme_of, taken_of}
use Rattle.wfe_core.specs.declared.post.Post.{Post}
use Rattle.wfe_drive_words.specs.drive_cells.Unit.{kept_desk, seat_after}
use Rattle.wfe_drive_runs.specs.Pieces.{clearing_at, clearing_next_at, seat_of}
use Rattle.wfe_drive_runs.proofs.Turning.{noted_append}

-- what was cleared is not noted
pub clear_quiet : (desk : Desk) (index : ℕ) (stood : Option ℕ) (rows : Bool) (post : Post) → noting desk (cleared index stood ++ publishes_index rows post index 0) ≡ desk
clear_quiet desk index None false post = refl
clear_quiet desk index None true post = refl
clear_quiet desk index (Some slot) false post = refl
clear_quiet desk index (Some slot) true post = refl

-- a turn that goes on
pub goes_noted : (post : Post) (desk : Desk) (told : List Event) (phase : calls.Phase) → seat_after (goes_on post desk told phase) ≡ seat_after (goes_on post (noting desk told) [] phase)
goes_noted post desk told phase = ap (λ (events : List Event). seat_of phase post (noting desk events)) (append-nil told)

answers_noted : (post : Post) (desk : Desk) (told : List Event) (answer : Answer) → seat_after (calls.answers post desk told answer) ≡ seat_after (calls.answers post (noting desk told) [] answer)
answers_noted post desk told answer = ap (λ (notes : Notes). seat_of calls.Idle post (record desk { notes = notes })) (noted_append desk.notes told (events.End post.steps answer ∷ []))

given_noted : (answer : Answer) (post : Post) (desk : Desk) (told : List Event) (taken : Option ℕ) → seat_after (given_up answer post desk told taken) ≡ seat_after (given_up answer post (noting desk told) [] taken)
given_noted answer post desk told None = answers_noted post desk told answer
given_noted answer post desk told (Some slot) = goes_noted post desk told _

pub closed_noted : (task : Task) (next : Next) (post : Post) (desk : Desk) (told : List Event) → seat_after (closed task next post desk told) ≡ seat_after (closed task next post (noting desk told) [])
closed_noted task Again post desk told = goes_noted post desk told _
closed_noted task MakeRoom post desk told = goes_noted post desk told _
closed_noted task (Answering answer) post desk told = given_noted answer post desk told (taken_of task)
closed_noted task (Retiring slot answer) post desk told = goes_noted post desk told _

given_outcome : (answer : Answer) (post : Post) (desk other : Desk) (told : List Event) (taken : Option ℕ) → (given_up answer post desk told taken).outcome ≡ (given_up answer post other [] taken).outcome
given_outcome answer post desk other told None = refl
given_outcome answer post desk other told (Some slot) = refl

pub closed_outcome : (task : Task) (next : Next) (post : Post) (desk other : Desk) (told : List Event) → (closed task next post desk told).outcome ≡ (closed task next post other []).outcome
closed_outcome task Again post desk other told = refl
closed_outcome task MakeRoom post desk other told = refl
closed_outcome task (Answering answer) post desk other told = given_outcome answer post desk other told (taken_of task)
closed_outcome task (Retiring slot answer) post desk other told = refl

-- what was told before the round's end is noted, whatever the scheme
finishing-by : (task : Task) (next : Next) (post : Post) (desk : Desk) (told : List Event) (base : Option Base) → seat_after (finishing_by task next post desk told base) ≡ seat_after (finishing_by task next post (noting desk told) [] base)
finishing-by task next post desk told None = closed_noted task next post desk told
finishing-by task next post desk told (Some base) = goes_noted post desk told _

finishing_noted : (task : Task) (next : Next) (post : Post) (desk : Desk) (told : List Event) → seat_after (finishing task next post desk told) ≡ seat_after (finishing task next post (noting desk told) [])
finishing_noted task Again post desk told = closed_noted task Again post desk told
finishing_noted task MakeRoom post desk told = finishing-by task MakeRoom post desk told (finish_base (scheme_of post) post)
finishing_noted task (Answering answer) post desk told = finishing-by task (Answering answer) post desk told (finish_base (scheme_of post) post)
finishing_noted task (Retiring slot answer) post desk told = finishing-by task (Retiring slot answer) post desk told (finish_base (scheme_of post) post)

both-noted : (desk : Desk) (first second : List Event) → noting desk (first ++ second) ≡ noting (noting desk first) second
both-noted desk first second = ap (λ (notes : Notes). let d : Desk = record desk { notes = notes } in d) (noted_append desk.notes first second)

clearing-by : (task : Task) (next : Next) (post : Post) (desk : Desk) (told : List Event) (base : Option Base) → seat_after (clearing_by task next post desk told base) ≡ seat_after (clearing_by task next post (noting desk told) [] base)
clearing-by task next post desk told (Some base) = goes_noted post desk told _
clearing-by task next post desk told None =
    let left : Post = clear_post (scheme_of post) post (index_of task) in
    let more : List Event = clear_told (scheme_of post) post (index_of task) in
    finishing_noted task next left desk (told ++ more)
    ∙ ap (λ (d : Desk). seat_after (finishing task next left d [])) (both-noted desk told more)
    ∙ sym (finishing_noted task next left (noting desk told) more)

pub clearing_noted : (task : Task) (next : Next) (post : Post) (desk : Desk) (told : List Event) → seat_after (clearing task next post (kept_desk desk) told) ≡ clearing_at task next post (noting desk told)
clearing_noted task next post desk told = clearing-by task next post (kept_desk desk) told (clear_base (scheme_of post) (index_of task))

next-by : (next : Next) (post : Post) (desk : Desk) (told : List Event) (base : Option Base) → seat_after (clearing_next_by next post (kept_desk desk) told base) ≡ seat_after (clearing_next_by next post (noting (kept_desk desk) told) [] base)
next-by next post desk told (Some base) = goes_noted post desk told _
next-by next post desk told None =
    let left : Post = clear_post (scheme_of post) post 1 in
    let more : List Event = clear_told (scheme_of post) post 1 in
    clearing_noted Dequeues next left desk (told ++ more)
    ∙ ap (clearing_at Dequeues next left) (both-noted desk told more)
    ∙ sym (clearing_noted Dequeues next left (noting desk told) more)

pub clearing_next_noted : (next : Next) (post : Post) (desk : Desk) (told : List Event) → seat_after (clearing_next next post (kept_desk desk) told) ≡ clearing_next_at next post (noting desk told)
clearing_next_noted next post desk told = next-by next post desk told (clear_base (scheme_of post) 1)

-- under a scheme that clears an index by a step

-- the step comes
abbrev clearing_has : Task → Next → Post → Desk → List Event → (one : Bool) → CallTurn
clearing_has task next post desk told one = clearing_by task next post desk told (if one then None else Some (Clear (publishes_rows (scheme_of post)) (index_of task)))

pub clearing_clears : (task : Task) (next : Next) (post : Post) (desk : Desk) (told : List Event) → has_one_interval (scheme_of post) ≡ false → clearing task next post desk told ≡ goes_on post desk told (Runs (Clears task next) (Clear (publishes_rows (scheme_of post)) (index_of task)))
clearing_clears task next post desk told one = ap (clearing_has task next post desk told) one

pub clearing_next_clears : (next : Next) (post : Post) (desk : Desk) (told : List Event) → has_one_interval (scheme_of post) ≡ false → clearing_next next post desk told ≡ goes_on post desk told (Runs (ClearsNext next) (Clear (publishes_rows (scheme_of post)) 1))
clearing_next_clears next post desk told one = ap (λ (b : Bool). clearing_next_by next post desk told (if b then None else Some (Clear (publishes_rows (scheme_of post)) 1))) one

pub clears_is : (task : Task) (next : Next) (post : Post) (desk : Desk) → index_of task ≡ 0 → has_one_interval (scheme_of post) ≡ false
    → clearing_at task next post desk ≡ seat_of (Runs (Clears task next) (Clear (publishes_rows (scheme_of post)) 0)) post desk
clears_is task next post desk i one =
    ap seat_after (clearing_clears task next post (kept_desk desk) [] one)
    ∙ ap (λ (index : ℕ). seat_of (Runs (Clears task next) (Clear (publishes_rows (scheme_of post)) index)) post desk) i

pub clears_next_is : (next : Next) (post : Post) (desk : Desk) → has_one_interval (scheme_of post) ≡ false → clearing_next_at next post desk ≡ seat_of (Runs (ClearsNext next) (Clear (publishes_rows (scheme_of post)) 1)) post desk
clears_next_is next post desk one = ap seat_after (clearing_next_clears next post (kept_desk desk) [] one)

-- and the round is over after it
abbrev finishing_has : Task → Next → Post → Desk → List Event → (one : Bool) → CallTurn
finishing_has task next post desk told one = finishing_by task next post desk told (if one then finish_span (kept_row post) else None)

pub finishing_closed : (task : Task) (next : Next) (post : Post) (desk : Desk) (told : List Event) → has_one_interval (scheme_of post) ≡ false → finishing task next post desk told ≡ closed task next post desk told
finishing_closed task Again post desk told one = refl
finishing_closed task MakeRoom post desk told one = ap (finishing_has task MakeRoom post desk told) one
finishing_closed task (Answering answer) post desk told one = ap (finishing_has task (Answering answer) post desk told) one
finishing_closed task (Retiring slot answer) post desk told one = ap (finishing_has task (Retiring slot answer) post desk told) one
