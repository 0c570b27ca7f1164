-- The rounds of the model's calls, by what is shared by all tasks.
use Rattle.std.proofs.Common.{ℕ, ◌≡◌, List, ◌++◌, Option, Some, None, refl}
use Rattle.wfe_core.specs.words.declared.config.SchemeKind.{SchemeKind}
use Rattle.wfe_core.specs.words.declared.config.SchemeKind.TheVariants.{He, Hp, Ibr, Wfe}
use Rattle.wfe_core.specs.defs.declared.event.Event.{Event}
use Rattle.wfe_core.specs.declared.post.Post.{Post}
use Rattle.wfe_core.specs.Phases.{Base, Outcome, Goes, Ends}
use Rattle.wfe_core.specs.Phases.Ending.{Done, Protected, Followed, Allocated, Retired, Clocked}
use Rattle.wfe_core.specs.Calls.{Task, Next, Again, MakeRoom, Answering, Retiring, Runs, Opens, Clears, Finishes, goes_on}
use Rattle.wfe_core.specs.Desks.{Desk}
use Rattle.wfe_core.specs.Rounds.{scheme_of, index_of, root_of, begin_base, protect_base, clear_base, clear_post, clear_told, finish_base, round, round_by, finishing, finishing_by, clearing, clearing_by}
use Rattle.wfe_core.specs.Steps.{resumed}
use Rattle.wfe_call_rounds.specs.Rounds.{open_by, open_base, opens_on, protected_in, finish_by, finish_from, close_by, close_from, cleared_by, finished_by, is_again, then_close}

round_by_base : (task : Task) (post : Post) (base : Option Base) → round_by task post base ≡ Runs (Opens task) (open_by base (protect_base (scheme_of post) (index_of task) (root_of task post)))
round_by_base task post None = refl
round_by_base task post (Some base) = refl

-- a round begins with the base that the scheme opens with
pub round_open : (task : Task) (post : Post) → round task post ≡ Runs (Opens task) (open_base (scheme_of post) post (index_of task) (root_of task post))
round_open task post = round_by_base task post (begin_base (scheme_of post) post)

-- a beginning round goes on to the phase at which its machines stand
pub opens_goes : (task : Task) (post : Post) (desk : Desk) (told : List Event) (outcome : Outcome) → protected_in outcome ≡ None → resumed (Opens task) desk post told outcome ≡ goes_on post desk told (Runs (Opens task) (opens_on (protect_base (scheme_of post) (index_of task) (root_of task post)) outcome))
opens_goes task post desk told (Goes base) h = refl
opens_goes task post desk told (Ends Done) h = refl
opens_goes task post desk told (Ends (Protected ending)) h = absurd (cc)
opens_goes task post desk told (Ends (Followed ending)) h = refl
opens_goes task post desk told (Ends (Allocated ending)) h = refl
opens_goes task post desk told (Ends (Retired life)) h = refl
opens_goes task post desk told (Ends (Clocked clock)) h = refl

finishing_by_at : (task : Task) (next : Next) (post : Post) (desk : Desk) (told : List Event) (base : Option Base) → finishing_by task next post desk told base ≡ then_close task next desk (finish_by post told base)
finishing_by_at task next post desk told None = refl
finishing_by_at task next post desk told (Some base) = refl

finishing_at : (task : Task) (next : Next) (post : Post) (desk : Desk) (told : List Event) → finishing task next post desk told ≡ then_close task next desk (finish_from (scheme_of post) (is_again next) post told)
finishing_at task Again post desk told = refl
finishing_at task MakeRoom post desk told = finishing_by_at task MakeRoom post desk told (finish_base (scheme_of post) post)
finishing_at task (Answering answer) post desk told = finishing_by_at task (Answering answer) post desk told (finish_base (scheme_of post) post)
finishing_at task (Retiring slot answer) post desk told = finishing_by_at task (Retiring slot answer) post desk told (finish_base (scheme_of post) post)

scheme_cleared : (kind : SchemeKind) (post : Post) (index : ℕ) → scheme_of (clear_post kind post index) ≡ scheme_of post
scheme_cleared He post index = refl
scheme_cleared Ibr post index = refl
scheme_cleared Wfe post index = refl
scheme_cleared Hp post index = refl

finishing_along : (task : Task) (next : Next) (kind : SchemeKind) (post : Post) (desk : Desk) (told : List Event) → scheme_of post ≡ kind → finishing task next post desk told ≡ then_close task next desk (finish_from kind (is_again next) post told)
finishing_along task next kind post desk told e = rw (← e) (finishing_at task next post desk told)

clearing_by_at : (task : Task) (next : Next) (post : Post) (desk : Desk) (told : List Event) (base : Option Base) → clearing_by task next post desk told base ≡ then_close task next desk (close_by (scheme_of post) (index_of task) (is_again next) post told base)
clearing_by_at task next post desk told None =
    finishing_along task next (scheme_of post) (clear_post (scheme_of post) post (index_of task)) desk (told ++ clear_told (scheme_of post) post (index_of task)) (scheme_cleared (scheme_of post) post (index_of task))
clearing_by_at task next post desk told (Some base) = refl

-- a round ends as its index is cleared
pub clearing_at : (task : Task) (next : Next) (post : Post) (desk : Desk) (told : List Event) → clearing task next post desk told ≡ then_close task next desk (close_from (scheme_of post) (index_of task) (is_again next) post told)
clearing_at task next post desk told = clearing_by_at task next post desk told (clear_base (scheme_of post) (index_of task))

-- a step of the clear, and a step of what the scheme ends with
pub clears_at : (task : Task) (next : Next) (kind : SchemeKind) (post : Post) (desk : Desk) (told : List Event) (outcome : Outcome) → scheme_of post ≡ kind → resumed (Clears task next) desk post told outcome ≡ then_close task next desk (cleared_by kind (is_again next) post told outcome)
clears_at task next kind post desk told (Goes base) e = refl
clears_at task next kind post desk told (Ends ending) e = finishing_along task next kind post desk told e

pub finishes_at : (task : Task) (next : Next) (post : Post) (desk : Desk) (told : List Event) (outcome : Outcome) → resumed (Finishes task next) desk post told outcome ≡ then_close task next desk (finished_by post told outcome)
finishes_at task next post desk told (Goes base) = refl
finishes_at task next post desk told (Ends ending) = refl
