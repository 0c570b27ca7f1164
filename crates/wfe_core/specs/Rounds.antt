-- How a round of a call begins and ends under each scheme.
use Rattle.std.specs.Prelude.{ℕ, ◌%◌, Bool, true, false, List, [], ◌++◌, Option, Some, None, if◌then◌else◌, drop, ◌∷◌}
pub use Rattle.wfe_words.specs.Schemes.{helps}
use Rattle.wfe_words.specs.Schemes.{has_one_interval, moves, publishes_rows}
use Rattle.wfe_words.specs.declared.config.SchemeKind.{SchemeKind}
use Rattle.wfe_words.specs.declared.config.SchemeKind.TheVariants.{He, Hp, Ibr, Wfe}
use Rattle.wfe_defs.specs.declared.call.Answer.{Answer}
use Rattle.wfe_defs.specs.declared.call.Answer.TheVariants as answers
use Rattle.wfe_defs.specs.declared.call.ClockMove.{ClockMove}
use Rattle.wfe_defs.specs.declared.event.Event.{Event}
use Rattle.wfe_defs.specs.declared.event.Root.{Root}
use Rattle.wfe_defs.specs.declared.event.Root.TheVariants as roots
use Rattle.wfe_defs.specs.declared.fold.Change.{Change}
use Rattle.wfe_defs.specs.declared.fold.Change.TheVariants as changes
use Rattle.wfe_defs.specs.declared.lifetime.Interval.{Interval}
use Rattle.wfe_core.specs.declared.post.Post.{Post}
use Rattle.wfe_core.specs.Desks.{Desk}
use Rattle.wfe_core.specs.Posts.{stands, withdrawn, cleared}
use Rattle.wfe_core.specs.Phases.{Alone, Endless, Failed, Base, ProtectAt}
use Rattle.wfe_core.specs.Phases.ProtectAt.{LoadClock, LoadWithin, ByHazard}
use Rattle.wfe_core.specs.Phases.HazardAt.{FirstLink}
use Rattle.wfe_core.specs.Phases.BeginAt.{LoadLower}
use Rattle.wfe_core.specs.Phases.RetireAt.{LoadLife}
use Rattle.wfe_core.specs.Phases.MoveAt.{LoadEra}
use Rattle.wfe_core.specs.Phases.Base.{Begin, Protect, Clear, Finish, Release, GiveUp, Retire, Move}
use Rattle.wfe_core.specs.Calls.{AfterScan, Task, Gets, Changes, Holds, Enqueues, Dequeues, Next, Again, MakeRoom, Answering, Retiring, Repeated, Phase, Runs, Scans, ReadGuard, CallTurn, goes_on, Opens, ClearsNext, Clears, Finishes, GivesUp, Retires, Tidies, Releases, LetGo, Released, Rehold, Dropped, Parting, Works, Keeping, Loosens}
use Rattle.wfe_core.specs.Calls as calls

-- the scheme of a post's table
abbrev pub scheme_of : Post → SchemeKind
scheme_of post = post.layout.config.scheme

-- the key of a change
abbrev pub key_of : Change → ℕ
key_of (changes.Put key value) = key
key_of (changes.Removed key) = key

-- the bucket of a key
abbrev pub bucket_of : Post → ℕ → ℕ
bucket_of post key = key % post.layout.config.buckets

-- the index at which a task protects its root
abbrev pub index_of : Task → ℕ
index_of (Gets key) = 0
index_of (Changes kept) = 0
index_of (Holds key) = 2
index_of (Enqueues kept) = 0
index_of Dequeues = 0

-- the root that a task protects
abbrev pub root_of : Task → Post → Root
root_of (Gets key) post = roots.Bucket (bucket_of post key)
root_of (Changes kept) post = roots.Bucket (bucket_of post (key_of kept.change))
root_of (Holds key) post = roots.Bucket (bucket_of post key)
root_of (Enqueues kept) post = roots.Tail
root_of Dequeues post = roots.Head

-- the row that a task has taken and not linked
abbrev pub taken_of : Task → Option ℕ
taken_of (Gets key) = None
taken_of (Changes kept) = kept.taken
taken_of (Holds key) = None
taken_of (Enqueues kept) = kept.taken
taken_of Dequeues = None

-- a scheme's machines; None where it takes no step

-- an interval begins where the scheme has one and none stands
abbrev pub begin_span : Option Interval → Option Base
begin_span None = Some (Begin LoadLower)
begin_span (Some span) = None

abbrev pub begin_where : (interval : Bool) → Post → Option Base
begin_where false post = None
begin_where true post = begin_span post.span

abbrev pub begin_base : SchemeKind → Post → Option Base
begin_base scheme post = begin_where (has_one_interval scheme) post

abbrev pub protect_at : SchemeKind → ProtectAt
protect_at He = LoadClock Endless
protect_at Ibr = LoadWithin
protect_at Wfe = LoadClock (Failed 0)
protect_at Hp = ByHazard FirstLink

abbrev pub protect_base : SchemeKind → ℕ → Root → Base
protect_base scheme index root = Protect Alone index root 0 (protect_at scheme)

-- an index is cleared by a step where it publishes by itself
abbrev pub clear_base : SchemeKind → ℕ → Option Base
clear_base scheme index = if has_one_interval scheme then None else Some (Clear (publishes_rows scheme) index)

-- what clearing leaves and tells where it takes no step
abbrev pub clear_post : SchemeKind → Post → ℕ → Post
clear_post scheme post index = if has_one_interval scheme then withdrawn post index else post

abbrev pub clear_told : SchemeKind → Post → ℕ → List Event
clear_told scheme post index = if has_one_interval scheme then cleared index (stands post index) else []

-- the first row of these indexes that stands
abbrev pub first_row : List (Option ℕ) → Option ℕ
first_row [] = None
first_row (None ∷ rows) = first_row rows
first_row (Some slot ∷ rows) = Some slot

-- what stands at the first index from 2 on at which something stands: it stands between calls too
abbrev pub kept_row : Post → Option ℕ
kept_row post = first_row (drop 2 post.standing)

-- the interval stays while a row is kept
abbrev pub finish_span : Option ℕ → Option Base
finish_span None = Some Finish
finish_span (Some slot) = None

abbrev pub finish_base : SchemeKind → Post → Option Base
finish_base scheme post = if has_one_interval scheme then finish_span (kept_row post) else None

-- what stands at an index is let go: an interval goes with it where no other row is kept, and else no machine is needed
abbrev pub release_span : ℕ → Option ℕ → Option Base
release_span index None = Some (Release index)
release_span index (Some slot) = None

abbrev pub release_base : SchemeKind → Post → ℕ → Option Base
release_base scheme post index = if has_one_interval scheme then release_span index (kept_row (withdrawn post index)) else Some (Clear (publishes_rows scheme) index)

-- the index of what is let go
abbrev pub let_index : LetGo → ℕ
let_index Released = 2
let_index (Rehold key) = 2
let_index (Dropped index) = index
let_index (Parting index) = index

abbrev pub letting_by : LetGo → Option Base → Phase
letting_by let_go (Some base) = Runs (Releases let_go) base
letting_by let_go None = Works (Keeping (Loosens let_go))

-- something is let go
abbrev pub letting : LetGo → Post → Phase
letting let_go post = letting_by let_go (release_base (scheme_of post) post (let_index let_go))

abbrev pub move_base : SchemeKind → Base
move_base scheme = Move (LoadEra (helps scheme))

-- the first phase of a call that is to move the clock, where retirements do, and then to scan
abbrev pub tidy_by : (moving : Bool) → AfterScan → Post → Phase
tidy_by true later post = Runs (Tidies later) (move_base (scheme_of post))
tidy_by false later post = Scans later (ReadGuard 0)

abbrev pub first_tidy : AfterScan → Post → Phase
first_tidy later post = tidy_by (moves (scheme_of post)) later post

-- the protection of a task's root
abbrev pub opening : Task → Post → Phase
opening task post = Runs (Opens task) (protect_base (scheme_of post) (index_of task) (root_of task post))

abbrev pub round_by : Task → Post → Option Base → Phase
round_by task post None = opening task post
round_by task post (Some base) = Runs (Opens task) base

-- a round of a call begins
abbrev pub round : Task → Post → Phase
round task post = round_by task post (begin_base (scheme_of post) post)

-- a row that was not linked is given up before the answer
abbrev pub given_up : Answer → Post → Desk → List Event → Option ℕ → CallTurn
given_up answer post desk told None = calls.answers post desk told answer
given_up answer post desk told (Some slot) = goes_on post desk told (Runs (GivesUp answer) (GiveUp slot))

-- a round is over
abbrev pub closed : Task → Next → Post → Desk → List Event → CallTurn
closed task Again post desk told = goes_on post desk told (round task post)
closed task MakeRoom post desk told = goes_on post desk told (first_tidy (Repeated task) post)
closed task (Answering answer) post desk told = given_up answer post desk told (taken_of task)
closed task (Retiring slot answer) post desk told = goes_on post desk told (Runs (Retires answer) (Retire (LoadLife slot)))

abbrev pub finishing_by : Task → Next → Post → Desk → List Event → Option Base → CallTurn
finishing_by task next post desk told None = closed task next post desk told
finishing_by task next post desk told (Some base) = goes_on post desk told (Runs (Finishes task next) base)

-- the protections are cleared: finish, unless another round comes at once
abbrev pub finishing : Task → Next → Post → Desk → List Event → CallTurn
finishing task Again post desk told = closed task Again post desk told
finishing task MakeRoom post desk told = finishing_by task MakeRoom post desk told (finish_base (scheme_of post) post)
finishing task (Answering answer) post desk told =
    finishing_by task (Answering answer) post desk told (finish_base (scheme_of post) post)
finishing task (Retiring slot answer) post desk told =
    finishing_by task (Retiring slot answer) post desk told (finish_base (scheme_of post) post)

abbrev pub clearing_by : Task → Next → Post → Desk → List Event → Option Base → CallTurn
clearing_by task next post desk told None =
    finishing task next (clear_post (scheme_of post) post (index_of task)) desk (told ++ clear_told (scheme_of post) post (index_of task))
clearing_by task next post desk told (Some base) = goes_on post desk told (Runs (Clears task next) base)

-- clear the task's index
abbrev pub clearing : Task → Next → Post → Desk → List Event → CallTurn
clearing task next post desk told = clearing_by task next post desk told (clear_base (scheme_of post) (index_of task))

abbrev pub clearing_next_by : Next → Post → Desk → List Event → Option Base → CallTurn
clearing_next_by next post desk told None =
    clearing Dequeues next (clear_post (scheme_of post) post 1) desk (told ++ clear_told (scheme_of post) post 1)
clearing_next_by next post desk told (Some base) = goes_on post desk told (Runs (ClearsNext next) base)

-- a dequeue clears index 1, and then its own
abbrev pub clearing_next : Next → Post → Desk → List Event → CallTurn
clearing_next next post desk told = clearing_next_by next post desk told (clear_base (scheme_of post) 1)

-- an answer with the outcome of the move that followed its retirement
abbrev pub with_clock : Answer → ClockMove → Answer
with_clock (answers.Done version old) clock = answers.Done version clock
with_clock (answers.Taken number value old) clock = answers.Taken number value clock
with_clock answer clock = answer
