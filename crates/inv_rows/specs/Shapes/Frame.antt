-- How a property of one seat, which looks at its post and its phase, is carried over the steps of that seat.
use Rattle.wfe_core.specs.Calls.{Answers, CallOutcome, GoesOn, Idle, Phase, CallTurn, Advances, Clears, ClearsNext, Fills, Finishes, FollowsHead, GivesUp, Opens, Releases, Retires, Tidies, Why, AfterScan, GiveBack, Next, ReadGuard, Runs, Scans, Task, Work, Works, LetGo, Released, Rehold, Dropped, Parting, GetAt, FindVersion, FindCount, FindKey, FindValue, KeepAt, Loosens, LoadHeld, StoreHeld, Looks, Misses, HideSpan, MarkLeft, TakeList, MarkTaken, Keeping}
use Rattle.wfe_core.specs.declared.post.Post.{Post}
use Rattle.std.specs.Prelude.{is_some, true, ◌≡◌, None, Some, Bool, false, ℕ, ◌<◌}
use Rattle.wfe_core.specs.Rounds.{scheme_of, index_of, kept_row, let_index, move_base, opening}
use Rattle.wfe_core.specs.words.Schemes.{has_one_interval, moves, publishes_rows}
use Rattle.wfe_core.specs.Phases.Base.{Allocate, Begin, Clear, Finish, GiveUp, Release, Retire}
use Rattle.wfe_core.specs.defs.declared.call.Answer.{Answer}
use Rattle.wfe_core.specs.Phases.AllocateAt.{LoadBirth}
use Rattle.wfe_core.specs.Phases.RetireAt.{LoadLife}
use Rattle.wfe_core.specs.Phases.BeginAt.{LoadLower}
use Rattle.wfe_core.specs.Phases.{RowOf, Ends, Goes, Outcome, Turn}
use Rattle.wfe_core.specs.Dequeue.{follow_base}
use Rattle.wfe_core.specs.Keep.{held_number}
use Rattle.wfe_core.specs.Guards.{guards}
use Rattle.wfe_core.specs.Posts.{stands, with_row, withdrawn, withdrawn_all}
use Rattle.wfe_core.specs.WriteRow.{writing}
use Rattle.wfe_core.specs.Locals.{Local}
use Rattle.wfe_core.specs.Machine.{after}

-- where a seat stands after a turn
abbrev pub phase_left : CallOutcome → Phase
phase_left (GoesOn phase) = phase
phase_left (Answers answer) = Idle

-- the properties hold of what a turn leaves
pub record Left (Q : Post → Type 0) (P : Post → Phase → Type 0) (t : CallTurn) : Type 0 where
  pub post : Q t.post
  pub phase : P t.post (phase_left t.outcome)

-- where the scheme has one interval, it stands
abbrev pub SpanStands : Post → Type 0
SpanStands post = has_one_interval (scheme_of post) ≡ true → is_some post.span ≡ true

-- the row that is read
abbrev pub read_slot : GetAt → ℕ
read_slot (FindVersion slot) = slot
read_slot (FindCount slot version) = slot
read_slot (FindKey slot version count pair) = slot
read_slot (FindValue slot version pair) = slot

-- what stands is let go by a seat that leaves
abbrev pub parts : LetGo → Bool
parts Released = false
parts (Rehold key) = false
parts (Dropped index) = false
parts (Parting index) = true

-- one interval stands for all rows that are kept, and another than the one let go is; a seat that leaves lets go of all
pub record Loosely (let_go : LetGo) (post : Post) : Type 0 where
  pub interval : has_one_interval (scheme_of post) ≡ true
  pub kept : is_some (kept_row (withdrawn post (let_index let_go))) ≡ true
  pub apart : parts let_go ≡ false

-- no other row is kept than the one let go
pub record Barely (let_go : LetGo) (post : Post) : Type 0 where
  pub bare : kept_row (withdrawn post (let_index let_go)) ≡ None
  pub apart : parts let_go ≡ false

-- one interval stands, and is withdrawn with all rows
pub record Hides (post : Post) : Type 0 where
  pub interval : has_one_interval (scheme_of post) ≡ true
  pub stood : is_some post.span ≡ true

-- where there is one interval, none stands
abbrev pub SpanGone : Post → Type 0
SpanGone post = has_one_interval (scheme_of post) ≡ true → post.span ≡ None

-- each index publishes by itself, and a row stands at the one that is copied
pub record Copied (from : ℕ) (post : Post) : Type 0 where
  pub plain : has_one_interval (scheme_of post) ≡ false
  pub kept : is_some (stands post from) ≡ true

-- what a step on what is kept says of the post
abbrev pub KeepFits : Post → KeepAt → Type 0
KeepFits post (Loosens let_go) = Loosely let_go post
KeepFits post (LoadHeld from index) = is_some (stands post from) ≡ true
KeepFits post (StoreHeld from index era) = Copied from post
KeepFits post (Looks index key at) = stands post index ≡ Some (read_slot at)
KeepFits post (Misses index) = stands post index ≡ None
KeepFits post HideSpan = Hides post
KeepFits post MarkLeft = SpanGone post
KeepFits post (TakeList place) = Unit {0}
KeepFits post (MarkTaken place count) = Unit {0}

-- what a step of a call's own says of it: within a round an interval stands
abbrev pub WorkFits : Post → Work → Type 0
WorkFits post (Keeping at) = KeepFits post at
WorkFits post work = SpanStands post

-- what a step of a call's own lets stand: where a seat leaves under 2GE it withdraws all rows at once, with the interval
abbrev pub bared : Work → Post → Post
bared (Keeping HideSpan) post = withdrawn_all post
bared work post = post

-- the second step of a copy
abbrev pub stores_held : Work → Bool
stores_held (Keeping (StoreHeld from index era)) = true
stores_held work = false

-- a seat that leaves clears one index after the other where each index publishes by itself
abbrev pub Parts : LetGo → Post → Type 0
Parts Released post = Unit {0}
Parts (Rehold key) post = Unit {0}
Parts (Dropped index) post = Unit {0}
Parts (Parting index) post = has_one_interval (scheme_of post) ≡ false

-- what has to hold where a machine has ended, by what comes after it: within a round an interval stands
abbrev pub Resumes : Why → Post → Type 0
Resumes (Opens task) post = SpanStands post
Resumes (FollowsHead head tail) post = SpanStands post
Resumes (Fills task) post = SpanStands post
Resumes (Releases let_go) post = Parts let_go post
Resumes why post = Unit {0}

-- P holds of each phase that a call can come to by anything but a step inside a machine or the first step of a copy, where Q
-- holds of the post: the first phases of the machines, the steps of a scan, and the call's own steps
pub record Grows (Q : Post → Type 0) (P : Post → Phase → Type 0) : Type 0 where
  pub guarded : (post : Post) → Q post → 0 < guards post.layout.config
  pub withdraws : (post : Post) (index : ℕ) → has_one_interval (scheme_of post) ≡ true → Q post → Q (withdrawn post index)
  pub copies : (post : Post) (index slot : ℕ) → Q post → Q (with_row post index slot)
  pub idle : (post : Post) → Q post → P post Idle
  pub begins : (post : Post) (task : Task) → has_one_interval (scheme_of post) ≡ true → post.span ≡ None → Q post → P post (Runs (Opens task) (Begin LoadLower))
  pub opens : (post : Post) (task : Task) → SpanStands post → Q post → P post (opening task post)
  pub follows : (post : Post) (head tail : ℕ) → SpanStands post → Q post → P post (Runs (FollowsHead head tail) (follow_base (scheme_of post) head))
  pub allocates : (post : Post) (task : Task) → SpanStands post → Q post → P post (Runs (Fills task) (Allocate LoadBirth))
  pub writes : (post : Post) (task : Task) (slot : ℕ) (row : RowOf) → SpanStands post → Q post → P post (Runs (Fills task) (writing slot row))
  pub clears : (post : Post) (task : Task) (next : Next) → has_one_interval (scheme_of post) ≡ false → Q post → P post (Runs (Clears task next) (Clear (publishes_rows (scheme_of post)) (index_of task)))
  pub clears_next : (post : Post) (next : Next) → has_one_interval (scheme_of post) ≡ false → Q post → P post (Runs (ClearsNext next) (Clear (publishes_rows (scheme_of post)) 1))
  pub finishes : (post : Post) (task : Task) (next : Next) → has_one_interval (scheme_of post) ≡ true → kept_row post ≡ None → Q post → P post (Runs (Finishes task next) Finish)
  pub gives_up : (post : Post) (answer : Answer) (slot : ℕ) → Q post → P post (Runs (GivesUp answer) (GiveUp slot))
  pub retires : (post : Post) (answer : Answer) (slot : ℕ) → Q post → P post (Runs (Retires answer) (Retire (LoadLife slot)))
  pub tidies : (post : Post) (later : AfterScan) → moves (scheme_of post) ≡ true → Q post → P post (Runs (Tidies later) (move_base (scheme_of post)))
  pub advances : (post : Post) → Q post → P post (Runs Advances (move_base (scheme_of post)))
  pub clears_kept : (post : Post) (let_go : LetGo) → has_one_interval (scheme_of post) ≡ false → Q post → P post (Runs (Releases let_go) (Clear (publishes_rows (scheme_of post)) (let_index let_go)))
  pub releases : (post : Post) (let_go : LetGo) → has_one_interval (scheme_of post) ≡ true → Barely let_go post → Q post → P post (Runs (Releases let_go) (Release (let_index let_go)))
  pub scans : (post : Post) (later : AfterScan) (number : ℕ) → number < guards post.layout.config → Q post → P post (Scans later (ReadGuard number))
  pub gives_back : (post : Post) (later : AfterScan) (place slot : ℕ) → Q post → P post (Scans later (GiveBack place slot))
  pub works : (post : Post) (work : Work) → stores_held work ≡ false → WorkFits post work → Q post → P post (Works work)

-- the properties hold of a seat
pub record Seated (Q : Post → Type 0) (P : Post → Phase → Type 0) (l : Local) : Type 0 where
  pub post : Q l.post
  pub phase : P l.post l.phase

-- a step inside a machine: P holds where the machine goes on, and where it has ended what comes after it may come
abbrev pub Passed : (Post → Phase → Type 0) → Why → Post → Outcome → Type 0
Passed P why post (Goes base) = P post (Runs why base)
Passed P why post (Ends ending) = Resumes why post

-- the same of the turn of a machine
pub record Moves (Q : Post → Type 0) (P : Post → Phase → Type 0) (why : Why) (t : Turn) : Type 0 where
  pub post : Q t.post
  pub phase : Passed P why t.post t.outcome

-- where each index publishes by itself, a copy that has found an era or a link goes on to publish it
abbrev pub Stores : (Post → Phase → Type 0) → Post → ℕ → Work → Type 0
Stores P post found (Keeping (LoadHeld from index)) =
    has_one_interval (scheme_of post) ≡ false → P post (Works (Keeping (StoreHeld from index (held_number (publishes_rows (scheme_of post)) found))))
Stores P post found work = Unit {0}

-- at a call's own step: Q holds of the post once it has let go of what it does, and what the step says of the post before
pub record Owned (Q : Post → Type 0) (P : Post → Phase → Type 0) (left : Post) (found : ℕ) (work : Work) : Type 0 where
  pub post : Q (bared work left)
  pub fits : WorkFits left work
  pub stores : Stores P left found work

-- what a property owes at one step of a seat that has counted it: inside a machine its own steps, elsewhere Q of the post,
-- and at a call's own steps what they say of it
abbrev pub Owes : (Post → Type 0) → (Post → Phase → Type 0) → Post → ℕ → Phase → Type 0
Owes Q P post found Idle = Q post
Owes Q P post found (Runs why base) = Moves Q P why (after base post found)
Owes Q P post found (Scans later at) = Q post
Owes Q P post found (Works work) = Owned Q P post found work

-- a step inside a machine, for a property that leaves what comes after the machine to another
abbrev pub Onward : (Post → Phase → Type 0) → Why → Post → Outcome → Type 0
Onward P why post (Goes base) = P post (Runs why base)
Onward P why post (Ends ending) = Unit {0}

pub record StepsOn (Q : Post → Type 0) (P : Post → Phase → Type 0) (why : Why) (t : Turn) : Type 0 where
  pub post : Q t.post
  pub phase : Onward P why t.post t.outcome
