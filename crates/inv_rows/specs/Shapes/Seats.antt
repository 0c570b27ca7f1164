-- The static shape of each seat: its post is the seat's own, and each phase is one that its scheme and its call come to.
use Rattle.wfe_core.specs.Calls.{Advances, Clears, ClearsNext, Fills, Finishes, FollowsHead, GivesUp, Opens, Releases, Retires, Tidies, Why, Changes, Dequeues, Enqueues, Gets, Holds, Task, GiveBack, ReadGuard, ScanAt, Idle, Phase, Runs, Scans, Works}
use Rattle.wfe_core.specs.Phases.{Aim, Alone, Follows, Base, Endless, Failed, Tries, ProtectAt, MoveAt, AllocateAt}
use Rattle.wfe_core.specs.Rounds.{index_of, kept_row, key_of, let_index}
use Rattle.std.specs.Prelude.{ℕ, ◌%◌, Bool, false, true, nat_le, ◌&&◌, nat_lt, not, ◌≡◌, None, length, ◌≤◌}
use Rattle.wfe_core.specs.defs.declared.event.Root.{Root}
use Rattle.wfe_core.specs.defs.declared.event.Root.TheVariants as roots
use Rattle.wfe_core.specs.Phases.Base.{Allocate, Begin, Clear, Finish, GiveUp, Move, Protect, Release, Reload, Retire, Write}
use Rattle.wfe_core.specs.words.declared.config.SchemeKind.{SchemeKind}
use Rattle.wfe_core.specs.words.Schemes.{counts_tries, has_one_interval, helps, publishes_rows, tries_by_clock}
use Rattle.wfe_core.specs.words.Schemes.{moves as moves_clock}
use Rattle.wfe_core.specs.Phases.ProtectAt.{AnswerOwn, ByHazard, CheckClock, CheckOwnClock, CheckUpper, LoadAnswer, LoadClock, LoadLink, LoadOwnClock, LoadOwnLink, LoadWithin, PublishEra, PublishHelper, PublishRequest, RaiseUpper, TakeAnswer, WithdrawHelper, WithdrawRequest}
use Rattle.wfe_core.specs.Phases.MoveAt.{AnswerAsked, CheckEra, ExchangeClock, HandOver, HideEra, HideLate, LoadAsked, LoadEra, LoadRequest, LoadReserved, ShowEra}
use Rattle.wfe_core.specs.Phases.AllocateAt.{ClaimSlot, LoadBirth, StoreLife}
use Rattle.wfe_core.specs.words.declared.config.Config.{Config}
use Rattle.wfe_core.specs.WriteRow.{first_written, last_written}
use Rattle.wfe_core.specs.Links.{parent_of}
use Rattle.wfe_core.specs.declared.post.Post.{Post}
use Rattle.inv_rows.specs.Shapes.Frame.{SpanStands, WorkFits, Seated, parts}
use Rattle.wfe_core.specs.Posts.{withdrawn}
use Rattle.wfe_core.specs.words.declared.layout.Layout.{Layout}
use Rattle.wfe_core.specs.Guards.{guards}
use Rattle.wfe_core.specs.World.{World}

-- the aim, the index and the root of the protection that comes before this
abbrev pub aim_by : Why → Aim
aim_by (Opens task) = Alone
aim_by (FollowsHead head tail) = Follows
aim_by (Fills task) = Alone
aim_by (ClearsNext next) = Alone
aim_by (Clears task next) = Alone
aim_by (Finishes task next) = Alone
aim_by (GivesUp answer) = Alone
aim_by (Retires answer) = Alone
aim_by (Tidies later) = Alone
aim_by Advances = Alone
aim_by (Releases let_go) = Alone

-- the index that is protected or cleared
abbrev pub index_by : Why → ℕ
index_by (Opens task) = index_of task
index_by (FollowsHead head tail) = 1
index_by (Fills task) = 0
index_by (ClearsNext next) = 1
index_by (Clears task next) = index_of task
index_by (Finishes task next) = 0
index_by (GivesUp answer) = 0
index_by (Retires answer) = 0
index_by (Tidies later) = 0
index_by Advances = 0
index_by (Releases let_go) = let_index let_go

-- the root of a task in a table with so many buckets
abbrev pub task_root : ℕ → Task → Root
task_root buckets (Gets key) = roots.Bucket (key % buckets)
task_root buckets (Changes kept) = roots.Bucket (key_of kept.change % buckets)
task_root buckets (Holds key) = roots.Bucket (key % buckets)
task_root buckets (Enqueues kept) = roots.Tail
task_root buckets Dequeues = roots.Head

abbrev pub root_by : ℕ → Why → Root
root_by buckets (Opens task) = task_root buckets task
root_by buckets (FollowsHead head tail) = roots.Next head
root_by buckets (Fills task) = roots.Head
root_by buckets (ClearsNext next) = roots.Head
root_by buckets (Clears task next) = roots.Head
root_by buckets (Finishes task next) = roots.Head
root_by buckets (GivesUp answer) = roots.Head
root_by buckets (Retires answer) = roots.Head
root_by buckets (Tidies later) = roots.Head
root_by buckets Advances = roots.Head
root_by buckets (Releases let_go) = roots.Head

-- what a machine is run for
pub data Kind : Type 0 where
  ToOpen : Kind
  ToFollow : Kind
  ToFill : Kind
  ToClear : Kind
  ToFinish : Kind
  ToRelease : Kind
  ToGiveUp : Kind
  ToRetire : Kind
  ToMove : Kind

abbrev pub kind_of : Why → Kind
kind_of (Opens task) = ToOpen
kind_of (FollowsHead head tail) = ToFollow
kind_of (Fills task) = ToFill
kind_of (ClearsNext next) = ToClear
kind_of (Clears task next) = ToClear
kind_of (Finishes task next) = ToFinish
kind_of (GivesUp answer) = ToGiveUp
kind_of (Retires answer) = ToRetire
kind_of (Tidies later) = ToMove
kind_of Advances = ToMove
kind_of (Releases let_go) = ToRelease

abbrev pub begins : Kind → Bool
begins ToOpen = true
begins _ = false

abbrev pub protects : Kind → Bool
protects ToOpen = true
protects ToFollow = true
protects _ = false

abbrev pub reloads : Kind → Bool
reloads ToFollow = true
reloads _ = false

abbrev pub clears : Kind → Bool
clears ToClear = true
clears ToRelease = true
clears _ = false

abbrev pub finishes : Kind → Bool
finishes ToFinish = true
finishes _ = false

abbrev pub releases : Kind → Bool
releases ToRelease = true
releases _ = false

abbrev pub fills : Kind → Bool
fills ToFill = true
fills _ = false

abbrev pub gives_up : Kind → Bool
gives_up ToGiveUp = true
gives_up _ = false

abbrev pub retires : Kind → Bool
retires ToRetire = true
retires _ = false

abbrev pub moves : Kind → Bool
moves ToMove = true
moves _ = false

-- the machine is one that is run for this
abbrev pub suits : Base → Kind → Bool
suits (Begin at) kind = begins kind
suits (Protect aim index root steps at) kind = protects kind
suits (Reload parent index slot era steps) kind = reloads kind
suits (Clear rows index) kind = clears kind
suits Finish kind = finishes kind
suits (Release index) kind = releases kind
suits (Allocate at) kind = fills kind
suits (Write slot row place) kind = fills kind
suits (GiveUp slot) kind = gives_up kind
suits (Retire at) kind = retires kind
suits (Move at) kind = moves kind

-- where tries are counted, so many are made at most
abbrev pub tries_fit : SchemeKind → ℕ → Tries → Bool
tries_fit scheme most Endless = tries_by_clock scheme
tries_fit scheme most (Failed count) = counts_tries scheme && nat_le count most

-- a try is left
abbrev pub try_fits : SchemeKind → ℕ → Tries → Bool
try_fits scheme most Endless = tries_by_clock scheme
try_fits scheme most (Failed count) = counts_tries scheme && nat_lt count most

-- a protection's phase is one of the scheme
abbrev pub protect_fits : SchemeKind → ℕ → ProtectAt → Bool
protect_fits scheme most (LoadClock tries) = tries_fit scheme most tries
protect_fits scheme most (PublishEra era tries) = tries_fit scheme most tries
protect_fits scheme most (LoadLink era tries) = try_fits scheme most tries
protect_fits scheme most (CheckClock era tries link) = try_fits scheme most tries
protect_fits scheme most PublishRequest = helps scheme
protect_fits scheme most LoadOwnClock = helps scheme
protect_fits scheme most (PublishHelper first era last) = helps scheme
protect_fits scheme most (LoadOwnLink first era last) = helps scheme
protect_fits scheme most (CheckOwnClock first era last link) = helps scheme
protect_fits scheme most (AnswerOwn first era link) = helps scheme
protect_fits scheme most (LoadAnswer first) = helps scheme
protect_fits scheme most (TakeAnswer link era) = helps scheme
protect_fits scheme most (WithdrawRequest link era) = helps scheme
protect_fits scheme most (WithdrawHelper link era) = helps scheme
protect_fits scheme most LoadWithin = has_one_interval scheme
protect_fits scheme most (CheckUpper link) = has_one_interval scheme
protect_fits scheme most (RaiseUpper era) = has_one_interval scheme
protect_fits scheme most (ByHazard at) = publishes_rows scheme

-- two tests have one result
abbrev pub agree : Bool → Bool → Bool
agree true b = b
agree false b = not b

-- a mover's phase is one of the scheme, and the seat that it helps is there
abbrev pub move_fits : SchemeKind → ℕ → MoveAt → Bool
move_fits scheme seats (LoadEra helping) = agree helping (helps scheme)
move_fits scheme seats (LoadRequest era seat shows) = helps scheme && nat_lt seat seats
move_fits scheme seats (ShowEra era seat tag index root) = helps scheme && nat_lt seat seats
move_fits scheme seats (LoadAsked era seat tag index root) = helps scheme && nat_lt seat seats
move_fits scheme seats (CheckEra era seat tag index root link) = helps scheme && nat_lt seat seats
move_fits scheme seats (AnswerAsked era seat tag index root link) = helps scheme && nat_lt seat seats
move_fits scheme seats (LoadReserved era seat tag index root link) = helps scheme && nat_lt seat seats
move_fits scheme seats (HandOver era seat tag index root link old) = helps scheme && nat_lt seat seats
move_fits scheme seats (HideEra era) = helps scheme
move_fits scheme seats (HideLate seen) = helps scheme
move_fits scheme seats (ExchangeClock era) = true

-- a walk stays in the table
abbrev pub allocate_fits : ℕ → AllocateAt → Bool
allocate_fits slots LoadBirth = true
allocate_fits slots (ClaimSlot birth walk) = nat_le walk.start slots && nat_le walk.slot slots && nat_le walk.left slots
allocate_fits slots (StoreLife birth slot) = nat_le slot slots

-- a machine's phase is one of the scheme
abbrev pub base_fits : Config → Base → Bool
base_fits config (Begin at) = has_one_interval config.scheme
base_fits config (Protect aim index root steps at) = protect_fits config.scheme config.tries at
base_fits config (Reload parent index slot era steps) = true
base_fits config (Clear rows index) = not (has_one_interval config.scheme) && agree rows (publishes_rows config.scheme)
base_fits config Finish = has_one_interval config.scheme
base_fits config (Release index) = has_one_interval config.scheme
base_fits config (Allocate at) = allocate_fits config.slots at
base_fits config (Write slot row place) = nat_le (first_written row) place && nat_le place (last_written row)
base_fits config (GiveUp slot) = true
base_fits config (Retire at) = true
base_fits config (Move at) = move_fits config.scheme config.seats at

-- aim, index and root are those of what the machine is run for
pub record Aimed (buckets : ℕ) (why : Why) (aim : Aim) (index : ℕ) (root : Root) : Type 0 where
  pub aimed : aim ≡ aim_by why
  pub at : index ≡ index_by why
  pub of : root ≡ root_by buckets why

-- the same of a reload
pub record Reloads (buckets : ℕ) (why : Why) (parent index : ℕ) : Type 0 where
  pub at : index ≡ index_by why
  pub of : parent ≡ parent_of (root_by buckets why)

abbrev pub Shaped : ℕ → Why → Base → Type 0
Shaped buckets why (Begin at) = Unit {0}
Shaped buckets why (Protect aim index root steps at) = Aimed buckets why aim index root
Shaped buckets why (Reload parent index slot era steps) = Reloads buckets why parent index
Shaped buckets why (Clear rows index) = index ≡ index_by why
Shaped buckets why (Release index) = index ≡ index_by why
Shaped buckets why base = Unit {0}

-- what a machine's phase says of the post: where an interval begins none stands, within a round one does, and where it
-- is finished no row is kept
abbrev pub Posted : Base → Post → Type 0
Posted (Begin at) post = post.span ≡ None
Posted (Protect aim index root steps at) post = SpanStands post
Posted (Reload parent index slot era steps) post = SpanStands post
Posted (Clear rows index) post = Unit {0}
Posted Finish post = kept_row post ≡ None
Posted (Release index) post = kept_row (withdrawn post index) ≡ None
Posted (Allocate at) post = SpanStands post
Posted (Write slot row place) post = SpanStands post
Posted base post = Unit {0}

-- a retirement moves the clock only where the scheme does
abbrev pub Tidied : SchemeKind → Why → Type 0
Tidied scheme (Tidies later) = moves_clock scheme ≡ true
Tidied scheme why = Unit {0}

-- a seat that leaves lets no interval go with one row
abbrev pub Parted : SchemeKind → Base → Why → Type 0
Parted scheme (Release index) (Releases let_go) = parts let_go ≡ false
Parted scheme (Move at) why = Tidied scheme why
Parted scheme base why = Unit {0}

-- a machine's phase
pub record Run (layout : Layout) (why : Why) (base : Base) (post : Post) : Type 0 where
  pub suited : suits base (kind_of why) ≡ true
  pub fits : base_fits layout.config base ≡ true
  pub shape : Shaped layout.config.buckets why base
  pub posted : Posted base post
  pub parted : Parted layout.config.scheme base why

abbrev pub scan_fits : Config → ScanAt → Bool
scan_fits config (ReadGuard number) = nat_lt number (guards config)
scan_fits config (GiveBack place slot) = true

abbrev pub PhaseFits : Layout → Post → Phase → Type 0
PhaseFits layout post Idle = Unit {0}
PhaseFits layout post (Runs why base) = Run layout why base post
PhaseFits layout post (Scans later at) = scan_fits layout.config at ≡ true
PhaseFits layout post (Works work) = WorkFits post work

-- a post of this seat and layout
pub record PostFits (table : Layout) (number : ℕ) (post : Post) : Type 0 where
  pub seat : post.seat ≡ number
  pub layout : post.layout ≡ table
  pub cursor : post.cursor ≤ table.config.slots
  pub tags : length post.tags ≡ 8
  pub standing : length post.standing ≡ 8

-- each seat, also those that are not there
pub record Seats (w : World) : Type 0 where
  pub fits : (k : ℕ) → Seated (PostFits w.layout k) (PhaseFits w.layout) (w.seat k)
