-- How many rounds a call has lost, by where it stands: no more than its task may lose.
use Rattle.std.specs.Prelude.{ℕ, ◌≡◌, ◌≤◌, ◌+◌, ◌==◌, Bool, true, false, List, None}
use Rattle.inv_rows.specs.words.declared.config.Config.{Config}
use Rattle.inv_rows.specs.model.declared.ends.ProtectEnd.TheVariants as protect_ends
use Rattle.inv_rows.specs.model.Rest.{rounds_most, is_told, has_walked}
use Rattle.inv_rows.specs.defs.declared.event.Event.{Event}
use Rattle.inv_rows.specs.defs.declared.event.Root.{Root}
use Rattle.inv_rows.specs.model.Locals.{rounds_told}
use Rattle.inv_rows.specs.model.Machine as machine
use Rattle.inv_rows.specs.model.Posts.{counted}
use Rattle.inv_rows.specs.model.Phases.{Aim, Base, Walk, Ends, Protected}
use Rattle.inv_rows.specs.model.Phases.HazardAt.{CheckLink}
use Rattle.inv_rows.specs.model.Phases.ProtectAt.{ByHazard}
use Rattle.inv_rows.specs.model.Phases.AllocateAt.{ClaimSlot}
use Rattle.inv_rows.specs.model.Phases.Base.{Allocate, Protect, Reload}
use Rattle.inv_rows.specs.model.Calls.{ChangeKept, EnqueueKept, Task, Gets, Changes, Holds, Enqueues, Dequeues, Next, Again, MakeRoom, Answering, Retiring, AfterScan, Answered, Repeated, Counted, Why, Opens, FollowsHead, Fills, ClearsNext, Clears, Finishes, GivesUp, Retires, Tidies, Advances, Releases, ExchangeRoot, PassTail, ExchangeNext, SwingTail, ExchangeHead, Work, Getting, Changing, Enqueuing, Dequeuing, Keeping, Phase, Idle, Runs, Scans, Works}
use Rattle.inv_rows.specs.model.World.{World, finds}
use Rattle.inv_rows.specs.words.Schemes.{has_one_interval, publishes_rows}

-- the rounds that have found their root, once so many had and a step has told this
abbrev pub rounds_in : Config → ℕ → List Event → ℕ
rounds_in c rounds told = rounds_told (publishes_rows c.scheme) rounds told

-- a round has found its root, and those before it are no more than may be lost
pub record InRound (most rounds : ℕ) : Type 0 where
  pub told : 1 ≤ rounds
  pub few : rounds ≤ most + 1

-- a task of the queue
abbrev pub is_queue : Task → Bool
is_queue (Gets key) = false
is_queue (Changes kept) = false
is_queue (Holds key) = false
is_queue (Enqueues kept) = true
is_queue Dequeues = true

-- the present round is lost too
pub record LostRound (most rounds : ℕ) : Type 0 where
  pub told : 1 ≤ rounds
  pub few : rounds ≤ most

-- a round has not found its root yet, or has
abbrev pub tells_fit : ℕ → ℕ → (told : Bool) → Type 0
tells_fit most rounds false = rounds ≤ most
tells_fit most rounds true = InRound most rounds

-- a hold has one round, which index 2 does not tell; but where rows are published it is one as others are
abbrev pub hold_fit : (rows : Bool) → ℕ → ℕ → (told : Bool) → Type 0
hold_fit false most rounds told = rounds ≡ 0
hold_fit true most rounds told = tells_fit most rounds told

abbrev pub opens_fit : Config → ℕ → Task → (told : Bool) → Type 0
opens_fit c rounds (Gets key) told = tells_fit (rounds_most c (Gets key)) rounds told
opens_fit c rounds (Changes kept) told = tells_fit (rounds_most c (Changes kept)) rounds told
opens_fit c rounds (Holds key) told = hold_fit (publishes_rows c.scheme) (rounds_most c (Holds key)) rounds told
opens_fit c rounds (Enqueues kept) told = tells_fit (rounds_most c (Enqueues kept)) rounds told
opens_fit c rounds Dequeues told = tells_fit (rounds_most c Dequeues) rounds told

-- only a change or an enqueue fills a row
abbrev pub fills_fit : Config → ℕ → Task → Type 0
fills_fit c rounds (Gets key) = false ≡ true
fills_fit c rounds (Changes kept) = InRound (rounds_most c (Changes kept)) rounds
fills_fit c rounds (Holds key) = false ≡ true
fills_fit c rounds (Enqueues kept) = InRound (rounds_most c (Enqueues kept)) rounds
fills_fit c rounds Dequeues = false ≡ true

-- the present round is lost, and another comes; a hold has one round
abbrev pub lost_fit : Config → ℕ → Task → Type 0
lost_fit c rounds (Gets key) = LostRound (rounds_most c (Gets key)) rounds
lost_fit c rounds (Changes kept) = LostRound (rounds_most c (Changes kept)) rounds
lost_fit c rounds (Holds key) = false ≡ true
lost_fit c rounds (Enqueues kept) = LostRound (rounds_most c (Enqueues kept)) rounds
lost_fit c rounds Dequeues = LostRound (rounds_most c Dequeues) rounds

abbrev pub next_fit : Config → ℕ → Task → Next → Type 0
next_fit c rounds task Again = lost_fit c rounds task
next_fit c rounds task MakeRoom = lost_fit c rounds task
next_fit c rounds task (Answering answer) = Unit {0}
next_fit c rounds task (Retiring slot answer) = Unit {0}

-- an interval is not finished before another round
abbrev pub finish_fit : Config → ℕ → Task → Next → Type 0
finish_fit c rounds task Again = false ≡ true
finish_fit c rounds task MakeRoom = lost_fit c rounds task
finish_fit c rounds task (Answering answer) = Unit {0}
finish_fit c rounds task (Retiring slot answer) = Unit {0}

abbrev pub later_fit : Config → ℕ → AfterScan → Type 0
later_fit c rounds (Answered answer) = Unit {0}
later_fit c rounds (Repeated task) = lost_fit c rounds task
later_fit c rounds Counted = Unit {0}

abbrev pub why_fit : Config → ℕ → Base → Why → Type 0
why_fit c rounds base (Opens task) = opens_fit c rounds task (is_told base)
why_fit c rounds base (FollowsHead head tail) = InRound (rounds_most c Dequeues) rounds
why_fit c rounds base (Fills task) = fills_fit c rounds task
why_fit c rounds base (ClearsNext next) = next_fit c rounds Dequeues next
why_fit c rounds base (Clears task next) = next_fit c rounds task next
why_fit c rounds base (Finishes task next) = finish_fit c rounds task next
why_fit c rounds base (GivesUp answer) = Unit {0}
why_fit c rounds base (Retires answer) = Unit {0}
why_fit c rounds base (Tidies later) = later_fit c rounds later
why_fit c rounds base Advances = Unit {0}
why_fit c rounds base (Releases let_go) = rounds ≡ 0

-- a call that works on what is kept has found no root yet
abbrev pub work_fit : Config → ℕ → Work → Type 0
work_fit c rounds (Getting key at) = InRound (rounds_most c (Gets key)) rounds
work_fit c rounds (Changing kept at) = InRound (rounds_most c (Changes kept)) rounds
work_fit c rounds (Enqueuing kept at) = InRound (rounds_most c (Enqueues kept)) rounds
work_fit c rounds (Dequeuing at) = InRound (rounds_most c Dequeues) rounds
work_fit c rounds (Keeping at) = rounds ≡ 0

abbrev pub phase_fit : Config → ℕ → Phase → Type 0
phase_fit c rounds Idle = Unit {0}
phase_fit c rounds (Runs why base) = why_fit c rounds base why
phase_fit c rounds (Scans later at) = later_fit c rounds later
phase_fit c rounds (Works work) = work_fit c rounds work

-- what a step needs of the other parts: where a round is lost, the rounds are still no more than may be lost
pub record LossNeeds (w : World) (i : ℕ) : Type 0 where
  -- the bucket's root was exchanged by another seat
  pub changes : (kept : ChangeKept) (slot : ℕ) → (w.seat i).phase ≡ Works (Changing kept (ExchangeRoot slot)) → (finds w i == kept.link) ≡ false → (w.seat i).rounds ≤ rounds_most w.layout.config (Changes kept)
  -- the tail lags, or a row was linked by another seat
  pub passes : (kept : EnqueueKept) (next : ℕ) → (w.seat i).phase ≡ Works (Enqueuing kept (PassTail next)) → (w.seat i).rounds ≤ rounds_most w.layout.config (Enqueues kept)
  pub enqueues : (kept : EnqueueKept) (slot : ℕ) → (w.seat i).phase ≡ Works (Enqueuing kept (ExchangeNext slot)) → (finds w i == 0) ≡ false → (w.seat i).rounds ≤ rounds_most w.layout.config (Enqueues kept)
  -- the head was moved by another seat, or the tail lags
  pub reloads : (head tail parent index slot era steps : ℕ) → (w.seat i).phase ≡ Runs (FollowsHead head tail) (Reload parent index slot era steps) → (finds w i == parent + 1) ≡ false → (w.seat i).rounds ≤ rounds_most w.layout.config Dequeues
  pub swings : (head next : ℕ) → (w.seat i).phase ≡ Works (Dequeuing (SwingTail head next)) → (w.seat i).rounds ≤ rounds_most w.layout.config Dequeues
  pub dequeues : (head next number value : ℕ) → (w.seat i).phase ≡ Works (Dequeuing (ExchangeHead head next number value)) → (finds w i == head + 1) ≡ false → (w.seat i).rounds ≤ rounds_most w.layout.config Dequeues
  -- the one walk that room is made for has failed
  pub walks : (task : Task) (birth : ℕ) (walk : Walk) → (w.seat i).phase ≡ Runs (Fills task) (Allocate (ClaimSlot birth walk)) → has_walked task ≡ false → (w.seat i).rounds ≤ rounds_most w.layout.config task
  -- where rows are published: the root was exchanged between a protection's two loads
  pub hazards : (task : Task) (aim : Aim) (index : ℕ) (root : Root) (steps link : ℕ) → (w.seat i).phase ≡ Runs (Opens task) (Protect aim index root steps (ByHazard (CheckLink link))) → (finds w i == link) ≡ false → (w.seat i).rounds ≤ rounds_most w.layout.config task
  -- the tail and the head are never null
  pub roots : (task : Task) (base : Base) → (w.seat i).phase ≡ Runs (Opens task) base → is_queue task ≡ true → ((machine.after base (counted (w.seat i).post) (finds w i)).outcome ≡ Ends (Protected protect_ends.Null)) → false ≡ true

-- no seat loses more rounds than its task may; and only under 2GE an interval stands
pub record Losses (w : World) : Type 0 where
  pub few : (k : ℕ) → phase_fit w.layout.config (w.seat k).rounds (w.seat k).phase
  pub spans : (k : ℕ) → has_one_interval w.layout.config.scheme ≡ false → (w.seat k).post.span ≡ None
