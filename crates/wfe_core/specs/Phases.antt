-- Where a machine stands: the step to come, with what earlier steps loaded. A machine that ends makes no phase.
use Rattle.std.specs.Prelude.{ℕ, Bool, List}
use Rattle.wfe_defs.specs.declared.call.ClockMove.{ClockMove}
use Rattle.wfe_defs.specs.declared.event.Event.{Event}
use Rattle.wfe_defs.specs.declared.event.Root.{Root}
use Rattle.wfe_defs.specs.declared.lifetime.Lifetime.{Lifetime}
use Rattle.wfe_defs.specs.Pairs.{Pair}
use Rattle.wfe_core.specs.declared.ends.AllocateEnd.{AllocateEnd}
use Rattle.wfe_core.specs.declared.ends.FollowEnd.{FollowEnd}
use Rattle.wfe_core.specs.declared.ends.ProtectEnd.{ProtectEnd}
use Rattle.wfe_core.specs.declared.post.Post.{Post}

-- whether a protection is all, or the head is loaded again after it
pub data Aim : Type 0 where
  Alone : Aim
  Follows : Aim

-- 2GE: an interval begins
pub data BeginAt : Type 0 where
  LoadLower : BeginAt
  PublishSpan : (era : ℕ) → BeginAt

-- how often a protection tries: without end, or until so many tries have failed. `Failed` counts the failed ones
pub data Tries : Type 0 where
  Endless : Tries
  Failed : (count : ℕ) → Tries

-- hazard pointers: the link is loaded, published, and loaded again until it is the one that was published
pub data HazardAt : Type 0 where
  FirstLink : HazardAt
  PublishLink : (link : ℕ) → HazardAt
  CheckLink : (link : ℕ) → HazardAt

-- a protection. `first` is the first clock value after the request was published, `last` says whether this is the second
-- own turn
pub data ProtectAt : Type 0 where
  -- Hazard Eras, and the tries of Wait-Free Eras
  LoadClock : Tries → ProtectAt
  PublishEra : (era : ℕ) → Tries → ProtectAt
  LoadLink : (era : ℕ) → Tries → ProtectAt
  CheckClock : (era : ℕ) → Tries → (link : ℕ) → ProtectAt
  -- the slow path of Wait-Free Eras
  PublishRequest : ProtectAt
  LoadOwnClock : ProtectAt
  PublishHelper : (first era : ℕ) → (last : Bool) → ProtectAt
  LoadOwnLink : (first era : ℕ) → (last : Bool) → ProtectAt
  CheckOwnClock : (first era : ℕ) → (last : Bool) → (link : ℕ) → ProtectAt
  AnswerOwn : (first era link : ℕ) → ProtectAt
  LoadAnswer : (first : ℕ) → ProtectAt
  TakeAnswer : (link era : ℕ) → ProtectAt
  WithdrawRequest : (link era : ℕ) → ProtectAt
  WithdrawHelper : (link era : ℕ) → ProtectAt
  -- 2GE
  LoadWithin : ProtectAt
  CheckUpper : (link : ℕ) → ProtectAt
  RaiseUpper : (era : ℕ) → ProtectAt
  -- hazard pointers
  ByHazard : HazardAt → ProtectAt

-- a walk for a free row: where it began, the slot to try, how many slots come after it, and what the walk was shown
-- taken in the claim word where it began and in that of the slot to try
pub record Walk : Type 0 where
  pub start : ℕ
  pub slot : ℕ
  pub left : ℕ
  pub first : ℕ
  pub shown : ℕ

pub data AllocateAt : Type 0 where
  LoadBirth : AllocateAt
  ClaimSlot : (birth : ℕ) → Walk → AllocateAt
  StoreLife : (birth slot : ℕ) → AllocateAt

pub data RetireAt : Type 0 where
  LoadLife : (slot : ℕ) → RetireAt
  LoadRetire : (slot birth : ℕ) → RetireAt
  StoreRetired : (slot birth retire : ℕ) → RetireAt

-- a move of the clock from an era. A helper's phases name the seat whose request they answer, and its tag, index and link
pub data MoveAt : Type 0 where
  LoadEra : (helps : Bool) → MoveAt
  LoadRequest : (era seat : ℕ) → (shows : Bool) → MoveAt
  ShowEra : (era seat tag index : ℕ) → Root → MoveAt
  LoadAsked : (era seat tag index : ℕ) → Root → MoveAt
  CheckEra : (era seat tag index : ℕ) → Root → (link : ℕ) → MoveAt
  AnswerAsked : (era seat tag index : ℕ) → Root → (link : ℕ) → MoveAt
  LoadReserved : (era seat tag index : ℕ) → Root → (link : ℕ) → MoveAt
  HandOver : (era seat tag index : ℕ) → Root → (link old : ℕ) → MoveAt
  HideEra : (era : ℕ) → MoveAt
  HideLate : (seen : ℕ) → MoveAt
  ExchangeClock : (era : ℕ) → MoveAt

-- what is written in a row
pub data RowOf : Type 0 where
  MapRow : (version : ℕ) → List Pair → RowOf
  QueueRow : (number value : ℕ) → RowOf

-- all machines that a call is made of. `steps` counts the steps that the protection has made; `rows` says that index words publish
-- rows
pub data Base : Type 0 where
  Begin : BeginAt → Base
  Protect : Aim → (index : ℕ) → Root → (steps : ℕ) → ProtectAt → Base
  Reload : (parent index slot era steps : ℕ) → Base
  Clear : (rows : Bool) → (index : ℕ) → Base
  Finish : Base
  Release : (index : ℕ) → Base
  Allocate : AllocateAt → Base
  Write : (slot : ℕ) → RowOf → (place : ℕ) → Base
  GiveUp : (slot : ℕ) → Base
  Retire : RetireAt → Base
  Move : MoveAt → Base

-- how a machine ends
pub data Ending : Type 0 where
  Done : Ending
  Protected : ProtectEnd → Ending
  Followed : FollowEnd → Ending
  Allocated : AllocateEnd → Ending
  Retired : Lifetime → Ending
  Clocked : ClockMove → Ending

pub data Outcome : Type 0 where
  Goes : Base → Outcome
  Ends : Ending → Outcome

-- what a step leaves: the post, what it tells, and the next phase or the end
pub record Turn : Type 0 where
  pub post : Post
  pub told : List Event
  pub outcome : Outcome

abbrev pub goes : Post → List Event → Base → Turn
goes post told base = record { post = post; told = told; outcome = Goes base }

abbrev pub ends : Post → List Event → Ending → Turn
ends post told ending = record { post = post; told = told; outcome = Ends ending }
