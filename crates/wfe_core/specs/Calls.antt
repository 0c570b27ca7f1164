-- Where a call stands. What runs stands outside: a machine with what comes after it, a scan with what comes after it, or
-- a step of the call's own.
use Rattle.std.specs.Prelude.{ℕ, Bool, List, Option}
use Rattle.wfe_defs.specs.declared.call.Answer.{Answer}
use Rattle.wfe_defs.specs.declared.event.Event.{Event}
use Rattle.wfe_defs.specs.declared.fold.Change.{Change}
use Rattle.wfe_defs.specs.Pairs.{Pair}
use Rattle.wfe_core.specs.declared.post.Post.{Post}
use Rattle.wfe_core.specs.Desks.{Desk}
use Rattle.wfe_core.specs.Phases.{Base}

-- a put or remove: the version at which alone it is to be made, if it names one; the row that it has taken, whether a walk
-- has failed, and, from the root loaded last, the link, the version, and the pairs: those read so far, and once the new row
-- is decided those that it gets
pub record ChangeKept : Type 0 where
  pub change : Change
  pub wanted : Option ℕ
  pub taken : Option ℕ
  pub walked : Bool
  pub link : ℕ
  pub version : ℕ
  pub pairs : List Pair

-- an enqueue: the same, with the tail's row and its number
pub record EnqueueKept : Type 0 where
  pub value : ℕ
  pub taken : Option ℕ
  pub walked : Bool
  pub tail : ℕ
  pub number : ℕ

-- a call that protects a root, with what it keeps from round to round
pub data Task : Type 0 where
  Gets : (key : ℕ) → Task
  Changes : ChangeKept → Task
  Holds : (key : ℕ) → Task
  Enqueues : EnqueueKept → Task
  Dequeues : Task

-- what comes once a round's protections are cleared: another round; a move of the clock and a scan, and then another
-- round; the answer; or the retirement of the row that was cut, and then the answer
pub data Next : Type 0 where
  Again : Next
  MakeRoom : Next
  Answering : Answer → Next
  Retiring : (slot : ℕ) → Answer → Next

-- what comes after a scan: an answer, another round, or the answer of a scan
pub data AfterScan : Type 0 where
  Answered : Answer → AfterScan
  Repeated : Task → AfterScan
  Counted : AfterScan

-- what is let go, and what comes then: a release answers, or another key is held; or what stands at an index is dropped, or
-- a seat that leaves lets it go, and then what stands at higher indexes
pub data LetGo : Type 0 where
  Released : LetGo
  Rehold : (key : ℕ) → LetGo
  Dropped : (index : ℕ) → LetGo
  Parting : (index : ℕ) → LetGo

-- what comes after a machine. `Opens`: begin, then the protection of the task's root. `FollowsHead`: a dequeue follows the
-- next link, with the head's row and the tail's link. `Fills`: a row is taken and written. `ClearsNext`: index 1, and then
-- the task's index. `Clears` and `Finishes`: a round ends. `GivesUp`, `Retires`: the answer is known. `Tidies`: the clock
-- is moved before a scan. `Advances`: the clock is moved alone. `Releases`: what stood at an index from 2 on is let go
pub data Why : Type 0 where
  Opens : Task → Why
  FollowsHead : (head tail : ℕ) → Why
  Fills : Task → Why
  ClearsNext : Next → Why
  Clears : Task → Next → Why
  Finishes : Task → Next → Why
  GivesUp : Answer → Why
  Retires : Answer → Why
  Tidies : AfterScan → Why
  Advances : Why
  Releases : LetGo → Why

pub data ScanAt : Type 0 where
  ReadGuard : (number : ℕ) → ScanAt
  GiveBack : (place slot : ℕ) → ScanAt

pub data GetAt : Type 0 where
  FindVersion : (slot : ℕ) → GetAt
  FindCount : (slot version : ℕ) → GetAt
  FindKey : (slot version count pair : ℕ) → GetAt
  FindValue : (slot version pair : ℕ) → GetAt

pub data ChangeAt : Type 0 where
  LoadVersion : (slot : ℕ) → ChangeAt
  LoadCount : (slot : ℕ) → ChangeAt
  LoadKey : (slot count : ℕ) → ChangeAt
  LoadValue : (slot count key : ℕ) → ChangeAt
  ExchangeRoot : (slot : ℕ) → ChangeAt

pub data EnqueueAt : Type 0 where
  LoadNumber : EnqueueAt
  LoadNext : EnqueueAt
  PassTail : (next : ℕ) → EnqueueAt
  ExchangeNext : (slot : ℕ) → EnqueueAt
  ExchangeTail : (slot : ℕ) → EnqueueAt

pub data DequeueAt : Type 0 where
  LoadTail : (head : ℕ) → DequeueAt
  SwingTail : (head next : ℕ) → DequeueAt
  TakeNumber : (head next : ℕ) → DequeueAt
  TakeValue : (head next number : ℕ) → DequeueAt
  ExchangeHead : (head next number value : ℕ) → DequeueAt

-- the calls that work on what stands at indexes from 2 on. `Loosens`: under 2GE something is let go, and the interval stays.
-- `LoadHeld`, `StoreHeld`: what an index publishes is copied to another. `Looks`: the row that stands at an index is read.
-- `Misses`: nothing stands there. And those of seats that leave. `HideSpan`: under 2GE all is let go with the interval.
-- `MarkLeft`: the seat's list is left at its place. `TakeList`, `MarkTaken`: the list at another seat's place is taken over
pub data KeepAt : Type 0 where
  Loosens : LetGo → KeepAt
  LoadHeld : (from index : ℕ) → KeepAt
  StoreHeld : (from index era : ℕ) → KeepAt
  Looks : (index key : ℕ) → GetAt → KeepAt
  Misses : (index : ℕ) → KeepAt
  HideSpan : KeepAt
  MarkLeft : KeepAt
  TakeList : (place : ℕ) → KeepAt
  MarkTaken : (place count : ℕ) → KeepAt

-- the steps of a call's own
pub data Work : Type 0 where
  Getting : (key : ℕ) → GetAt → Work
  Changing : ChangeKept → ChangeAt → Work
  Enqueuing : EnqueueKept → EnqueueAt → Work
  Dequeuing : DequeueAt → Work
  Keeping : KeepAt → Work

-- where a seat stands
pub data Phase : Type 0 where
  Idle : Phase
  Runs : Why → Base → Phase
  Scans : AfterScan → ScanAt → Phase
  Works : Work → Phase

pub data CallOutcome : Type 0 where
  GoesOn : Phase → CallOutcome
  Answers : Answer → CallOutcome

-- what a step of a call leaves: the post and the desk, what it tells besides End, and the next phase or the answer
pub record CallTurn : Type 0 where
  pub post : Post
  pub desk : Desk
  pub told : List Event
  pub outcome : CallOutcome

abbrev pub goes_on : Post → Desk → List Event → Phase → CallTurn
goes_on post desk told phase = record { post = post; desk = desk; told = told; outcome = GoesOn phase }

abbrev pub answers : Post → Desk → List Event → Answer → CallTurn
answers post desk told answer = record { post = post; desk = desk; told = told; outcome = Answers answer }
