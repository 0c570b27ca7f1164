-- What code that holds a seat's post and desk knows of the seat on its words, before a call and after it. Words may leave open at
-- which state of the model the seat is, so each fact is of every state at which it may be. `at` and `stands` are those of the words.
use Rattle.std.specs.Prelude.{List, false, true, ℕ, ◌++◌, ◌≡◌}
use Rattle.wfe_core.specs.defs.declared.call.Answer.{Answer}
use Rattle.wfe_core.specs.defs.declared.call.Call.{Call}
use Rattle.wfe_core.specs.Calls.{Phase}
use Rattle.wfe_core.specs.DeskHeld.{desk_of}
use Rattle.wfe_core.specs.Locals.{Local, begun, busy_in, stays}
use Rattle.wfe_core.specs.declared.desk.Desk.{Desk as HeldDesk}
use Rattle.wfe_core.specs.declared.op.Op.{Op}
use Rattle.wfe_core.specs.declared.post.Post.{Post}
use Rattle.wfe_drive_cells.specs.Unit.{SeatView, shown}
use Rattle.wfe_drive_words.specs.Comes.{departs}
use Rattle.wfe_drive_words.specs.Ran.{Answered, Left}

-- the seat as its code has it
abbrev pub at_phase : Phase → Post → HeldDesk → SeatView
at_phase phase post held = record { phase = phase; post = post; desk = desk_of held }

-- the seat may be at a state that is as its code has it; a call under way is one of a seat that stays, and it has not left
pub record Here (at : Local → Type 0) (seat : SeatView) : Type 0 where
  pub local : Local
  pub there : at local
  pub is : shown local ≡ seat
  pub staying : busy_in local.phase ≡ true → stays local.call ≡ true
  pub here : departs local.call ≡ false

-- from this state the operations lead to one at which the seat may be, and that is as its code has it
pub record LeadsTo (path : List (Op × ℕ) → Local → Local → Type 0) (at : Local → Type 0) (seat : SeatView) (ops : List (Op × ℕ)) (l : Local) : Type 0 where
  pub left : Local
  pub by : path ops l left
  pub there : at left
  pub is : shown left ≡ seat

-- the code made some operations: from each state that was as the code had it they lead to one that is as it has it now, and the words
-- stand for just these more
pub record Makes (path : List (Op × ℕ) → Local → Local → Type 0) (at_old at_new : Local → Type 0) (stands_old stands_new : List (Op × ℕ) → Type 0) (old new : SeatView) : Type 0 where
  pub ops : List (Op × ℕ)
  pub each : (l : Local) → at_old l → shown l ≡ old → LeadsTo path at_new new ops l
  pub stands : (xs : List (Op × ℕ)) → stands_old xs → stands_new (xs ++ ops)

-- a call that began at a state was answered by these operations
pub record Ends (call : Call) (answer : Answer) (ops : List (Op × ℕ)) (l m : Local) : Type 0 where
  pub answered : Answered (begun l call) ops answer m
  pub left : Left l call ops answer m

-- the code made a call
abbrev pub Called : Call → Answer → (at_old at_new : Local → Type 0) (stands_old stands_new : List (Op × ℕ) → Type 0) (old new : SeatView) → Type 0
Called call answer at_old at_new stands_old stands_new old new = Makes (Ends call answer) at_old at_new stands_old stands_new old new
