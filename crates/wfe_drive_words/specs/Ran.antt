-- The operations of a call, each with what it found, and what the call leaves of its seat.
use Rattle.std.specs.Prelude.{List, [], length, true, ℕ, ◌++◌, ◌∷◌, ◌≡◌}
use Rattle.wfe_core.specs.defs.declared.call.Answer.{Answer}
use Rattle.wfe_core.specs.defs.declared.call.Call.{Call}
use Rattle.wfe_core.specs.Calls.{Answers, Idle}
use Rattle.wfe_core.specs.Frames.{SamePlace}
use Rattle.wfe_core.specs.Locals.{Local, after, asks, busy_in, turn}
use Rattle.wfe_core.specs.declared.op.Op.{Op}
use Rattle.laws.specs.AnswerLaw.{suits}
use Rattle.wfe_drive_words.specs.Comes.{Given, lent}

-- a seat whose call is under way performs the operation that it asks for, and a World that a history comes to gives what it found
pub record Performs (l : Local) (operation : Op × ℕ) : Type 0 where
  pub busy : busy_in l.phase ≡ true
  pub asked : operation.0 ≡ asks l
  pub given : Given l operation.1

-- from the first state to the last by just these operations
abbrev pub Ran : Local → List (Op × ℕ) → Local → Type 0
Ran l [] m = l ≡ m
Ran l (x ∷ xs) m = (p : Performs l x) × Ran (after (lent p.given) x.1) xs m

-- by these operations, of which the last one and no other ends the call, with this answer
pub record Answered (l : Local) (ops : List (Op × ℕ)) (answer : Answer) (m : Local) : Type 0 where
  pub before : List (Op × ℕ)
  pub last : Local
  pub operation : Op × ℕ
  pub ops_are : ops ≡ before ++ operation ∷ []
  pub ran : Ran l before last
  pub performs : Performs last operation
  pub answers : (turn (lent performs.given) operation.1).outcome ≡ Answers answer
  pub left : m ≡ after (lent performs.given) operation.1

-- what a call that began at a state leaves of it
pub record Left (l : Local) (call : Call) (ops : List (Op × ℕ)) (answer : Answer) (m : Local) : Type 0 where
  -- no call is under way, and the seat is the same one of the same table
  pub idle : m.phase ≡ Idle
  pub place : SamePlace l.post m.post
  -- the log has one group more, of the call with its answer and its notes
  pub log : m.log ≡ l.log ++ record { call = call; answer = answer; notes = m.desk.notes } ∷ []
  -- each operation was a step
  pub steps : m.post.steps ≡ length ops
  pub noted : m.desk.notes.steps ≡ length ops
  -- the answer is one that the call may have
  pub may : suits call answer ≡ true
