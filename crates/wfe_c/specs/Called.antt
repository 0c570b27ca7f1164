-- What became of a call of C: of the seat in its handle, and what C was told.
use Rattle.std.specs.Prelude.{MatchOption, None, Option, Some, ℕ, ◌≡◌}
use Rattle.wfe_table.specs.history.defs.declared.call.Answer.{Answer}
use Rattle.wfe_table.specs.history.defs.declared.call.Call.{Call}
use Rattle.wfe_c.specs.Handle.{lack}
use Rattle.wfe_c.specs.Joined.{IsLeft, IsRefused, Makes}
use Rattle.wfe_c.specs.Place.{seat_in}
use Rattle.wfe_c.specs.Told.{says, says_at, told_of}
use Rattle.wfe_c.specs.declared.answer.CAnswer.{CAnswer}
use Rattle.wfe_c.specs.declared.handle.SeatHandle.{SeatHandle}
use Rattle.wfe_c.specs.declared.joined.Joined.{Joined}

-- an answer, or that the call was not begun
abbrev pub tell : Option Answer → CAnswer
tell None = says 4
tell (Some answer) = told_of answer

-- the seat made the call, and is in the handle after it; or it was not begun, and the seat is as it was
pub record HasCalled (old : Joined) (after : SeatHandle) (call : Call) (told : CAnswer) : Type 0 where
  pub new : Joined
  pub is : seat_in after.place.inside ≡ Some new
  pub answer : Option Answer
  pub came : MatchOption answer (IsRefused old new call) (Makes old new call)
  pub tells : told ≡ tell answer

-- no seat is there, the handle is as it was, and the code says why
pub record Lacks (before after : SeatHandle) (told : CAnswer) : Type 0 where
  pub same : after ≡ before
  pub tells : told ≡ says (lack before.state)

abbrev pub IsCalled : SeatHandle → SeatHandle → Call → CAnswer → Type 0
IsCalled before after call told = MatchOption (seat_in before.place.inside) (Lacks before after told) (λ old. HasCalled old after call told)

-- the seat has left with so many rows on its list, and the handle says that one has left
pub record HasGone (old : Joined) (after : SeatHandle) (told : CAnswer) : Type 0 where
  pub none : after.place.inside ≡ None
  pub state : after.state ≡ 2
  pub count : ℕ
  pub left : IsLeft old count
  pub tells : told ≡ says_at 0 count

abbrev pub HasLeft : SeatHandle → SeatHandle → CAnswer → Type 0
HasLeft before after told = MatchOption (seat_in before.place.inside) (Lacks before after told) (λ old. HasGone old after told)
