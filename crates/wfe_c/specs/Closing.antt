-- What becomes of a table that is to be closed, and of the handle of its seat.
use Rattle.std.specs.Prelude.{Err, List, MatchOption, None, Ok, Option, Result, Some, map, ℕ, ◌-◌, ◌<◌, ◌∷◌, ◌≡◌}
use Rattle.wfe_table.specs.Closing.{IsLeft, track_of}
use Rattle.wfe_table.specs.Public.{SeatNow, TableNow}
use Rattle.wfe_table_end.specs.declared.closed.Closed.{Closed}
use Rattle.wfe_c.specs.Handle.{lack}
use Rattle.wfe_c.specs.Joined.{table_of}
use Rattle.wfe_c.specs.Place.{closed_in, seat_in}
use Rattle.wfe_c.specs.declared.handle.SeatHandle.{SeatHandle}
use Rattle.wfe_c.specs.declared.joined.Joined.{Joined}

-- this is what the table holds at its end, of which this seat and those that have left before are all seats
pub record IsEnded (table : TableNow) (seat : SeatNow) (closed : Closed) : Type 0 where
  pub gone : List SeatNow
  pub left : IsLeft table.layout (map track_of (seat ∷ gone)) closed

-- how many other seats the table of this one has
abbrev pub others_of : Joined → ℕ
others_of joined = (table_of joined).layout.config.seats - 1

-- the seat has looked, and found that so many were gone; all else of it is as it was
pub record HasLooked (old new : Joined) (gone : ℕ) : Type 0 where
  pub same : new ≡ record old { member = new.member }
  pub tally : new.member.tally ≡ old.member.tally
  pub found : new.member.looks.me.0 ≡ gone ∷ old.member.looks.me.0

-- by the code: the table is closed, or another seat is with it, or memory ran out
abbrev pub close_code : Result Closed (Option Joined) → ℕ
close_code (Ok closed) = 0
close_code (Err (Some joined)) = 28
close_code (Err None) = 17

-- the handle has what the table holds
pub record HasClosed (old : Joined) (after : SeatHandle) (closed : Closed) : Type 0 where
  pub is : closed_in after.place.inside ≡ Some closed
  pub ended : IsEnded (table_of old) old.seat closed

-- the handle has the seat still, which has looked, and found fewer seats gone than there are others
pub record HasStayed (old : Joined) (after : SeatHandle) (new : Joined) : Type 0 where
  pub is : seat_in after.place.inside ≡ Some new
  pub gone : ℕ
  pub looked : HasLooked old new gone
  pub others : gone < others_of old

-- nothing is there any more, as after a leave
pub record IsWithout (after : SeatHandle) : Type 0 where
  pub none : after.place.inside ≡ None
  pub state : after.state ≡ 2

abbrev pub Ends : Joined → SeatHandle → Result Closed (Option Joined) → Type 0
Ends old after (Ok closed) = HasClosed old after closed
Ends old after (Err (Some new)) = HasStayed old after new
Ends old after (Err None) = IsWithout after

pub record HasEnded (old : Joined) (after : SeatHandle) (told : ℕ) : Type 0 where
  pub end : Result Closed (Option Joined)
  pub came : Ends old after end
  pub tells : told ≡ close_code end

-- no seat is there, the handle is as it was, and the code says why
pub record LacksSeat (before after : SeatHandle) (told : ℕ) : Type 0 where
  pub same : after ≡ before
  pub tells : told ≡ lack before.state

abbrev pub IsEnding : SeatHandle → SeatHandle → ℕ → Type 0
IsEnding before after told = MatchOption (seat_in before.place.inside) (LacksSeat before after told) (λ old. HasEnded old after told)
