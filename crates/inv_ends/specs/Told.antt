-- What a step tells of rows is its move of rows, and no step tells that a row that stands is given, unused or back.
use Rattle.inv_rows.specs.defs.declared.event.Event.{Event}
use Rattle.std.specs.Prelude.{List, ℕ, [], ◌∷◌, ◌≡◌, ◌≤◌, Bool, false, ◌==◌, Some}
use Rattle.std.specs.List.{filter, list_any}
use Rattle.inv_rows.specs.defs.Events.{is_of_rows}
use Rattle.inv_rows.specs.model.Phases.{AllocateAt, Base}
use Rattle.inv_rows.specs.model.Phases.AllocateAt.{ClaimSlot, LoadBirth, StoreLife}
use Rattle.inv_rows.specs.model.Phases.Base.{Allocate}
use Rattle.inv_rows.specs.model.Calls.{Phase, Runs}
use Rattle.inv_rows.specs.Rows.RowMove.{Adopts, Appends, Bears, Claims, Drops, Links, Lists, Pops, Reads, Replaces, Returns, Seals, Stays}
use Rattle.inv_rows.specs.Rows.{RowMove, View}
use Rattle.inv_rows.specs.defs.declared.event.Event.TheVariants as events
use Rattle.inv_rows.specs.model.World.{World, finds, told_in}
use Rattle.inv_rows.specs.Hands.{row_move}
use Rattle.inv_rows.specs.Rows.Status.{Cut, Sealed, Born, Free, Listed}
use Rattle.inv_rows.specs.Agree.{Agree, RowsNeeds}
use Rattle.inv_rows.specs.words.Place.Place.{Clock}
use Rattle.inv_rows.specs.Shapes.Eras.{Eras}
use Rattle.inv_rows.specs.Covering.Covers.{CoversNeeds, Scanning}
use Rattle.inv_rows.specs.Covering.Held.{Held}
use Rattle.inv_rows.specs.model.Posts.{stands}

-- what is told of rows
abbrev pub of_rows : List Event → List Event
of_rows told = filter is_of_rows told

-- the birth era under which a phase claims a row
abbrev pub birth_at : AllocateAt → ℕ
birth_at LoadBirth = 0
birth_at (ClaimSlot birth walk) = birth
birth_at (StoreLife birth slot) = birth

abbrev pub birth_base : Base → ℕ
birth_base (Allocate at) = birth_at at
birth_base base = 0

abbrev pub birth_in : Phase → ℕ
birth_in (Runs why base) = birth_base base
birth_in phase = 0

-- what a move of rows tells, where a row is claimed under this birth era
abbrev pub row_events : ℕ → RowMove → List Event
row_events birth Stays = []
row_events birth (Claims slot) = events.Give slot birth ∷ []
row_events birth (Bears slot born) = []
row_events birth (Drops slot) = events.Unused slot ∷ []
row_events birth (Links bucket slot) = []
row_events birth (Replaces bucket slot old) = []
row_events birth (Appends slot) = []
row_events birth (Pops slot next) = []
row_events birth (Reads slot born) = []
row_events birth (Seals slot born retire) = []
row_events birth (Lists slot born retire) = events.Retire slot born retire ∷ []
row_events birth (Returns slot) = events.Back slot ∷ []
row_events birth (Adopts from) = []

-- the move of rows that the step of seat i makes
abbrev pub move_of : World → ℕ → RowMove
move_of w i = row_move (w.seat i).phase (w.seat i).post (finds w i)

-- a step tells of rows just what its move of rows says
abbrev pub RowsTold : Type 0
RowsTold = (w : World) (i : ℕ) → of_rows (told_in w i) ≡ row_events (birth_in (w.seat i).phase) (move_of w i)

-- the clock is loaded as the retire era of a row that the seat has cut
pub record RowSeals (clock i : ℕ) (v : View) (slot birth retire : ℕ) : Type 0 where
  pub was : v.status slot ≡ Cut i
  pub born : birth ≡ v.birth slot
  pub now : retire ≡ clock

-- a row is retired with its birth era, and with the retire era that was loaded once it was cut, which is no later than the
-- clock
pub record RowRetires (clock i : ℕ) (v : View) (slot birth retire : ℕ) : Type 0 where
  pub was : v.status slot ≡ Sealed i retire
  pub born : birth ≡ v.birth slot
  pub later : birth ≤ retire
  pub most : retire ≤ clock

-- a row that is given was free; one that is unused was the seat's own, and not linked; one that is back was on its list
abbrev pub RowWas : ℕ → ℕ → View → RowMove → Type 0
RowWas clock i v Stays = Unit {0}
RowWas clock i v (Claims slot) = v.status slot ≡ Free
RowWas clock i v (Bears slot birth) = Unit {0}
RowWas clock i v (Drops slot) = v.status slot ≡ Born i
RowWas clock i v (Links bucket slot) = Unit {0}
RowWas clock i v (Replaces bucket slot old) = Unit {0}
RowWas clock i v (Appends slot) = Unit {0}
RowWas clock i v (Pops slot next) = Unit {0}
RowWas clock i v (Reads slot birth) = Unit {0}
RowWas clock i v (Seals slot birth retire) = RowSeals clock i v slot birth retire
RowWas clock i v (Lists slot birth retire) = RowRetires clock i v slot birth retire
RowWas clock i v (Returns slot) = (retire : ℕ) × (v.status slot ≡ Listed i retire)
RowWas clock i v (Adopts from) = Unit {0}

abbrev pub RowsWere : Type 0
RowsWere = (w : World) (i : ℕ) (v : View) → RowsNeeds w i v → Eras w → Agree w v → RowWas (w.mem Clock) i v (move_of w i)

-- the row is given, or free again
abbrev pub reuses : ℕ → Event → Bool
reuses s (events.Give slot birth) = s == slot
reuses s (events.Unused slot) = s == slot
reuses s (events.Back slot) = s == slot
reuses s event = false

-- where a row stands at an index of a seat, no step of any seat tells that it is given, unused or back
abbrev pub NoReuse : Type 0
NoReuse =
    (w : World) (i k j slot : ℕ) (v : View)
    → CoversNeeds w i v
    → Scanning w
    → Held w v
    → stands (w.seat k).post j ≡ Some slot
    → list_any (reuses slot) (told_in w i) ≡ false
