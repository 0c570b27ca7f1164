-- A row is retired with the birth era under which it was given last.
use Rattle.std.specs.Prelude.{ℕ, ◌≡◌, ◌==◌, true, if◌then◌else◌, List, [], ◌∷◌}
use Rattle.inv_rows.specs.words.Place.{is_valid}
use Rattle.inv_rows.specs.words.declared.layout.Layout.{Layout}
use Rattle.inv_rows.specs.defs.declared.call.Call.{Call}
use Rattle.inv_rows.specs.defs.declared.event.Event.{Event}
use Rattle.inv_rows.specs.defs.declared.event.Event.TheVariants as events
use Rattle.inv_rows.specs.model.Phases.{AllocateAt, Base}
use Rattle.inv_rows.specs.model.Phases.AllocateAt.{StoreLife}
use Rattle.inv_rows.specs.model.Phases.Base.{Allocate}
use Rattle.inv_rows.specs.model.Calls.{Phase, Runs}
use Rattle.inv_rows.specs.model.World.{World, start, step, begin, told_in}
use Rattle.inv_rows.specs.Shapes.Eras.{Eras}
use Rattle.inv_rows.specs.Shapes.Seats.{Seats}
use Rattle.inv_rows.specs.Rows.{View, has_life}
use Rattle.inv_rows.specs.Rows.RowMove.{Lists}
use Rattle.inv_rows.specs.Agree.{Agree, RowsNeeds, rows_after, first_rows}
use Rattle.inv_ends.specs.Told.{move_of}

-- the birth era of each row after an event, and after all that is told: that of its last Give
abbrev pub given_by : Event → (ℕ → ℕ) → ℕ → ℕ
given_by (events.Give slot birth) given s = if s == slot then birth else given s
given_by event given s = given s

abbrev pub given_all : List Event → (ℕ → ℕ) → ℕ → ℕ
given_all [] given s = given s
given_all (event ∷ told) given s = given_all told (given_by event given) s

abbrev pub given_after : World → ℕ → (ℕ → ℕ) → ℕ → ℕ
given_after w i given s = given_all (told_in w i) given s

-- a birth era that is to be stored is the one that was told
abbrev pub GivenAt : (ℕ → ℕ) → AllocateAt → Type 0
GivenAt given (StoreLife birth slot) = given slot ≡ birth
GivenAt given at = Unit {0}

abbrev pub GivenBase : (ℕ → ℕ) → Base → Type 0
GivenBase given (Allocate at) = GivenAt given at
GivenBase given base = Unit {0}

abbrev pub GivenPhase : (ℕ → ℕ) → Phase → Type 0
GivenPhase given (Runs why base) = GivenBase given base
GivenPhase given phase = Unit {0}

pub record Given (w : World) (v : View) (given : ℕ → ℕ) : Type 0 where
  pub born : (s : ℕ) → has_life (v.status s) ≡ true → v.birth s ≡ given s
  pub stores : (k : ℕ) → GivenPhase given (w.seat k).phase

-- the dummy of the queue has birth 1
abbrev pub GivenStart : Type 0
GivenStart = (layout : Layout) → Given (start layout) (first_rows layout) (λ s. 1)

abbrev pub GivenBegin : Type 0
GivenBegin =
    (w : World) (i : ℕ) (call : Call) (v : View) (given : ℕ → ℕ)
    → is_valid w.layout ≡ true
    → Seats w
    → Given w v given
    → Given (begin w i call) v given

-- what a step takes of other parts: a table that there may be, the shape of seats, and what is known of the rows
pub record GivenNeeds (w : World) (i : ℕ) (v : View) : Type 0 where
  pub valid : is_valid w.layout ≡ true
  pub seats : Seats w
  pub needs : RowsNeeds w i v
  pub rows : Agree w v

abbrev pub GivenKept : Type 0
GivenKept =
    (w : World) (i : ℕ) (v : View) (given : ℕ → ℕ)
    → GivenNeeds w i v
    → Given w v given
    → Given (step w i) (rows_after w i v) (given_after w i given)

-- a row is retired with that birth era
abbrev pub RetiresGiven : Type 0
RetiresGiven =
    (w : World) (i slot birth retire : ℕ) (v : View) (given : ℕ → ℕ)
    → GivenNeeds w i v
    → Eras w
    → Given w v given
    → move_of w i ≡ Lists slot birth retire
    → given slot ≡ birth
