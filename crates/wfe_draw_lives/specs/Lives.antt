-- The lives of rows, by the entries of a record.
use Rattle.std.specs.Prelude.{◌≡◌, ◌⊎◌, ◌+◌, ◌==◌, ◌||◌, ℕ, Bool, true, false, nat_eq, Option, None, Some, All, if◌then◌else◌}
use Rattle.indexmap.specs.IndexMap.{get}
use Rattle.model_record.specs.Record.{Past}
use Rattle.model_record.specs.Record.Past.{Start, Then}
use Rattle.wfe_defs.specs.declared.event.Event.{Event}
use Rattle.wfe_defs.specs.declared.event.Event.TheVariants as events
use Rattle.wfe_draw_lives.specs.declared.bar.Moment.{Moment}
use Rattle.wfe_draw_lives.specs.declared.life.Life.{Life}
use Rattle.wfe_draw_lives.specs.declared.rows.Rows.{Rows}

-- how many entries there are
abbrev pub count_in : Past → ℕ
count_in Start = 0
count_in (Then p seat event) = count_in p + 1

-- the event gives the row
abbrev pub gives : ℕ → Event → Bool
gives slot (events.Give given birth) = given == slot
gives slot event = false

-- it frees the row, which was not linked, or is back
abbrev pub frees : ℕ → Event → Bool
frees slot (events.Unused freed) = freed == slot
frees slot (events.Back freed) = freed == slot
frees slot event = false

-- it frees this row, and so no other
abbrev pub Frees : ℕ → Event → Type 0
Frees slot event = (event ≡ events.Unused slot) ⊎ (event ≡ events.Back slot)

-- the number of the entry that gave the row, if it has not been freed since
abbrev pub given_in : ℕ → Past → Option ℕ
given_in slot Start = None
given_in slot (Then p seat event) = if gives slot event then Some (count_in p + 1) else if frees slot event then None else given_in slot p

-- the number of the entry of a moment
abbrev pub number_of : Option Moment → Option ℕ
number_of None = None
number_of (Some moment) = Some moment.number

-- A life of the row, that began at a moment, or before the record where there is none, ends with the next entry, whose moment the other
-- one is: the row is freed, or given anew.
pub record EndsAt (slot : ℕ) (given : Option Moment) (back : Moment) (p : Past) (event : Event) : Type 0 where
  pub ends : (frees slot event || gives slot event) ≡ true
  pub number : back.number ≡ count_in p + 1
  pub begun : number_of given ≡ given_in slot p

-- it ended with one of the entries
abbrev pub Ended : ℕ → Option Moment → Moment → Past → Type 0
Ended slot given back Start = ⊥
Ended slot given back (Then p seat event) = EndsAt slot given back p event ⊎ Ended slot given back p

-- a life of the row: it ended, or lasts to the end
abbrev pub Lives : Past → ℕ → Option Moment → Option Moment → Type 0
Lives p slot given None = number_of given ≡ given_in slot p
Lives p slot given (Some back) = Ended slot given back p

abbrev pub IsLife : Past → Life → Type 0
IsLife p life = Lives p life.slot life.given life.back

-- it ended
abbrev pub IsOver : Past → ℕ → Option Moment → Option Moment → Type 0
IsOver p slot given None = ⊥
IsOver p slot given (Some back) = Ended slot given back p

abbrev pub OverIn : Past → Life → Type 0
OverIn p life = IsOver p life.slot life.given life.back

-- it lasts, where there is one; where there is none the row was not given, or was freed since
abbrev pub IsOpen : Past → ℕ → Option Life → Type 0
IsOpen p slot None = given_in slot p ≡ None
IsOpen p slot (Some life) = (life.slot ≡ slot) × (life.back ≡ None) × (number_of life.given ≡ given_in slot p)

-- the rows are those after the entries, and all lives that are kept are theirs
pub record Lived (rows : Rows) (p : Past) : Type 0 where
  pub now : (slot : ℕ) → IsOpen p slot (get nat_eq rows.now slot)
  pub ended : All (OverIn p) rows.lives.items
