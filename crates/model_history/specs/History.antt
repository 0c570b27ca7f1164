-- Histories: calls that begin and steps that are made, in order, and the record that they tell.
use Rattle.std.specs.Prelude.{ℕ, zero, suc, ◌&&◌, Bool, true, false, not, nat_lt, List, [], ◌∷◌}
use Rattle.wfe_core.specs.words.declared.layout.Layout.{Layout}
use Rattle.wfe_core.specs.defs.declared.call.Call.{Call}
use Rattle.wfe_core.specs.defs.declared.event.Event.TheVariants as events
use Rattle.model_record.specs.Record.{Past, tells_of}
use Rattle.model_record.specs.Record.Past.{Start, Then}
use Rattle.wfe_core.specs.Calls.{CallTurn}
use Rattle.wfe_core.specs.Locals.{Local, move, turn, told_by}
use Rattle.wfe_core.specs.Memory.{Move, place_in, found}
use Rattle.wfe_core.specs.World.{World, start, is_busy, may_start, offered, stepped, begin}

-- a call of a seat begins, or a seat makes a step
pub data Item : Type 0 where
  Begins : (seat : ℕ) → Call → Item
  Steps : (seat : ℕ) → Item

-- a World, and the record of what was told on the way to it
pub record Made : Type 0 where
  pub world : World
  pub past : Past

-- a call begins only on a seat that is not busy and has not left, and names indexes and places that it may name; only a busy
-- seat makes a step
abbrev pub fits : World → Item → Bool
fits w (Begins i call) = nat_lt i w.layout.config.seats && (not (is_busy w i) && may_start w i call)
fits w (Steps i) = nat_lt i w.layout.config.seats && is_busy w i

abbrev pub begun_by : Made → ℕ → Call → Made
begun_by made i call = record { world = begin made.world i call; past = Then made.past i (events.Begin call) }

-- seat i makes this operation and this turn of it
abbrev pub turned : Made → ℕ → Local → Move → CallTurn → Made
turned made i l m t = record { world = stepped made.world i l m t; past = tells_of made.past i (told_by t) }

abbrev pub stepped_by : Made → ℕ → Local → Move → Made
stepped_by made i l m = turned made i l m (turn l (found m (made.world.mem (place_in m))))

abbrev pub done : Made → Item → Made
done made (Begins i call) = begun_by made i call
done made (Steps i) = stepped_by made i (offered made.world i) (move (offered made.world i))

abbrev pub done_if : Made → Item → (fit : Bool) → Made
done_if made item true = done made item
done_if made item false = made

-- an item that does not fit does nothing
abbrev pub did : Made → Item → Made
did made item = done_if made item (fits made.world item)

-- the items one after another
abbrev pub made_from : Made → List Item → Made
made_from made [] = made
made_from made (item ∷ items) = made_from (did made item) items

-- from the World before the first call
abbrev pub first_made : Layout → Made
first_made layout = record { world = start layout; past = Start }

abbrev pub made_of : Layout → List Item → Made
made_of layout items = made_from (first_made layout) items

-- the World and the record of a history
abbrev pub world_of : Layout → List Item → World
world_of layout items = (made_of layout items).world

abbrev pub record_of : Layout → List Item → Past
record_of layout items = (made_of layout items).past

-- so many steps of a seat; those after its call's end do nothing
abbrev pub times : ℕ → ℕ → List Item
times zero i = []
times (suc n) i = Steps i ∷ times n i
