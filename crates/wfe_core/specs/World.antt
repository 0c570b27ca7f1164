-- The World: the words by place, each seat's local state, and the book. A step of a seat changes one word and that seat.
use Rattle.std.specs.Prelude.{ℕ, ◌==◌, ◌&&◌, Bool, if◌then◌else◌, nat_lt, List, []}
use Rattle.wfe_words.specs.Place.{Place, has, start_of}
use Rattle.wfe_words.specs.Place.Place.{PlaceOf}
use Rattle.wfe_words.specs.declared.layout.Layout.{Layout}
use Rattle.wfe_defs.specs.declared.call.Call.{Call}
use Rattle.wfe_defs.specs.declared.event.Event.{Event}
use Rattle.wfe_defs.specs.declared.lifetime.Lifetime.{Lifetime}
use Rattle.wfe_core.specs.Book.{Book, first_book, booked_all}
use Rattle.wfe_core.specs.Calls.{CallTurn, Keeping, Phase, TakeList, Works}
use Rattle.wfe_core.specs.Locals.{Local, busy_in, fresh, may_begin, move, turn, told_by, settled, begun}
use Rattle.wfe_core.specs.Memory.{Move, place_in, found, written, upd}

pub record World : Type 0 where
  pub layout : Layout
  pub mem : Place → ℕ
  pub seat : ℕ → Local
  pub book : Book

-- the first value of a place; a place that there is not reads 0
abbrev pub first_word : Layout → Place → ℕ
first_word layout place = if has layout place then start_of layout place else 0

-- the World before the first call
abbrev pub start : Layout → World
start layout = record { layout = layout; mem = first_word layout; seat = λ i. fresh layout i; book = first_book }

-- a call of the seat is under way
abbrev pub is_busy : World → ℕ → Bool
is_busy w i = busy_in (w.seat i).phase

-- the seat has not left
abbrev pub is_here : World → ℕ → Bool
is_here w i = w.mem (PlaceOf i) == 0

-- a call that a seat may begin that is not busy: the seat has not left, and the call names indexes and places that it may name
abbrev pub may_start : World → ℕ → Call → Bool
may_start w i call = is_here w i && may_begin w.layout.config call

-- the retire list that is the seat's own: the one that it keeps, until another seat has taken it over
abbrev pub list_in : World → ℕ → List Lifetime
list_in w i = if nat_lt 1 (w.mem (PlaceOf i)) then [] else (w.seat i).desk.list

-- the list that a phase's next step takes over, if it finds it left
abbrev pub gift_at : (ℕ → Local) → Phase → List Lifetime
gift_at seat (Works (Keeping (TakeList place))) = (seat place).desk.list
gift_at seat phase = []

-- the seat as it makes its next step, with the list that it may take over
abbrev pub offered : World → ℕ → Local
offered w i = record (w.seat i) { desk = record (w.seat i).desk { gift = gift_at w.seat (w.seat i).phase } }

-- what the seat's operation finds
abbrev pub finds : World → ℕ → ℕ
finds w i = found (move (w.seat i)) (w.mem (place_in (move (w.seat i))))

-- the World after seat i made this operation and this turn of it
abbrev pub stepped : World → ℕ → Local → Move → CallTurn → World
stepped w i l m t =
    record {
      layout = w.layout;
      mem = written w.mem m;
      seat = upd w.seat i (settled l t);
      book = booked_all w.book (told_by t);
    }

abbrev pub step_by : World → ℕ → Local → World
step_by w i l = stepped w i l (move l) (turn l (found (move l) (w.mem (place_in (move l)))))

-- one step of seat i
abbrev pub step : World → ℕ → World
step w i = step_by w i (offered w i)

-- what it tells
abbrev pub told_in : World → ℕ → List Event
told_in w i = told_by (turn (offered w i) (finds w i))

-- a call of seat i begins: no word changes
abbrev pub begin : World → ℕ → Call → World
begin w i call = record { layout = w.layout; mem = w.mem; seat = upd w.seat i (begun (w.seat i) call); book = w.book }
