-- Histories as starts of calls and turns of seats, and what each turn keeps.
use Rattle.std.specs.Prelude.{List, ℕ, Bool, false, true, ◌||◌, [], ◌∷◌, not, ◌==◌, ◌&&◌, if◌then◌else◌, ◌+◌, ◌≡◌}
use Rattle.wfe_defs.specs.declared.call.Call.{Call}
use Rattle.wfe_defs.specs.declared.event.Event.{Event}
use Rattle.wfe_defs.specs.declared.event.Event.TheVariants as events
use Rattle.model_record.specs.Record.{Past, tells_of}

-- A history is made of starts of calls and of turns. A turn is one atomic step of a seat, with the events that it tells.
pub data History : Type 0 where
  Blank : History
  Starts : History → (seat : ℕ) → Call → History
  Turns : History → (seat : ℕ) → List Event → History

-- all that a history tells, in order
abbrev pub record_of : History → Past
record_of History.Blank = Past.Start
record_of (History.Starts h i call) = Past.Then (record_of h) i (events.Begin call)
record_of (History.Turns h i told) = tells_of (record_of h) i told

-- the events tell an End
abbrev pub is_end : Event → Bool
is_end (events.End steps answer) = true
is_end e = false

abbrev pub tells_end : List Event → Bool
tells_end [] = false
tells_end (e ∷ es) = is_end e || tells_end es

-- a seat is busy from the start of its call to the turn that tells the End
abbrev pub is_busy : ℕ → History → Bool
is_busy i History.Blank = false
is_busy i (History.Starts h k call) = if i == k then true else is_busy i h
is_busy i (History.Turns h k told) = if i == k then not (tells_end told) && is_busy i h else is_busy i h

-- how many turns seat i took since its call began
abbrev pub turns_of : ℕ → History → ℕ
turns_of i History.Blank = 0
turns_of i (History.Starts h k call) = if i == k then 0 else turns_of i h
turns_of i (History.Turns h k told) = if i == k then turns_of i h + 1 else turns_of i h

-- each End among the events tells this number of steps, and stands last
abbrev pub ends_with : ℕ → List Event → Bool
ends_with n [] = true
ends_with n (events.End steps answer ∷ []) = steps == n
ends_with n (events.End steps answer ∷ e ∷ es) = false
ends_with n (e ∷ es) = ends_with n es

-- no call begins among the events
abbrev pub begins_none : List Event → Bool
begins_none [] = true
begins_none (events.Begin call ∷ es) = false
begins_none (e ∷ es) = begins_none es

-- A call starts only on a seat that is not busy; only a busy seat takes turns; an End comes last in its turn, and counts the turns of its call.
abbrev pub CountsTurns : History → Type 0
CountsTurns History.Blank = Unit {0}
CountsTurns (History.Starts h i call) = (is_busy i h ≡ false) × CountsTurns h
CountsTurns (History.Turns h i told) = ((is_busy i h && (begins_none told && ends_with (turns_of i h + 1) told)) ≡ true) × CountsTurns h

-- each turn is allowed after the history before it
abbrev pub EachTurn : (History → ℕ → List Event → Bool) → History → Type 0
EachTurn ok Blank = Unit {0}
EachTurn ok (Starts h i call) = EachTurn ok h
EachTurn ok (Turns h i told) = (ok h i told ≡ true) × EachTurn ok h
