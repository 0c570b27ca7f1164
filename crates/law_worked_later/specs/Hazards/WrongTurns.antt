-- Histories that a law on turns refuses under hazard pointers. Each is refused by the laws that are named, and by no other.
use Rattle.std.specs.Prelude.{ℕ, Bool, List, [], ◌∷◌, None, Some, true, false, map, ◌≡◌}
use Rattle.wfe_core.specs.defs.declared.call.Call.TheVariants as calls
use Rattle.wfe_core.specs.defs.declared.event.Event.{Event}
use Rattle.wfe_core.specs.defs.declared.event.Event.TheVariants as events
use Rattle.wfe_core.specs.defs.declared.event.Guard.TheVariants as guards
use Rattle.model_history.specs.Turns.{History}
use Rattle.model_history.specs.Turns.History.{Blank, Starts, Turns}
use Rattle.laws.specs.HistoryTurns.{loads_right, one_step}
use Rattle.law_worked.specs.WrongTurns.{quiet, turns_read}

pub data TurnLaw : Type 0 where
  OneStep : TurnLaw
  Loads : TurnLaw

abbrev pub turn_test : TurnLaw → History → ℕ → List Event → Bool
turn_test OneStep h i told = one_step h i told
turn_test Loads h i told = loads_right h i told

abbrev refuses_if : (taken : Bool) → TurnLaw → List TurnLaw → List TurnLaw
refuses_if true law others = others
refuses_if false law others = law ∷ others

-- of these laws those that refuse the history
abbrev refusing : History → List TurnLaw → List TurnLaw
refusing h [] = []
refusing h (law ∷ others) = refuses_if (turns_read (turn_test law) h) law (refusing h others)

-- a seat begins a get and loads the link of its bucket
abbrev pub loaded : History
loaded = quiet 1 0 (Starts Blank 0 (calls.Get 7))

abbrev tells : List Event → History → History
tells told h = Turns h 0 told

abbrev pub publishes : ℕ → History → History
publishes slot h = tells (events.Hazard (guards.Index 0 0) (Some slot) ∷ []) h

-- a history, and the laws that refuse it
pub record WrongTurn : Type 0 where
  pub history : History
  pub laws : List TurnLaw

abbrev pub wrong_turn : History → List TurnLaw → WrongTurn
wrong_turn history laws = record { history = history; laws = laws }

abbrev pub wrong_turns : List WrongTurn
wrong_turns =
    -- none: a protection of one row, one of two, a null link that is loaded first, and one that is loaded again
    wrong_turn (tells (events.Held 0 0 3 ∷ []) (publishes 0 loaded)) []
    ∷ wrong_turn (tells (events.Held 0 1 5 ∷ []) (publishes 1 (quiet 1 0 (publishes 0 loaded)))) []
    ∷ wrong_turn (tells (events.Null 0 1 ∷ []) (Starts Blank 0 (calls.Get 7))) []
    ∷ wrong_turn (tells (events.Null 0 3 ∷ []) (publishes 0 loaded)) []
    -- the number is not that of the turns
    ∷ wrong_turn (tells (events.Held 0 0 4 ∷ []) (publishes 0 loaded)) (Loads ∷ [])
    -- a turn more passes before the row is found to stand
    ∷ wrong_turn (tells (events.Held 0 0 3 ∷ []) (quiet 1 0 (publishes 0 loaded))) (Loads ∷ [])
    -- a turn of another seat does not count
    ∷ wrong_turn (tells (events.Held 0 0 4 ∷ []) (quiet 1 1 (Starts (publishes 0 loaded) 1 calls.Advance))) (Loads ∷ [])
    -- the first load was of no turn of the call
    ∷ wrong_turn (tells (events.Held 0 0 3 ∷ []) (publishes 0 (Starts Blank 0 (calls.Get 7)))) (Loads ∷ [])
    -- a row stands that was never published
    ∷ wrong_turn (tells (events.Held 0 0 1 ∷ []) (Starts Blank 0 (calls.Get 7))) (Loads ∷ [])
    -- a null link that is loaded first takes two turns
    ∷ wrong_turn (tells (events.Null 0 2 ∷ []) loaded) (Loads ∷ [])
    -- a turn publishes two rows
    ∷ wrong_turn (tells (events.Hazard (guards.Index 0 0) (Some 0) ∷ events.Hazard (guards.Index 0 0) (Some 1) ∷ []) loaded) (OneStep ∷ [])
    -- a turn sees two guards
    ∷ wrong_turn (tells (events.Saw (guards.Index 0 0) None ∷ events.Saw (guards.Index 0 1) None ∷ []) (Starts Blank 0 calls.Scan)) (OneStep ∷ [])
    -- a turn sees a guard, and gives a row back
    ∷ wrong_turn (tells (events.Saw (guards.Index 0 0) None ∷ events.Back 0 ∷ []) (Starts Blank 0 calls.Scan)) (OneStep ∷ [])
    ∷ []

abbrev refused_by : WrongTurn → List TurnLaw
refused_by it = refusing it.history (OneStep ∷ Loads ∷ [])

abbrev named_by : WrongTurn → List TurnLaw
named_by it = it.laws

abbrev pub WrongTurnsRefused : Type 0
WrongTurnsRefused = map refused_by wrong_turns ≡ map named_by wrong_turns
