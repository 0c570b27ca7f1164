-- Histories that a law on turns refuses. Each is refused by the laws that are named, and by no other.
use Rattle.std.specs.Prelude.{ℕ, zero, suc, ◌&&◌, Bool, true, false, List, [], ◌∷◌, None, map, ◌≡◌}
use Rattle.wfe_core.specs.defs.declared.call.Answer.TheVariants as answers
use Rattle.wfe_core.specs.defs.declared.call.Call.TheVariants as calls
use Rattle.wfe_core.specs.defs.declared.call.ClockMove.TheVariants as moves
use Rattle.wfe_core.specs.defs.declared.event.Event.{Event}
use Rattle.wfe_core.specs.defs.declared.event.Event.TheVariants as events
use Rattle.wfe_core.specs.defs.declared.event.Guard.TheVariants as guards
use Rattle.wfe_core.specs.Guards.{from_to}
use Rattle.model_history.specs.Turns.{History}
use Rattle.model_history.specs.Turns.History.{Blank, Starts, Turns}
use Rattle.laws.specs.HistorySteps.{found_last, lasts_right, turns_bounded, withdrawn_right}
use Rattle.laws.specs.HistoryTurns.{handed_right, numbers_right, one_step}

-- the laws on turns that a reader under Wait-Free Eras with one try meets
pub data TurnLaw : Type 0 where
  OneStep : TurnLaw
  Numbers : TurnLaw
  Handed : TurnLaw
  Bounded : TurnLaw
  Lasts : TurnLaw
  Founds : TurnLaw
  Withdrawn : TurnLaw

abbrev pub turn_laws : List TurnLaw
turn_laws = OneStep ∷ Numbers ∷ Handed ∷ Bounded ∷ Lasts ∷ Founds ∷ Withdrawn ∷ []

abbrev pub turn_test : TurnLaw → History → ℕ → List Event → Bool
turn_test OneStep h i told = one_step h i told
turn_test Numbers h i told = numbers_right h i told
turn_test Handed h i told = handed_right h i told
turn_test Bounded h i told = turns_bounded 1 h i told
turn_test Lasts h i told = lasts_right 1 0 h i told
turn_test Founds h i told = found_last h i told
turn_test Withdrawn h i told = withdrawn_right h i told

-- each turn of the history is allowed after what came before
abbrev pub turns_read : (History → ℕ → List Event → Bool) → History → Bool
turns_read ok Blank = true
turns_read ok (Starts h i call) = turns_read ok h
turns_read ok (Turns h i told) = ok h i told && turns_read ok h

abbrev refuses_if : (taken : Bool) → TurnLaw → List TurnLaw → List TurnLaw
refuses_if true law others = others
refuses_if false law others = law ∷ others

-- of these laws those that refuse the history
abbrev pub turns_refusing : History → List TurnLaw → List TurnLaw
turns_refusing h [] = []
turns_refusing h (law ∷ others) = refuses_if (turns_read (turn_test law) h) law (turns_refusing h others)

-- so many turns of a seat that tell nothing
abbrev pub quiet : ℕ → ℕ → History → History
quiet zero i h = h
quiet (suc n) i h = Turns (quiet n i h) i []

-- a seat begins a get of an empty bucket and publishes the first era; another moves the clock; the try has failed, the reader publishes
-- the second era, asks for help, and has its answer
abbrev tried : History
tried = Turns (quiet 1 0 (Starts Blank 0 (calls.Get 7))) 0 (events.Reserve (guards.Index 0 0) (from_to 1 1) ∷ [])

abbrev overtaken : History
overtaken = Turns (quiet 3 1 (Starts (quiet 1 0 tried) 1 calls.Advance)) 1 (events.Era 2 ∷ events.End 4 (answers.Clock (moves.Moved 2)) ∷ [])

abbrev pub asked : History
asked = quiet 3 0 (Turns (quiet 2 0 (Turns (quiet 1 0 overtaken) 0 (events.Reserve (guards.Index 0 0) (from_to 2 2) ∷ []))) 0 (events.Reserve (guards.Helper 0) (from_to 2 2) ∷ []))

-- it takes the answer
abbrev takes : ℕ → History → History
takes steps h = Turns h 0 (events.Reserve (guards.Index 0 0) (from_to 2 2) ∷ events.Null 0 steps ∷ [])

-- it withdraws its helper word, and ends
abbrev withdraws : History → History
withdraws h = Turns h 0 (events.Reserve (guards.Helper 0) None ∷ events.Got 0 0 7 None ∷ [])

abbrev ends : ℕ → History → History
ends steps h = Turns h 0 (events.Reserve (guards.Index 0 0) None ∷ events.End steps (answers.Got 0 None) ∷ [])

-- a history, and the laws that refuse it
pub record WrongTurn : Type 0 where
  pub history : History
  pub laws : List TurnLaw

abbrev pub wrong_turn : History → List TurnLaw → WrongTurn
wrong_turn history laws = record { history = history; laws = laws }

abbrev pub wrong_turns : List WrongTurn
wrong_turns =
    -- none
    wrong_turn (ends 15 (withdraws (quiet 1 0 (takes 12 asked)))) []
    -- the turn that tells the null link withdraws the helper word, and so does the second after
    ∷ wrong_turn (ends 15 (withdraws (quiet 1 0 (Turns asked 0 (events.Null 0 12 ∷ events.Reserve (guards.Helper 0) None ∷ []))))) (Founds ∷ [])
    -- the next turn withdraws it
    ∷ wrong_turn (ends 14 (withdraws (takes 12 asked))) (Withdrawn ∷ [])
    -- the third turn after withdraws it
    ∷ wrong_turn (ends 16 (withdraws (quiet 2 0 (takes 12 asked)))) (Withdrawn ∷ [])
    -- the number is not that of the turns
    ∷ wrong_turn (ends 15 (withdraws (quiet 1 0 (takes 13 asked)))) (Numbers ∷ [])
    -- the protection takes too many turns until it has its answer, and so until it is over
    ∷ wrong_turn (ends 19 (withdraws (quiet 1 0 (takes 16 (quiet 4 0 asked))))) (Bounded ∷ Lasts ∷ [])
    -- a turn makes two steps
    ∷ wrong_turn (Turns overtaken 0 (events.Reserve (guards.Index 0 0) (from_to 2 2) ∷ events.Reserve (guards.Helper 0) (from_to 2 2) ∷ [])) (OneStep ∷ [])
    -- an index word is handed on whose owner has not published it
    ∷ wrong_turn (Turns (Starts overtaken 1 calls.Advance) 1 (events.Reserve (guards.Index 0 1) (from_to 2 2) ∷ [])) (Handed ∷ [])
    ∷ []

abbrev turn_refused_by : WrongTurn → List TurnLaw
turn_refused_by it = turns_refusing it.history turn_laws

abbrev turn_named_by : WrongTurn → List TurnLaw
turn_named_by it = it.laws

abbrev pub WrongTurnsRefused : Type 0
WrongTurnsRefused = map turn_refused_by wrong_turns ≡ map turn_named_by wrong_turns
