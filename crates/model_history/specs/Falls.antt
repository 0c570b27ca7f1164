-- In these runs the number of steps that are left falls at each step of its seat and rises at no step of another.
use Rattle.std.specs.Prelude.{ℕ, zero, suc, ◌&&◌, ◌||◌, ◌==◌, nat_lt, nat_le, Bool, true, false, List, [], ◌∷◌, ◌≡◌, ◌++◌}
use Rattle.wfe_core.specs.words.declared.layout.Layout.{Layout}
use Rattle.wfe_core.specs.Rest.{rest}
use Rattle.wfe_core.specs.World.{World}
use Rattle.model_history.specs.History.{Item, Begins, Steps, Made, did, fits, first_made, times}
use Rattle.wfe_core.specs.words.declared.config.SchemeKind.TheVariants.{He, Ibr, Wfe}
use Rattle.wfe_core.specs.defs.declared.call.Call.TheVariants as calls
use Rattle.model_history.specs.Among.{call, to_end, setting}

-- the steps that are left of each seat below k but seat i do not rise
abbrev stay_below : World → World → ℕ → ℕ → Bool
stay_below v w i zero = true
stay_below v w i (suc k) = ((i == k) || nat_le (rest w k) (rest v k)) && stay_below v w i k

-- an item was done
abbrev falls_at : World → World → Item → Bool
falls_at v w (Begins i call) = stay_below v w i v.layout.config.seats
falls_at v w (Steps i) = nat_lt (rest w i) (rest v i) && stay_below v w i v.layout.config.seats

-- an item that does not fit does nothing
abbrev falls_if : Made → Made → Item → (fit : Bool) → Bool
falls_if made next item true = falls_at made.world next.world item
falls_if made next item false = true

-- along all the items
abbrev falls_from : Made → List Item → Bool
falls_from made [] = true
falls_from made (item ∷ items) = falls_if made (did made item) item (fits made.world item) && falls_from (did made item) items

abbrev pub falls : Layout → List Item → Bool
falls layout items = falls_from (first_made layout) items

-- a reader that tries again
abbrev pub ReaderTriesAgain : Type 0
ReaderTriesAgain =
    falls (setting He 2 8 2 1 100 100) (call 0 (calls.Put 7 70) ++ to_end 0 ++ call 1 (calls.Hold 7) ++ times 3 1 ++ call 0 (calls.Put 7 71) ++ to_end 0 ++ to_end 1 ++ call 0 calls.Scan ++ to_end 0) ≡ true

-- a reader that raises its interval
abbrev pub IntervalRises : Type 0
IntervalRises =
    falls (setting Ibr 2 8 2 1 100 100) (call 0 (calls.Put 7 0) ++ to_end 0 ++ call 1 (calls.Hold 7) ++ to_end 1 ++ call 0 calls.Advance ++ to_end 0 ++ call 1 (calls.Get 7) ++ to_end 1 ++ call 1 calls.Release ++ to_end 1) ≡ true

-- requests, helpers and scans
abbrev pub HelperIsStopped : Type 0
HelperIsStopped =
    falls (setting Wfe 4 8 1 100 100 100) (call 2 (calls.Put 7 70) ++ to_end 2 ++ call 0 (calls.Hold 7) ++ times 3 0 ++ call 1 calls.Advance ++ to_end 1 ++ call 3 calls.Advance ++ times 5 3 ++ times 3 0 ++ to_end 3 ++ call 2 (calls.Put 7 71) ++ to_end 2 ++ call 1 calls.Advance ++ times 6 1 ++ call 2 (calls.Put 7 72) ++ to_end 2 ++ call 2 calls.Scan ++ times 12 2 ++ to_end 1 ++ to_end 2 ++ to_end 0 ++ call 0 calls.Release ++ to_end 0 ++ call 2 calls.Scan ++ to_end 2) ≡ true

-- the longest protection
abbrev pub ClockMovesUnderARequest : Type 0
ClockMovesUnderARequest =
    falls (setting Wfe 3 8 1 100 100 100) (call 0 (calls.Put 7 70) ++ to_end 0 ++ call 0 (calls.Hold 7) ++ times 3 0 ++ call 1 calls.Advance ++ to_end 1 ++ call 1 calls.Advance ++ times 4 1 ++ call 2 calls.Advance ++ times 4 2 ++ times 5 0 ++ to_end 1 ++ to_end 2 ++ to_end 0) ≡ true

-- a call that makes room and walks again
abbrev pub TableIsFull : Type 0
TableIsFull =
    falls (setting He 2 2 2 1 100 100) (call 0 (calls.Put 7 70) ++ to_end 0 ++ call 1 (calls.Hold 7) ++ to_end 1 ++ call 0 (calls.Put 7 71) ++ to_end 0 ++ call 0 (calls.Put 7 72) ++ to_end 0 ++ call 1 calls.Release ++ to_end 1 ++ call 0 (calls.Put 7 72) ++ to_end 0) ≡ true

-- dequeues that lose their rounds
abbrev pub HeadMoves : Type 0
HeadMoves =
    falls (setting He 2 8 2 1 100 100) (call 0 (calls.Enqueue 5) ++ to_end 0 ++ call 0 (calls.Enqueue 6) ++ to_end 0 ++ call 1 calls.Dequeue ++ times 8 1 ++ call 0 calls.Dequeue ++ to_end 0 ++ to_end 1) ≡ true
