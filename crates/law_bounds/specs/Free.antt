-- Lock-freedom: among so many turns of a history something is done, whichever seats take them.
use Rattle.std.specs.Prelude.{Bool, List, [], false, if◌then◌else◌, true, ℕ, ◌*◌, ◌++◌, ◌+◌, ◌<◌, ◌==◌, ◌||◌, ◌∷◌, ◌≡◌, ◌≤◌}
use Rattle.law_held.specs.inv.history.Heard.{heard_of}
use Rattle.law_held.specs.inv.history.History.{Item, record_of}
use Rattle.law_held.specs.inv.history.Turns.History.{Blank, Starts, Turns}
use Rattle.law_held.specs.inv.history.Turns.{History}
use Rattle.law_held.specs.inv.model.defs.declared.event.Event.{Event}
use Rattle.law_held.specs.inv.model.defs.declared.event.Event.TheVariants as events
use Rattle.law_held.specs.inv.model.defs.declared.event.Root.TheVariants as roots
use Rattle.law_held.specs.inv.model.words.Place.{is_valid}
use Rattle.law_held.specs.inv.model.words.declared.config.Config.{Config}
use Rattle.law_held.specs.inv.model.words.declared.layout.Layout.{Layout}
use Rattle.law_held.specs.laws.StateAt.{told}
use Rattle.law_bounds.specs.Changes.{once_most, round_most}

-- Something is done: a call ends, a bucket is changed, a value is queued or taken, or the clock is moved. That the tail goes on is none.
abbrev pub is_done : Event → Bool
is_done (events.End steps answer) = true
is_done (events.Link (roots.Bucket bucket) slot) = true
is_done (events.Put bucket version key value) = true
is_done (events.Removed bucket version key) = true
is_done (events.Queued number value) = true
is_done (events.Taken number value) = true
is_done (events.Era era) = true
is_done event = false

-- something of these is done
abbrev pub done_in : List Event → Bool
done_in [] = false
done_in (event ∷ told) = is_done event || done_in told

-- The most turns of a seat among which nothing is done and the tail stays: twice what is left of a call that loses no more than four
-- rounds, since an era that it shows may be out of date once.
abbrev pub still_most : Config → ℕ
still_most config = 2 * (6 * round_most config + 3 * once_most config) + 1

-- The most among which nothing is done: meanwhile the tail goes on once at most, since it lags by no more than one value (`Tails.antt`).
abbrev pub free_most : Config → ℕ
free_most config = 2 * still_most config + 1

-- how many turns a seat has taken
abbrev pub turns_by : ℕ → History → ℕ
turns_by k Blank = 0
turns_by k (Starts h i call) = turns_by k h
turns_by k (Turns h i told) = if k == i then turns_by k h + 1 else turns_by k h

-- how many all seats have
abbrev pub all_turns : History → ℕ
all_turns Blank = 0
all_turns (Starts h i call) = all_turns h
all_turns (Turns h i told) = all_turns h + 1

-- Where a seat takes more turns than that something is done, by it or by another.
abbrev pub SeatsGetOn : Type 0
SeatsGetOn =
    (layout : Layout) (items more : List Item) (k : ℕ)
    → is_valid layout ≡ true
    → turns_by k (heard_of layout items) + free_most layout.config < turns_by k (heard_of layout (items ++ more))
    → told is_done (record_of layout items) < told is_done (record_of layout (items ++ more))

-- So something is done among so many turns for each seat, whichever seats take them and wherever the others stand.
abbrev pub LockFree : Type 0
LockFree =
    (layout : Layout) (items more : List Item)
    → is_valid layout ≡ true
    → all_turns (heard_of layout items) + layout.config.seats * free_most layout.config < all_turns (heard_of layout (items ++ more))
    → told is_done (record_of layout items) < told is_done (record_of layout (items ++ more))

-- how many turns all seats have taken since something was done
abbrev pub idle_turns : History → ℕ
idle_turns Blank = 0
idle_turns (Starts h i call) = idle_turns h
idle_turns (Turns h i told) = if done_in told then 0 else idle_turns h + 1

-- never more than that
abbrev pub FewIdle : Config → History → Type 0
FewIdle config h = idle_turns h ≤ config.seats * free_most config

-- each history keeps it, under each scheme
abbrev pub HistoriesGetOn : Type 0
HistoriesGetOn = (layout : Layout) (items : List Item) → is_valid layout ≡ true → FewIdle layout.config (heard_of layout items)
