-- How many steps puts, removes, enqueues and dequeues take, by how often their bucket, or the queue, was changed during the call, and
-- how often the clock was moved.
use Rattle.std.specs.Prelude.{Bool, List, None, Option, Some, nat_le, true, ℕ, ◌*◌, ◌+◌, ◌-◌, ◌≡◌}
use Rattle.law_held.specs.inv.history.Heard.{heard_of}
use Rattle.law_held.specs.inv.history.History.{Item, record_of}
use Rattle.law_held.specs.inv.history.Record.{EachEntry, Past, Test}
use Rattle.law_held.specs.inv.history.Turns.{is_busy, turns_of}
use Rattle.law_held.specs.inv.model.Guards.{guards}
use Rattle.law_held.specs.inv.model.defs.Bounds.{clock_most}
use Rattle.law_held.specs.inv.model.defs.declared.call.Call.{Call}
use Rattle.law_held.specs.inv.model.defs.declared.call.Call.TheVariants as calls
use Rattle.law_held.specs.inv.model.defs.declared.event.Event.TheVariants as events
use Rattle.law_held.specs.inv.model.words.Place.{is_valid}
use Rattle.law_held.specs.inv.model.words.declared.config.Config.{Config}
use Rattle.law_held.specs.inv.model.words.declared.layout.Layout.{Layout}
use Rattle.law_held.specs.laws.AnswerLaw.{moves_before, moves_of}
use Rattle.law_held.specs.laws.StateAt.{began_of}
use Rattle.law_bounds.specs.Gets.{moves_since}

-- The most steps of a round: a root is found, where a next link is followed that too; pairs are read, and a row is written; a link is
-- exchanged, and index words are cleared.
abbrev pub round_most : Config → ℕ
round_most config = 6 * config.tries + 4 * config.pairs + 48

-- the most of a walk for a free row, with the load and the store round it
abbrev pub walk_most : Config → ℕ
walk_most config = config.slots + 3

-- the most of a move of the clock, and of a scan that gives back so many rows as there are
abbrev pub scan_most : Config → ℕ
scan_most config = clock_most config.seats + guards config + config.slots + 1

-- the most of what comes once in a call: two walks, two scans, a row retired or given up, and a last round
abbrev pub once_most : Config → ℕ
once_most config = round_most config + 2 * walk_most config + 2 * scan_most config + 7

-- how often the bucket of the call that seat i began last was changed since; of an enqueue how many values were queued, of a dequeue how
-- many were taken, and of both how often the tail was moved
abbrev pub changes_since : Config → ℕ → Past → ℕ
changes_since config i p = moves_of config (began_of i p) p - moves_before config i p

-- One round for the present root, one for the walk that failed, and one for each change; three steps for each move of the clock; and what
-- comes once.
abbrev pub change_most : Config → ℕ → Past → ℕ
change_most config i p = round_most config * (1 + changes_since config i p + 1) + 3 * moves_since i p + once_most config

-- seat i has taken no more steps in this call than that
abbrev pub few_in : Config → ℕ → Past → Call → (steps : ℕ) → Bool
few_in config i p (calls.Put key value) steps = nat_le steps (change_most config i p)
few_in config i p (calls.Remove key) steps = nat_le steps (change_most config i p)
few_in config i p (calls.PutIf key value version) steps = nat_le steps (change_most config i p)
few_in config i p (calls.Enqueue value) steps = nat_le steps (change_most config i p)
few_in config i p calls.Dequeue steps = nat_le steps (change_most config i p)
few_in config i p call steps = true

-- so it is in the call that it began last
abbrev pub few_since : Config → ℕ → Past → Option Call → (steps : ℕ) → Bool
few_since config i p None steps = true
few_since config i p (Some call) steps = few_in config i p call steps

-- where such a call ends, it has taken no more
abbrev pub changes_ok : Config → Test
changes_ok config p i (events.End steps answer) = few_since config i p (began_of i p) steps
changes_ok config p i event = true

-- each history keeps it where it is told, under each scheme
abbrev pub ChangesEnd : Type 0
ChangesEnd = (layout : Layout) (items : List Item) → is_valid layout ≡ true → EachEntry (changes_ok layout.config) (record_of layout items)

-- so has a seat whose call is under way, by its turns, wherever the history stands
abbrev pub ChangesGoOn : Type 0
ChangesGoOn =
    (layout : Layout) (items : List Item) (i : ℕ)
    → is_valid layout ≡ true
    → is_busy i (heard_of layout items) ≡ true
    → few_since layout.config i (record_of layout items) (began_of i (record_of layout items)) (turns_of i (heard_of layout items)) ≡ true
