-- How many steps gets and holds take, by how often the clock was moved, or their bucket's root was changed, during the call. Under
-- Wait-Free Eras they take no more whatever others do, see `Bounds.antt` of wfe_defs.
use Rattle.std.specs.Prelude.{Bool, List, None, Option, Some, false, if◌then◌else◌, nat_le, true, ℕ, ◌*◌, ◌+◌, ◌==◌, ◌≡◌}
use Rattle.law_held.specs.inv.history.Heard.{heard_of}
use Rattle.law_held.specs.inv.history.History.{Item, record_of}
use Rattle.law_held.specs.inv.history.Record.{EachEntry, Past, Test, begins, told_since}
use Rattle.law_held.specs.inv.history.Turns.{is_busy, turns_of}
use Rattle.law_held.specs.inv.model.defs.declared.call.Call.{Call}
use Rattle.law_held.specs.inv.model.defs.declared.call.Call.TheVariants as calls
use Rattle.law_held.specs.inv.model.defs.declared.event.Event.{Event}
use Rattle.law_held.specs.inv.model.defs.declared.event.Event.TheVariants as events
use Rattle.law_held.specs.inv.model.defs.declared.event.Root.TheVariants as roots
use Rattle.law_held.specs.inv.model.words.Place.{is_valid}
use Rattle.law_held.specs.inv.model.words.Schemes.{is_wfe, publishes_rows}
use Rattle.law_held.specs.inv.model.words.declared.config.Config.{Config}
use Rattle.law_held.specs.inv.model.words.declared.layout.Layout.{Layout}
use Rattle.law_held.specs.laws.StateAt.{began_of}
use Rattle.law_held.specs.laws.StructuresAt.{bucket_of}

-- the clock is moved
abbrev pub is_move : Event → Bool
is_move (events.Era era) = true
is_move event = false

-- another row is linked at the root of bucket b
abbrev pub links_root : (b : ℕ) → Event → Bool
links_root b (events.Link (roots.Bucket bucket) slot) = b == bucket
links_root b event = false

-- how often the clock was moved since seat i began its call
abbrev pub moves_since : ℕ → Past → ℕ
moves_since i p = told_since (begins i) (λ q k event. is_move event) p

-- how often the root of bucket b was changed since then
abbrev pub roots_since : ℕ → (b : ℕ) → Past → ℕ
roots_since i b p = told_since (begins i) (λ q k event. links_root b event) p

-- The most steps that the tries of a protection take: three for each, or two where rows are published. Each try but the first comes
-- after a move of the clock, or where rows are published after a change of the root.
abbrev pub tries_most : Config → (seat bucket : ℕ) → Past → ℕ
tries_most config i b p = if publishes_rows config.scheme then 2 * (1 + roots_since i b p) else 3 * (1 + moves_since i p)

-- The most steps that a get takes beside them: at most two before its tries, a version, a count, a key for each of so many pairs, one
-- value, and one at its end.
abbrev pub get_more : (pairs : ℕ) → ℕ
get_more pairs = pairs + 6

-- the most that a hold takes beside them: it first lets go of what was held, and clears its index where it finds nothing
abbrev pub hold_more : ℕ
hold_more = 4

-- seat i has taken no more steps in this call than that
abbrev pub few_in : Config → ℕ → Past → Call → (steps : ℕ) → Bool
few_in config i p (calls.Get key) steps = nat_le steps (tries_most config i (bucket_of config.buckets key) p + get_more config.pairs)
few_in config i p (calls.Hold key) steps = nat_le steps (tries_most config i (bucket_of config.buckets key) p + hold_more)
few_in config i p call steps = true

-- so it is in the call that it began last
abbrev pub few_since : Config → ℕ → Past → Option Call → (steps : ℕ) → Bool
few_since config i p None steps = true
few_since config i p (Some call) steps = few_in config i p call steps

-- where a get or a hold ends, it has taken no more
abbrev pub reads_ok : Config → Test
reads_ok config p i (events.End steps answer) = few_since config i p (began_of i p) steps
reads_ok config p i event = true

-- each history keeps it where it is told, under each scheme but Wait-Free Eras
abbrev pub ReadsEnd : Type 0
ReadsEnd = (layout : Layout) (items : List Item) → is_valid layout ≡ true → is_wfe layout.config.scheme ≡ false → EachEntry (reads_ok layout.config) (record_of layout items)

-- so has a seat whose call is under way, by its turns, wherever the history stands
abbrev pub ReadsGoOn : Type 0
ReadsGoOn =
    (layout : Layout) (items : List Item) (i : ℕ)
    → is_valid layout ≡ true
    → is_wfe layout.config.scheme ≡ false
    → is_busy i (heard_of layout items) ≡ true
    → few_since layout.config i (record_of layout items) (began_of i (record_of layout items)) (turns_of i (heard_of layout items)) ≡ true
