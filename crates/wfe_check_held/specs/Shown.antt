-- What guards, and the rows that stand, show by themselves: the tests of an entry.
use Rattle.std.specs.Prelude.{ℕ, Bool, true, not, ◌==◌, ◌+◌, ◌*◌, ◌&&◌, ◌||◌, Option, Some, None, is_none, if◌then◌else◌, nat_le, nat_lt, List, [], get_or, slice_set}
use Rattle.std.specs.List.{list_all}
use Rattle.laws.specs.words.Schemes.{has_one_interval, is_wfe, publishes_rows}
use Rattle.laws.specs.defs.Shown.{keeps, shown, shown_row}
use Rattle.laws.specs.defs.declared.call.Call.{Call}
use Rattle.laws.specs.defs.declared.event.Event.{Event}
use Rattle.laws.specs.defs.declared.event.Event.TheVariants as events
use Rattle.laws.specs.defs.declared.event.Guard.{Guard}
use Rattle.laws.specs.defs.declared.event.Guard.TheVariants.{Helper, Index, Whole}
use Rattle.laws.specs.defs.declared.event.Root.TheVariants as roots
use Rattle.laws.specs.defs.declared.lifetime.Interval.{Interval}
use Rattle.laws.specs.defs.declared.lifetime.Lifetime.{Lifetime}
use Rattle.laws.specs.defs.declared.shown.Shown.{Shown}
use Rattle.laws.specs.EraLaw.{is_one_era, same_interval, span_rises}
use Rattle.laws.specs.HoldLaw.{is_alike, is_blank, own_guard}
use Rattle.laws.specs.Once.{is_slot}
use Rattle.laws.specs.StateAt.{is_dequeue, is_empty, is_index, is_one_of, same_guard, same_span, seat_of, without_row}
use Rattle.laws.specs.StructuresAt.{same_value}
use Rattle.wfe_check_rows.specs.declared.rows.Rows.{Rows}
use Rattle.wfe_check_rows.specs.Shown.{life_of, root, row}
use Rattle.wfe_check_held.specs.declared.protections.Protections.{Protections}
use Rattle.wfe_check_held.specs.All.{all_below}
use Rattle.wfe_check_held.specs.Rows.{with_row}

-- the place of an index of a seat, by seat and then index
abbrev pub place : Protections → (seat index : ℕ) → ℕ
place kept seat index = seat * kept.config.indexes + index

-- what a guard publishes
abbrev pub value_in : Protections → Guard → Option Interval
value_in kept (Helper seat) = get_or kept.helpers.items seat None
value_in kept (Index seat index) = get_or kept.words.items (place kept seat index) None
value_in kept (Whole seat) = get_or kept.wholes.items seat None

-- the row that an index word publishes
abbrev pub hazard_in : Protections → Guard → Option ℕ
hazard_in kept (Helper seat) = None
hazard_in kept (Index seat index) = get_or kept.hazards.items (place kept seat index) None
hazard_in kept (Whole seat) = None

-- the one or the other, by the scheme
abbrev pub published_in : Protections → Guard → Shown
published_in kept guard = if publishes_rows kept.config.scheme then shown_row (hazard_in kept guard) else shown (value_in kept guard)

-- the rows that stand at an index of a seat
abbrev pub rows_in : Protections → (seat index : ℕ) → List ℕ
rows_in kept seat index = get_or kept.standing.items (place kept seat index) []

abbrev pub stands_in : Protections → (seat index slot : ℕ) → Bool
stands_in kept seat index slot = is_one_of slot (rows_in kept seat index)

abbrev pub bare_in : Protections → (seat index : ℕ) → Bool
bare_in kept seat index = is_empty (rows_in kept seat index)

-- what a seat tells a guard to publish is by the rules of the scheme
abbrev pub reserves_right : Protections → (seat : ℕ) → Guard → Option Interval → Bool
reserves_right kept seat guard span =
    is_one_era kept.config.scheme span
    && (not (has_one_interval kept.config.scheme) || span_rises (value_in kept guard) span)
    && (seat_of guard == seat || (is_index guard && (is_wfe kept.config.scheme && same_interval span (value_in kept (Helper seat)))))

-- how many indexes a version speaks of
abbrev pub indexes_of : (version indexes : ℕ) → ℕ
indexes_of version indexes = if nat_le 2 version then indexes else 3

-- an index word publishes where a row stands at it, from index 2 on
abbrev pub word_rests : Protections → (seat index : ℕ) → Bool
word_rests kept seat index =
    if nat_lt index 2 then is_blank (published_in kept (Index seat index)) else is_alike (published_in kept (Index seat index)) (bare_in kept seat index)

-- no row stands there, or the index is below 2
abbrev pub low_or_bare : Protections → (seat index : ℕ) → Bool
low_or_bare kept seat index = nat_lt index 2 || bare_in kept seat index

abbrev pub rests : Protections → (below seat : ℕ) → Bool
rests kept below seat =
    if has_one_interval kept.config.scheme
    then is_alike (shown (value_in kept (Whole seat))) (all_below (low_or_bare kept seat) below)
    else is_none (value_in kept (Helper seat)) && all_below (word_rests kept seat) below

-- where a call ends
abbrev pub ends_right : Protections → (version seat : ℕ) → Bool
ends_right kept version seat = bare_in kept seat 0 && bare_in kept seat 1 && rests kept (indexes_of version kept.config.indexes) seat

-- what an entry says of guards, and where a call ends
abbrev pub right : Protections → (version seat : ℕ) → Event → Bool
right kept version seat (events.Read guard span) = not (publishes_rows kept.config.scheme) && same_span span (value_in kept guard)
right kept version seat (events.Saw guard slot) = publishes_rows kept.config.scheme && (is_index guard && same_value slot (hazard_in kept guard))
right kept version seat (events.Reserve guard span) = not (publishes_rows kept.config.scheme) && reserves_right kept seat guard span
right kept version seat (events.Hazard guard slot) = publishes_rows kept.config.scheme && (is_index guard && seat_of guard == seat)
right kept version seat (events.End steps answer) = ends_right kept version seat
right kept version seat event = true

-- no row of this number stands anywhere
abbrev pub misses_at : Protections → (slot seat index : ℕ) → Bool
misses_at kept slot seat index = not (stands_in kept seat index slot)

abbrev pub misses_by : Protections → (slot seat : ℕ) → Bool
misses_by kept slot seat = all_below (misses_at kept slot seat) kept.config.indexes

abbrev pub stands_nowhere : Protections → ℕ → Bool
stands_nowhere kept slot = all_below (misses_by kept slot) kept.config.seats

-- no row that stands is used again
abbrev pub reuses_none : Protections → Event → Bool
reuses_none kept (events.Give slot birth) = stands_nowhere kept slot
reuses_none kept (events.Unused slot) = stands_nowhere kept slot
reuses_none kept (events.Back slot) = stands_nowhere kept slot
reuses_none kept event = true

-- the row that a link replaces stands
abbrev pub stands_for_in : Protections → (seat : ℕ) → Option ℕ → Bool
stands_for_in kept seat None = true
stands_for_in kept seat (Some slot) = stands_in kept seat 0 slot

abbrev pub links_right : Protections → Rows → Option Call → (seat : ℕ) → Event → Bool
links_right kept rows call seat (events.Link (roots.Bucket bucket) slot) = stands_for_in kept seat (root rows bucket)
links_right kept rows call seat (events.Link (roots.Next parent) slot) = stands_in kept seat 0 parent
links_right kept rows call seat (events.Link roots.Head slot) = stands_in kept seat 0 rows.head && stands_in kept seat 1 slot
links_right kept rows call seat (events.Link roots.Tail slot) = stands_in kept seat 0 rows.tail && (not (is_dequeue call) || stands_in kept seat 1 slot)
links_right kept rows call seat event = true

-- what is held at index 1 is the head's next row
abbrev pub held_behind : Protections → Rows → (seat index slot : ℕ) → Bool
held_behind kept rows seat index slot =
    not (index == 1) || (stands_in kept seat 0 rows.head && is_slot slot (row rows rows.head).next)

-- a row that is told to stand is held
abbrev pub held_in : Protections → Rows → (seat index slot : ℕ) → Bool
held_in kept rows seat index slot =
    (row rows slot).taken && keeps (life_of rows slot) (published_in kept (own_guard kept.config.scheme seat index))

-- the rows at the indexes of a guard are kept by what it publishes from here on
abbrev pub index_kept : Protections → Rows → Guard → Shown → (index : ℕ) → Bool
index_kept kept rows guard value index =
    not (same_guard (own_guard kept.config.scheme (seat_of guard) index) guard)
    || list_all (λ (slot : ℕ). keeps (life_of rows slot) value) (rows_in kept (seat_of guard) index)

abbrev pub guard_kept : Protections → Rows → Guard → Shown → Bool
guard_kept kept rows guard value = all_below (index_kept kept rows guard value) kept.config.indexes

-- a life is kept at an index where its row stands there
abbrev pub life_kept_at : Protections → Lifetime → (seat index : ℕ) → Bool
life_kept_at kept life seat index =
    not (stands_in kept seat index life.slot) || keeps life (published_in kept (own_guard kept.config.scheme seat index))

abbrev pub life_kept_by : Protections → Lifetime → (seat : ℕ) → Bool
life_kept_by kept life seat = all_below (life_kept_at kept life seat) kept.config.indexes

abbrev pub life_kept : Protections → Lifetime → Bool
life_kept kept life = all_below (life_kept_by kept life) kept.config.seats

-- after an entry each row that stands is held
abbrev pub holds : Protections → Rows → (seat : ℕ) → Event → Bool
holds kept rows seat (events.Held index slot steps) = held_in kept rows seat index slot
holds kept rows seat (events.Copied from index slot) = held_in kept rows seat index slot
holds kept rows seat (events.Reserve guard span) = publishes_rows kept.config.scheme || guard_kept kept rows guard (shown span)
holds kept rows seat (events.Hazard guard slot) = not (publishes_rows kept.config.scheme) || guard_kept kept rows guard (shown_row slot)
holds kept rows seat (events.Retire slot birth retire) = life_kept kept (record { slot = slot; birth = (row rows slot).birth; retire = retire })
holds kept rows seat event = true

-- what an event of a seat makes of the helper words
abbrev pub helpers_after : Event → List (Option Interval) → List (Option Interval)
helpers_after (events.Reserve (Helper seat) span) values = slice_set values seat span
helpers_after event values = values

-- of the interval words
abbrev pub wholes_after : Event → List (Option Interval) → List (Option Interval)
wholes_after (events.Reserve (Whole seat) span) values = slice_set values seat span
wholes_after event values = values

-- of the index words, of so many for a seat
abbrev pub words_after : (width : ℕ) → Event → List (Option Interval) → List (Option Interval)
words_after width (events.Reserve (Index seat index) span) values = slice_set values (seat * width + index) span
words_after width event values = values

-- of the rows that index words publish
abbrev pub hazards_after : (width : ℕ) → Event → List (Option ℕ) → List (Option ℕ)
hazards_after width (events.Hazard (Index seat index) slot) values = slice_set values (seat * width + index) slot
hazards_after width event values = values

-- the index at which an event says what stands
abbrev pub told_index : Event → Option ℕ
told_index (events.Held index slot steps) = Some index
told_index (events.Copied from index slot) = Some index
told_index (events.Clear index slot) = Some index
told_index event = None

-- the row that it tells to stand
abbrev pub told_row : Event → Option ℕ
told_row (events.Held index slot steps) = Some slot
told_row (events.Copied from index slot) = Some slot
told_row event = None

-- what it makes of the rows that stand there
abbrev pub set_after : Event → List ℕ → List ℕ
set_after (events.Held index slot steps) rows = with_row slot rows
set_after (events.Copied from index slot) rows = with_row slot rows
set_after (events.Clear index slot) rows = without_row slot rows
set_after event rows = rows

abbrev pub sets_at : (place : Option ℕ) → Event → List (List ℕ) → List (List ℕ)
sets_at None event sets = sets
sets_at (Some place) event sets = slice_set sets place (set_after event (get_or sets place []))

abbrev pub place_of : (width seat : ℕ) → Option ℕ → Option ℕ
place_of width seat None = None
place_of width seat (Some index) = Some (seat * width + index)

-- what an event of a seat makes of the rows that stand, at so many indexes of each seat
abbrev pub sets_after : (width seat : ℕ) → Event → List (List ℕ) → List (List ℕ)
sets_after width seat event sets = sets_at (place_of width seat (told_index event)) event sets
