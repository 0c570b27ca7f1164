-- Calls that work on what stands at indexes from 2 on: a copy, a look, and under 2GE a release while another row is kept; and
-- those of seats that leave.
use Rattle.std.specs.Prelude.{ℕ, ◌==◌, ◌+◌, Bool, true, false, if◌then◌else◌, nat_lt, List, [], ◌∷◌, ◌++◌, drop, length, Option, Some, None}
use Rattle.wfe_words.specs.Packed.{read_reservation}
use Rattle.wfe_words.specs.Place.{Place}
use Rattle.wfe_words.specs.Place.Place.{Index, Interval, PlaceOf}
use Rattle.wfe_words.specs.Schemes.{has_one_interval, publishes_rows}
use Rattle.wfe_defs.specs.declared.call.Answer.{Answer}
use Rattle.wfe_defs.specs.declared.call.Answer.TheVariants as answers
use Rattle.wfe_defs.specs.declared.event.Event.{Event}
use Rattle.wfe_defs.specs.declared.event.Event.TheVariants as events
use Rattle.wfe_defs.specs.declared.lifetime.Interval.{Interval as Span}
use Rattle.wfe_core.specs.declared.post.Post.{Post}
use Rattle.wfe_core.specs.Calls.{Holds, LetGo, Released, Rehold, Dropped, Parting, KeepAt, Loosens, LoadHeld, StoreHeld, Looks, Misses, HideSpan, MarkLeft, TakeList, MarkTaken, GetAt, FindVersion, FindCount, FindKey, FindValue, Phase, Runs, Works, Keeping, Releases, CallTurn, goes_on}
use Rattle.wfe_core.specs.Calls as calls
use Rattle.wfe_core.specs.Desks.{Desk, with_gift}
use Rattle.wfe_core.specs.Get.{get_move}
use Rattle.wfe_core.specs.Guards.{guard_place, own_guard}
use Rattle.wfe_core.specs.Memory.{Move, Cas, Load, Store}
use Rattle.wfe_core.specs.Phases.Base.{Clear}
use Rattle.wfe_core.specs.Posts.{cleared, cleared_from, publishes_index, reserves_span, shown_word, stands, standing_from, with_row, withdrawn, withdrawn_all}
use Rattle.wfe_core.specs.Rounds.{let_index, round, scheme_of}

-- the word of the guard of an index of the seat
abbrev pub own_place : Post → ℕ → Place
own_place post index = guard_place (own_guard (scheme_of post) post.seat index)

abbrev pub keep_move : KeepAt → Post → Move
keep_move (Loosens let_go) post = Load (Interval post.seat)
keep_move (LoadHeld from index) post = Load (own_place post from)
keep_move (StoreHeld from index era) post = Store (Index post.seat index) (shown_word (publishes_rows (scheme_of post)) post index era)
keep_move (Looks index key at) post = get_move at
keep_move (Misses index) post = Load (own_place post index)
keep_move HideSpan post = Store (Interval post.seat) 0
keep_move MarkLeft post = Store (PlaceOf post.seat) 1
keep_move (TakeList place) post = Cas (PlaceOf place) 1 2
keep_move (MarkTaken place count) post = Store (PlaceOf place) 3

-- a seat that leaves: what stands is let go, one index after the other, and under 2GE with the interval; then its place is
-- marked
abbrev pub parting_index : (rows : Bool) → Option ℕ → Phase
parting_index rows None = Works (Keeping MarkLeft)
parting_index rows (Some index) = Runs (Releases (Parting index)) (Clear rows index)

abbrev pub parting_span : Option Span → Phase
parting_span None = Works (Keeping MarkLeft)
parting_span (Some span) = Works (Keeping HideSpan)

-- from this index on
abbrev pub parting_from : ℕ → Post → Phase
parting_from index post = parting_index (publishes_rows (scheme_of post)) (standing_from index (drop index post.standing))

abbrev pub parting : Post → Phase
parting post = if has_one_interval (scheme_of post) then parting_span post.span else parting_from 2 post

-- what comes once something was let go
abbrev pub released : LetGo → Post → Desk → List Event → CallTurn
released Released post desk told = calls.answers post desk told answers.Released
released (Rehold key) post desk told = goes_on post desk told (round (Holds key) post)
released (Dropped index) post desk told = calls.answers post desk told answers.Dropped
released (Parting index) post desk told = goes_on post desk told (parting_from (index + 1) post)

-- what stands at an index stands at another from here on; what stood there stands there no more
abbrev pub copied : (from index : ℕ) → Post → Desk → (reserved : List Event) → Option ℕ → CallTurn
copied from index post desk reserved (Some slot) =
    calls.answers
    (with_row post index slot)
    desk
    (cleared index (stands post index) ++ reserved ++ events.Copied from index slot ∷ [])
    (answers.Copied slot)
copied from index post desk reserved None = calls.answers post desk [] answers.Nothing

-- what an index word publishes: an era, or where rows are published a link
abbrev pub held_number : (rows : Bool) → ℕ → ℕ
held_number false found = (read_reservation found).era
held_number true found = found

-- under 2GE the interval keeps both; else what the index publishes is published at the other index too
abbrev pub load_held : (from index : ℕ) → Post → Desk → ℕ → (one : Bool) → CallTurn
load_held from index post desk found true = copied from index post desk [] (stands post from)
load_held from index post desk found false = goes_on post desk [] (Works (Keeping (StoreHeld from index (held_number (publishes_rows (scheme_of post)) found))))

-- the pair of this number, if there is one
abbrev pub looking : (index key slot version count : ℕ) → Post → Desk → (more : Bool) → ℕ → CallTurn
looking index key slot version count post desk true pair = goes_on post desk [] (Works (Keeping (Looks index key (FindKey slot version count pair))))
looking index key slot version count post desk false pair = calls.answers post desk [] (answers.Looked slot version None)

-- a key was read: the own one, or another
abbrev pub looked_key : (index key slot version count pair : ℕ) → Post → Desk → (own : Bool) → CallTurn
looked_key index key slot version count pair post desk true = goes_on post desk [] (Works (Keeping (Looks index key (FindValue slot version pair))))
looked_key index key slot version count pair post desk false = looking index key slot version count post desk (nat_lt (pair + 1) count) (pair + 1)

-- one step of a look: it reads as a get does
abbrev pub look_turn : (index key : ℕ) → GetAt → Post → Desk → ℕ → CallTurn
look_turn index key (FindVersion slot) post desk found = goes_on post desk [] (Works (Keeping (Looks index key (FindCount slot found))))
look_turn index key (FindCount slot version) post desk found = looking index key slot version found post desk (nat_lt 0 found) 0
look_turn index key (FindKey slot version count pair) post desk found = looked_key index key slot version count pair post desk (found == key)
look_turn index key (FindValue slot version pair) post desk found = calls.answers post desk [] (answers.Looked slot version (Some found))

-- a place from which no list can be taken: none was left there, or another has it
abbrev pub not_taken : ℕ → Answer
not_taken found = if found == 0 then answers.NotLeft else answers.AdoptedBefore

-- the list at a seat's place is this seat's from here on, if one was left there
abbrev pub taking : (place : ℕ) → Post → Desk → (left : Bool) → ℕ → CallTurn
taking place post desk true found =
    goes_on post (with_gift desk) (events.Adopted place (length desk.gift) ∷ []) (Works (Keeping (MarkTaken place (length desk.gift))))
taking place post desk false found = calls.answers post desk [] (not_taken found)

abbrev pub keep_turn : KeepAt → Post → Desk → ℕ → CallTurn
keep_turn (Loosens let_go) post desk found = released let_go (withdrawn post (let_index let_go)) desk (cleared (let_index let_go) (stands post (let_index let_go)))
keep_turn (LoadHeld from index) post desk found = load_held from index post desk found (has_one_interval (scheme_of post))
keep_turn (StoreHeld from index era) post desk found = copied from index post desk (publishes_index (publishes_rows (scheme_of post)) post index era) (stands post from)
keep_turn (Looks index key at) post desk found = look_turn index key at post desk found
keep_turn (Misses index) post desk found = calls.answers post desk [] answers.Nothing
keep_turn HideSpan post desk found = goes_on (withdrawn_all post) desk (cleared_from 2 (drop 2 post.standing) ++ reserves_span post None) (Works (Keeping MarkLeft))
keep_turn MarkLeft post desk found = calls.answers post desk (events.Left (length desk.list) ∷ []) (answers.Left (length desk.list))
keep_turn (TakeList place) post desk found = taking place post desk (found == 1) found
keep_turn (MarkTaken place count) post desk found = calls.answers post desk [] (answers.Adopted count)
