-- What a record says of the calls of one seat.
use Rattle.std.specs.Prelude.{ℕ, Bool, true, false, List, [], Option, None, ◌==◌, ◌&&◌, ◌||◌, not, ◌≡◌, ◌<◌, length, slice_index_or}
use Rattle.laws.specs.defs.declared.call.Call.{Call}
use Rattle.laws.specs.defs.declared.event.Event.{Event}
use Rattle.laws.specs.defs.declared.event.Event.TheVariants as events
use Rattle.laws.specs.defs.Events.{is_null}
use Rattle.laws.specs.records.Record.{Past}
use Rattle.laws.specs.words.declared.config.Config.{Config}
use Rattle.laws.specs.EraLaw.{is_era, is_of_advance, moves_right}
use Rattle.laws.specs.Lists.{has_left, is_left}
use Rattle.laws.specs.Once.{Grant, grant_of, granted_by, no_grant, places_right, retires_right}
use Rattle.laws.specs.ScanLaw.{Blocks, blocks_of, blocks_by, blocks_right, no_blocks}
use Rattle.laws.specs.StateAt.{began_by, began_of, cuts_by, cuts_of, has_root, has_told, is_open, opened_by, rooted_by, rooted_of}
use Rattle.wfe_check_calls.specs.declared.blocks.Blocks.{Blocks as KeptBlocks}
use Rattle.wfe_check_calls.specs.declared.grant.Grant.{Grant as KeptGrant}
use Rattle.wfe_check_calls.specs.declared.seat.Seat.{Seat}

-- the row that a call was given, as it is kept
abbrev pub shown_grant : KeptGrant → Grant
shown_grant kept = record { row = kept.row; linked = kept.linked; unused = kept.unused }

-- the blocks of a call, as they are kept
abbrev pub shown_blocks : KeptBlocks → Blocks
shown_blocks kept =
    record { retired = kept.retired; given = kept.given; begun = kept.begun; due = kept.due; last = kept.last; left = kept.left; moves = kept.moves }

-- what a record says of a seat: whether it is in a call and whether it has left, and of the call that it began last which it is, whether
-- it has found its root, whether it has told that index 0 has none, whether it has moved the clock, what it has done with its row, its
-- blocks, and its cuts
pub record SeatCalls : Type 0 where
  pub in_call : Bool
  pub left : Bool
  pub began : Option Call
  pub rooted : Bool
  pub null : Bool
  pub moved : Bool
  pub grant : Grant
  pub blocks : Blocks
  pub cuts : List ℕ

-- so it is with seat i
abbrev pub calls_of : Config → ℕ → Past → SeatCalls
calls_of config i p = record {
  in_call = is_open i p;
  left = has_left i p;
  began = began_of i p;
  rooted = rooted_of i p;
  null = has_told i (is_null 0) p;
  moved = has_told i is_era p;
  grant = grant_of i p;
  blocks = blocks_of config i p;
  cuts = cuts_of i p;
}

-- a seat that has told nothing
abbrev pub no_calls : SeatCalls
no_calls = record {
  in_call = false;
  left = false;
  began = None;
  rooted = false;
  null = false;
  moved = false;
  grant = no_grant;
  blocks = no_blocks;
  cuts = [];
}

-- a seat as it is kept
abbrev pub shown_seat : Seat → SeatCalls
shown_seat seat = record {
  in_call = seat.in_call;
  left = seat.left;
  began = seat.began;
  rooted = seat.rooted;
  null = seat.null;
  moved = seat.moved;
  grant = shown_grant seat.grant;
  blocks = shown_blocks seat.blocks;
  cuts = seat.cuts.items;
}

-- the call has told that index 0 has none
abbrev pub null_told_by : Event → Bool → Bool
null_told_by (events.Begin call) before = false
null_told_by (events.Null index steps) before = (index == 0) || before
null_told_by event before = before

-- the call has moved the clock
abbrev pub moved_by : Event → Bool → Bool
moved_by (events.Begin call) before = false
moved_by (events.Era era) before = true
moved_by event before = before

-- a seat after an event of it, where there are so many guards, and every so many retirements a block is due
abbrev pub seat_by : (all every : ℕ) → Event → SeatCalls → SeatCalls
seat_by all every event before = record {
  in_call = opened_by event before.in_call;
  left = is_left event || before.left;
  began = began_by event before.began;
  rooted = rooted_by event before.rooted;
  null = null_told_by event before.null;
  moved = moved_by event before.moved;
  grant = granted_by event before.grant;
  blocks = blocks_by all every event before.blocks;
  cuts = cuts_by event before.cuts;
}

-- a call begins where the seat is in none and has not left, and all else is told in a call
abbrev pub opens_right : Event → (in_call left : Bool) → Bool
opens_right (events.Begin call) in_call left = not in_call && not left
opens_right event in_call left = in_call

-- where a call ends that looks for a root, it has found it
abbrev pub finds_right : Event → Option Call → (rooted : Bool) → Bool
finds_right (events.End steps answer) began rooted = not (has_root began) || rooted
finds_right event began rooted = true

-- the clock is moved by an Advance, once
abbrev pub advances_right : Event → Option Call → (moved : Bool) → Bool
advances_right (events.Era era) began moved = is_of_advance began && not moved
advances_right event began moved = true

-- an event of a seat is one that may come, as far as the seat's calls say, where retirements move the clock or do not
abbrev pub seat_right : (by_retires : Bool) → Event → SeatCalls → Bool
seat_right by_retires event before =
    opens_right event before.in_call before.left
    && (places_right event before.grant
    && (retires_right event before.cuts
    && (blocks_right before.began event before.blocks
    && (moves_right before.began event before.blocks
    && (finds_right event before.began before.rooted
    && (by_retires || advances_right event before.began before.moved))))))

-- so many seats that have told nothing
pub record IsFresh (count : ℕ) (seats : List Seat) : Type 0 where
  pub seated : length seats ≡ count
  pub each : (i : ℕ) (d : Seat) → i < count → shown_seat (slice_index_or seats i d) ≡ no_calls
