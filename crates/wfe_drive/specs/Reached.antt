-- The table at its start, that a World in which all seats stay is what a table shows, and how few units a seat's call has left.
use Rattle.std.specs.Prelude.{List, ◌+◌, ◌-◌, ◌<◌, ◌^◌, ◌≡◌, ℕ, length, map, true}
use Rattle.std.specs.List.{range_with_len}
use Rattle.wfe_core.specs.words.Place.{is_valid, start_at, words}
use Rattle.wfe_core.specs.words.Place.Place.{PlaceOf}
use Rattle.wfe_core.specs.words.declared.layout.Layout.{Layout}
use Rattle.wfe_core.specs.defs.declared.call.Call.{Call}
use Rattle.wfe_core.specs.declared.post.Post.{Post}
use Rattle.wfe_core.specs.Calls.{GoesOn, Phase}
use Rattle.wfe_core.specs.Locals.{stays, turn}
use Rattle.wfe_core.specs.Rest.{rest}
use Rattle.wfe_core.specs.Steps.{first_phase}
use Rattle.wfe_core.specs.World.{World, finds, is_busy, offered}
use Rattle.wfe_drive_cells.specs.Unit.{Shows, TableView, fresh_seat, seat_at}
use Rattle.law_reuse.specs.inv.Inv.{Inv}

-- each word as it starts, and each seat between calls
abbrev pub first_table : Layout → TableView
first_table layout =
    record {
      layout = layout;
      words = map (start_at layout) (range_with_len 0 (words layout));
      seats = map (fresh_seat layout) (range_with_len 0 layout.config.seats);
    }

-- phases that a call comes to, in Worlds in which the invariant holds
pub data ComesTo (call : Call) : Phase → Type 0 where
  First : (post : Post) → (phase : Phase) → phase ≡ first_phase call post → ComesTo call phase
  Next : (w : World) → (i : ℕ) → (phase : Phase) → Inv w → (w.seat i).call ≡ call → ComesTo call (w.seat i).phase → (turn (offered w i) (finds w i)).outcome ≡ GoesOn phase → ComesTo call phase

-- a seat that stays: it has not left, and its call is one of a seat that stays, with few steps left
pub record StaysIn (w : World) (k : ℕ) : Type 0 where
  pub here : w.mem (PlaceOf k) ≡ 0
  pub call : stays (w.seat k).call ≡ true
  pub comes : is_busy w k ≡ true → ComesTo (w.seat k).call (w.seat k).phase
  pub few : is_busy w k ≡ true → (w.seat k).post.steps + rest w k < 2 ^ 62

-- the table shows a World in which the invariant holds and all seats stay
pub record IsReached (table : TableView) : Type 0 where
  pub valid : is_valid table.layout ≡ true
  pub seats : length table.seats ≡ table.layout.config.seats
  pub world : World
  pub known : Inv world
  pub shows : Shows table world
  pub right : (k : ℕ) → StaysIn world k

-- at most so many units of a busy seat are left, since its call has made so many steps
abbrev pub units_left : TableView → ℕ → ℕ
units_left table seat = 2 ^ 62 - (seat_at table seat).post.steps
