-- What callers see of a shared table and of a seat.
use Rattle.std.specs.Prelude.{List, Option, map, ℕ, ◌≡◌}
use Rattle.std.specs.List.{range_with_len}
use Rattle.atomic_table.specs.Seated.{TableId}
use Rattle.wfe_core.specs.Posts.{stands}
use Rattle.wfe_core.specs.words.declared.layout.Layout.{Layout}
use Rattle.wfe_drive_rule.specs.Views.{Track, fresh_track}

-- which table it is, and its layout
pub record TableNow : Type 0 where
  pub table : TableId
  pub layout : Layout

-- the table that a seat is of; its local state between calls, and the history up to its own last step
pub record SeatNow : Type 0 where
  pub table : TableId
  pub track : Track

-- how many steps its last call took: `notes` shows it
abbrev pub steps_of : SeatNow → ℕ
steps_of seat = seat.track.local.desk.notes.steps

-- the row that stands at one of its indexes, if there is one
abbrev pub stands_at : SeatNow → ℕ → Option ℕ
stands_at seat index = stands seat.track.local.post index

-- the seat is this table's
pub record IsOf (seat : SeatNow) (shared : TableNow) : Type 0 where
  pub table : seat.table ≡ shared.table
  pub layout : seat.track.local.post.layout ≡ shared.layout

-- the seats of a new table, in number order, none of which has made a call
abbrev pub new_seat : TableNow → ℕ → SeatNow
new_seat shared seat = record { table = shared.table; track = fresh_track shared.layout seat }

abbrev pub new_seats : TableNow → List SeatNow
new_seats shared = map (new_seat shared) (range_with_len 0 shared.layout.config.seats)
