-- What the owner of a table does for seats that leave: what such a seat lets go is let go, place words change, and a list goes
-- to another seat.
use Rattle.std.specs.Prelude.{Bool, false, true, ℕ}
use Rattle.wfe_core.specs.declared.op.Op.{Op}
use Rattle.wfe_drive_cells.specs.Operations.{performed}
use Rattle.wfe_drive_cells.specs.Unit.{TableView, seat_at, with_seat}
use Rattle.wfe_drive_seat.specs.Leaving.{joined_views, seat_let, words_let}

-- the table once something was let go, and where nothing is left
abbrev pub after_clear : (more : Bool) → TableView → ℕ → TableView
after_clear true table seat = with_seat table (words_let true (seat_at table seat) table.words) seat (seat_let true (seat_at table seat) table.words)
after_clear false table seat = table

-- the table after an operation of its owner's
abbrev pub after_place : TableView → Op → TableView
after_place table op = record { layout = table.layout; words = performed table.words op; seats = table.seats }

-- the table once the list of one seat went to the end of another's
abbrev pub after_join : TableView → (from to : ℕ) → TableView
after_join table from to = record { layout = table.layout; words = table.words; seats = joined_views table.layout table.seats from to }
