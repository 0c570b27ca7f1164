-- A table that takes the lines of a trace, with the counts of its garbage and of its lists: what each line makes of it, and what it puts out.
use Rattle.std.specs.Prelude.{Bool, List, [], if◌then◌else◌, suc, zero, ℕ, ◌++◌, ◌^◌, ◌∷◌}
use Rattle.wfe_trace.specs.words.declared.config.Config.{Config}
use Rattle.wfe_outside.specs.defs.declared.call.Call.{Call}
use Rattle.wfe_outside.specs.defs.declared.command.Command.{Command}
use Rattle.wfe_outside.specs.defs.declared.command.Command.TheVariants as commands
use Rattle.wfe_outside.specs.defs.declared.event.Event.TheVariants as events
use Rattle.wfe_outside.specs.defs.Entry.{entry}
use Rattle.wfe_core.specs.Locals.{busy_in, told_by}
use Rattle.wfe_drive.specs.drive_cells.Unit.{TableView, after_start, after_unit, is_gone, seat_at, unit_turn}
use Rattle.wfe_drive.specs.Reached.{first_table}
use Rattle.wfe_outside.specs.declared.watcher.WatchRow.{WatchRow}
use Rattle.wfe_server_out.specs.Pieces.{Piece, Told, told_pieces}
use Rattle.wfe_watch.specs.Garbage.{garbage_rows}
use Rattle.wfe_watch.specs.Lists.{no_lists}
use Rattle.wfe_server_replay.specs.Counts.{counted_all, listed_all, table_pieces}
use Rattle.wfe_server_replay.specs.Trace.{Engine, line_refused}

pub record Played : Type 0 where
  pub table : TableView
  pub garbage : List WatchRow
  pub waiting : List ℕ

-- no call has begun
abbrev pub opened : Config → Played
opened config = record { table = first_table (record { config = config }); garbage = garbage_rows config.seats []; waiting = no_lists config.seats }

abbrev pub is_playing : ℕ → Played → Bool
is_playing seat s = busy_in (seat_at s.table seat).phase

-- a call begins
abbrev pub started : Played → ℕ → Call → Played
started s seat call = record { table = after_start s.table seat call; garbage = s.garbage; waiting = s.waiting }

-- one unit of a seat
abbrev pub unit_made : Played → ℕ → Played
unit_made s seat =
    record {
      table = after_unit s.table seat;
      garbage = counted_all s.garbage seat (told_by (unit_turn s.table seat));
      waiting = listed_all s.waiting seat (told_by (unit_turn s.table seat));
    }

abbrev pub unit_out : Played → ℕ → List Piece
unit_out s seat = told_pieces seat (told_by (unit_turn s.table seat))

-- so many units of a seat, or fewer where its call ends before
abbrev pub units_made : ℕ → ℕ → Played → Played
units_made zero seat s = s
units_made (suc n) seat s = if is_playing seat s then units_made n seat (unit_made s seat) else s

abbrev pub units_out : ℕ → ℕ → Played → List Piece
units_out zero seat s = []
units_out (suc n) seat s = if is_playing seat s then unit_out s seat ++ units_out n seat (unit_made s seat) else []

-- no call takes so many steps, so that so many units are all that are left of it
unfoldable pub call_most : ℕ
call_most = 2 ^ 62

-- so many seats, one after the other, are run until their calls end
abbrev pub seats_run : ℕ → Played → Played
seats_run zero s = s
seats_run (suc n) s = units_made call_most n (seats_run n s)

abbrev pub seats_out : ℕ → Played → List Piece
seats_out zero s = []
seats_out (suc n) s = seats_out n s ++ units_out call_most n (seats_run n s)

-- what a line makes of the table
abbrev pub played : Command → Played → Played
played (commands.Call seat call) s = started s seat call
played (commands.Step seat units) s = units_made units seat s
played (commands.Run seat) s = units_made call_most seat s
played commands.Table s = s
played commands.End s = seats_run s.table.layout.config.seats s

-- and what it puts out
abbrev pub played_out : Command → Played → List Piece
played_out (commands.Call seat call) s = Told (entry seat (events.Begin call)) ∷ []
played_out (commands.Step seat units) s = units_out units seat s
played_out (commands.Run seat) s = units_out call_most seat s
played_out commands.Table s = table_pieces s.garbage s.waiting
played_out commands.End s = seats_out s.table.layout.config.seats s

-- the table as it takes lines, where these calls are made
abbrev pub player : (makes : Call → Bool) → Engine Played
player makes = record {
  opened = λ version config. opened config;
  refuses = λ line s. line_refused makes (λ seat. is_playing seat s) (λ seat. is_gone s.table seat) line;
  after = played;
  out = played_out;
}
