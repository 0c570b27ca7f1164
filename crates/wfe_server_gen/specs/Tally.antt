-- A table that takes the lines of a generated trace, with the numbers of the events that it told.
use Rattle.std.specs.Prelude.{List, [], ◌++◌, ◌∷◌}
use Rattle.wfe_outside.specs.defs.declared.command.Command.{Command}
use Rattle.wfe_server_replay.specs.drive_cells.Unit.{TableView}
use Rattle.wfe_server_out.specs.Heard.{Gains, Hears, Seen}
use Rattle.wfe_server_out.specs.Pieces.{Piece, heard_of}
use Rattle.wfe_server_replay.specs.Playing.{Played, played, played_out}
use Rattle.wfe_server_gen.specs.declared.summary.Summary.{Summary}
use Rattle.wfe_server_gen.specs.Summary.{Counts}

pub record Tally : Type 0 where
  pub played : Played
  pub summary : Summary

-- a table where no seat's garbage is counted, and no list's rows are
abbrev pub bare : TableView → Played
bare table = record { table = table; garbage = []; waiting = [] }

-- the table after lines, in order
abbrev pub lines_made : List Command → Played → Played
lines_made [] s = s
lines_made (line ∷ lines) s = lines_made lines (played line s)

-- and what they put out
abbrev pub lines_told : List Command → Played → List Piece
lines_told [] s = []
lines_told (line ∷ lines) s = played_out line s ++ lines_told lines (played line s)

-- each watcher was told all events, and they were counted
pub record Tells {W : Type 0} (seen : Seen W) (before after : List W) (old new : Summary) (out : List Piece) : Type 0 where
  pub heard : Hears seen before after (heard_of out)
  pub counted : Gains Counts old new (heard_of out)
