-- The text of a run, and what the watchers hear of it.
use Rattle.std.specs.Prelude.{List, [], codes, ℕ, ◌+◌, ◌++◌, ◌∷◌}
use Rattle.wfe_table.specs.all.RunLaw.{AtClose}
use Rattle.wfe_core.specs.defs.declared.event.Event.{Event}
use Rattle.wfe_core.specs.words.declared.config.Config.{Config}
use Rattle.wfe_server_out.specs.Pieces.{Piece, Text, told_pieces}
use Rattle.wfe_server_lines.specs.Lines.{bucket_lines, queue_lines, used_lines}
use Rattle.wfe_trace.specs.Record.{header_line}

-- the table as it was closed
abbrev pub closed_text : AtClose → List ℕ
closed_text closed = bucket_lines 0 closed.buckets ++ (queue_lines closed.queue ++ used_lines closed.used)

-- the events of the seats, from this one on
abbrev pub seat_pieces : ℕ → List (List Event) → List Piece
seat_pieces seat [] = []
seat_pieces seat (events ∷ seats) = told_pieces seat events ++ seat_pieces (seat + 1) seats

-- a run: the setting, the events of each seat, and the table
abbrev pub run_pieces : (version : ℕ) → Config → List (List Event) → AtClose → List Piece
run_pieces version config seats closed = Text (header_line version config) ∷ (seat_pieces 0 seats ++ Text (closed_text closed) ∷ [])

-- the last lines: the rows of the watchers, and that the work is done
abbrev pub end_pieces : (watched : List ℕ) → List Piece
end_pieces watched = Text watched ∷ Text (codes "done\n") ∷ []
