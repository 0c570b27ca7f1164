-- What a piece of work puts out: lines of text, and events with their lines.
use Rattle.std.specs.Prelude.{ℕ, List, [], ◌∷◌, ◌++◌}
use Rattle.wfe_outside.specs.defs.Entry.{Entry, entry}
use Rattle.wfe_outside.specs.defs.declared.event.Event.{Event}
use Rattle.wfe_trace.specs.Record.{event_line}

-- a text that tells of no event, or what a seat tells
pub data Piece : Type 0 where
  Text : List ℕ → Piece
  Told : Entry → Piece

-- the bytes that are written
abbrev pub text_of : List Piece → List ℕ
text_of [] = []
text_of (Text bytes ∷ ps) = bytes ++ text_of ps
text_of (Told x ∷ ps) = event_line x.seat x.event ++ text_of ps

-- the entries that watchers hear
abbrev pub heard_of : List Piece → List Entry
heard_of [] = []
heard_of (Text bytes ∷ ps) = heard_of ps
heard_of (Told x ∷ ps) = x ∷ heard_of ps

-- the events of a step of a seat
abbrev pub told_pieces : ℕ → List Event → List Piece
told_pieces seat [] = []
told_pieces seat (event ∷ events) = Told (entry seat event) ∷ told_pieces seat events
