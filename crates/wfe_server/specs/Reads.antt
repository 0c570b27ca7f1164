-- How the reading of a trace goes and ends.
use Rattle.std.specs.Prelude.{Err, List, None, Ok, Option, Result, Some, ℕ, ◌<◌, ◌≡◌, ◌⊎◌}
use Rattle.std.specs.Io.KnownBytes.{Consumes, IsAtEnd}
use Rattle.wfe_server_replay.specs.Trace.{Progress, after_bytes, after_trace, progress_start}
use Rattle.wfe_server.specs.Collecting.{StopsAt}
use Rattle.wfe_server_lines.specs.Scripted.{Scripted}
use Rattle.wfe_server.specs.Collecting.{scripter}
use Rattle.wfe_server.specs.declared.reader.Stop.{Stop}
use Rattle.wfe_server.specs.declared.reader.Stop.TheVariants as stops
use Rattle.wfe_server.specs.declared.serve.Ending.{Ending}
use Rattle.wfe_server.specs.declared.serve.Ending.TheVariants as endings
use Rattle.wfe_server.specs.declared.serve.Unread.{Unread}
use Rattle.wfe_server.specs.declared.serve.Unread.TheVariants as unreads
use Rattle.wfe_trace.specs.declared.item.Mode.TheVariants as modes
use Rattle.wfe_trace.specs.declared.reason.BadLine.{BadLine}

-- good bytes were taken
pub record Goes (before left : Option (List ℕ)) (p q : Progress Scripted) : Type 0 where
  pub taken : List ℕ
  pub consumed : Consumes before left taken
  pub good : after_bytes scripter (Ok p) taken ≡ Ok q

-- bytes were taken up to a stop
pub record Stops (before left : Option (List ℕ)) (p : Progress Scripted) (stop : Stop) : Type 0 where
  pub taken : List ℕ
  pub consumed : Consumes before left taken
  pub stops : StopsAt stop (after_bytes scripter (Ok p) taken)

-- how the reading ends
abbrev pub Ends : Ending → Option (List ℕ) → Option (List ℕ) → Progress Scripted → Progress Scripted → Type 0
Ends endings.AtEnd before left p q = Goes before left p q × IsAtEnd left
Ends endings.NoRead before left p q = Goes before left p q
Ends (endings.Stopped stop) before left p q = Stops before left p stop

-- one read, and what came of it
abbrev pub Turns : Option Ending → Option (List ℕ) → Option (List ℕ) → Progress Scripted → Progress Scripted → Type 0
Turns None before left p q = Goes before left p q × (p.count < q.count)
Turns (Some ending) before left p q = Ends ending before left p q

-- the bytes that came, judged one by one; and as a whole trace
abbrev pub came : List ℕ → Result (Progress Scripted) BadLine
came taken = after_bytes scripter (Ok (progress_start modes.Run)) taken

abbrev pub whole : List ℕ → Result (Progress Scripted) BadLine
whole taken = after_trace scripter modes.Run taken

-- the trace was read to its end, and its lines give these scripts
pub record IsRead (taken : List ℕ) (left : Option (List ℕ)) (given : Scripted) : Type 0 where
  pub progress : Progress Scripted
  pub good : whole taken ≡ Ok progress
  pub is_given : progress.engine ≡ Some given
  pub at_end : IsAtEnd left

-- the trace has this first bad line, among the bytes that came or where they end
pub record IsBad (taken : List ℕ) (left : Option (List ℕ)) (bad : BadLine) : Type 0 where
  pub first : whole taken ≡ Err bad
  pub found : (came taken ≡ Err bad) ⊎ IsAtEnd left

-- none of the bytes that came is bad, and no line that they close
pub record IsCut (taken : List ℕ) : Type 0 where
  pub progress : Progress Scripted
  pub good : came taken ≡ Ok progress

-- why a stop leaves no scripts
abbrev pub unread_by : Stop → Unread
unread_by (stops.Bad bad) = unreads.Bad bad
unread_by stops.NoMemory = unreads.NoMemory

-- the scripts of a trace, or why there are none
abbrev pub Gives : List ℕ → Option (List ℕ) → Result Scripted Unread → Type 0
Gives taken left (Ok given) = IsRead taken left given
Gives taken left (Err (unreads.Bad bad)) = IsBad taken left bad
Gives taken left (Err unreads.Fault) = IsCut taken
Gives taken left (Err unreads.NoMemory) = Unit {0}

-- bytes were taken from the source, and that is what they give
abbrev pub Reads : Option (List ℕ) → Option (List ℕ) → Result Scripted Unread → Type 0
Reads before left result = (taken : List ℕ) × Consumes before left taken × Gives taken left result
