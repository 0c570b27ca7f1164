-- How a run is put out, and what the status says of it.
use Rattle.std.specs.Prelude.{List, ℕ, ◌++◌, ◌⊎◌}
use Rattle.wfe_server_out.specs.Heard.{Hears, Seen}
use Rattle.wfe_server_out.specs.Pieces.{Piece, heard_of}
use Rattle.wfe_server_replay.specs.Sunk.{Outside, Puts, PutsPart}
use Rattle.wfe_trace.specs.declared.reason.Status.{Status}
use Rattle.wfe_trace.specs.declared.reason.Status.TheVariants as statuses
use Rattle.wfe_server.specs.Text.{end_pieces}

-- the sink failed in the last lines, and each watcher has heard the whole run
pub record StopsLast {W : Type 0} (seen : Seen W) (run last : List Piece) (old new : Outside W) : Type 0 where
  pub heard : Hears seen old.watchers new.watchers (heard_of run)
  pub put : PutsPart seen old new (run ++ last)

-- a run and its last lines, with these rows of the watchers, were put out; or a first part of them up to a fault
abbrev pub Prints : {W : Type 0} → Seen W → Status → (watched : List ℕ) → Outside W → Outside W → List Piece → Type 0
Prints seen statuses.Done watched old new run = Puts seen old new (run ++ end_pieces watched)
Prints seen statuses.Usage watched old new run = ⊥
Prints seen (statuses.BadTrace line reason) watched old new run = ⊥
Prints seen (statuses.Unlawful line) watched old new run = ⊥
Prints seen (statuses.BadRecord line reason) watched old new run = ⊥
Prints seen statuses.ReadFault watched old new run = ⊥
Prints seen statuses.WriteFault watched old new run = PutsPart seen old new run ⊎ StopsLast seen run (end_pieces watched) old new
Prints seen statuses.NoMemory watched old new run = PutsPart seen old new run
