-- How a run over a source goes and ends.
use Rattle.wfe_server_out.specs.Heard.{Seen}
use Rattle.std.specs.Prelude.{Bool, List, None, Ok, Option, Some, ℕ, ◌<◌, ◌≡◌, ◌⊎◌, [], ◌∷◌}
use Rattle.std.specs.Io.KnownBytes.{Consumes, IsAtEnd}
use Rattle.wfe_server_out.specs.Pieces.{Piece, Text}
use Rattle.wfe_server_out.specs.declared.fault.Fault.TheVariants as faults
use Rattle.wfe_trace.specs.Record.{bad_line as bad_text}
use Rattle.wfe_trace.specs.declared.reason.Status.{Status}
use Rattle.wfe_trace.specs.declared.reason.Status.TheVariants as statuses
use Rattle.wfe_server_replay.specs.declared.serve.Ending.{Ending}
use Rattle.wfe_server_replay.specs.declared.serve.Ending.TheVariants as endings
use Rattle.wfe_server_replay.specs.declared.stop.Stop.{Stop}
use Rattle.wfe_server_replay.specs.declared.stop.Stop.TheVariants as stops
use Rattle.wfe_server_replay.specs.Playing.{Played, player}
use Rattle.wfe_server_replay.specs.Sunk.{Outside, Puts, PutsPart, StopsAt}
use Rattle.wfe_server_replay.specs.Trace.{Progress, after_bytes, bytes_output}
use Rattle.wfe_outside.specs.defs.declared.call.Call.{Call}

-- good bytes were taken, and what they give was put out
pub record Goes (makes : Call → Bool) {W : Type 0} (seen : Seen W) (before left : Option (List ℕ)) (old new : Outside W) (p q : Progress Played) : Type 0 where
  pub taken : List ℕ
  pub consumed : Consumes before left taken
  pub good : after_bytes (player makes) (Ok p) taken ≡ Ok q
  pub put : Puts seen old new (bytes_output (player makes) (Ok p) taken)

-- bytes were taken up to a stop
pub record Stops (makes : Call → Bool) {W : Type 0} (seen : Seen W) (before left : Option (List ℕ)) (old new : Outside W) (p : Progress Played) (stop : Stop) : Type 0 where
  pub taken : List ℕ
  pub consumed : Consumes before left taken
  pub stops : StopsAt seen stop (after_bytes (player makes) (Ok p) taken) old new (bytes_output (player makes) (Ok p) taken)

-- how a run over the source ends
abbrev pub Ends : (makes : Call → Bool) → {W : Type 0} → Seen W → Ending → Option (List ℕ) → Option (List ℕ) → Outside W → Outside W → Progress Played → Progress Played → Type 0
Ends makes seen endings.AtEnd before left old new p q = Goes makes seen before left old new p q × IsAtEnd left
Ends makes seen endings.NoRead before left old new p q = Goes makes seen before left old new p q
Ends makes seen (endings.Stopped stop) before left old new p q = Stops makes seen before left old new p stop

-- one read, and what came of it
abbrev pub Turns : (makes : Call → Bool) → {W : Type 0} → Seen W → Option Ending → Option (List ℕ) → Option (List ℕ) → Outside W → Outside W → Progress Played → Progress Played → Type 0
Turns makes seen None before left old new p q = Goes makes seen before left old new p q × (p.count < q.count)
Turns makes seen (Some ending) before left old new p q = Ends makes seen ending before left old new p q

-- Last lines were written, and the status is this one; or a part of them, and the sink failed.
abbrev pub Closes : {W : Type 0} → Seen W → Status → Status → Outside W → Outside W → List Piece → Type 0
Closes seen result status old new out = ((result ≡ status) × Puts seen old new out) ⊎ ((result ≡ statuses.WriteFault) × PutsPart seen old new out)

-- The status after a stop: a bad line is written down.
abbrev pub StopCloses : {W : Type 0} → Seen W → Stop → Status → Outside W → Outside W → Type 0
StopCloses seen (stops.Bad bad) result old new = Closes seen result (statuses.BadTrace bad.line bad.reason) old new (Text (bad_text bad.line bad.reason) ∷ [])
StopCloses seen (stops.Fault faults.Write) result old new = (result ≡ statuses.WriteFault) × (new ≡ old)
StopCloses seen (stops.Fault faults.Memory) result old new = (result ≡ statuses.NoMemory) × (new ≡ old)
