-- A run over a source: what was taken, and what was put out, while the table takes the lines.
use Rattle.wfe_server_out.specs.Heard.{Seen}
use Rattle.std.specs.Prelude.{Bool, Err, List, Ok, Option, ℕ, ◌≡◌, ◌⊎◌}
use Rattle.std.specs.Io.KnownBytes.{Consumes, IsAtEnd}
use Rattle.wfe_trace.specs.declared.item.Mode.TheVariants as modes
use Rattle.wfe_trace.specs.declared.reason.BadLine.{BadLine}
use Rattle.wfe_trace.specs.declared.reason.Status.{Status}
use Rattle.wfe_trace.specs.declared.reason.Status.TheVariants as statuses
use Rattle.wfe_server_replay.specs.Playing.{Played, player}
use Rattle.wfe_server_replay.specs.Sunk.{Outside, Puts, StopsShort}
use Rattle.wfe_server_replay.specs.Trace.{Progress, after_bytes, after_trace, bytes_output, closing, lines_output, progress_start, trace_output}
use Rattle.wfe_outside.specs.defs.declared.call.Call.{Call}

-- one of the bytes is bad, or the end was read
abbrev pub PlayerFound : (makes : Call → Bool) → List ℕ → Option (List ℕ) → Type 0
PlayerFound makes taken left = ((bad : BadLine) × (after_bytes (player makes) (Ok (progress_start modes.Replay)) taken ≡ Err bad)) ⊎ IsAtEnd left

-- a fault stopped the work
abbrev pub PlayerStops : (makes : Call → Bool) → {W : Type 0} → Seen W → (watched taken : List ℕ) → Option (List ℕ) → Outside W → Outside W → Type 0
PlayerStops makes seen watched taken left old new =
    StopsShort seen (IsAtEnd left) (PlayerFound makes taken left) (bytes_output (player makes) (Ok (progress_start modes.Replay)) taken) (lines_output (player makes) modes.Replay taken)
    (closing watched (after_trace (player makes) modes.Replay taken)) old new

-- what a status says, while the table takes the lines
abbrev pub PlayerSays : (makes : Call → Bool) → {W : Type 0} → Seen W → Status → (watched taken : List ℕ) → Option (List ℕ) → Outside W → Outside W → Type 0
PlayerSays makes seen statuses.Done watched taken left old new =
    (q : Progress Played) × (after_trace (player makes) modes.Replay taken ≡ Ok q) × IsAtEnd left × Puts seen old new (trace_output (player makes) modes.Replay watched taken)
PlayerSays makes seen statuses.Usage watched taken left old new = ⊥
PlayerSays makes seen (statuses.BadTrace line reason) watched taken left old new =
    (after_trace (player makes) modes.Replay taken ≡ Err (record { line = line; reason = reason }))
    × ((after_bytes (player makes) (Ok (progress_start modes.Replay)) taken ≡ Err (record { line = line; reason = reason })) ⊎ IsAtEnd left)
    × Puts seen old new (trace_output (player makes) modes.Replay watched taken)
PlayerSays makes seen (statuses.Unlawful line) watched taken left old new = ⊥
PlayerSays makes seen (statuses.BadRecord line reason) watched taken left old new = ⊥
PlayerSays makes seen statuses.ReadFault watched taken left old new =
    (q : Progress Played) × (after_bytes (player makes) (Ok (progress_start modes.Replay)) taken ≡ Ok q) × Puts seen old new (bytes_output (player makes) (Ok (progress_start modes.Replay)) taken)
PlayerSays makes seen statuses.WriteFault watched taken left old new = PlayerStops makes seen watched taken left old new
PlayerSays makes seen statuses.NoMemory watched taken left old new = PlayerStops makes seen watched taken left old new

abbrev pub PlayerReplays : (makes : Call → Bool) → {W : Type 0} → Seen W → Status → (watched : List ℕ) → Option (List ℕ) → Option (List ℕ) → Outside W → Outside W → Type 0
PlayerReplays makes seen status watched before left old new = (taken : List ℕ) × Consumes before left taken × PlayerSays makes seen status watched taken left old new
