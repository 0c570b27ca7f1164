-- A trace in the grammar is run whole, where nothing fails.
use Rattle.std.proofs.Common.{Err, List, None, Ok, Option, Result, Some, [], ap, append-nil, inl, inr, refl, sym, ℕ, ◌++◌, ◌∙◌, ◌≡◌, ◌⊎◌}
use Rattle.std.specs.Io.KnownBytes.{Consumes}
use Rattle.wfe_server_out.specs.Heard.{Seen}
use Rattle.wfe_server_replay.proofs.Bytes.{after_bytes-append, after_bytes-bad}
use Rattle.wfe_server_replay.specs.Sunk.{Outside}
use Rattle.wfe_server_replay.specs.Trace.{Progress, after_bytes, progress_start}
use Rattle.wfe_server.proofs.Reading.{whole_bad}
use Rattle.wfe_server.specs.Reads.{IsBad, came, whole}
use Rattle.wfe_server.specs.Runs.{IsComplete, Runs}
use Rattle.wfe_server_lines.specs.Scripted.{Scripted}
use Rattle.wfe_server.specs.Collecting.{scripter}
use Rattle.wfe_trace.specs.declared.item.Mode.TheVariants as modes
use Rattle.wfe_trace.specs.declared.reason.BadLine.{BadLine}
use Rattle.wfe_trace.specs.declared.reason.Status.{Status}
use Rattle.wfe_trace.specs.declared.reason.Status.TheVariants as statuses

-- a bad line among the first bytes is one of the whole
bad_first : (first second : List ℕ) (bad : BadLine) → came first ≡ Err bad → whole (first ++ second) ≡ Err bad
bad_first first second bad h =
    whole_bad (first ++ second) bad
    (after_bytes-append scripter (Ok (progress_start modes.Run)) first second ∙ ap (λ (r : Result (Progress Scripted) BadLine). after_bytes scripter r second) h ∙ after_bytes-bad scripter bad second)

bad_in : (bytes taken rest : List ℕ) (bad : BadLine) → bytes ≡ taken ++ rest → whole taken ≡ Err bad → (came taken ≡ Err bad) ⊎ (rest ≡ []) → whole bytes ≡ Err bad
bad_in bytes taken rest bad split found (inl here) = ap whole split ∙ bad_first taken rest bad here
bad_in bytes taken rest bad split found (inr none) = ap whole (split ∙ ap (λ (xs : List ℕ). taken ++ xs) none ∙ append-nil taken) ∙ found

never_bad : (bytes taken : List ℕ) (left : Option (List ℕ)) (p : Progress Scripted) (bad : BadLine) → whole bytes ≡ Ok p → Consumes (Some bytes) left taken → IsBad taken left bad → ⊥
never_bad bytes taken None p bad good consumed is = consumed
never_bad bytes taken (Some rest) p bad good consumed is = let found : Err bad ≡ Ok p = sym (bad_in bytes taken rest bad consumed is.first is.found) ∙ good in cc

complete_in : {W : Type 0} (seen : Seen W) (status : Status) (watched bytes : List ℕ) (left : Option (List ℕ)) (old new : Outside W) (p : Progress Scripted) → Runs seen status watched (Some bytes) left old new → whole bytes ≡ Ok p
    → (status ≡ statuses.ReadFault → ⊥) → (status ≡ statuses.WriteFault → ⊥) → (status ≡ statuses.Done) ⊎ (status ≡ statuses.NoMemory)
complete_in seen statuses.Done watched bytes left old new p runs good reads writes = inl refl
complete_in seen statuses.Usage watched bytes left old new p runs good reads writes = absurd runs.2
complete_in seen (statuses.BadTrace line reason) watched bytes left old new p (taken, consumed, refused) good reads writes = absurd (never_bad bytes taken left p (record { line = line; reason = reason }) good consumed refused.is_bad)
complete_in seen (statuses.Unlawful line) watched bytes left old new p runs good reads writes = absurd runs.2
complete_in seen (statuses.BadRecord line reason) watched bytes left old new p runs good reads writes = absurd runs.2
complete_in seen statuses.ReadFault watched bytes left old new p runs good reads writes = absurd (reads refl)
complete_in seen statuses.WriteFault watched bytes left old new p runs good reads writes = absurd (writes refl)
complete_in seen statuses.NoMemory watched bytes left old new p runs good reads writes = inr refl

pub complete : {W R F : Type 0} (seen : Seen W) (status : Status) (watched : List ℕ) (before left : Option (List ℕ)) (old new : Outside W) → Runs seen status watched before left old new → (status ≡ statuses.ReadFault → R) → (status ≡ statuses.WriteFault → F)
    → IsComplete status before R F
complete seen status watched before left old new runs read write bytes p told good unread unwritten =
    complete_in seen status watched bytes left old new p (rw told at runs) good (λ e. unread (read e)) (λ e. unwritten (write e))
