-- A trace in the grammar is replayed whole, where nothing fails.
use Rattle.wfe_server_out.specs.Heard.{Seen}
use Rattle.std.proofs.Common.{Bool, ℕ, ◌≡◌, ◌⊎◌, inl, inr, List, [], ◌++◌, Option, Some, None, Ok, Err, refl, sym, ap, ◌∙◌, append-nil}
use Rattle.std.specs.Io.KnownBytes.{Consumes}
use Rattle.wfe_trace.specs.declared.item.Mode.TheVariants as modes
use Rattle.wfe_trace.specs.declared.reason.BadLine.{BadLine}
use Rattle.wfe_trace.specs.declared.reason.Status.{Status}
use Rattle.wfe_trace.specs.declared.reason.Status.TheVariants as statuses
use Rattle.wfe_server_gen.specs.server_replay.Replay.{Replays, IsRefused, came, whole}
use Rattle.wfe_server_gen.specs.server_replay.Given.{Given, keeper}
use Rattle.wfe_server_gen.specs.server_replay.Sunk.{Outside}
use Rattle.wfe_server_gen.specs.server_replay.Trace.{Progress, progress_start, after_bytes, finished, ◌>>=◌}
use Rattle.wfe_server_gen.proofs.server_replay.Bytes.{after_bytes-append, after_bytes-bad}
use Rattle.wfe_defs.specs.declared.call.Call.{Call}

-- a bad line among the first bytes is one of the whole
bad_before : (makes : Call → Bool) (first second : List ℕ) (bad : BadLine) → came makes first ≡ Err bad → whole makes (first ++ second) ≡ Err bad
bad_before makes first second bad h =
    ap (λ r. r >>= finished (keeper makes)) (after_bytes-append (keeper makes) (Ok (progress_start modes.Replay)) first second ∙ ap (λ r. after_bytes (keeper makes) r second) h ∙ after_bytes-bad (keeper makes) bad second)

bad_in : (makes : Call → Bool) (bytes taken rest : List ℕ) (bad : BadLine) → bytes ≡ taken ++ rest → whole makes taken ≡ Err bad → (came makes taken ≡ Err bad) ⊎ (rest ≡ []) → whole makes bytes ≡ Err bad
bad_in makes bytes taken rest bad split found (inl here) = ap (whole makes) split ∙ bad_before makes taken rest bad here
bad_in makes bytes taken rest bad split found (inr none) = ap (whole makes) (split ∙ ap (λ (xs : List ℕ). taken ++ xs) none ∙ append-nil taken) ∙ found

never_bad : (makes : Call → Bool) {W : Type 0} (seen : Seen W) (watched bytes taken : List ℕ) (left : Option (List ℕ)) (old new : Outside W) (p : Progress Given) (bad : BadLine) → whole makes bytes ≡ Ok p → Consumes (Some bytes) left taken →
    IsRefused makes seen taken left old new bad → ⊥
never_bad makes seen watched bytes taken None old new p bad good consumed refused = consumed
never_bad makes seen watched bytes taken (Some rest) old new p bad good consumed refused =
    let found : Err bad ≡ Ok p = sym (bad_in makes bytes taken rest bad consumed refused.first refused.found) ∙ good in cc

complete_in : (makes : Call → Bool) {W : Type 0} (seen : Seen W) (status : Status) (watched bytes : List ℕ) (left : Option (List ℕ)) (old new : Outside W) (p : Progress Given) → Replays makes seen status watched (Some bytes) left old new → whole makes bytes ≡ Ok p →
    (status ≡ statuses.ReadFault → ⊥) → (status ≡ statuses.WriteFault → ⊥) → (status ≡ statuses.Done) ⊎ (status ≡ statuses.NoMemory)
complete_in makes seen statuses.Done watched bytes left old new p replays good reads writes = inl refl
complete_in makes seen statuses.Usage watched bytes left old new p replays good reads writes = absurd replays.2
complete_in makes seen (statuses.BadTrace line reason) watched bytes left old new p (taken, consumed, refused) good reads writes =
    absurd (never_bad makes seen watched bytes taken left old new p (record { line = line; reason = reason }) good consumed refused)
complete_in makes seen (statuses.Unlawful line) watched bytes left old new p replays good reads writes = absurd replays.2
complete_in makes seen (statuses.BadRecord line reason) watched bytes left old new p replays good reads writes = absurd replays.2
complete_in makes seen statuses.ReadFault watched bytes left old new p replays good reads writes = absurd (reads refl)
complete_in makes seen statuses.WriteFault watched bytes left old new p replays good reads writes = absurd (writes refl)
complete_in makes seen statuses.NoMemory watched bytes left old new p replays good reads writes = inr refl

pub complete : (makes : Call → Bool) {W : Type 0} (seen : Seen W) (status : Status) (watched : List ℕ) (before left : Option (List ℕ)) (old new : Outside W) → Replays makes seen status watched before left old new →
    (bytes : List ℕ) (p : Progress Given) → before ≡ Some bytes → whole makes bytes ≡ Ok p →
    (status ≡ statuses.ReadFault → ⊥) → (status ≡ statuses.WriteFault → ⊥) → (status ≡ statuses.Done) ⊎ (status ≡ statuses.NoMemory)
complete makes seen status watched before left old new replays bytes p told good reads writes = complete_in makes seen status watched bytes left old new p (rw told at replays) good reads writes
