-- The status of a run says what it owes, however the run ended.
use Rattle.wfe_server_out.specs.Heard.{Seen}
use Rattle.std.proofs.Common.{Bool, ℕ, ◌≡◌, inl, inr, List, [], ◌++◌, ◌∷◌, Option, Ok, Err, sym, ap, ◌∙◌, subst, append-nil, codes}
use Rattle.std.specs.Io.KnownBytes.{IsAtEnd}
use Rattle.wfe_server_out.specs.Pieces.{Piece, Text}
use Rattle.wfe_server_out.specs.declared.fault.Fault.TheVariants as faults
use Rattle.wfe_trace.specs.declared.item.Mode.TheVariants as modes
use Rattle.wfe_trace.specs.declared.reason.BadLine.{BadLine}
use Rattle.wfe_trace.specs.declared.reason.Status.{Status}
use Rattle.wfe_trace.specs.declared.reason.Status.TheVariants as statuses
use Rattle.wfe_trace.specs.Record.{bad_line as bad_text}
use Rattle.wfe_server_replay.specs.declared.stop.Stop.{Stop}
use Rattle.wfe_server_replay.specs.declared.stop.Stop.TheVariants as stops
use Rattle.wfe_server_replay.specs.Playing.{Played, player}
use Rattle.wfe_server_replay.specs.Ends.{Closes, StopCloses}
use Rattle.wfe_server_replay.specs.Run.{PlayerFound, PlayerSays, PlayerStops}
use Rattle.wfe_server_replay.specs.Sunk.{Outside, Puts, PutsPart, StopsAt}
use Rattle.wfe_server_replay.specs.Trace.{Progress, progress_start, after_bytes, after_trace, bytes_output, closing, last_output, finished, lines_output, trace_output, output_of, ◌>>=◌}
use Rattle.wfe_server_replay.proofs.Outs.{part_then, puts_trans}
use Rattle.wfe_server_replay.proofs.Stopped.{closing_quiet, stops_after}
use Rattle.wfe_outside.specs.defs.declared.call.Call.{Call}

-- what the bytes of a trace put out
abbrev printed : (makes : Call → Bool) → List ℕ → List Piece
printed makes taken = bytes_output (player makes) (Ok (progress_start modes.Replay)) taken

-- what the whole trace puts out, where its bytes are good
output-good : (makes : Call → Bool) (watched taken : List ℕ) (p : Progress Played) → after_bytes (player makes) (Ok (progress_start modes.Replay)) taken ≡ Ok p →
    trace_output (player makes) modes.Replay watched taken ≡ (printed makes taken ++ last_output (player makes) p) ++ closing watched (finished (player makes) p)
output-good makes watched taken p good = ap (λ r. (printed makes taken ++ output_of (last_output (player makes)) r) ++ closing watched (r >>= finished (player makes))) good

-- and where one of them is bad
output-bad : (makes : Call → Bool) (watched taken : List ℕ) (bad : BadLine) → after_bytes (player makes) (Ok (progress_start modes.Replay)) taken ≡ Err bad →
    trace_output (player makes) modes.Replay watched taken ≡ printed makes taken ++ Text (bad_text bad.line bad.reason) ∷ []
output-bad makes watched taken bad found =
    ap (λ r. (printed makes taken ++ output_of (last_output (player makes)) r) ++ closing watched (r >>= finished (player makes))) found
    ∙ ap (λ (t : List Piece). t ++ Text (bad_text bad.line bad.reason) ∷ []) (append-nil (printed makes taken))

-- the lines of the trace, where its bytes are good, and where one is bad
lines-good : (makes : Call → Bool) (taken : List ℕ) (p : Progress Played) → after_bytes (player makes) (Ok (progress_start modes.Replay)) taken ≡ Ok p → lines_output (player makes) modes.Replay taken ≡ printed makes taken ++ last_output (player makes) p
lines-good makes taken p good = ap (λ r. printed makes taken ++ output_of (last_output (player makes)) r) good

lines-bad : (makes : Call → Bool) (taken : List ℕ) (bad : BadLine) → after_bytes (player makes) (Ok (progress_start modes.Replay)) taken ≡ Err bad → lines_output (player makes) modes.Replay taken ≡ printed makes taken
lines-bad makes taken bad found = ap (λ r. printed makes taken ++ output_of (last_output (player makes)) r) found ∙ append-nil (printed makes taken)

-- all lines were put out, and a write failed in those after them
stops-after : (makes : Call → Bool) {W : Type 0} (seen : Seen W) (watched taken : List ℕ) (lines last : List Piece) (left : Option (List ℕ)) (old mid new : Outside W) → PlayerFound makes taken left → lines_output (player makes) modes.Replay taken ≡ lines → Puts seen old mid lines →
    closing watched (after_trace (player makes) modes.Replay taken) ≡ last → PutsPart seen mid new last → PlayerStops makes seen watched taken left old new
stops-after makes seen watched taken lines last left old mid new found e put f part =
    inr (inr (stops_after seen (PlayerFound makes taken left) (lines_output (player makes) modes.Replay taken) (closing watched (after_trace (player makes) modes.Replay taken)) old mid new found
    (subst (Puts seen old mid) (sym e) put) (closing_quiet watched (after_trace (player makes) modes.Replay taken)) (subst (PutsPart seen mid new) (sym f) part)))

-- a byte is bad, or a fault came
pub says-stopped : (makes : Call → Bool) {W : Type 0} (seen : Seen W) (stop : Stop) (result : Status) (watched taken : List ℕ) (left : Option (List ℕ)) (old mid new : Outside W) →
    StopsAt seen stop (after_bytes (player makes) (Ok (progress_start modes.Replay)) taken) old mid (printed makes taken) → StopCloses seen stop result mid new → PlayerSays makes seen result watched taken left old new
says-stopped makes seen (stops.Bad bad) result watched taken left old mid new (found, put) (inl (status, more)) =
    subst (λ r. PlayerSays makes seen r watched taken left old new) (sym status) (
      ap (λ r. r >>= finished (player makes)) found,
      inl found,
      subst (Puts seen old new) (sym (output-bad makes watched taken bad found)) (puts_trans seen old mid new _ _ put more),
    )
says-stopped makes seen (stops.Bad bad) result watched taken left old mid new (found, put) (inr (status, part)) =
    subst (λ r. PlayerSays makes seen r watched taken left old new) (sym status)
    (stops-after makes seen watched taken (printed makes taken) (Text (bad_text bad.line bad.reason) ∷ []) left old mid new (inl (bad, found)) (lines-bad makes taken bad found) put (ap (λ r. closing watched (r >>= finished (player makes))) found) part)
says-stopped makes seen (stops.Fault faults.Write) result watched taken left old mid new part (status, same) =
    subst (λ r. PlayerSays makes seen r watched taken left old new) (sym status) (inl (subst (λ t. PutsPart seen old t (printed makes taken)) (sym same) part))
says-stopped makes seen (stops.Fault faults.Memory) result watched taken left old mid new part (status, same) =
    subst (λ r. PlayerSays makes seen r watched taken left old new) (sym status) (inl (subst (λ t. PutsPart seen old t (printed makes taken)) (sym same) part))

-- the input ended, and all of it is good
pub says-done : (makes : Call → Bool) {W : Type 0} (seen : Seen W) (result : Status) (watched taken : List ℕ) (p q : Progress Played) (left : Option (List ℕ)) (old mid last new : Outside W) →
    after_bytes (player makes) (Ok (progress_start modes.Replay)) taken ≡ Ok p → Puts seen old mid (printed makes taken) → IsAtEnd left →
    finished (player makes) p ≡ Ok q → Puts seen mid last (last_output (player makes) p) → Closes seen result statuses.Done last new (Text watched ∷ Text (codes "done\n") ∷ []) → PlayerSays makes seen result watched taken left old new
says-done makes seen result watched taken p q left old mid last new good put end_ whole more (inl (status, closed)) =
    subst (λ r. PlayerSays makes seen r watched taken left old new) (sym status) (
      q,
      ap (λ r. r >>= finished (player makes)) good ∙ whole,
      end_,
      subst (Puts seen old new) (sym (output-good makes watched taken p good ∙ ap (λ r. (printed makes taken ++ last_output (player makes) p) ++ closing watched r) whole))
          (puts_trans seen old last new _ _ (puts_trans seen old mid last _ _ put more) closed),
    )
says-done makes seen result watched taken p q left old mid last new good put end_ whole more (inr (status, part)) =
    subst (λ r. PlayerSays makes seen r watched taken left old new) (sym status)
    (stops-after makes seen watched taken (printed makes taken ++ last_output (player makes) p) (Text watched ∷ Text (codes "done\n") ∷ []) left old last new (inr end_) (lines-good makes taken p good) (puts_trans seen old mid last _ _ put more)
    (ap (λ r. closing watched (r >>= finished (player makes))) good ∙ ap (closing watched) whole) part)

-- the input ended, and its last line or its end is bad, or a fault came
pub says-last : (makes : Call → Bool) {W : Type 0} (seen : Seen W) (stop : Stop) (result : Status) (watched taken : List ℕ) (p : Progress Played) (left : Option (List ℕ)) (old mid last new : Outside W) →
    after_bytes (player makes) (Ok (progress_start modes.Replay)) taken ≡ Ok p → Puts seen old mid (printed makes taken) → IsAtEnd left →
    StopsAt seen stop (finished (player makes) p) mid last (last_output (player makes) p) → StopCloses seen stop result last new → PlayerSays makes seen result watched taken left old new
says-last makes seen (stops.Bad bad) result watched taken p left old mid last new good put end_ (found, more) (inl (status, closed)) =
    subst (λ r. PlayerSays makes seen r watched taken left old new) (sym status) (
      ap (λ r. r >>= finished (player makes)) good ∙ found,
      inr end_,
      subst (Puts seen old new) (sym (output-good makes watched taken p good ∙ ap (λ r. (printed makes taken ++ last_output (player makes) p) ++ closing watched r) found))
          (puts_trans seen old last new _ _ (puts_trans seen old mid last _ _ put more) closed),
    )
says-last makes seen (stops.Bad bad) result watched taken p left old mid last new good put end_ (found, more) (inr (status, part)) =
    subst (λ r. PlayerSays makes seen r watched taken left old new) (sym status)
    (stops-after makes seen watched taken (printed makes taken ++ last_output (player makes) p) (Text (bad_text bad.line bad.reason) ∷ []) left old last new (inr end_) (lines-good makes taken p good) (puts_trans seen old mid last _ _ put more)
    (ap (λ r. closing watched (r >>= finished (player makes))) good ∙ ap (closing watched) found) part)
says-last makes seen (stops.Fault faults.Write) result watched taken p left old mid last new good put end_ part (status, same) =
    subst (λ r. PlayerSays makes seen r watched taken left old new) (sym status) (inr (inl (
      end_,
      subst (λ t. PutsPart seen old t (lines_output (player makes) modes.Replay taken)) (sym same)
          (subst (PutsPart seen old last) (sym (lines-good makes taken p good)) (part_then seen old mid last _ _ put part)),
    )))
says-last makes seen (stops.Fault faults.Memory) result watched taken p left old mid last new good put end_ part (status, same) =
    subst (λ r. PlayerSays makes seen r watched taken left old new) (sym status) (inr (inl (
      end_,
      subst (λ t. PutsPart seen old t (lines_output (player makes) modes.Replay taken)) (sym same)
          (subst (PutsPart seen old last) (sym (lines-good makes taken p good)) (part_then seen old mid last _ _ put part)),
    )))

-- lines before the last ones
pub closes_after : {W : Type 0} (seen : Seen W) (result status : Status) (old mid new : Outside W) (xs ys : List Piece) → Puts seen old mid xs → Closes seen result status mid new ys → Closes seen result status old new (xs ++ ys)
closes_after seen result status old mid new xs ys p (inl (is, q)) = inl (is, puts_trans seen old mid new xs ys p q)
closes_after seen result status old mid new xs ys p (inr (is, q)) = inr (is, part_then seen old mid new xs ys p q)
