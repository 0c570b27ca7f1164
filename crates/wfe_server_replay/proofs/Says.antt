-- What the table put out is what the one history of the lines gives.
use Rattle.wfe_server_out.specs.Heard.{Hears, Seen}
use Rattle.std.proofs.Common.{Bool, Err, List, Ok, Option, [], ap, ap₂, append-nil, arith, drop, inl, inr, length, subst, sym, take, take_all, ℕ, ◌++◌, ◌∙◌, ◌≡◌, ◌⊎◌}
use Rattle.std.proofs.lemmas.List.{drop_all}
use Rattle.wfe_outside.specs.declared.watcher.WatchRow.{WatchRow}
use Rattle.wfe_server_replay.specs.Watched.{WatchersFit, watch_text}
use Rattle.std.specs.Io.KnownBytes.{IsAtEnd}
use Rattle.wfe_server_out.specs.Pieces.{Piece, heard_of}
use Rattle.wfe_server_out.proofs.Puts.{puts_some_none}
use Rattle.wfe_trace.specs.declared.item.Mode.TheVariants as modes
use Rattle.wfe_trace.specs.declared.reason.BadLine.{BadLine}
use Rattle.wfe_trace.specs.declared.reason.Status.{Status}
use Rattle.wfe_trace.specs.declared.reason.Status.TheVariants as statuses
use Rattle.wfe_server_replay.specs.Given.{Given, keeper, partial_out}
use Rattle.wfe_server_replay.specs.Playing.{Played, player}
use Rattle.wfe_server_replay.specs.Replay.{IsFound, IsReplayed, IsStopped, Replays, Says, all_lines, came, closed_lines, whole, whole_output}
use Rattle.wfe_server_replay.specs.Run.{PlayerFound, PlayerReplays, PlayerSays, PlayerStops}
use Rattle.wfe_server_replay.specs.Sunk.{Outside, Puts, PutsPart, StopsShort, outside}
use Rattle.wfe_server_replay.specs.Trace.{Progress, after_bytes, after_trace, bytes_output, closing, lines_output, progress_start, trace_output}
use Rattle.wfe_server_replay.proofs.Finishes.{AtEnd, after_trace-mapped, closing-mapped, lines_output-mapped, trace-kept, trace_output-mapped, was_bad, was_good}
use Rattle.wfe_server_replay.proofs.Lines.{Good}
use Rattle.wfe_server_replay.proofs.Parts.{all_output, all_taken, closed_output, closed_taken}
use Rattle.wfe_server_replay.proofs.Stopped.{stopped_all}
use Rattle.wfe_server_replay.proofs.Streams.{after_bytes-mapped, bytes_output-mapped, start-sound}
use Rattle.wfe_outside.specs.defs.declared.call.Call.{Call}

-- over the same bytes both put out the same, which is the record of the lines
closed_output-player : (makes : Call → Bool) (taken : List ℕ) → bytes_output (player makes) (Ok (progress_start modes.Replay)) taken ≡ partial_out (closed_lines makes taken)
closed_output-player makes taken = bytes_output-mapped makes (Ok (progress_start modes.Replay)) taken (start-sound makes modes.Replay) ∙ closed_output makes taken

all_output-player : (makes : Call → Bool) (taken : List ℕ) → lines_output (player makes) modes.Replay taken ≡ partial_out (all_lines makes taken)
all_output-player makes taken = lines_output-mapped makes modes.Replay taken ∙ all_output makes taken

closing-player : (makes : Call → Bool) (watched taken : List ℕ) → closing watched (after_trace (player makes) modes.Replay taken) ≡ closing watched (whole makes taken)
closing-player makes watched taken = ap (closing watched) (after_trace-mapped makes modes.Replay taken) ∙ closing-mapped watched (whole makes taken)

whole_output-player : (makes : Call → Bool) (watched taken : List ℕ) → trace_output (player makes) modes.Replay watched taken ≡ whole_output makes watched taken
whole_output-player makes watched taken = ap₂ (λ (xs ys : List Piece). xs ++ ys) (all_output-player makes taken) (closing-player makes watched taken)

-- and find the same bad line, if any
pub came-ok : (makes : Call → Bool) (taken : List ℕ) (q : Progress Played) → after_bytes (player makes) (Ok (progress_start modes.Replay)) taken ≡ Ok q → (p : Progress Given) × (came makes taken ≡ Ok p)
came-ok makes taken q h = was_good (came makes taken) q (sym (after_bytes-mapped makes (Ok (progress_start modes.Replay)) taken (start-sound makes modes.Replay)) ∙ h)

pub came-bad : (makes : Call → Bool) (taken : List ℕ) (bad : BadLine) → after_bytes (player makes) (Ok (progress_start modes.Replay)) taken ≡ Err bad → came makes taken ≡ Err bad
came-bad makes taken bad h = was_bad (came makes taken) bad (sym (after_bytes-mapped makes (Ok (progress_start modes.Replay)) taken (start-sound makes modes.Replay)) ∙ h)

pub whole-ok : (makes : Call → Bool) (taken : List ℕ) (q : Progress Played) → after_trace (player makes) modes.Replay taken ≡ Ok q → (p : Progress Given) × (whole makes taken ≡ Ok p)
whole-ok makes taken q h = was_good (whole makes taken) q (sym (after_trace-mapped makes modes.Replay taken) ∙ h)

pub whole-bad : (makes : Call → Bool) (taken : List ℕ) (bad : BadLine) → after_trace (player makes) modes.Replay taken ≡ Err bad → whole makes taken ≡ Err bad
whole-bad makes taken bad h = was_bad (whole makes taken) bad (sym (after_trace-mapped makes modes.Replay taken) ∙ h)

-- a whole trace in the grammar
replayed : (makes : Call → Bool) {W : Type 0} (seen : Seen W) (watched taken : List ℕ) (old new : Outside W) (q : Progress Played) → after_trace (player makes) modes.Replay taken ≡ Ok q → Puts seen old new (trace_output (player makes) modes.Replay watched taken)
    → IsReplayed makes seen watched taken old new
replayed makes seen watched taken old new q good put =
    let (p, here) = whole-ok makes taken q good in
    let e : AtEnd makes p (lines_output (keeper makes) modes.Replay taken) = trace-kept makes modes.Replay taken p here in
    let g : Good makes e.given = e.good in
    record {
      given = e.given;
      progress = p;
      good = here;
      is_given = e.is_given;
      is_taken = g.taken;
      put = subst (Puts seen old new) (trace_output-mapped makes modes.Replay watched taken ∙ ap₂ (λ (xs ys : List Piece). xs ++ ys) e.shown (ap (closing watched) here)) put;
    }

found_bad : (makes : Call → Bool) (taken : List ℕ) (left : Option (List ℕ)) (bad : BadLine) → (after_bytes (player makes) (Ok (progress_start modes.Replay)) taken ≡ Err bad) ⊎ IsAtEnd left → (came makes taken ≡ Err bad) ⊎ IsAtEnd left
found_bad makes taken left bad (inl here) = inl (came-bad makes taken bad here)
found_bad makes taken left bad (inr end_) = inr end_

found_in : (makes : Call → Bool) (taken : List ℕ) (left : Option (List ℕ)) → PlayerFound makes taken left → IsFound makes taken left
found_in makes taken left (inl (bad, here)) = inl (bad, came-bad makes taken bad here)
found_in makes taken left (inr end_) = inr end_

-- a fault stopped the work
stops_short : (makes : Call → Bool) {W : Type 0} (seen : Seen W) (watched taken : List ℕ) (left : Option (List ℕ)) (old new : Outside W) → PlayerStops makes seen watched taken left old new →
    StopsShort seen (IsAtEnd left) (IsFound makes taken left) (partial_out (closed_lines makes taken)) (partial_out (all_lines makes taken)) (closing watched (whole makes taken)) old new
stops_short makes seen watched taken left old new (inl part) = inl (subst (PutsPart seen old new) (closed_output-player makes taken) part)
stops_short makes seen watched taken left old new (inr (inl (end_, part))) = inr (inl (end_, subst (PutsPart seen old new) (all_output-player makes taken) part))
stops_short makes seen watched taken left old new (inr (inr s)) = inr (inr (record {
  is_found = found_in makes taken left s.is_found;
  heard = subst (λ (out : List Piece). Hears seen old.watchers new.watchers (heard_of out)) (all_output-player makes taken) s.heard;
  put = subst (PutsPart seen old new) (ap₂ (λ (xs ys : List Piece). xs ++ ys) (all_output-player makes taken) (closing-player makes watched taken)) s.put;
}))

pub stopped_of : (makes : Call → Bool) {W : Type 0} (seen : Seen W) (watched taken : List ℕ) (left : Option (List ℕ)) (old new : Outside W) →
    StopsShort seen (IsAtEnd left) (IsFound makes taken left) (partial_out (closed_lines makes taken)) (partial_out (all_lines makes taken)) (closing watched (whole makes taken)) old new → IsStopped makes seen watched taken left old new
stopped_of makes seen watched taken left old new stops = record {
  are_closed = closed_taken makes taken;
  are_taken = all_taken makes taken;
  lines = stops;
  of_all = stopped_all makes seen watched taken left old new stops;
}

stopped : (makes : Call → Bool) {W : Type 0} (seen : Seen W) (watched taken : List ℕ) (left : Option (List ℕ)) (old new : Outside W) → PlayerStops makes seen watched taken left old new → IsStopped makes seen watched taken left old new
stopped makes seen watched taken left old new stops = stopped_of makes seen watched taken left old new (stops_short makes seen watched taken left old new stops)

-- nothing was read, and nothing was put out
pub stopped_before : (makes : Call → Bool) {W : Type 0} (seen : Seen W) (watched : List ℕ) (left : Option (List ℕ)) (out : Outside W) → IsStopped makes seen watched [] left out out
stopped_before makes seen watched left out = stopped_of makes seen watched [] left out out (inl (puts_some_none seen out.written out.watchers []))

pub says_of_player : (makes : Call → Bool) {W : Type 0} (seen : Seen W) (status : Status) (watched taken : List ℕ) (left : Option (List ℕ)) (old new : Outside W) → PlayerSays makes seen status watched taken left old new → Says makes seen status watched taken left old new
says_of_player makes seen statuses.Done watched taken left old new (q, good, end_, put) = (replayed makes seen watched taken old new q good put, end_)
says_of_player makes seen statuses.Usage watched taken left old new h = h
says_of_player makes seen (statuses.BadTrace line reason) watched taken left old new (bad, found, put) =
    let here = whole-bad makes taken (record { line = line; reason = reason }) bad in
    record {
      first = here;
      found = found_bad makes taken left (record { line = line; reason = reason }) found;
      are_taken = all_taken makes taken;
      put = subst (Puts seen old new) (whole_output-player makes watched taken ∙ ap (λ r. partial_out (all_lines makes taken) ++ closing watched r) here) put;
    }
says_of_player makes seen (statuses.Unlawful line) watched taken left old new h = h
says_of_player makes seen (statuses.BadRecord line reason) watched taken left old new h = h
says_of_player makes seen statuses.ReadFault watched taken left old new (q, good, put) =
    let here = came-ok makes taken q good in
    record { progress = here.0; good = here.1; are_taken = closed_taken makes taken; put = subst (Puts seen old new) (closed_output-player makes taken) put }
says_of_player makes seen statuses.WriteFault watched taken left old new stops = stopped makes seen watched taken left old new stops
says_of_player makes seen statuses.NoMemory watched taken left old new stops = stopped makes seen watched taken left old new stops

pub replays_of_player : (makes : Call → Bool) {W : Type 0} (seen : Seen W) (status : Status) (watched : List ℕ) (before left : Option (List ℕ)) (old new : Outside W) → PlayerReplays makes seen status watched before left old new → Replays makes seen status watched before left old new
replays_of_player makes seen status watched before left old new (taken, consumed, said) = (taken, consumed, says_of_player makes seen status watched taken left old new said)

-- a list of watchers that was written back where it came from is the list itself
pub back_again : {W : Type 0} (us vs : List W) (n : ℕ) → length us ≡ length vs → n ≡ length vs → take n (us ++ drop (length us) vs) ≡ us
back_again us vs n e f =
    let none : drop (length us) vs ≡ [] = drop_all (length us) vs (omega (e, arith)) in
    ap (λ rest. take n (us ++ rest)) none ∙ ap (take n) (append-nil us) ∙ take_all n us (omega (e, f, arith))

-- the same of a replay, whose watchers are handed back
pub replays_back : (makes : Call → Bool) {W : Type 0} (seen : Seen W) (shown : W → ℕ) (shows : W → ℕ → WatchRow) (status : Status) (before left : Option (List ℕ)) (old new : Option (List ℕ)) (ws vs us : List W) (n : ℕ) → ws ≡ vs → length us ≡ length vs → n ≡ length vs
    → PlayerReplays makes seen status (watch_text shown shows us) before left (outside old ws) (outside new us)
    → Replays makes seen status (watch_text shown shows (take n (us ++ drop (length us) vs))) before left (outside old vs) (outside new (take n (us ++ drop (length us) vs)))
replays_back makes {W = W} seen shown shows status before left old new ws vs us n e l m r =
    subst (λ (fs : List W). Replays makes seen status (watch_text shown shows fs) before left (outside old vs) (outside new fs)) (sym (back_again us vs n l m))
    (subst (λ (xs : List W). Replays makes seen status (watch_text shown shows us) before left (outside old xs) (outside new us)) e
    (replays_of_player makes seen status (watch_text shown shows us) before left (outside old ws) (outside new us) r))

-- and the rows that they show, of numbers that have the bits of their type
pub fits_back : {W : Type 0} (shown : W → ℕ) (shows : W → ℕ → WatchRow) (vs us : List W) (n : ℕ) → length us ≡ length vs → n ≡ length vs → WatchersFit shown shows us → WatchersFit shown shows (take n (us ++ drop (length us) vs))
fits_back {W = W} shown shows vs us n l m fits = subst (λ (fs : List W). WatchersFit shown shows fs) (sym (back_again us vs n l m)) fits
