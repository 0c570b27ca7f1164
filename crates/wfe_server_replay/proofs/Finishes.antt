-- Where a trace ends, under the table and under the keeper of its lines.
use Rattle.std.proofs.Common.{Bool, Err, List, None, Ok, Option, Result, Some, [], ap, ap₂, false, if◌then◌else◌, is_some, refl, subst, sym, true, true≢false, ℕ, ◌++◌, ◌∙◌, ◌≡◌}
use Rattle.wfe_server_out.specs.Pieces.{Piece}
use Rattle.wfe_trace.specs.declared.item.Mode.{Mode}
use Rattle.wfe_trace.specs.declared.reason.BadLine.{BadLine}
use Rattle.wfe_trace.specs.declared.reason.Reason.TheVariants as reasons
use Rattle.wfe_trace.specs.words.declared.config.Config.{Config}
use Rattle.wfe_server_replay.specs.Given.{Given, given_out, keeper, partial_out}
use Rattle.wfe_server_replay.specs.Playing.{Played, player}
use Rattle.wfe_server_replay.specs.Trace.{Progress, after_bytes, after_last, after_trace, at_end, bad_line, bytes_output, closing, finished, last_output, lines_output, output_of, progress_start, trace_output, ◌>>=◌}
use Rattle.wfe_server_replay.proofs.Lines.{Good}
use Rattle.wfe_server_replay.proofs.Steps.{Follows, GoodIn, mapped, mapped_result}
use Rattle.wfe_server_replay.proofs.Streams.{Shows, SoundIn, after_bytes-mapped, after_bytes-shows, after_bytes-sound, bytes_output-mapped, last-line, start-sound}
use Rattle.wfe_outside.specs.defs.declared.call.Call.{Call}

-- whether the line `end` came
ended-mapped : (p : Progress Given) (bad : BadLine) (ended : Bool) → (if ended then Ok (mapped p) else Err bad) ≡ mapped_result (if ended then Ok p else Err bad)
ended-mapped p bad true = refl
ended-mapped p bad false = refl

at_end-mapped : (r : Result (Progress Given) BadLine) → (mapped_result r >>= at_end) ≡ mapped_result (r >>= at_end)
at_end-mapped (Ok p) = ended-mapped p (bad_line p reasons.NoEnd) p.ended
at_end-mapped (Err bad) = refl

finished-mapped : (makes : Call → Bool) (r : Result (Progress Given) BadLine) → SoundIn makes r → (mapped_result r >>= finished (player makes)) ≡ mapped_result (r >>= finished (keeper makes))
finished-mapped makes (Ok p) s = ap (λ t. t >>= at_end) (last-line makes p s).after ∙ at_end-mapped (after_last (keeper makes) p)
finished-mapped makes (Err bad) s = refl

pub last-mapped : (makes : Call → Bool) (r : Result (Progress Given) BadLine) → SoundIn makes r → output_of (last_output (player makes)) (mapped_result r) ≡ output_of (last_output (keeper makes)) r
last-mapped makes (Ok p) s = (last-line makes p s).output
last-mapped makes (Err bad) s = refl

pub closing-mapped : (watched : List ℕ) (r : Result (Progress Given) BadLine) → closing watched (mapped_result r) ≡ closing watched r
closing-mapped watched (Ok p) = refl
closing-mapped watched (Err bad) = refl

pub after_trace-mapped : (makes : Call → Bool) (mode : Mode) (bytes : List ℕ) → after_trace (player makes) mode bytes ≡ mapped_result (after_trace (keeper makes) mode bytes)
after_trace-mapped makes mode bytes =
    ap (λ t. t >>= finished (player makes)) (after_bytes-mapped makes (Ok (progress_start mode)) bytes (start-sound makes mode))
    ∙ finished-mapped makes (after_bytes (keeper makes) (Ok (progress_start mode)) bytes) (after_bytes-sound makes (Ok (progress_start mode)) bytes (start-sound makes mode))

pub lines_output-mapped : (makes : Call → Bool) (mode : Mode) (bytes : List ℕ) → lines_output (player makes) mode bytes ≡ lines_output (keeper makes) mode bytes
lines_output-mapped makes mode bytes =
    ap₂ (λ (xs ys : List Piece). xs ++ ys) (bytes_output-mapped makes (Ok (progress_start mode)) bytes (start-sound makes mode))
    (ap (output_of (last_output (player makes))) (after_bytes-mapped makes (Ok (progress_start mode)) bytes (start-sound makes mode))
    ∙ last-mapped makes (after_bytes (keeper makes) (Ok (progress_start mode)) bytes) (after_bytes-sound makes (Ok (progress_start mode)) bytes (start-sound makes mode)))

pub trace_output-mapped : (makes : Call → Bool) (mode : Mode) (watched bytes : List ℕ) → trace_output (player makes) mode watched bytes ≡ trace_output (keeper makes) mode watched bytes
trace_output-mapped makes mode watched bytes =
    ap₂ (λ (xs ys : List Piece). xs ++ ys) (lines_output-mapped makes mode bytes) (ap (closing watched) (after_trace-mapped makes mode bytes) ∙ closing-mapped watched (after_trace (keeper makes) mode bytes))

-- the same verdict, read from the table's
pub was_good : (r : Result (Progress Given) BadLine) (q : Progress Played) → mapped_result r ≡ Ok q → (p : Progress Given) × (r ≡ Ok p)
was_good (Ok p) q h = (p, refl)
was_good (Err bad) q h = absurd (cc)

pub was_bad : (r : Result (Progress Given) BadLine) (bad : BadLine) → mapped_result r ≡ Err bad → r ≡ Err bad
was_bad (Ok p) bad h = absurd (cc)
was_bad (Err e) bad h = cc

-- a whole trace that is good ends after the line `end`
ended_well : (p q : Progress Given) (bad : BadLine) (ended : Bool) → p.ended ≡ ended → (if ended then Ok p else Err bad) ≡ Ok q → (p ≡ q) × (p.ended ≡ true)
ended_well p q bad true is h = (cc, is)
ended_well p q bad false is h = absurd (cc)

-- the keeper at the end, and what it puts out in all
pub record AtEnd (makes : Call → Bool) (q : Progress Given) (text : List Piece) : Type 0 where
  pub given : Given
  pub is_given : q.engine ≡ Some given
  pub good : Good makes given
  pub shown : text ≡ given_out given

keeper-there : (makes : Call → Bool) (config : Config) (q : Progress Given) (text : List Piece) (engine : Option Given) → q.engine ≡ engine → is_some engine ≡ true → GoodIn makes config engine → text ≡ partial_out engine → AtEnd makes q text
keeper-there makes config q text None is there good shown = absurd (true≢false (sym there))
keeper-there makes config q text (Some given) is there good shown = record { given = given; is_given = is; good = good.0; shown = shown }

last-kept : (makes : Call → Bool) (p q : Progress Given) (text out : List Piece) (r : Result (Progress Given) BadLine) → Follows makes p out r → partial_out p.engine ≡ text → (r >>= at_end) ≡ Ok q → AtEnd makes q (text ++ out)
last-kept makes p q text out (Err bad) f is h = absurd (cc)
last-kept makes p q text out (Ok s) f is h =
    let (same, ended) = ended_well s q (bad_line s reasons.NoEnd) s.ended refl h in
    subst (λ t. AtEnd makes t (text ++ out)) same (keeper-there makes s.reading.config s (text ++ out) s.engine refl (f.0.ended ended) f.0.good (sym (f.1 ∙ ap (λ (t : List Piece). t ++ out) is)))

end-kept : (makes : Call → Bool) (r : Result (Progress Given) BadLine) (q : Progress Given) (text : List Piece) → SoundIn makes r → Shows text r → (r >>= finished (keeper makes)) ≡ Ok q → AtEnd makes q (text ++ output_of (last_output (keeper makes)) r)
end-kept makes (Ok p) q text s is h = last-kept makes p q text (last_output (keeper makes) p) (after_last (keeper makes) p) (last-line makes p s).follows is h
end-kept makes (Err bad) q text s is h = absurd (cc)

-- a whole trace that is good: the keeper is there, and good, and its pieces are those of the lines
pub trace-kept : (makes : Call → Bool) (mode : Mode) (bytes : List ℕ) (q : Progress Given) → after_trace (keeper makes) mode bytes ≡ Ok q → AtEnd makes q (lines_output (keeper makes) mode bytes)
trace-kept makes mode bytes q h =
    end-kept makes (after_bytes (keeper makes) (Ok (progress_start mode)) bytes) q (bytes_output (keeper makes) (Ok (progress_start mode)) bytes) (after_bytes-sound makes (Ok (progress_start mode)) bytes (start-sound makes mode))
    (after_bytes-shows makes (Ok (progress_start mode)) bytes [] (start-sound makes mode) refl) h
