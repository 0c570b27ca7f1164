-- The bytes of a trace under the table and under the keeper of its lines.
use Rattle.std.proofs.Common.{Bool, Err, List, None, Ok, Option, Result, Some, [], ap, ap₂, append-nil, append_assoc, false, if◌then◌else◌, length, refl, subst, sym, true, true≢false, ℕ, ◌++◌, ◌==◌, ◌∙◌, ◌≡◌, ◌∷◌}
use Rattle.wfe_server_out.specs.Pieces.{Piece}
use Rattle.wfe_trace.specs.declared.item.Mode.{Mode}
use Rattle.wfe_trace.specs.declared.reason.BadLine.{BadLine}
use Rattle.wfe_trace.specs.declared.reason.Reason.{Reason}
use Rattle.wfe_server_replay.specs.Given.{Given, keeper, partial_out}
use Rattle.wfe_server_replay.specs.Playing.{Played, player}
use Rattle.wfe_server_replay.specs.Trace.{Progress, after_byte, after_bytes, after_good_byte, after_last, after_line, byte_output, byte_refused, bytes_output, counted, good_byte_output, last_output, line_item, line_output, output_of, progress_start, ◌>>=◌}
use Rattle.wfe_server_replay.proofs.Steps.{Follows, OneLine, Sound, mapped, mapped_result, one-line}
use Rattle.wfe_outside.specs.defs.declared.call.Call.{Call}

-- where each stands after a part of a trace, what each put out, and that both did the same
pub record Both (makes : Call → Bool) (p : Progress Given) (table_after : Result (Progress Played) BadLine) (keeper_after : Result (Progress Given) BadLine) (table_out keeper_out : List Piece) : Type 0 where
  pub after : table_after ≡ mapped_result keeper_after
  pub output : table_out ≡ keeper_out
  pub follows : Follows makes p keeper_out keeper_after

-- a byte more came
sound-counted : (makes : Call → Bool) (p : Progress Given) → Sound makes p → Sound makes (counted p)
sound-counted makes p s = record { held = s.held; opened = s.opened; ended = s.ended; good = s.good }

-- a byte that is not refused
good-byte : (makes : Call → Bool) (p : Progress Given) (b : ℕ) (ends : Bool) → Sound makes p →
    Both makes p (if ends then after_line (player makes) (counted (mapped p)) else Ok (record (counted (mapped p)) { line = p.line ++ b ∷ [] })) (if ends then after_line (keeper makes) (counted p) else Ok (record (counted p) { line = p.line ++ b ∷ [] }))
    (if ends then line_output (player makes) (counted (mapped p)) else []) (if ends then line_output (keeper makes) (counted p) else [])
good-byte makes p b true s =
    let l : OneLine makes (counted p) (line_item (player makes) (mapped (counted p))) (line_item (keeper makes) (counted p)) = one-line makes (counted p) (sound-counted makes p s) in
    record { after = l.after; output = l.output; follows = follows-counted p (line_output (keeper makes) (counted p)) (after_line (keeper makes) (counted p)) l.follows }
  where
    follows-counted : (p : Progress Given) (out : List Piece) (r : Result (Progress Given) BadLine) → Follows makes (counted p) out r → Follows makes p out r
    follows-counted p out (Err bad) f = tt
    follows-counted p out (Ok q) f = f
good-byte makes p b false s = record {
  after = refl;
  output = refl;
  follows = (record { held = s.held; opened = s.opened; ended = s.ended; good = s.good }, sym (append-nil (partial_out p.engine)));
}

judged-byte : (makes : Call → Bool) (p : Progress Given) (b : ℕ) (refused : Option Reason) → Sound makes p →
    Both makes p (after_good_byte (player makes) (mapped p) b refused) (after_good_byte (keeper makes) p b refused) (good_byte_output (player makes) (mapped p) b refused) (good_byte_output (keeper makes) p b refused)
judged-byte makes p b (Some reason) s = record { after = refl; output = refl; follows = tt }
judged-byte makes p b None s = good-byte makes p b (b == 10) s

pub one-byte : (makes : Call → Bool) (p : Progress Given) (b : ℕ) → Sound makes p → Both makes p (after_byte (player makes) (mapped p) b) (after_byte (keeper makes) p b) (byte_output (player makes) (mapped p) b) (byte_output (keeper makes) p b)
one-byte makes p b s = judged-byte makes p b (byte_refused p b) s

abbrev pub SoundIn : (makes : Call → Bool) → Result (Progress Given) BadLine → Type 0
SoundIn makes (Ok p) = Sound makes p
SoundIn makes (Err bad) = Unit {0}

-- what the keeper puts out in all
abbrev pub Shows : List Piece → Result (Progress Given) BadLine → Type 0
Shows text (Ok p) = partial_out p.engine ≡ text
Shows text (Err bad) = Unit {0}

follows-sound : (makes : Call → Bool) (p : Progress Given) (out : List Piece) (r : Result (Progress Given) BadLine) → Follows makes p out r → SoundIn makes r
follows-sound makes p out (Ok q) g = g.0
follows-sound makes p out (Err bad) g = tt

follows-shows : (makes : Call → Bool) (p : Progress Given) (out text : List Piece) (r : Result (Progress Given) BadLine) → partial_out p.engine ≡ text → Follows makes p out r → Shows (text ++ out) r
follows-shows makes p out text (Ok q) is g = g.1 ∙ ap (λ (t : List Piece). t ++ out) is
follows-shows makes p out text (Err bad) is g = tt

-- one byte more, after bytes of which one may be bad
after-mapped : (makes : Call → Bool) (r : Result (Progress Given) BadLine) (b : ℕ) → SoundIn makes r → (mapped_result r >>= (λ p. after_byte (player makes) p b)) ≡ mapped_result (r >>= (λ p. after_byte (keeper makes) p b))
after-mapped makes (Ok p) b s = (one-byte makes p b s).after
after-mapped makes (Err bad) b s = refl

output-mapped : (makes : Call → Bool) (r : Result (Progress Given) BadLine) (b : ℕ) → SoundIn makes r → output_of (λ p. byte_output (player makes) p b) (mapped_result r) ≡ output_of (λ p. byte_output (keeper makes) p b) r
output-mapped makes (Ok p) b s = (one-byte makes p b s).output
output-mapped makes (Err bad) b s = refl

after-sound : (makes : Call → Bool) (r : Result (Progress Given) BadLine) (b : ℕ) → SoundIn makes r → SoundIn makes (r >>= (λ p. after_byte (keeper makes) p b))
after-sound makes (Ok p) b s = follows-sound makes p (byte_output (keeper makes) p b) (after_byte (keeper makes) p b) (one-byte makes p b s).follows
after-sound makes (Err bad) b s = tt

after-shows : (makes : Call → Bool) (r : Result (Progress Given) BadLine) (b : ℕ) (text : List Piece) → SoundIn makes r → Shows text r → Shows (text ++ output_of (λ p. byte_output (keeper makes) p b) r) (r >>= (λ p. after_byte (keeper makes) p b))
after-shows makes (Ok p) b text s is = follows-shows makes p (byte_output (keeper makes) p b) text (after_byte (keeper makes) p b) is (one-byte makes p b s).follows
after-shows makes (Err bad) b text s is = tt

-- over bytes in a row
pub after_bytes-mapped : (makes : Call → Bool) (r : Result (Progress Given) BadLine) (bs : List ℕ) → SoundIn makes r → after_bytes (player makes) (mapped_result r) bs ≡ mapped_result (after_bytes (keeper makes) r bs)
after_bytes-mapped makes r [] s = refl
after_bytes-mapped makes r (b ∷ bs) s = ap (λ t. after_bytes (player makes) t bs) (after-mapped makes r b s) ∙ after_bytes-mapped makes (r >>= (λ p. after_byte (keeper makes) p b)) bs (after-sound makes r b s)

pub bytes_output-mapped : (makes : Call → Bool) (r : Result (Progress Given) BadLine) (bs : List ℕ) → SoundIn makes r → bytes_output (player makes) (mapped_result r) bs ≡ bytes_output (keeper makes) r bs
bytes_output-mapped makes r [] s = refl
bytes_output-mapped makes r (b ∷ bs) s =
    ap₂ (λ (xs ys : List Piece). xs ++ ys) (output-mapped makes r b s)
    (ap (λ t. bytes_output (player makes) t bs) (after-mapped makes r b s) ∙ bytes_output-mapped makes (r >>= (λ p. after_byte (keeper makes) p b)) bs (after-sound makes r b s))

pub after_bytes-sound : (makes : Call → Bool) (r : Result (Progress Given) BadLine) (bs : List ℕ) → SoundIn makes r → SoundIn makes (after_bytes (keeper makes) r bs)
after_bytes-sound makes r [] s = s
after_bytes-sound makes r (b ∷ bs) s = after_bytes-sound makes (r >>= (λ p. after_byte (keeper makes) p b)) bs (after-sound makes r b s)

pub after_bytes-shows : (makes : Call → Bool) (r : Result (Progress Given) BadLine) (bs : List ℕ) (text : List Piece) → SoundIn makes r → Shows text r → Shows (text ++ bytes_output (keeper makes) r bs) (after_bytes (keeper makes) r bs)
after_bytes-shows makes r [] text s is = subst (λ (t : List Piece). Shows t r) (sym (append-nil text)) is
after_bytes-shows makes r (b ∷ bs) text s is =
    subst (λ (t : List Piece). Shows t (after_bytes (keeper makes) (r >>= (λ p. after_byte (keeper makes) p b)) bs)) (append_assoc text (output_of (λ p. byte_output (keeper makes) p b) r) (bytes_output (keeper makes) (r >>= (λ p. after_byte (keeper makes) p b)) bs))
    (after_bytes-shows makes (r >>= (λ p. after_byte (keeper makes) p b)) bs (text ++ output_of (λ p. byte_output (keeper makes) p b) r) (after-sound makes r b s) (after-shows makes r b text s is))

-- no byte came
pub start-sound : (makes : Call → Bool) (mode : Mode) → Sound makes (progress_start mode)
start-sound makes mode = record { held = refl; opened = refl; ended = λ ended. absurd (true≢false (sym ended)); good = tt }

-- bytes after the last line feed are a line too
some-line : (makes : Call → Bool) (p : Progress Given) (none : Bool) → Sound makes p →
    Both makes p (if none then Ok (mapped p) else after_line (player makes) (mapped p)) (if none then Ok p else after_line (keeper makes) p) (if none then [] else line_output (player makes) (mapped p)) (if none then [] else line_output (keeper makes) p)
some-line makes p true s = record { after = refl; output = refl; follows = (s, sym (append-nil (partial_out p.engine))) }
some-line makes p false s =
    let l : OneLine makes p (line_item (player makes) (mapped p)) (line_item (keeper makes) p) = one-line makes p s in
    record { after = l.after; output = l.output; follows = l.follows }

pub last-line : (makes : Call → Bool) (p : Progress Given) → Sound makes p → Both makes p (after_last (player makes) (mapped p)) (after_last (keeper makes) p) (last_output (player makes) (mapped p)) (last_output (keeper makes) p)
last-line makes p s = some-line makes p (length p.line == 0) s
