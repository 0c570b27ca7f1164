-- What a reader makes of a whole line's bytes at once is what it makes of them one by one.
use Rattle.std.proofs.Common.{Bool, true, false, ℕ, ◌≡◌, ◌≢◌, ◌≤◌, ◌<◌, ◌+◌, ◌==◌, List, [], ◌∷◌, ◌++◌, suc, length, take, length-append, get_or, Option, None, Ok, nat_le, refl, sym, ap, subst, ◌∙◌, arith, append_assoc, append-nil, get_or-take, length-take-le, if◌then◌else◌}
use Rattle.std.proofs.lemmas.Bool.Decides.{nat_tests}
use Rattle.std.proofs.lemmas.List.{take_more}
use Rattle.wfe_trace.specs.declared.reason.RecordReason.{RecordReason}
use Rattle.wfe_check_lines.specs.Reading.{IsGood, Reading, after_byte, after_bytes, after_line, byte_refused, counted}
use Rattle.wfe_check_lines.specs.Readers.{BeginsWithLine, more_bytes}
use Rattle.wfe_check_lines.specs.Stops.{IsWhy, StopsAmid}
use Rattle.wfe_check_lines.specs.declared.stops.Stop.{Stop}
use Rattle.wfe_check_lines.proofs.Bytes.{after_both, stops_at}
use Rattle.wfe_check_lines.proofs.Lines.{byte_feed, byte_more}

either_way : (reason : Option RecordReason) (t : Bool) → (if t then reason else reason) ≡ reason
either_way reason true = refl
either_way reason false = refl

-- a byte for which there is room, of the record and of the line
byte_fits : (r : Reading) (b : ℕ) → r.count < 1073741824 → length r.line < 200 → byte_refused r b ≡ None
byte_fits r b few short =
    let record_has_room : nat_le 1073741824 r.count ≡ false = grind (arith, nat_tests) in
    let line_has_room : nat_le 200 (length r.line) ≡ false = grind (arith, nat_tests) in
    rw (record_has_room, line_has_room) (either_way None (b == 10))

-- a line feed for which the record has room
feed_fits : (r : Reading) → r.count < 1073741824 → byte_refused r 10 ≡ None
feed_fits r few =
    let record_has_room : nat_le 1073741824 r.count ≡ false = grind (arith, nat_tests) in
    rw record_has_room refl

-- bytes without a line feed, for which there is room
pub plain_bytes : (r : Reading) (bs : List ℕ) → ((k : ℕ) → k < length bs → get_or bs k 0 ≢ 10) → length r.line + length bs ≤ 200 → r.count + length bs ≤ 1073741824 → after_bytes (Ok r) bs ≡ Ok (more_bytes r bs)
plain_bytes r [] none short few =
    let line : r.line ≡ r.line ++ [] = sym (append-nil r.line) in
    let count : r.count ≡ r.count + 0 = omega arith in
    λ i. Ok (record r { line = line i; count = count i })
plain_bytes r (b ∷ bs) none short few =
    let first : after_byte r b ≡ Ok (more_bytes r (b ∷ [])) = byte_more r b (byte_fits r b (omega (arith, few)) (omega (arith, short))) (none 0 (omega arith)) in
    let next : Reading = more_bytes r (b ∷ []) in
    let rest = plain_bytes next bs (λ k l. none (suc k) (omega (arith, l))) (omega (arith, short, length-append r.line (b ∷ []))) (omega (arith, few)) in
    let line : (r.line ++ b ∷ []) ++ bs ≡ r.line ++ b ∷ bs = append_assoc r.line (b ∷ []) bs in
    let count : r.count + 1 + length bs ≡ r.count + suc (length bs) = omega arith in
    ap (λ x. after_bytes x bs) first ∙ rest ∙ (λ i. Ok (record r { line = line i; count = count i }))

module _ (r : Reading) (bs : List ℕ) (at : ℕ) (begins : BeginsWithLine r bs at) where
  long : length (take at bs) ≡ at
  long = length-take-le at bs (omega (arith, begins.within))

  -- what stands before the line feed
  pub before_feed : after_bytes (Ok r) (take at bs) ≡ Ok (more_bytes r (take at bs))
  before_feed =
      let fresh : length r.line ≡ 0 = ap length begins.none in
      plain_bytes r (take at bs) (λ k l e. begins.before k (omega (arith, l, long)) (sym (get_or-take at bs k 0 (omega (arith, l, long))) ∙ e)) (omega (arith, fresh, long, begins.short)) (omega (arith, long, begins.few))

  -- the line feed ends the line
  feed_ends : after_byte (more_bytes r (take at bs)) (get_or bs at 0) ≡ after_line (counted (more_bytes r (take at bs)))
  feed_ends = ap (after_byte (more_bytes r (take at bs))) begins.feed ∙ byte_feed (more_bytes r (take at bs)) 10 (feed_fits (more_bytes r (take at bs)) (omega (arith, long, begins.few))) refl

  pub with_feed : after_bytes (Ok r) (take (at + 1) bs) ≡ after_line (counted (more_bytes r (take at bs)))
  with_feed =
      ap (after_bytes (Ok r)) (take_more bs at 0 begins.within) ∙ after_both r (more_bytes r (take at bs)) (take at bs) (get_or bs at 0 ∷ []) before_feed ∙ feed_ends

  -- no more is taken at that line feed
  pub stops_at_feed : (stop : Stop) → IsGood r → IsWhy stop (after_line (counted (more_bytes r (take at bs)))) → StopsAmid r bs stop
  stops_at_feed stop good why = stops_at r (more_bytes r (take at bs)) bs at stop begins.within before_feed good (subst (IsWhy stop) (sym feed_ends) why)
