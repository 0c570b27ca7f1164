-- What whole lines make of a record that is read.
use Rattle.std.proofs.Common.{ℕ, ◌≡◌, ◌≤◌, ◌<◌, ◌+◌, ◌==◌, ◌&&◌, ◌++◌, ◌∙◌, not, nat_le, suc, Bool, true, false, List, [], ◌∷◌, length, None, Ok, codes, refl, sym, ap, arith, length-append, append-nil, append_assoc}
use Rattle.std.proofs.lemmas.Bool.Decides.{nat_tests}
use Rattle.wfe_trace.proofs.Decimals.{lacks}
use Rattle.wfe_check_lines.specs.Reading.{Reading, Told, after_byte, after_bytes, byte_refused, counted, told_after, with_line}
use Rattle.wfe_check_lines.proofs.Bytes.{after_both, count_bytes}
use Rattle.wfe_check_lines.proofs.Lines.{byte_feed, byte_more}
use Rattle.law_printed.proofs.ReadBack.Widths.{IsNarrow}

-- the bytes are whole lines, none of them bad, and this is what they tell with those before them
pub record Comes (r : Reading) (bytes : List ℕ) (now : Told) : Type 0 where
  pub last : Reading
  pub came : after_bytes (Ok r) bytes ≡ Ok last
  pub line : last.line ≡ []
  pub told : last.told ≡ now

-- nothing more
pub comes_none : (r : Reading) (now : Told) → r.line ≡ [] → r.told ≡ now → Comes r [] now
comes_none r now line told = record { last = r; came = refl; line = line; told = told }

-- and then more lines
pub comes_then : (r : Reading) (first second : List ℕ) (mid now : Told) → (c : Comes r first mid) → Comes c.last second now → Comes r (first ++ second) now
comes_then r first second mid now c d = record { last = d.last; came = after_both r c.last first second c.came ∙ d.came; line = d.line; told = d.told }

-- so many bytes more
pub comes_count : (r : Reading) (bytes : List ℕ) (now : Told) → (c : Comes r bytes now) → c.last.count ≡ r.count + length bytes
comes_count r bytes now c = count_bytes r c.last bytes c.came

both : (t u : Bool) → (not t && u) ≡ true → (t ≡ false) × (u ≡ true)
both true u h = absurd (cc)
both false u h = (refl, h)

not_refused : (r : Reading) (b : ℕ) → (b == 10) ≡ false → r.count < 1073741824 → length r.line < 200 → byte_refused r b ≡ None
not_refused r b other few short =
    let room : nat_le 1073741824 r.count ≡ false = grind (arith, nat_tests) in
    let narrow : nat_le 200 (length r.line) ≡ false = grind (arith, nat_tests) in
    rw (room, other, narrow) refl

feed_not_refused : (r : Reading) → r.count < 1073741824 → byte_refused r 10 ≡ None
feed_not_refused r few =
    let room : nat_le 1073741824 r.count ≡ false = grind (arith, nat_tests) in
    rw room refl

never_feed : (b : ℕ) → (b == 10) ≡ false → b ≡ 10 → ⊥
never_feed b other same = grind (arith, nat_tests)

-- bytes of a line
within_line : (r : Reading) (line : List ℕ) → lacks 10 line ≡ true → length r.line + length line ≤ 200 → r.count + length line ≤ 1073741824 → after_bytes (Ok r) line ≡ Ok (record r { line = r.line ++ line; count = r.count + length line })
within_line r [] unbroken narrow few =
    let same : r.count ≡ r.count + 0 = omega arith in
    ap (λ (n : ℕ). Ok (record r { count = n })) same ∙ ap (λ (t : List ℕ). Ok (record r { line = t; count = r.count + 0 })) (sym (append-nil r.line))
within_line r (b ∷ line) unbroken narrow few =
    let (other, rest) = both (b == 10) (lacks 10 line) unbroken in
    let next : Reading = record (counted r) { line = r.line ++ b ∷ [] } in
    let here : after_byte r b ≡ Ok next = byte_more r b (not_refused r b other (omega arith) (omega arith)) (never_feed b other) in
    let wide : length next.line + length line ≤ 200 = omega (arith, length-append r.line (b ∷ [])) in
    let later : after_bytes (Ok next) line ≡ Ok (record next { line = next.line ++ line; count = next.count + length line }) = within_line next line rest wide (omega arith) in
    let count : r.count + 1 + length line ≡ r.count + suc (length line) = omega arith in
    ap (λ x. after_bytes x line) here ∙ later
    ∙ ap (λ (n : ℕ). Ok (record r { line = (r.line ++ b ∷ []) ++ line; count = n })) count
    ∙ ap (λ (t : List ℕ). Ok (record r { line = t; count = r.count + suc (length line) })) (append_assoc r.line (b ∷ []) line)

-- a whole line, which is not bad
pub line_comes : (r : Reading) (line : List ℕ) (now : Told) → r.line ≡ [] → IsNarrow 200 line → r.count + (length line + 1) ≤ 1073741824 → told_after r.told line ≡ Ok now → Comes r (line ++ codes "\n") now
line_comes r line now empty narrow few told =
    let none : length r.line ≡ 0 = ap length empty in
    let width = narrow.width in
    let full : Reading = record r { line = r.line ++ line; count = r.count + length line } in
    let bytes : after_bytes (Ok r) line ≡ Ok full = within_line r line narrow.unbroken (omega arith) (omega arith) in
    let here : told_after full.told full.line ≡ Ok now = ap (λ t. told_after r.told (t ++ line)) empty ∙ told in
    record {
      last = record { line = []; count = r.count + length line + 1; lines = r.lines + 1; told = now };
      came = after_both r full line (codes "\n") bytes ∙ byte_feed full 10 (feed_not_refused full (omega arith)) refl ∙ ap (with_line (counted full)) here;
      line = refl;
      told = refl;
    }
