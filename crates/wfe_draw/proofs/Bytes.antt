-- What a byte makes of a record's reading, by what is tested of it.
use Rattle.std.proofs.Common.{ℕ, ◌≡◌, ◌∙◌, ◌≤◌, ◌<◌, ◌+◌, ◌==◌, ◌++◌, ◌∷◌, [], List, length, nat_le, Bool, true, false, Option, None, Some, Ok, Err, refl, sym, ap, arith}
use Rattle.std.specs.Prelude.{if◌then◌else◌}
use Rattle.std.proofs.lemmas.Bool.Decides.{nat_tests}
use Rattle.wfe_trace.specs.declared.reason.RecordReason.TheVariants as reasons
use Rattle.wfe_check_lines.specs.Reading.{Reading, after_byte, after_bytes, after_line, bad_line, byte_refused, came, counted, reading_start}
use Rattle.wfe_check_lines.proofs.Bytes.{after_both}
use Rattle.wfe_check_lines.proofs.Lines.{byte_bad, byte_feed, byte_more}

refused_by : (r : Reading) (b : ℕ) (long feed full : Bool) → nat_le 1073741824 r.count ≡ long → (b == 10) ≡ feed → nat_le 200 (length r.line) ≡ full
    → byte_refused r b ≡ (if long then Some reasons.LongRecord else if feed then None else if full then Some reasons.LongLine else None)
refused_by r b long feed full p q s = rw (p, q, s)

not_long : (r : Reading) → r.count < 1073741824 → nat_le 1073741824 r.count ≡ false
not_long r h = grind (arith, nat_tests)

no_feed : (b : ℕ) → (b ≡ 10 → ⊥) → (b == 10) ≡ false
no_feed b h = grind (arith, nat_tests)

-- after so many bytes no other may come
pub long_record : (r : Reading) (b : ℕ) → 1073741824 ≤ r.count → after_byte r b ≡ Err (bad_line r reasons.LongRecord)
long_record r b h =
    let long : nat_le 1073741824 r.count ≡ true = grind (arith, nat_tests) in
    byte_bad r b reasons.LongRecord (refused_by r b true (b == 10) (nat_le 200 (length r.line)) long refl refl)

-- a line feed
pub feed : (r : Reading) (b : ℕ) → r.count < 1073741824 → b ≡ 10 → after_byte r b ≡ after_line (counted r)
feed r b h e =
    let is : (b == 10) ≡ true = grind (arith, nat_tests) in
    byte_feed r b (refused_by r b false true (nat_le 200 (length r.line)) (not_long r h) is refl) e

-- another byte, where the line has no room for it
pub long_line : (r : Reading) (b : ℕ) → r.count < 1073741824 → (b ≡ 10 → ⊥) → 200 ≤ length r.line → after_byte r b ≡ Err (bad_line r reasons.LongLine)
long_line r b h e full =
    let is : nat_le 200 (length r.line) ≡ true = grind (arith, nat_tests) in
    byte_bad r b reasons.LongLine (refused_by r b false false true (not_long r h) (no_feed b e) is)

-- and where it has
pub more : (r : Reading) (b : ℕ) → r.count < 1073741824 → (b ≡ 10 → ⊥) → length r.line < 200 → after_byte r b ≡ Ok (record (counted r) { line = r.line ++ b ∷ [] })
more r b h e room =
    let is : nat_le 200 (length r.line) ≡ false = grind (arith, nat_tests) in
    byte_more r b (refused_by r b false false false (not_long r h) (no_feed b e) is) e

-- bytes and then one more
pub came_more : (taken : List ℕ) (r q : Reading) (b : ℕ) → came taken ≡ Ok r → after_byte r b ≡ Ok q → came (taken ++ b ∷ []) ≡ Ok q
came_more taken r q b text next = after_both reading_start r taken (b ∷ []) text ∙ next
