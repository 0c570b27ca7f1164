-- What bytes in a row give, from what each gives.
use Rattle.std.proofs.Common.{Bool, ℕ, ◌≡◌, ◌+◌, ◌<◌, ◌==◌, List, [], ◌∷◌, ◌++◌, length, take, drop, get_or, Option, Some, None, Result, Ok, Err, true, false, refl, sym, ap, suc, ◌∙◌, append_assoc, take-append-drop, arith}
use Rattle.std.proofs.lemmas.List.{take_more}
use Rattle.wfe_trace.specs.declared.reason.RecordReason.{RecordReason}
use Rattle.wfe_check_lines.specs.Reading.{IsGood, Reading, Told, after_byte, after_bytes, after_good_byte, byte_refused, counted, told_after, with_line, ◌then◌}
use Rattle.wfe_check_lines.specs.Stops.{IsWhy, StopsAmid}
use Rattle.wfe_check_lines.specs.declared.stops.BadLine.{BadLine}
use Rattle.wfe_check_lines.specs.declared.stops.Stop.{Stop}

pub after_bytes-append : (x : Result Reading BadLine) (xs ys : List ℕ) → after_bytes x (xs ++ ys) ≡ after_bytes (after_bytes x xs) ys
after_bytes-append x [] ys = refl
after_bytes-append x (b ∷ xs) ys = after_bytes-append (x then (λ r. after_byte r b)) xs ys

-- after a bad line nothing is read
pub after_bytes-bad : (bad : BadLine) (xs : List ℕ) → after_bytes (Err bad) xs ≡ Err bad
after_bytes-bad bad [] = refl
after_bytes-bad bad (x ∷ xs) = after_bytes-bad bad xs

-- bytes and then more
pub after_both : (r q : Reading) (first second : List ℕ) → after_bytes (Ok r) first ≡ Ok q → after_bytes (Ok r) (first ++ second) ≡ after_bytes (Ok q) second
after_both r q first second good = after_bytes-append (Ok r) first second ∙ ap (λ (x : Result Reading BadLine). after_bytes x second) good

-- up to a place, the element there, and the rest
cut_at : (xs : List ℕ) (i : ℕ) → i < length xs → xs ≡ take i xs ++ get_or xs i 0 ∷ drop (i + 1) xs
cut_at xs i within = sym (take-append-drop (i + 1) xs) ∙ ap (λ (t : List ℕ). t ++ drop (i + 1) xs) (take_more xs i 0 within) ∙ append_assoc (take i xs) (get_or xs i 0 ∷ []) (drop (i + 1) xs)

-- the byte at a place is taken
pub after_bytes-at : (r q n : Reading) (bs : List ℕ) (i : ℕ) → i < length bs → after_bytes (Ok r) (take i bs) ≡ Ok q → after_byte q (get_or bs i 0) ≡ Ok n → after_bytes (Ok r) (take (i + 1) bs) ≡ Ok n
after_bytes-at r q n bs i within before here =
    ap (after_bytes (Ok r)) (take_more bs i 0 within) ∙ after_both r q (take i bs) (get_or bs i 0 ∷ []) before ∙ here

-- at the byte at a place no more is taken
pub stops_at : (r q : Reading) (bs : List ℕ) (i : ℕ) (stop : Stop) → i < length bs → after_bytes (Ok r) (take i bs) ≡ Ok q → IsGood q → IsWhy stop (after_byte q (get_or bs i 0)) → StopsAmid r bs stop
stops_at r q bs i stop within before good why = record {
  closed = take i bs;
  byte = get_or bs i 0;
  rest = drop (i + 1) bs;
  are = cut_at bs i within;
  before = q;
  came = before;
  good = good;
  why = why;
}

-- after bytes that were taken more are, up to one for which no more is
pub stops_later : (r q : Reading) (first second : List ℕ) (stop : Stop) → after_bytes (Ok r) first ≡ Ok q → StopsAmid q second stop → StopsAmid r (first ++ second) stop
stops_later r q first second stop came s = record {
  closed = first ++ s.closed;
  byte = s.byte;
  rest = s.rest;
  are = ap (λ (t : List ℕ). first ++ t) s.are ∙ sym (append_assoc first s.closed (s.byte ∷ s.rest));
  before = s.before;
  came = after_both r q first s.closed came ∙ s.came;
  good = s.good;
  why = s.why;
}

-- How the count of bytes grows.

count_line : (r q : Reading) (next : Result Told RecordReason) → with_line r next ≡ Ok q → q.count ≡ r.count
count_line r q (Err reason) h = absurd (cc)
count_line r q (Ok told) h = let is : record r { line = []; lines = r.lines + 1; told = told } ≡ q = cc in sym (ap (λ (t : Reading). t.count) is)

count_good : (r q : Reading) (b : ℕ) (feed : Bool) → (b == 10) ≡ feed → after_good_byte r b None ≡ Ok q → q.count ≡ r.count + 1
count_good r q b true e h = count_line (counted r) q (told_after r.told r.line) (rw e at h)
count_good r q b false e h = let here = rw e at h in cc

count_in : (r q : Reading) (b : ℕ) (o : Option RecordReason) → after_good_byte r b o ≡ Ok q → q.count ≡ r.count + 1
count_in r q b (Some reason) h = absurd (cc)
count_in r q b None h = count_good r q b (b == 10) refl h

-- each byte that is taken counts
pub count_byte : (r q : Reading) (b : ℕ) → after_byte r b ≡ Ok q → q.count ≡ r.count + 1
count_byte r q b h = count_in r q b (byte_refused r b) h

count_from : (r q : Reading) (b : ℕ) (bs : List ℕ) (x : Result Reading BadLine) → after_byte r b ≡ x → after_bytes x bs ≡ Ok q →
    ((m : Reading) → after_bytes (Ok m) bs ≡ Ok q → q.count ≡ m.count + length bs) → q.count ≡ r.count + suc (length bs)
count_from r q b bs (Err bad) e h later = let never : Err bad ≡ Ok q = sym (after_bytes-bad bad bs) ∙ h in absurd (cc)
count_from r q b bs (Ok m) e h later = omega (arith, count_byte r m b e, later m h)

pub count_bytes : (r q : Reading) (bs : List ℕ) → after_bytes (Ok r) bs ≡ Ok q → q.count ≡ r.count + length bs
count_bytes r q [] h = let same : r ≡ q = cc in sym (ap (λ (t : Reading). t.count) same) ∙ omega arith
count_bytes r q (b ∷ bs) h = count_from r q b bs (after_byte r b) refl h (λ m g. count_bytes m q bs g)
