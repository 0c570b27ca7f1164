-- What bytes in a row give, from what each gives.
use Rattle.wfe_server_out.specs.Heard.{Seen}
use Rattle.std.proofs.Common.{Bool, true, false, Option, None, ◌==◌, ℕ, ◌≡◌, ◌+◌, ◌<◌, List, [], ◌∷◌, ◌++◌, length, take, drop, get_or, Result, Ok, Err, refl, sym, ap, ◌∙◌, subst, append_assoc, append-nil, take-add, take-append-drop, ◌-◌}
use Rattle.std.proofs.lemmas.List.{take_more, take_rest}
use Rattle.wfe_trace.specs.declared.reason.BadLine.{BadLine}
use Rattle.wfe_server_replay.specs.declared.stop.Stop.{Stop}
use Rattle.wfe_server_replay.specs.declared.stop.Stop.TheVariants as stops
use Rattle.wfe_server_replay.specs.Playing.{Played, player}
use Rattle.wfe_server_out.specs.Pieces.{Piece}
use Rattle.wfe_server_replay.specs.Sunk.{Outside, Puts, PutsPart, StopsAt, Took}
use Rattle.wfe_server_replay.specs.Trace.{Engine, Progress, after_byte, after_good_byte, after_line, byte_output, byte_refused, byte_taken, after_bytes, bytes_output, good_byte_output, line_output, output_of, taken_by, ◌>>=◌}
use Rattle.wfe_server_replay.proofs.Outs.{part_first, part_then, puts_trans}
use Rattle.wfe_outside.specs.defs.declared.call.Call.{Call}

pub after_bytes-append : {S : Type 0} (E : Engine S) (r : Result (Progress S) BadLine) (xs ys : List ℕ) → after_bytes E r (xs ++ ys) ≡ after_bytes E (after_bytes E r xs) ys
after_bytes-append E r [] ys = refl
after_bytes-append E r (x ∷ xs) ys = after_bytes-append E (r >>= (λ p. after_byte E p x)) xs ys

pub bytes_output-append : {S : Type 0} (E : Engine S) (r : Result (Progress S) BadLine) (xs ys : List ℕ) →
    bytes_output E r (xs ++ ys) ≡ bytes_output E r xs ++ bytes_output E (after_bytes E r xs) ys
bytes_output-append E r [] ys = refl
bytes_output-append E r (x ∷ xs) ys =
    ap (λ (t : List Piece). output_of (λ p. byte_output E p x) r ++ t) (bytes_output-append E (r >>= (λ p. after_byte E p x)) xs ys)
    ∙ sym (append_assoc (output_of (λ p. byte_output E p x) r) (bytes_output E (r >>= (λ p. after_byte E p x)) xs) _)

-- after a bad line nothing is judged and nothing is printed
pub after_bytes-bad : {S : Type 0} (E : Engine S) (bad : BadLine) (xs : List ℕ) → after_bytes E (Err bad) xs ≡ Err bad
after_bytes-bad E bad [] = refl
after_bytes-bad E bad (x ∷ xs) = after_bytes-bad E bad xs

pub bytes_output-bad : {S : Type 0} (E : Engine S) (bad : BadLine) (xs : List ℕ) → bytes_output E (Err bad) xs ≡ []
bytes_output-bad E bad [] = refl
bytes_output-bad E bad (x ∷ xs) = bytes_output-bad E bad xs

-- one byte more
pub after_bytes-more : {S : Type 0} (E : Engine S) (p q r : Progress S) (xs : List ℕ) (x : ℕ) → after_bytes E (Ok p) xs ≡ Ok q → after_byte E q x ≡ Ok r → after_bytes E (Ok p) (xs ++ x ∷ []) ≡ Ok r
after_bytes-more E p q r xs x before here = after_bytes-append E (Ok p) xs (x ∷ []) ∙ ap (λ t. t >>= (λ s. after_byte E s x)) before ∙ here

pub bytes_output-more : {S : Type 0} (E : Engine S) (p q : Progress S) (xs : List ℕ) (x : ℕ) → after_bytes E (Ok p) xs ≡ Ok q → bytes_output E (Ok p) (xs ++ x ∷ []) ≡ bytes_output E (Ok p) xs ++ byte_output E q x
bytes_output-more E p q xs x before =
    bytes_output-append E (Ok p) xs (x ∷ []) ∙ ap (λ t. bytes_output E (Ok p) xs ++ (output_of (λ s. byte_output E s x) t ++ [])) before
    ∙ ap (λ (t : List Piece). bytes_output E (Ok p) xs ++ t) (append-nil (byte_output E q x))

-- what the bytes before gave, a byte, and the rest
output_split : {S : Type 0} (E : Engine S) (p q : Progress S) (xs : List ℕ) (x : ℕ) (ys : List ℕ) → after_bytes E (Ok p) xs ≡ Ok q →
    bytes_output E (Ok p) (xs ++ x ∷ ys) ≡ (bytes_output E (Ok p) xs ++ byte_output E q x) ++ bytes_output E (after_byte E q x) ys
output_split E p q xs x ys before =
    bytes_output-append E (Ok p) xs (x ∷ ys) ∙ ap (λ t. bytes_output E (Ok p) xs ++ (output_of (λ s. byte_output E s x) t ++ bytes_output E (t >>= (λ s. after_byte E s x)) ys)) before
    ∙ sym (append_assoc (bytes_output E (Ok p) xs) (byte_output E q x) _)

after_split : {S : Type 0} (E : Engine S) (p q : Progress S) (xs : List ℕ) (x : ℕ) (ys : List ℕ) → after_bytes E (Ok p) xs ≡ Ok q →
    after_bytes E (Ok p) (xs ++ x ∷ ys) ≡ after_bytes E (after_byte E q x) ys
after_split E p q xs x ys before = after_bytes-append E (Ok p) xs (x ∷ ys) ∙ ap (λ t. after_bytes E (t >>= (λ s. after_byte E s x)) ys) before

-- a byte at which the work stops, after those before
pub StopsAt-more : (makes : Call → Bool) {W : Type 0} (seen : Seen W) (stop : Stop) (p q : Progress Played) (xs : List ℕ) (x : ℕ) (ys : List ℕ) (a b c : Outside W) →
    after_bytes (player makes) (Ok p) xs ≡ Ok q → Puts seen a b (bytes_output (player makes) (Ok p) xs) → StopsAt seen stop (after_byte (player makes) q x) b c (byte_output (player makes) q x) →
    StopsAt seen stop (after_bytes (player makes) (Ok p) (xs ++ x ∷ ys)) a c (bytes_output (player makes) (Ok p) (xs ++ x ∷ ys))
StopsAt-more makes seen (stops.Bad bad) p q xs x ys a b c before wrote (here, more) = (
  after_split (player makes) p q xs x ys before ∙ ap (λ t. after_bytes (player makes) t ys) here ∙ after_bytes-bad (player makes) bad ys,
  subst (Puts seen a c) (sym (output_split (player makes) p q xs x ys before ∙ ap (λ t. (bytes_output (player makes) (Ok p) xs ++ byte_output (player makes) q x) ++ bytes_output (player makes) t ys) here
      ∙ ap (λ (t : List Piece). (bytes_output (player makes) (Ok p) xs ++ byte_output (player makes) q x) ++ t) (bytes_output-bad (player makes) bad ys) ∙ append-nil _))
      (puts_trans seen a b c _ _ wrote more),
)
StopsAt-more makes seen (stops.Fault fault) p q xs x ys a b c before wrote some =
    subst (PutsPart seen a c) (sym (output_split (player makes) p q xs x ys before)) (part_first seen a c _ _ (part_then seen a b c _ _ wrote some))

-- up to a place, the element there, and the rest
pub cut_at : (xs : List ℕ) (i : ℕ) → i < length xs → xs ≡ take i xs ++ get_or xs i 0 ∷ drop (i + 1) xs
cut_at xs i within = sym (take-append-drop (i + 1) xs) ∙ ap (λ (t : List ℕ). t ++ drop (i + 1) xs) (take_more xs i 0 within) ∙ append_assoc (take i xs) (get_or xs i 0 ∷ []) (drop (i + 1) xs)

-- the work stops at the byte at a place
pub StopsAt-at : (makes : Call → Bool) {W : Type 0} (seen : Seen W) (stop : Stop) (p q : Progress Played) (bs : List ℕ) (i : ℕ) (a b c : Outside W) → i < length bs →
    after_bytes (player makes) (Ok p) (take i bs) ≡ Ok q → Puts seen a b (bytes_output (player makes) (Ok p) (take i bs)) → StopsAt seen stop (after_byte (player makes) q (get_or bs i 0)) b c (byte_output (player makes) q (get_or bs i 0)) →
    StopsAt seen stop (after_bytes (player makes) (Ok p) bs) a c (bytes_output (player makes) (Ok p) bs)
StopsAt-at makes seen stop p q bs i a b c within before wrote here =
    subst (λ (xs : List ℕ). StopsAt seen stop (after_bytes (player makes) (Ok p) xs) a c (bytes_output (player makes) (Ok p) xs)) (sym (cut_at bs i within))
    (StopsAt-more makes seen stop p q (take i bs) (get_or bs i 0) (drop (i + 1) bs) a b c before wrote here)

-- the byte at a place is taken
pub after_bytes-at : {S : Type 0} (E : Engine S) (p q r : Progress S) (bs : List ℕ) (i : ℕ) → i < length bs →
    after_bytes E (Ok p) (take i bs) ≡ Ok q → after_byte E q (get_or bs i 0) ≡ Ok r → after_bytes E (Ok p) (take (i + 1) bs) ≡ Ok r
after_bytes-at E p q r bs i within before here =
    ap (after_bytes E (Ok p)) (take_more bs i 0 within) ∙ after_bytes-more E p q r (take i bs) (get_or bs i 0) before here

pub puts-at : {S W : Type 0} (seen : Seen W) (E : Engine S) (p q : Progress S) (bs : List ℕ) (i : ℕ) (a b c : Outside W) → i < length bs →
    after_bytes E (Ok p) (take i bs) ≡ Ok q → Puts seen a b (bytes_output E (Ok p) (take i bs)) → Puts seen b c (byte_output E q (get_or bs i 0)) →
    Puts seen a c (bytes_output E (Ok p) (take (i + 1) bs))
puts-at seen E p q bs i a b c within before wrote here =
    subst (Puts seen a c) (sym (ap (bytes_output E (Ok p)) (take_more bs i 0 within) ∙ bytes_output-more E p q (take i bs) (get_or bs i 0) before))
    (puts_trans seen a b c _ _ wrote here)

-- what the bytes before gave, and the rest
output_then : {S : Type 0} (E : Engine S) (p q : Progress S) (xs ys : List ℕ) → after_bytes E (Ok p) xs ≡ Ok q → bytes_output E (Ok p) (xs ++ ys) ≡ bytes_output E (Ok p) xs ++ bytes_output E (Ok q) ys
output_then E p q xs ys before = bytes_output-append E (Ok p) xs ys ∙ ap (λ t. bytes_output E (Ok p) xs ++ bytes_output E t ys) before

after_then : {S : Type 0} (E : Engine S) (p q : Progress S) (xs ys : List ℕ) → after_bytes E (Ok p) xs ≡ Ok q → after_bytes E (Ok p) (xs ++ ys) ≡ after_bytes E (Ok q) ys
after_then E p q xs ys before = after_bytes-append E (Ok p) xs ys ∙ ap (λ t. after_bytes E t ys) before

StopsAt-then : (makes : Call → Bool) {W : Type 0} (seen : Seen W) (stop : Stop) (p q : Progress Played) (xs ys : List ℕ) (a b c : Outside W) →
    after_bytes (player makes) (Ok p) xs ≡ Ok q → Puts seen a b (bytes_output (player makes) (Ok p) xs) → StopsAt seen stop (after_bytes (player makes) (Ok q) ys) b c (bytes_output (player makes) (Ok q) ys) →
    StopsAt seen stop (after_bytes (player makes) (Ok p) (xs ++ ys)) a c (bytes_output (player makes) (Ok p) (xs ++ ys))
StopsAt-then makes seen (stops.Bad bad) p q xs ys a b c before wrote (here, more) =
    (after_then (player makes) p q xs ys before ∙ here, subst (Puts seen a c) (sym (output_then (player makes) p q xs ys before)) (puts_trans seen a b c _ _ wrote more))
StopsAt-then makes seen (stops.Fault fault) p q xs ys a b c before wrote some = subst (PutsPart seen a c) (sym (output_then (player makes) p q xs ys before)) (part_then seen a b c _ _ wrote some)

-- so many bytes from a place on are taken
pub after_bytes-from : {S : Type 0} (E : Engine S) (p q r : Progress S) (bs : List ℕ) (i n : ℕ) →
    after_bytes E (Ok p) (take i bs) ≡ Ok q → after_bytes E (Ok q) (take n (take (length bs - i) (drop i bs))) ≡ Ok r → after_bytes E (Ok p) (take (i + n) bs) ≡ Ok r
after_bytes-from E p q r bs i n before here =
    ap (after_bytes E (Ok p)) (take-add i n bs) ∙ after_then E p q (take i bs) (take n (drop i bs)) before ∙ ap (λ (xs : List ℕ). after_bytes E (Ok q) (take n xs)) (sym (take_rest bs i)) ∙ here

pub puts-from : {S W : Type 0} (seen : Seen W) (E : Engine S) (p q : Progress S) (bs : List ℕ) (i n : ℕ) (a b c : Outside W) →
    after_bytes E (Ok p) (take i bs) ≡ Ok q → Puts seen a b (bytes_output E (Ok p) (take i bs)) → Puts seen b c (bytes_output E (Ok q) (take n (take (length bs - i) (drop i bs)))) →
    Puts seen a c (bytes_output E (Ok p) (take (i + n) bs))
puts-from seen E p q bs i n a b c before wrote here =
    subst (Puts seen a c)
    (sym (ap (bytes_output E (Ok p)) (take-add i n bs) ∙ output_then E p q (take i bs) (take n (drop i bs)) before ∙ ap (λ (xs : List ℕ). bytes_output E (Ok p) (take i bs) ++ bytes_output E (Ok q) (take n xs)) (sym (take_rest bs i))))
    (puts_trans seen a b c _ _ wrote here)

-- the work stops in the bytes from a place on
pub StopsAt-from : (makes : Call → Bool) {W : Type 0} (seen : Seen W) (stop : Stop) (p q : Progress Played) (bs : List ℕ) (i : ℕ) (a b c : Outside W) →
    after_bytes (player makes) (Ok p) (take i bs) ≡ Ok q → Puts seen a b (bytes_output (player makes) (Ok p) (take i bs)) →
    StopsAt seen stop (after_bytes (player makes) (Ok q) (take (length bs - i) (drop i bs))) b c (bytes_output (player makes) (Ok q) (take (length bs - i) (drop i bs))) →
    StopsAt seen stop (after_bytes (player makes) (Ok p) bs) a c (bytes_output (player makes) (Ok p) bs)
StopsAt-from makes seen stop p q bs i a b c before wrote here =
    subst (λ (xs : List ℕ). StopsAt seen stop (after_bytes (player makes) (Ok p) xs) a c (bytes_output (player makes) (Ok p) xs)) (take-append-drop i bs)
    (StopsAt-then makes seen stop p q (take i bs) (drop i bs) a b c before wrote
    (subst (λ (xs : List ℕ). StopsAt seen stop (after_bytes (player makes) (Ok q) xs) b c (bytes_output (player makes) (Ok q) xs)) (take_rest bs i) here))

-- a line feed gives what its line gives
pub record IsFed {S : Type 0} (E : Engine S) (p m : Progress S) (b : ℕ) : Type 0 where
  pub after : after_byte E p b ≡ after_line E m
  pub output : byte_output E p b ≡ line_output E m

pub is_fed : {S : Type 0} (E : Engine S) (q n : Progress (Unit {0})) (engine : Option S) (p : Progress S) (b : ℕ) (ends : Bool) → taken_by q engine ≡ p → ends ≡ true → byte_refused q b ≡ None → (b == 10) ≡ ends → n ≡ byte_taken q b ends → IsFed E p (taken_by n engine) b
is_fed E q n engine p b false is ended good feed taken = absurd (cc)
is_fed E q n engine p b true is ended good feed taken = record {
  after = ap (λ (x : Progress _). after_byte E x b) (sym is) ∙ ap (after_good_byte E (taken_by q engine) b) good ∙ rw (feed, taken) refl;
  output = ap (λ (x : Progress _). byte_output E x b) (sym is) ∙ ap (good_byte_output E (taken_by q engine) b) good ∙ rw (feed, taken) refl;
}

pub fed_took : (makes : Call → Bool) {T W : Type 0} (seen : Seen W) (r : Result T Stop) (p m now : Progress Played) (old new : Outside W) (b : ℕ) → IsFed (player makes) p m b →
    Took seen r (after_line (player makes) m) now old new (line_output (player makes) m) → Took seen r (after_byte (player makes) p b) now old new (byte_output (player makes) p b)
fed_took makes seen r p m now old new b fed took =
    subst (λ verdict. Took seen r verdict now old new (byte_output (player makes) p b)) (sym fed.after)
    (subst (λ out. Took seen r (after_line (player makes) m) now old new out) (sym fed.output) took)
