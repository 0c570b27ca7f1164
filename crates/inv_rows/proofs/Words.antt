-- The words by which rows are known, after each operation.
use Rattle.std.proofs.Common.{ℕ, ◌≤◌, ◌+◌, ◌<◌, ◌/◌, ◌%◌, ◌≡◌, ◌≢◌, Bool, true, false, arith, refl, ap, ◌∙◌, sym, bit_and, bit_or}
use Rattle.std.proofs.lemmas.Bool.Decides.{nat_tests}
use Rattle.std.specs.Prelude.{◌==◌, nat_le, if◌then◌else◌}
use Rattle.std.specs.Int.{bit_at}
use Rattle.wfe_core.specs.words.Place.{Place, same, claim_mask, claim_others}
use Rattle.wfe_core.specs.words.Place.Place.{Clock, Helper, Index, Interval, Request, Bucket, Head, Tail, Claim, Life, Row, PlaceOf}
use Rattle.wfe_core.specs.words.Packed.{life_word}
use Rattle.wfe_core.proofs.words.Claims.{claimed_same, claimed_other, freed_same, freed_other, bits_apart}
use Rattle.wfe_core.proofs.words.Places.{same_one}
use Rattle.wfe_core.specs.Memory.{Move, Load, Store, Cas, Or, And, place_in, change, written, put}
use Rattle.inv_rows.specs.Rows.{Hand, Status, View, set_status, set_hand, made, passed}
use Rattle.inv_rows.specs.Rows.Status.{Free, Claimed, Born, Linked, InQueue, Cut, Sealed}
use Rattle.inv_rows.specs.Rows.RowMove.{Claims, Bears, Drops, Links, Replaces, Appends, Pops, Seals, Lists, Returns, Adopts}
use Rattle.inv_rows.specs.Agree.{Words, claim_of, bit_of}
use Rattle.inv_rows.proofs.Made.{passed_taken, passed_life, passed_retire}

-- a place by which rows are known
abbrev pub is_rowish : Place → Bool
is_rowish Clock = false
is_rowish (Helper seat) = false
is_rowish (Index seat index) = false
is_rowish (Interval seat) = false
is_rowish (Request seat) = false
is_rowish (Bucket bucket) = true
is_rowish Head = true
is_rowish Tail = false
is_rowish (Claim word) = true
is_rowish (Life slot) = true
is_rowish (Row slot place) = false
is_rowish (PlaceOf seat) = false

-- an operation that may change such a word
abbrev pub is_writing : Move → Bool
is_writing (Load place) = false
is_writing (Store place value) = is_rowish place
is_writing (Cas place old new) = is_rowish place
is_writing (Or place bits) = is_rowish place
is_writing (And place bits) = is_rowish place

bucket_apart : (b : ℕ) (p : Place) → is_rowish p ≡ false → same (Bucket b) p ≡ false
bucket_apart b Clock h = refl
bucket_apart b (Helper i) h = refl
bucket_apart b (Index i j) h = refl
bucket_apart b (Interval i) h = refl
bucket_apart b (Request i) h = refl
bucket_apart b (Bucket c) h = cc
bucket_apart b Head h = cc
bucket_apart b Tail h = refl
bucket_apart b (Claim v) h = cc
bucket_apart b (Life t) h = cc
bucket_apart b (Row t q) h = refl
bucket_apart b (PlaceOf i) h = refl

head_apart : (p : Place) → is_rowish p ≡ false → same Head p ≡ false
head_apart Clock h = refl
head_apart (Helper i) h = refl
head_apart (Index i j) h = refl
head_apart (Interval i) h = refl
head_apart (Request i) h = refl
head_apart (Bucket c) h = cc
head_apart Head h = cc
head_apart Tail h = refl
head_apart (Claim v) h = cc
head_apart (Life t) h = cc
head_apart (Row t q) h = refl
head_apart (PlaceOf i) h = refl

claim_apart : (w : ℕ) (p : Place) → is_rowish p ≡ false → same (Claim w) p ≡ false
claim_apart w Clock h = refl
claim_apart w (Helper i) h = refl
claim_apart w (Index i j) h = refl
claim_apart w (Interval i) h = refl
claim_apart w (Request i) h = refl
claim_apart w (Bucket c) h = cc
claim_apart w Head h = cc
claim_apart w Tail h = refl
claim_apart w (Claim v) h = cc
claim_apart w (Life t) h = cc
claim_apart w (Row t q) h = refl
claim_apart w (PlaceOf i) h = refl

life_apart : (s : ℕ) (p : Place) → is_rowish p ≡ false → same (Life s) p ≡ false
life_apart s Clock h = refl
life_apart s (Helper i) h = refl
life_apart s (Index i j) h = refl
life_apart s (Interval i) h = refl
life_apart s (Request i) h = refl
life_apart s (Bucket c) h = cc
life_apart s Head h = cc
life_apart s Tail h = refl
life_apart s (Claim v) h = cc
life_apart s (Life t) h = cc
life_apart s (Row t q) h = refl
life_apart s (PlaceOf i) h = refl

pub put_other : (mem : Place → ℕ) (p q : Place) (value : ℕ) → same q p ≡ false → put mem p value q ≡ mem q
put_other mem p q value h = rw h refl

pub put_back : (mem : Place → ℕ) (p q : Place) → put mem p (mem p) q ≡ mem q
put_back mem p q = by_same (same q p) refl
  where
    by_same : (b : Bool) → same q p ≡ b → put mem p (mem p) q ≡ mem q
    by_same true e = rw e (ap mem (sym (same_one q p e)))
    by_same false e = rw e refl

written_other : (mem : Place → ℕ) (m : Move) (q : Place) → (is_writing m ≡ false → (p : Place) → p ≡ place_in m → is_rowish p ≡ false → same q p ≡ false) → is_writing m ≡ false → written mem m q ≡ mem q
written_other mem (Load place) q f h = refl
written_other mem (Store place value) q f h = put_other mem place q value (f h place refl h)
written_other mem (Cas place old new) q f h = put_other mem place q (change (Cas place old new) (mem place)) (f h place refl h)
written_other mem (Or place bits) q f h = put_other mem place q (bit_or (mem place) bits) (f h place refl h)
written_other mem (And place bits) q f h = put_other mem place q (bit_and (mem place) bits) (f h place refl h)

-- an operation on another place leaves them
abbrev Apart : Place → Type 0
Apart q = (p : Place) → is_rowish p ≡ false → same q p ≡ false

plain_other : (mem : Place → ℕ) (m : Move) (q : Place) → Apart q → is_writing m ≡ false → written mem m q ≡ mem q
plain_other mem m q f h = written_other mem m q (λ k p e r. f p r) h

pub words_plain : (slots : ℕ) (mem : Place → ℕ) (v : View) (m : Move) → is_writing m ≡ false → Words slots mem v → Words slots (written mem m) v
words_plain slots mem v m h w = record {
  claims = λ s e. ap (λ (x : ℕ). bit_at x (s % 64)) (plain_other mem m (Claim (s / 64)) (claim_apart (s / 64)) h) ∙ w.claims s e;
  lives = λ s e. plain_other mem m (Life s) (life_apart s) h ∙ w.lives s e;
  roots = λ b. plain_other mem m (Bucket b) (bucket_apart b) h ∙ w.roots b;
  head = plain_other mem m Head head_apart h ∙ w.head;
}

-- an exchange that fails leaves all words
pub missed : (mem : Place → ℕ) (p q : Place) (old new : ℕ) → (mem p == old) ≡ false → written mem (Cas p old new) q ≡ mem q
missed mem p q old new h = rw h (put_back mem p q)

pub words_missed : (slots : ℕ) (mem : Place → ℕ) (v : View) (p : Place) (old new : ℕ) → (mem p == old) ≡ false → Words slots mem v → Words slots (written mem (Cas p old new)) v
words_missed slots mem v p old new h w = record {
  claims = λ s e. ap (λ (x : ℕ). bit_at x (s % 64)) (missed mem p (Claim (s / 64)) old new h) ∙ w.claims s e;
  lives = λ s e. missed mem p (Life s) old new h ∙ w.lives s e;
  roots = λ b. missed mem p (Bucket b) old new h ∙ w.roots b;
  head = missed mem p Head old new h ∙ w.head;
}

-- a claim bit is set, or cleared, and the others stay
or_bit : (mem : Place → ℕ) (t s : ℕ) → bit_at (put mem (Claim (t / 64)) (bit_or (mem (Claim (t / 64))) (claim_mask t)) (Claim (s / 64))) (s % 64) ≡ (if s == t then 1 else bit_at (mem (Claim (s / 64))) (s % 64))
or_bit mem t s = by_word (s / 64 == t / 64) refl (s == t) refl
  where
    by_word : (b : Bool) → (s / 64 == t / 64) ≡ b → (d : Bool) → (s == t) ≡ d → bit_at (put mem (Claim (t / 64)) (bit_or (mem (Claim (t / 64))) (claim_mask t)) (Claim (s / 64))) (s % 64) ≡ (if s == t then 1 else bit_at (mem (Claim (s / 64))) (s % 64))
    by_word true e true d = let same : s ≡ t = grind (arith, nat_tests) in rw (e, d) (rw same (claimed_same (mem (Claim (t / 64))) t))
    by_word true e false d = let there : s / 64 ≡ t / 64 = grind (arith, nat_tests) in let other : s ≢ t = (λ z. grind (arith, nat_tests)) in rw (e, d) (rw there (claimed_other (mem (Claim (t / 64))) t (s % 64) (bits_apart s t there other)))
    by_word false e true d = absurd (grind (arith, nat_tests))
    by_word false e false d = rw (e, d) refl

and_bit : (mem : Place → ℕ) (t s : ℕ) → bit_at (put mem (Claim (t / 64)) (bit_and (mem (Claim (t / 64))) (claim_others t)) (Claim (s / 64))) (s % 64) ≡ (if s == t then 0 else bit_at (mem (Claim (s / 64))) (s % 64))
and_bit mem t s = by_word (s / 64 == t / 64) refl (s == t) refl
  where
    by_word : (b : Bool) → (s / 64 == t / 64) ≡ b → (d : Bool) → (s == t) ≡ d → bit_at (put mem (Claim (t / 64)) (bit_and (mem (Claim (t / 64))) (claim_others t)) (Claim (s / 64))) (s % 64) ≡ (if s == t then 0 else bit_at (mem (Claim (s / 64))) (s % 64))
    by_word true e true d = let same : s ≡ t = grind (arith, nat_tests) in rw (e, d) (rw same (freed_same (mem (Claim (t / 64))) t))
    by_word true e false d = let there : s / 64 ≡ t / 64 = grind (arith, nat_tests) in let other : s ≢ t = (λ z. grind (arith, nat_tests)) in let below : s % 64 < 64 = omega arith in rw (e, d) (rw there (freed_other (mem (Claim (t / 64))) t (s % 64) below (bits_apart s t there other)))
    by_word false e true d = absurd (grind (arith, nat_tests))
    by_word false e false d = rw (e, d) refl

-- a row's claim bit was set before: nothing changes
pub words_shown : (slots : ℕ) (mem : Place → ℕ) (v : View) (t : ℕ) → t ≤ slots → bit_at (mem (Claim (t / 64))) (t % 64) ≡ 1 → Words slots mem v → Words slots (written mem (Or (Claim (t / 64)) (claim_mask t))) v
words_shown slots mem v t below h w = record {
  claims = λ s e. or_bit mem t s ∙ grind (arith, nat_tests, w.claims s e, h);
  lives = w.lives;
  roots = w.roots;
  head = w.head;
}

-- a row is claimed
pub words_claims : (slots : ℕ) (mem : Place → ℕ) (v : View) (i t : ℕ) → t ≤ slots → Words slots mem v → Words slots (written mem (Or (Claim (t / 64)) (claim_mask t))) (made i v (Claims t))
words_claims slots mem v i t below w = record {
  claims = λ s e. or_bit mem t s ∙ grind (arith, nat_tests, w.claims s e);
  lives = λ s e. grind (arith, nat_tests, w.lives s);
  roots = w.roots;
  head = w.head;
}

-- a row becomes free
pub words_frees : (slots : ℕ) (mem : Place → ℕ) (v : View) (t : ℕ) → t ≤ slots → Words slots mem v → Words slots (written mem (And (Claim (t / 64)) (claim_others t))) (set_status v t Free)
words_frees slots mem v t below w = record {
  claims = λ s e. and_bit mem t s ∙ grind (arith, nat_tests, w.claims s e);
  lives = λ s e. grind (arith, nat_tests, w.lives s);
  roots = w.roots;
  head = w.head;
}

-- a row's lifetime is stored
pub words_bears : (slots : ℕ) (mem : Place → ℕ) (v : View) (i t birth : ℕ) → v.status t ≡ Claimed i → Words slots mem v → Words slots (written mem (Store (Life t) (life_word (record { birth = birth; retire = 0 })))) (made i v (Bears t birth))
words_bears slots mem v i t birth h w = record {
  claims = λ s e. grind (arith, nat_tests, w.claims s e);
  lives = λ s e. grind (arith, nat_tests, w.lives s);
  roots = w.roots;
  head = w.head;
}

-- its retire era is
pub words_lists : (slots : ℕ) (mem : Place → ℕ) (v : View) (i t birth retire : ℕ) → v.status t ≡ Sealed i retire → v.birth t ≡ birth → Words slots mem v → Words slots (written mem (Store (Life t) (life_word (record { birth = birth; retire = retire })))) (made i v (Lists t birth retire))
words_lists slots mem v i t birth retire h b w = record {
  claims = λ s e. grind (arith, nat_tests, w.claims s e);
  lives = λ s e. grind (arith, nat_tests, w.lives s);
  roots = w.roots;
  head = w.head;
}

-- a row that was cut gets its retire era
pub words_seals : (slots : ℕ) (mem : Place → ℕ) (v : View) (i t birth retire : ℕ) → v.status t ≡ Cut i → Words slots mem v → Words slots mem (made i v (Seals t birth retire))
words_seals slots mem v i t birth retire h w = record {
  claims = λ s e. grind (arith, nat_tests, w.claims s e);
  lives = λ s e. grind (arith, nat_tests, w.lives s);
  roots = w.roots;
  head = w.head;
}

-- a root is exchanged
pub words_links : (slots : ℕ) (mem : Place → ℕ) (v : View) (i b t link : ℕ) → (mem (Bucket b) == link) ≡ true → v.status t ≡ Born i → Words slots mem v → Words slots (written mem (Cas (Bucket b) link (t + 1))) (made i v (Links b t))
words_links slots mem v i b t link h e w = record {
  claims = λ s x. grind (arith, nat_tests, w.claims s x);
  lives = λ s x. grind (arith, nat_tests, w.lives s);
  roots = λ c. grind (arith, nat_tests, w.roots c);
  head = w.head;
}

pub words_replaces : (slots : ℕ) (mem : Place → ℕ) (v : View) (i b t old link : ℕ) → (mem (Bucket b) == link) ≡ true → v.status t ≡ Born i → v.status old ≡ Linked b → Words slots mem v → Words slots (written mem (Cas (Bucket b) link (t + 1))) (made i v (Replaces b t old))
words_replaces slots mem v i b t old link h e k w = record {
  claims = λ s x. grind (arith, nat_tests, w.claims s x);
  lives = λ s x. grind (arith, nat_tests, w.lives s);
  roots = λ c. grind (arith, nat_tests, w.roots c);
  head = w.head;
}

-- a row goes into the queue
pub words_appends : (slots : ℕ) (mem : Place → ℕ) (v : View) (i t tail : ℕ) → v.status t ≡ Born i → Words slots mem v → Words slots (written mem (Cas (Row tail 0) 0 (t + 1))) (made i v (Appends t))
words_appends slots mem v i t tail h w = record {
  claims = λ s x. grind (arith, nat_tests, w.claims s x);
  lives = λ s x. grind (arith, nat_tests, w.lives s);
  roots = w.roots;
  head = w.head;
}

-- the head is exchanged
pub words_pops : (slots : ℕ) (mem : Place → ℕ) (v : View) (i t next : ℕ) → (mem Head == t + 1) ≡ true → v.status t ≡ InQueue → Words slots mem v → Words slots (written mem (Cas Head (t + 1) (next + 1))) (made i v (Pops t next))
words_pops slots mem v i t next h e w = record {
  claims = λ s x. grind (arith, nat_tests, w.claims s x);
  lives = λ s x. grind (arith, nat_tests, w.lives s);
  roots = w.roots;
  head = grind (arith, nat_tests, w.head);
}

-- what is in hand does not bear on words
pub words_hand : (slots : ℕ) (mem : Place → ℕ) (v : View) (i : ℕ) (hand : Hand) → Words slots mem v → Words slots mem (set_hand v i hand)
words_hand slots mem v i hand w = record { claims = w.claims; lives = w.lives; roots = w.roots; head = w.head }

pub words_drops : (slots : ℕ) (mem : Place → ℕ) (v : View) (i t : ℕ) → t ≤ slots → Words slots mem v → Words slots (written mem (And (Claim (t / 64)) (claim_others t))) (made i v (Drops t))
words_drops slots mem v i t below w = let f = words_frees slots mem v t below w in record { claims = f.claims; lives = f.lives; roots = f.roots; head = f.head }

pub words_returns : (slots : ℕ) (mem : Place → ℕ) (v : View) (i t : ℕ) → t ≤ slots → Words slots mem v → Words slots (written mem (And (Claim (t / 64)) (claim_others t))) (made i v (Returns t))
words_returns slots mem v i t below w = let f = words_frees slots mem v t below w in record { claims = f.claims; lives = f.lives; roots = f.roots; head = f.head }

claim_passed : (slots from to : ℕ) (x : Status) (slot : ℕ) → claim_of slots (passed from to x) slot ≡ claim_of slots x slot
claim_passed slots from to x slot = ap (λ (taken : Bool). if nat_le slot slots then bit_of taken else 1) (passed_taken from to x)

-- a list changes hands
pub words_adopts : (slots : ℕ) (mem : Place → ℕ) (v : View) (i from : ℕ) → Words slots mem v → Words slots mem (made i v (Adopts from))
words_adopts slots mem v i from w = record {
  claims = λ s e. w.claims s e ∙ sym (claim_passed slots from i (v.status s) s);
  lives = λ s e. w.lives s (sym (passed_life from i (v.status s)) ∙ e) ∙ sym (ap (λ (r : ℕ). life_word (record { birth = v.birth s; retire = r })) (passed_retire from i (v.status s)));
  roots = w.roots;
  head = w.head;
}
