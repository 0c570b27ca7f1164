-- What stands before and after a byte, and the words of a line by the place of its first space.
use Rattle.std.proofs.Common.{◌≡◌, ◌≢◌, ◌<◌, ◌+◌, ◌==◌, ℕ, zero, suc, List, [], ◌∷◌, ◌++◌, Option, Some, None, true, false, length, get_or, take, drop, refl, ap, arith, add-one, Bool, if◌then◌else◌}
use Rattle.std.proofs.lemmas.Bool.Decides.{nat_tests}
use Rattle.std.proofs.lemmas.Grind.{common_steps}
use Rattle.wfe_trace.specs.Words.{words, words_after, onto_first}
use Rattle.wfe_trace.proofs.Decimals.{lacks}
use Rattle.wfe_record_words.specs.Reader.{cut, cut_more, is_over}

other_byte : (b c : ℕ) → c ≢ b → (c == b) ≡ false
other_byte b c other = grind arith

pub cut_none : (b : ℕ) (line : List ℕ) → ((k : ℕ) → k < length line → get_or line k 0 ≢ b) → cut b line ≡ (line, None)
cut_none b [] none = refl
cut_none b (c ∷ line) none =
    let first : (c == b) ≡ false = other_byte b c (none 0 (omega arith)) in
    let rest : cut b line ≡ (line, None) = cut_none b line (λ k l. none (suc k) (omega arith)) in
    rw (first, rest) refl

pub cut_at : (b : ℕ) (line : List ℕ) (i : ℕ) → i < length line → ((k : ℕ) → k < i → get_or line k 0 ≢ b) → get_or line i 0 ≡ b → cut b line ≡ (take i line, Some (drop (i + 1) line))
cut_at b [] i within none at = absurd (omega arith)
cut_at b (c ∷ line) zero within none at =
    let first : (c == b) ≡ true = grind arith in
    rw first refl
cut_at b (c ∷ line) (suc i) within none at =
    let first : (c == b) ≡ false = other_byte b c (none 0 (omega arith)) in
    let rest : cut b line ≡ (take i line, Some (drop (i + 1) line)) = cut_at b line i (omega arith) (λ k l. none (suc k) (omega arith)) at in
    rw (first, rest) (rw (add-one, add-one) refl)

words-more : (at : Bool) (b : ℕ) (line : List ℕ) (parts : List ℕ × Option (List ℕ)) → words line ≡ parts.0 ∷ words_after parts.1
    → (if at then [] ∷ words line else onto_first b (words line)) ≡ (cut_more at b line parts).0 ∷ words_after (cut_more at b line parts).1
words-more true b line parts e = refl
words-more false b line parts e = rw e refl

-- the first word of a line stands before its first space, and the others after it
pub words_cut : (line : List ℕ) → words line ≡ (cut 32 line).0 ∷ words_after (cut 32 line).1
words_cut [] = refl
words_cut (b ∷ line) = words-more (b == 32) b line (cut 32 line) (words_cut line)

-- so a line has a word, if an empty one
pub words_left : (line : List ℕ) → is_over (words line) ≡ false
words_left line = rw (words_cut line) refl

pub ruleset word_steps = (words_cut, words_left, common_steps)

more : (at : Bool) (b c : ℕ) (line after : List ℕ) (parts : List ℕ × Option (List ℕ)) → (c == b) ≡ at → (parts.1 ≡ Some after → line ≡ parts.0 ++ b ∷ after)
    → (cut_more at c line parts).1 ≡ Some after → c ∷ line ≡ (cut_more at c line parts).0 ++ b ∷ after
more true b c line after parts e later h =
    let first : c ≡ b = grind (arith, nat_tests) in
    let others : line ≡ after = cc in
    rw (first, others) refl
more false b c line after parts e later h = ap (λ t. c ∷ t) (later h)

-- a text that was cut is its parts, with the byte between them
pub cut_parts : (b : ℕ) (line after : List ℕ) → (cut b line).1 ≡ Some after → line ≡ (cut b line).0 ++ b ∷ after
cut_parts b [] after h = absurd (cc)
cut_parts b (c ∷ line) after h = more (c == b) b c line after (cut b line) refl (cut_parts b line after) h

-- the parts of a text are found again, where the first lacks the byte
pub cut-apart : (b : ℕ) (w v : List ℕ) → lacks b w ≡ true → cut b (w ++ b ∷ v) ≡ (w, Some v)
cut-apart b [] v none = grind (arith, nat_tests)
cut-apart b (c ∷ w) v none = grind (arith, nat_tests, cut-apart b w v)
