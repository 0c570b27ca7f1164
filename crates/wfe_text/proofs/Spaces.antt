-- The words of a line by the place of its first space.
use Rattle.std.proofs.Common.{◌≡◌, ◌≢◌, ◌<◌, ◌+◌, ◌==◌, ℕ, zero, suc, List, [], ◌∷◌, true, false, length, get_or, take, drop, refl, arith, add-one, if◌then◌else◌}
use Rattle.wfe_text.specs.Words.{words, onto_first}

other_byte : (b : ℕ) → b ≢ 32 → (b == 32) ≡ false
other_byte b other = grind arith

-- a line without a space is one word
pub words_no_space : (line : List ℕ) → ((k : ℕ) → k < length line → get_or line k 0 ≢ 32) → words line ≡ line ∷ []
words_no_space [] none = refl
words_no_space (b ∷ line) none =
    let first : (b == 32) ≡ false = other_byte b (none 0 (omega arith)) in
    let rest : words line ≡ line ∷ [] = words_no_space line (λ k l. none (suc k) (omega arith)) in
    rw (first, rest) refl

-- up to the first space stands the first word, and the others after it
pub words_at_space : (line : List ℕ) (i : ℕ) → i < length line → ((k : ℕ) → k < i → get_or line k 0 ≢ 32) → get_or line i 0 ≡ 32 → words line ≡ take i line ∷ words (drop (i + 1) line)
words_at_space [] i within none space = absurd (omega arith)
words_at_space (b ∷ line) zero within none space = rw space refl
words_at_space (b ∷ line) (suc i) within none space =
    let first : (b == 32) ≡ false = other_byte b (none 0 (omega arith)) in
    let rest : words line ≡ take i line ∷ words (drop (i + 1) line) = words_at_space line i (omega arith) (λ k l. none (suc k) (omega arith)) space in
    rw (first, rest) (rw (add-one, add-one) refl)

onto_some : (b : ℕ) (ws : List (List ℕ)) → 0 < length (onto_first b ws)
onto_some b [] = omega arith
onto_some b (w ∷ ws) = omega arith

-- there is a word, if an empty one
pub words_some : (line : List ℕ) → 0 < length (words line)
words_some [] = omega arith
words_some (b ∷ line) = elim (b == 32) as (λ t. 0 < length (if t then [] ∷ words line else onto_first b (words line))) [ true ↦ omega arith | false ↦ onto_some b (words line) ]
