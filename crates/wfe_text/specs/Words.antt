-- The words of a line, and the numbers among them.
use Rattle.std.specs.Prelude.{◌≡◌, ◌+◌, ◌-◌, ◌*◌, ◌<◌, ◌==◌, ◌&&◌, if◌then◌else◌, not, nat_lt, nat_le, fold, Bool, true, false, ℕ, List, [], ◌∷◌, Option, Some, None, length}
use Rattle.std.specs.List.{list_all}
use Rattle.wfe_text.specs.declared.words.Words.{Words}
use Rattle.wfe_text.specs.declared.words.Words.TheVariants.{One, Two, Three, Four, Five, More}

-- one more byte at the front of the first word
abbrev pub onto_first : ℕ → List (List ℕ) → List (List ℕ)
onto_first b [] = (b ∷ []) ∷ []
onto_first b (w ∷ ws) = (b ∷ w) ∷ ws

-- the words between single spaces; an empty word is a word
abbrev pub words : List ℕ → List (List ℕ)
words [] = [] ∷ []
words (b ∷ bs) = if b == 32 then [] ∷ words bs else onto_first b (words bs)

-- the words after the first
abbrev pub words_after : Option (List ℕ) → List (List ℕ)
words_after None = []
words_after (Some rest) = words rest

-- the words, where there are at most five
abbrev pub Shows : Words → List (List ℕ) → Type 0
Shows (One a) ws = ws ≡ a.now ∷ []
Shows (Two a b) ws = ws ≡ a.now ∷ b.now ∷ []
Shows (Three a b c) ws = ws ≡ a.now ∷ b.now ∷ c.now ∷ []
Shows (Four a b c d) ws = ws ≡ a.now ∷ b.now ∷ c.now ∷ d.now ∷ []
Shows (Five a b c d e) ws = ws ≡ a.now ∷ b.now ∷ c.now ∷ d.now ∷ e.now ∷ []
Shows More ws = 5 < length ws

abbrev pub is_digit : ℕ → Bool
is_digit c = nat_le 48 c && nat_le c 57

-- the number that decimal digits write
abbrev pub value_of : List ℕ → ℕ
value_of digits = fold (λ n c. 10 * n + (c - 48)) 0 digits

-- the number that a word of decimal digits writes, where it has 64 bits
abbrev pub digits_in : List ℕ → Option ℕ
digits_in w = if list_all is_digit w && nat_lt (value_of w) 18446744073709551616 then Some (value_of w) else None

-- a word, and no 0 before another byte
abbrev pub is_shortest : List ℕ → Bool
is_shortest [] = false
is_shortest (c ∷ []) = true
is_shortest (c ∷ d ∷ ds) = not (c == 48)

-- the number of 64 bits that a word writes in its shortest form
abbrev pub number_in : List ℕ → Option ℕ
number_in w = if is_shortest w then digits_in w else None
