-- Text of the form that a document has: elements with attributes, one within the other, and words.
use Rattle.std.specs.Prelude.{ℕ, ◌==◌, ◌&&◌, ◌||◌, not, nat_le, Bool, IsTrue, if◌then◌else◌, List, [], ◌∷◌, ◌++◌}
use Rattle.std.specs.Fmt.{decimal}
use Rattle.std.specs.List.{list_all}

-- a byte that stands for itself in words and in values: a line feed, or one that is seen, but for the four of the form
abbrev pub is_plain : ℕ → Bool
is_plain b = b == 10 || (nat_le 32 b && nat_le b 126 && not (b == 60) && not (b == 62) && not (b == 38) && not (b == 34))

abbrev pub all_plain : List ℕ → Bool
all_plain w = list_all is_plain w

-- the byte, or a question mark
abbrev pub plain_of : ℕ → ℕ
plain_of b = if is_plain b then b else 63

-- what an attribute says: words, or numbers with single spaces
pub data Value : Type 0 where
  Word : List ℕ → Value
  Numbers : List ℕ → Value

-- What an element holds, in order: nothing more; words, and what follows; or an element by its name, with its attributes, what it
-- holds, and what follows.
pub data Content : Type 0 where
  Nothing : Content
  Words : List ℕ → Content → Content
  Element : List ℕ → List (List ℕ × Value) → Content → Content → Content

-- The text of each, and what comes after it.

abbrev pub numbers_onto : List ℕ → List ℕ → List ℕ
numbers_onto [] after = after
numbers_onto (n ∷ []) after = decimal n ++ after
numbers_onto (n ∷ m ∷ more) after = decimal n ++ (32 ∷ numbers_onto (m ∷ more) after)

abbrev pub value_onto : Value → List ℕ → List ℕ
value_onto (Word w) after = w ++ after
value_onto (Numbers ns) after = numbers_onto ns after

abbrev pub attributes_onto : List (List ℕ × Value) → List ℕ → List ℕ
attributes_onto [] after = after
attributes_onto (a ∷ more) after = 32 ∷ (a.0 ++ (61 ∷ 34 ∷ value_onto a.1 (34 ∷ attributes_onto more after)))

abbrev pub onto : Content → List ℕ → List ℕ
onto Nothing after = after
onto (Words w rest) after = w ++ onto rest after
onto (Element name attributes inner rest) after = 60 ∷ (name ++ attributes_onto attributes (62 ∷ onto inner (60 ∷ 47 ∷ (name ++ (62 ∷ onto rest after)))))

-- No word and no value has a byte of the form in it, so the text can be taken apart in one way.

abbrev pub PlainValue : Value → Type 0
PlainValue (Word w) = IsTrue (all_plain w)
PlainValue (Numbers ns) = Unit {0}

abbrev pub PlainAttributes : List (List ℕ × Value) → Type 0
PlainAttributes [] = Unit {0}
PlainAttributes (a ∷ more) = PlainValue a.1 × PlainAttributes more

abbrev pub Plain : Content → Type 0
Plain Nothing = Unit {0}
Plain (Words w rest) = IsTrue (all_plain w) × Plain rest
Plain (Element name attributes inner rest) = PlainAttributes attributes × Plain inner × Plain rest
