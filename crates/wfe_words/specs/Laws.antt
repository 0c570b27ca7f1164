-- What packed words and word numbers owe.
use Rattle.std.specs.Int.{bit_at}
use Rattle.std.specs.Prelude.{Bool, IsTrue, None, Option, Some, if◌then◌else◌, ℕ, ◌%◌, ◌*◌, ◌+◌, ◌/◌, ◌<◌, ◌==◌, ◌^◌, ◌≡◌, ◌≢◌, ◌↔◌}
use Rattle.wfe_words.specs.Packed.{high_half, kind_of, low_half, spare_bits}
use Rattle.wfe_words.specs.Place.{Place, has, number, start_at, start_of, words}
use Rattle.wfe_words.specs.Place.Place.{Claim, Life}
use Rattle.wfe_words.specs.declared.layout.Layout.{Layout}
use Rattle.wfe_words.specs.declared.packed.Life.{Life as LifeValue}
use Rattle.wfe_words.specs.declared.packed.Request.{Request}

-- values that fit are words of 64 bits, one each, and are read back from them; every other word is refused
pub record IsCodec {A : Type 0} (fits : A → Bool) (word_of : A → ℕ) (read : ℕ → Option A) : Type 0 where
  pub within : (value : A) → IsTrue (fits value) → word_of value < 2 ^ 64
  pub read_back : (value : A) → IsTrue (fits value) → read (word_of value) ≡ Some value
  pub refused : (word : ℕ) → word < 2 ^ 64 → (read word ≡ None) ↔ ((value : A) → IsTrue (fits value) → word_of value ≢ word)
  pub fitting : (word : ℕ) (value : A) → word < 2 ^ 64 → read word ≡ Some value → IsTrue (fits value)
  pub packed_back : (word : ℕ) (value : A) → word < 2 ^ 64 → read word ≡ Some value → word_of value ≡ word
  pub one : (value other : A) → IsTrue (fits value) → IsTrue (fits other) → word_of value ≡ word_of other → value ≡ other

-- the places of a table and the numbers below its size are in one-to-one correspondence, and few enough for 26 bits
pub record IsNumbering (layout : Layout) (at : ℕ → Place) : Type 0 where
  pub below : (place : Place) → IsTrue (has layout place) → number layout place < words layout
  pub apart : (place other : Place) → IsTrue (has layout place) → IsTrue (has layout other) → number layout place ≡ number layout other → place ≡ other
  pub there : (word : ℕ) → word < words layout → IsTrue (has layout (at word))
  pub numbered : (word : ℕ) → word < words layout → number layout (at word) ≡ word
  pub found : (place : Place) → IsTrue (has layout place) → at (number layout place) ≡ place
  pub few : words layout < 2 ^ 26

-- the words start as their places do, in the claim words the bits of the dummy and of no row are set, and no other
pub record IsStart (layout : Layout) : Type 0 where
  pub starts : (place : Place) → IsTrue (has layout place) → start_at layout (number layout place) ≡ start_of layout place
  pub row_bits : (slot : ℕ) → IsTrue (has layout (Life slot)) → bit_at (start_of layout (Claim (slot / 64))) (slot % 64) ≡ (if slot == layout.config.slots then 1 else 0)
  pub other_bits : (word bit : ℕ) → IsTrue (has layout (Claim word)) → bit < 64 → layout.config.slots < word * 64 + bit → bit_at (start_of layout (Claim word)) bit ≡ 1

-- no request has kind 3, kind 0 and a bit set, or kind 2 and a bit of the six set or era 0
pub record RefusesRequests (read : ℕ → Option Request) : Type 0 where
  pub kind_3 : (word : ℕ) → kind_of word ≡ 3 → read word ≡ None
  pub kind_0 : (word : ℕ) → kind_of word ≡ 0 → word ≢ 0 → read word ≡ None
  pub stray_bit : (word : ℕ) → kind_of word ≡ 2 → spare_bits word ≢ 0 → read word ≡ None
  pub no_era : (word : ℕ) → kind_of word ≡ 2 → low_half word ≡ 0 → read word ≡ None

-- no lifetime has birth 0, or a retire era before the birth
pub record RefusesLives (read : ℕ → Option LifeValue) : Type 0 where
  pub no_birth : (word : ℕ) → high_half word ≡ 0 → read word ≡ None
  pub early : (word : ℕ) → 0 < low_half word → low_half word < high_half word → read word ≡ None
