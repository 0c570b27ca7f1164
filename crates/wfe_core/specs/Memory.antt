-- Operations by place, and what they do to the words.
use Rattle.std.specs.Prelude.{ℕ, ◌==◌, if◌then◌else◌, nat_lt, ◌+◌, bit_and, bit_or}
use Rattle.wfe_words.specs.Place.{Place, same, number}
use Rattle.wfe_words.specs.declared.layout.Layout.{Layout}
use Rattle.wfe_core.specs.declared.op.Op.{Op}
use Rattle.wfe_core.specs.declared.op.Op.TheVariants as ops

-- an operation on the word of a place
pub data Move : Type 0 where
  Load : Place → Move
  Store : Place → (value : ℕ) → Move
  Cas : Place → (old : ℕ) → (new : ℕ) → Move
  Or : Place → (bits : ℕ) → Move
  And : Place → (bits : ℕ) → Move

-- the place of an operation's word
abbrev pub place_in : Move → Place
place_in (Load place) = place
place_in (Store place value) = place
place_in (Cas place old new) = place
place_in (Or place bits) = place
place_in (And place bits) = place

-- what the word becomes
abbrev pub change : Move → ℕ → ℕ
change (Load place) word = word
change (Store place value) word = value
change (Cas place old new) word = if word == old then new else word
change (Or place bits) word = bit_or word bits
change (And place bits) word = bit_and word bits

-- what the operation answers: the word before it, and 0 for a store
abbrev pub found : Move → ℕ → ℕ
found (Load place) word = word
found (Store place value) word = 0
found (Cas place old new) word = word
found (Or place bits) word = word
found (And place bits) word = word

-- the operation on the word of the place's number
abbrev pub numbered : Layout → Move → Op
numbered layout (Load place) = ops.Load (number layout place)
numbered layout (Store place value) = ops.Store (number layout place) value
numbered layout (Cas place old new) = ops.Cas (number layout place) old new
numbered layout (Or place bits) = ops.Or (number layout place) bits
numbered layout (And place bits) = ops.And (number layout place) bits

-- a function with another value at one number
abbrev pub upd : {A : Type 0} → (ℕ → A) → ℕ → A → ℕ → A
upd f i v k = if k == i then v else f k

-- the words with another value at one place
abbrev pub put : (Place → ℕ) → Place → ℕ → Place → ℕ
put mem place value other = if same other place then value else mem other

-- the words after an operation
abbrev pub written : (Place → ℕ) → Move → Place → ℕ
written mem (Load place) = mem
written mem (Store place value) = put mem place value
written mem (Cas place old new) = put mem place (change (Cas place old new) (mem place))
written mem (Or place bits) = put mem place (bit_or (mem place) bits)
written mem (And place bits) = put mem place (bit_and (mem place) bits)

-- a count that stops at the greatest u64
abbrev pub bump : ℕ → ℕ
bump n = if nat_lt n 18446744073709551615 then n + 1 else n
