-- An operation on a list of words: which word it is on, what it answers, and what it leaves.
use Rattle.std.specs.Prelude.{ℕ, Bool, List, bit_and, bit_or, if◌then◌else◌, nat_lt, slice_index, slice_set, true, ◌<◌, ◌==◌, ◌^◌}
use Rattle.wfe_core.specs.declared.op.Op.{Op}
use Rattle.wfe_core.specs.declared.op.Op.TheVariants.{And, Cas, Load, Or, Store}

-- the number of the operation's word
abbrev pub word_in : Op → ℕ
word_in (Load word) = word
word_in (Store word value) = word
word_in (Cas word old new) = word
word_in (Or word bits) = word
word_in (And word bits) = word

-- what it answers of the word before it: that word, and 0 for a store
abbrev pub answer_of : Op → ℕ → ℕ
answer_of (Store word value) before = 0
answer_of (Load word) before = before
answer_of (Cas word old new) before = before
answer_of (Or word bits) before = before
answer_of (And word bits) before = before

-- what the word becomes
abbrev pub changed : Op → ℕ → ℕ
changed (Load word) before = before
changed (Store word value) before = value
changed (Cas word old new) before = if before == old then new else before
changed (Or word bits) before = bit_or before bits
changed (And word bits) before = bit_and before bits

-- what the operation answers of these words
abbrev pub answered : List ℕ → Op → ℕ
answered list op = answer_of op (slice_index list (word_in op))

-- the words after it: one is changed, and no other
abbrev pub performed : List ℕ → Op → List ℕ
performed list op = slice_set list (word_in op) (changed op (slice_index list (word_in op)))

-- what it may write has 64 bits; kept bits are no more than there were
abbrev pub writes_narrow : Op → Bool
writes_narrow (Load word) = true
writes_narrow (Store word value) = nat_lt value (2 ^ 64)
writes_narrow (Cas word old new) = nat_lt new (2 ^ 64)
writes_narrow (Or word bits) = nat_lt bits (2 ^ 64)
writes_narrow (And word bits) = true

-- each word of the list has 64 bits
abbrev pub IsNarrow : List ℕ → Type 0
IsNarrow list = (word : ℕ) → slice_index list word < 2 ^ 64
