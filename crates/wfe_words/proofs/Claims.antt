-- What setting and clearing a slot's claim bit does to the bits of a word.
use Rattle.std.proofs.Common.{arith, ◌≡◌, ◌≢◌, ◌<◌, ◌/◌, ◌%◌, ◌^◌, ℕ, bit_and, bit_or}
use Rattle.std.specs.Int.{bit_at, w64}
use Rattle.std.proofs.lemmas.Nat.{or_lt, and_le_l, pow_below}
use Rattle.std.proofs.lemmas.Nat.Bits.{bit_at_and, bit_at_or, bit_at-pow_same, bit_at-pow_other, bit_at_not, bit_at-lt}
use Rattle.wfe_words.specs.Place.{claim_mask, claim_others}

slot_bit : (slot : ℕ) → slot % 64 < 64
slot_bit slot = omega arith

pub claim_mask_below : (slot : ℕ) → claim_mask slot < 2 ^ 64
unfolding claim_mask
claim_mask_below slot = pow_below (slot % 64) 64 (slot_bit slot)

mask_own : (slot : ℕ) → bit_at (claim_mask slot) (slot % 64) ≡ 1
unfolding claim_mask
mask_own slot = bit_at-pow_same (slot % 64)

mask_other : (slot bit : ℕ) → bit ≢ slot % 64 → bit_at (claim_mask slot) bit ≡ 0
unfolding claim_mask
mask_other slot bit h = bit_at-pow_other (slot % 64) bit h

others_own : (slot : ℕ) → bit_at (claim_others slot) (slot % 64) ≡ 0
unfolding claim_others
others_own slot = let t = bit_at_not w64 (claim_mask slot) (slot % 64) (claim_mask_below slot) (slot_bit slot) in omega (arith, t, mask_own slot)

others_other : (slot bit : ℕ) → bit < 64 → bit ≢ slot % 64 → bit_at (claim_others slot) bit ≡ 1
unfolding claim_others
others_other slot bit b h = let t = bit_at_not w64 (claim_mask slot) bit (claim_mask_below slot) b in omega (arith, t, mask_other slot bit h)

-- after a fetch_or of a slot's bit
pub claimed_same : (word slot : ℕ) → bit_at (bit_or word (claim_mask slot)) (slot % 64) ≡ 1
claimed_same word slot = let t = bit_at_or word (claim_mask slot) (slot % 64) in omega (arith, t, mask_own slot, bit_at-lt word (slot % 64))

pub claimed_other : (word slot bit : ℕ) → bit ≢ slot % 64 → bit_at (bit_or word (claim_mask slot)) bit ≡ bit_at word bit
claimed_other word slot bit h = let t = bit_at_or word (claim_mask slot) bit in omega (arith, t, mask_other slot bit h)

pub claimed_below : (word slot : ℕ) → word < 2 ^ 64 → bit_or word (claim_mask slot) < 2 ^ 64
claimed_below word slot h = or_lt 64 word (claim_mask slot) h (claim_mask_below slot)

-- after a fetch_and of all bits but a slot's
pub freed_same : (word slot : ℕ) → bit_at (bit_and word (claim_others slot)) (slot % 64) ≡ 0
freed_same word slot = let t = bit_at_and word (claim_others slot) (slot % 64) in omega (arith, t, others_own slot)

pub freed_other : (word slot bit : ℕ) → bit < 64 → bit ≢ slot % 64 → bit_at (bit_and word (claim_others slot)) bit ≡ bit_at word bit
freed_other word slot bit b h = let t = bit_at_and word (claim_others slot) bit in omega (arith, t, others_other slot bit b h, bit_at-lt word bit)

pub freed_below : (word slot : ℕ) → word < 2 ^ 64 → bit_and word (claim_others slot) < 2 ^ 64
freed_below word slot h = omega (arith, and_le_l word (claim_others slot))

-- two slots of one claim word have two bits
pub bits_apart : (slot other : ℕ) → slot / 64 ≡ other / 64 → slot ≢ other → slot % 64 ≢ other % 64
bits_apart slot other e h = (λ g. h (omega arith))
