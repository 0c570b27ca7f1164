-- Which places are one, and what a place has at the start.
use Rattle.std.proofs.Common.{arith, refl, ap, ◌≡◌, ◌<◌, ◌+◌, ◌*◌, ◌/◌, ◌%◌, ℕ, true}
use Rattle.std.specs.Prelude.{if◌then◌else◌, nat_lt, ◌==◌}
use Rattle.std.specs.Int.{bit_at}
use Rattle.std.proofs.lemmas.Bool.Decides.{nat_tests}
use Rattle.std.proofs.lemmas.Nat.Bits.{bit_at_mask_inside, bit_at_mask_below, bit_at-zero}
use Rattle.wfe_words.specs.declared.layout.Layout.{Layout}
use Rattle.wfe_words.specs.Place.{Place, same, has, claim_start, claim_mask, claim_words}
use Rattle.wfe_words.specs.Place.Place.{Clock, Helper, Index, Interval, Request, Bucket, Head, Tail, Claim, Life, Row, PlaceOf}

pub same_self : (p : Place) → same p p ≡ true
same_self Clock = refl
same_self (Helper i) = grind (arith, nat_tests)
same_self (Index i j) = grind (arith, nat_tests)
same_self (Interval i) = grind (arith, nat_tests)
same_self (Request i) = grind (arith, nat_tests)
same_self (Bucket i) = grind (arith, nat_tests)
same_self Head = refl
same_self Tail = refl
same_self (Claim i) = grind (arith, nat_tests)
same_self (Life i) = grind (arith, nat_tests)
same_self (Row i j) = grind (arith, nat_tests)
same_self (PlaceOf i) = grind (arith, nat_tests)

pub same_one : (p q : Place) → same p q ≡ true → p ≡ q
same_one Clock Clock e = refl
same_one (Helper i) (Helper k) e = let h : i ≡ k = grind (arith, nat_tests) in ap Helper h
same_one (Index i j) (Index k l) e = let h : i ≡ k = grind (arith, nat_tests) in let g : j ≡ l = grind (arith, nat_tests) in cc
same_one (Interval i) (Interval k) e = let h : i ≡ k = grind (arith, nat_tests) in ap Interval h
same_one (Request i) (Request k) e = let h : i ≡ k = grind (arith, nat_tests) in ap Request h
same_one (Bucket i) (Bucket k) e = let h : i ≡ k = grind (arith, nat_tests) in ap Bucket h
same_one Head Head e = refl
same_one Tail Tail e = refl
same_one (Claim i) (Claim k) e = let h : i ≡ k = grind (arith, nat_tests) in ap Claim h
same_one (Life i) (Life k) e = let h : i ≡ k = grind (arith, nat_tests) in ap Life h
same_one (Row i j) (Row k l) e = let h : i ≡ k = grind (arith, nat_tests) in let g : j ≡ l = grind (arith, nat_tests) in cc
same_one (PlaceOf i) (PlaceOf k) e = let h : i ≡ k = grind (arith, nat_tests) in ap PlaceOf h
same_one _ _ e = cc

-- at the start the claim bits of the rows are clear, but the dummy's is set, and so is each bit of no row
pub claim_start_bit : (layout : Layout) (word bit : ℕ) → word < claim_words layout → bit < 64 → bit_at (claim_start layout word) bit ≡ (if nat_lt (word * 64 + bit) layout.config.slots then 0 else 1)
unfolding claim_start claim_mask
claim_start_bit layout word bit h g = grind (arith, nat_tests, bit_at_mask_inside (layout.config.slots % 64) 64 bit, bit_at_mask_below (layout.config.slots % 64) 64 bit, bit_at-zero bit)

-- where a word and a bit of it are the slot's
slot_there : (slots slot : ℕ) → slot < slots + 1 → slot / 64 < (slots + 64) / 64
slot_there slots slot h = omega arith

pub row_bit : (layout : Layout) (slot : ℕ) → has layout (Life slot) ≡ true → bit_at (claim_start layout (slot / 64)) (slot % 64) ≡ (if slot == layout.config.slots then 1 else 0)
row_bit layout slot h = let below : slot < layout.config.slots + 1 = grind (arith, nat_tests) in
    let joined : (slot / 64) * 64 + slot % 64 ≡ slot = omega arith in
    let last : slot % 64 < 64 = omega arith in
    let bit = claim_start_bit layout (slot / 64) (slot % 64) (slot_there layout.config.slots slot below) last in grind (arith, nat_tests)

pub other_bit : (layout : Layout) (word bit : ℕ) → has layout (Claim word) ≡ true → bit < 64 → layout.config.slots < word * 64 + bit → bit_at (claim_start layout word) bit ≡ 1
other_bit layout word bit h g above = let below : word < claim_words layout = grind (arith, nat_tests) in
    let here = claim_start_bit layout word bit below g in grind (arith, nat_tests)
