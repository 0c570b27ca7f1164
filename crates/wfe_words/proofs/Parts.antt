-- Packed words by their parts: how they are read, that they stay below 2 ^ 64, and that different parts give different words.
use Rattle.std.proofs.Common.{ℕ, ◌≡◌, ◌≢◌, ◌<◌, ◌≤◌, ◌+◌, ◌^◌, arith}
use Rattle.std.specs.Prelude.{Some}
use Rattle.std.proofs.lemmas.Bool.Decides.{nat_tests}
use Rattle.wfe_words.specs.Packed.{halves, high_half, low_half, pending_word, answered_word, read_link, read_life, read_reservation, read_span, read_request}
use Rattle.wfe_words.specs.declared.packed.Link.TheVariants as links
use Rattle.wfe_words.specs.declared.packed.Request.TheVariants as requests

pub halves_below : (high low : ℕ) → high < 2 ^ 32 → low < 2 ^ 32 → halves high low < 2 ^ 64
unfolding halves
halves_below high low h g = omega arith

pub high_half-halves : (high low : ℕ) → low < 2 ^ 32 → high_half (halves high low) ≡ high
unfolding halves
high_half-halves high low h = omega arith

pub low_half-halves : (high low : ℕ) → low < 2 ^ 32 → low_half (halves high low) ≡ low
unfolding halves
low_half-halves high low h = omega arith

pub halves_one : (high low high' low' : ℕ) → low < 2 ^ 32 → low' < 2 ^ 32 → halves high low ≡ halves high' low' → (high ≡ high') × (low ≡ low')
unfolding halves
halves_one high low high' low' h g e = omega arith

-- only two zero halves give 0
pub halves_some : (high low : ℕ) → 0 < high → 0 < halves high low
unfolding halves
halves_some high low h = omega arith

pub pending_below : (tag index word : ℕ) → tag < 2 ^ 32 → index < 2 ^ 4 → word < 2 ^ 26 → pending_word tag index word < 2 ^ 63
unfolding pending_word
pending_below tag index word a b c = omega arith

pub pending_some : (tag index word : ℕ) → 0 < pending_word tag index word
unfolding pending_word
pending_some tag index word = omega arith

pub pending_one : (tag index word tag' index' word' : ℕ) → index < 2 ^ 4 → word < 2 ^ 26 → index' < 2 ^ 4 → word' < 2 ^ 26 → pending_word tag index word ≡ pending_word tag' index' word' → (tag ≡ tag') × (index ≡ index') × (word ≡ word')
unfolding pending_word
pending_one tag index word tag' index' word' b c b' c' e = omega arith

pub answered_below : (link era : ℕ) → link < 2 ^ 24 → era < 2 ^ 32 → answered_word link era < 2 ^ 64
unfolding answered_word
answered_below link era a b = omega arith

pub answered_above : (link era : ℕ) → 2 ^ 63 ≤ answered_word link era
unfolding answered_word
answered_above link era = omega arith

pub answered_one : (link era link' era' : ℕ) → era < 2 ^ 32 → era' < 2 ^ 32 → answered_word link era ≡ answered_word link' era' → (link ≡ link') × (era ≡ era')
unfolding answered_word
answered_one link era link' era' a b e = omega arith

-- a pending request is no answered one
pub pending≢answered : (tag index word link era : ℕ) → tag < 2 ^ 32 → index < 2 ^ 4 → word < 2 ^ 26 → pending_word tag index word ≢ answered_word link era
unfolding pending_word answered_word
pending≢answered tag index word link era a b c e = omega arith

pub read_link-slot : (slot slots : ℕ) → slot ≤ slots → read_link (slot + 1) slots ≡ Some (links.Slot slot)
unfolding read_link
read_link-slot slot slots h = grind (arith, nat_tests)

pub read_life-open : (birth : ℕ) → 0 < birth → read_life (halves birth 0) ≡ Some (record { birth = birth; retire = 0 })
unfolding read_life halves
read_life-open birth h = grind (arith, nat_tests)

pub read_life-retired : (birth retire : ℕ) → 0 < birth → birth ≤ retire → retire < 2 ^ 32 → read_life (halves birth retire) ≡ Some (record { birth = birth; retire = retire })
unfolding read_life halves
read_life-retired birth retire h g b = grind (arith, nat_tests)

pub read_reservation-halves : (era tag : ℕ) → tag < 2 ^ 32 → read_reservation (halves era tag) ≡ record { era = era; tag = tag }
unfolding read_reservation halves
read_reservation-halves era tag h = grind (arith, nat_tests)

pub read_span-halves : (lo hi : ℕ) → 0 < lo → lo ≤ hi → hi < 2 ^ 32 → read_span (halves lo hi) ≡ Some (Some (record { lo = lo; hi = hi }))
unfolding read_span halves
read_span-halves lo hi h g b = grind (arith, nat_tests)

pub read_request-pending : (tag index word : ℕ) → tag < 2 ^ 32 → index < 2 ^ 4 → word < 2 ^ 26 → read_request (pending_word tag index word) ≡ Some (requests.Pending tag index word)
unfolding read_request pending_word
read_request-pending tag index word a b c = grind (arith, nat_tests)

pub read_request-answered : (link era : ℕ) → link < 2 ^ 24 → 0 < era → era < 2 ^ 32 → read_request (answered_word link era) ≡ Some (requests.Answered link era)
unfolding read_request answered_word
read_request-answered link era a b c = grind (arith, nat_tests)
