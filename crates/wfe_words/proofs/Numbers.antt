-- Places and their numbers: each place has a number of its own, and each number below the table's size is a place's.
use Rattle.std.proofs.Common.{ℕ, ◌≡◌, ◌<◌, ◌≤◌, ◌+◌, ◌-◌, ◌*◌, ◌/◌, ◌%◌, ◌^◌, inl, inr, true, arith, refl, ap, sym, ◌∙◌}
use Rattle.std.proofs.lemmas.Bool.Decides.{nat_tests}
use Rattle.std.proofs.lemmas.Grind.{rows}
use Rattle.std.proofs.lemmas.Bool.{cases_lt}
use Rattle.wfe_words.specs.Place.{Place, is_valid, has, number, words, place_at, row_places, row_count, first_index, first_interval, first_request, first_bucket, head_number, first_claim, first_life, first_row, first_place}
use Rattle.wfe_words.specs.Place.Place.{Clock, Helper, Index, Interval, Request, Bucket, Head, Tail, Claim, Life, Row, PlaceOf}
use Rattle.wfe_words.specs.declared.layout.Layout.{Layout}

-- a row and a column lie below the product
pub row_below : (i j n m : ℕ) → i < n → j < m → i * m + j < n * m
row_below i j n m h k = grind (arith, rows)

-- the numbers of a valid layout
pub record Ranges (layout : Layout) : Type 0 where
  pub seats : layout.config.seats ≤ 64
  pub indexes : layout.config.indexes ≤ 8
  pub slots : layout.config.slots ≤ 65536
  pub buckets : layout.config.buckets ≤ 1024
  pub pairs : layout.config.pairs ≤ 14
  pub some_indexes : 0 < layout.config.indexes

pub ranges : (layout : Layout) → is_valid layout ≡ true → Ranges layout
unfolding is_valid
ranges layout h = record { seats = grind (arith, nat_tests); indexes = grind (arith, nat_tests); slots = grind (arith, nat_tests); buckets = grind (arith, nat_tests); pairs = grind (arith, nat_tests); some_indexes = grind (arith, nat_tests) }

pub number_below : (layout : Layout) (p : Place) → has layout p ≡ true → number layout p < words layout
unfolding number words
number_below layout Clock h = omega arith
number_below layout (Helper i) h = grind (arith, nat_tests)
number_below layout (Index i j) h = let a : i < layout.config.seats = grind (arith, nat_tests) in let b : j < layout.config.indexes = grind (arith, nat_tests) in omega (arith, row_below i j layout.config.seats layout.config.indexes a b)
number_below layout (Interval i) h = grind (arith, nat_tests)
number_below layout (Request i) h = grind (arith, nat_tests)
number_below layout (Bucket i) h = grind (arith, nat_tests)
number_below layout Head h = omega arith
number_below layout Tail h = omega arith
number_below layout (Claim i) h = grind (arith, nat_tests)
number_below layout (Life i) h = grind (arith, nat_tests)
number_below layout (Row s p) h = let a : s < layout.config.slots + 1 = grind (arith, nat_tests) in let b : p < row_places layout = grind (arith, nat_tests) in omega (arith, row_below s p (layout.config.slots + 1) (row_places layout) a b)
number_below layout (PlaceOf i) h = grind (arith, nat_tests)

-- the division that finds a row and a column
row_of : (i j m : ℕ) → j < m → ((i * m + j) / m ≡ i) × ((i * m + j) % m ≡ j)
row_of i j m h = grind (arith, rows)

place_index : (layout : Layout) (i j : ℕ) → has layout (Index i j) ≡ true → place_at layout (number layout (Index i j)) ≡ Index i j
unfolding number place_at
place_index layout i j h = let a : i < layout.config.seats = grind (arith, nat_tests) in let b : j < layout.config.indexes = grind (arith, nat_tests) in
    let c = row_below i j layout.config.seats layout.config.indexes a b in
    let d = row_of i j layout.config.indexes b in grind (arith, nat_tests)

place_row : (layout : Layout) (s p : ℕ) → has layout (Row s p) ≡ true → place_at layout (number layout (Row s p)) ≡ Row s p
unfolding number place_at
place_row layout s p h = let a : s < layout.config.slots + 1 = grind (arith, nat_tests) in let b : p < row_places layout = grind (arith, nat_tests) in
    let c = row_below s p (layout.config.slots + 1) (row_places layout) a b in
    let d = row_of s p (row_places layout) b in grind (arith, nat_tests)

-- a place is found by its number
pub place_at-number : (layout : Layout) (p : Place) → has layout p ≡ true → place_at layout (number layout p) ≡ p
unfolding number place_at
place_at-number layout Clock h = grind (arith, nat_tests)
place_at-number layout (Helper i) h = grind (arith, nat_tests)
place_at-number layout (Index i j) h = place_index layout i j h
place_at-number layout (Interval i) h = grind (arith, nat_tests)
place_at-number layout (Request i) h = grind (arith, nat_tests)
place_at-number layout (Bucket i) h = grind (arith, nat_tests)
place_at-number layout Head h = grind (arith, nat_tests)
place_at-number layout Tail h = grind (arith, nat_tests)
place_at-number layout (Claim i) h = grind (arith, nat_tests)
place_at-number layout (Life i) h = grind (arith, nat_tests)
place_at-number layout (Row s p) h = place_row layout s p h
place_at-number layout (PlaceOf i) h = grind (arith, nat_tests)

-- places with one number are one
pub number_one : (layout : Layout) (p q : Place) → has layout p ≡ true → has layout q ≡ true → number layout p ≡ number layout q → p ≡ q
number_one layout p q h g e = sym (place_at-number layout p h) ∙ ap (place_at layout) e ∙ place_at-number layout q g

-- a number of the index group as a seat and an index, and of the rows as a slot and a place
cell_of : (x n m : ℕ) → x < n * m → (x / m < n) × (x % m < m) × ((x / m) * m + x % m ≡ x)
cell_of x n m h = grind (arith, rows)

-- a place with the number
record NumberOf (layout : Layout) (word : ℕ) : Type 0 where
  place : Place
  there : has layout place ≡ true
  numbered : number layout place ≡ word

-- by groups, the last one first: a word from a group's first number on, below the table's size
from_places : (layout : Layout) (word : ℕ) → first_place layout ≤ word → word < words layout → NumberOf layout word
unfolding number words
from_places layout word h g = record { place = PlaceOf (word - first_place layout); there = grind (arith, nat_tests); numbered = omega arith }

in_rows : (layout : Layout) (word : ℕ) → first_row layout ≤ word → word < first_place layout → NumberOf layout word
unfolding number
in_rows layout word h g = let c = cell_of (word - first_row layout) (row_count layout) (row_places layout) (omega arith) in
    record { place = Row ((word - first_row layout) / row_places layout) ((word - first_row layout) % row_places layout); there = grind (arith, nat_tests); numbered = omega arith }

from_rows : (layout : Layout) (word : ℕ) → first_row layout ≤ word → word < words layout → NumberOf layout word
from_rows layout word h g = elim (cases_lt word (first_place layout)) [ inl k ↦ in_rows layout word h k | inr k ↦ from_places layout word k g ]

in_lives : (layout : Layout) (word : ℕ) → first_life layout ≤ word → word < first_row layout → NumberOf layout word
unfolding number
in_lives layout word h g = record { place = Life (word - first_life layout); there = grind (arith, nat_tests); numbered = omega arith }

from_lives : (layout : Layout) (word : ℕ) → first_life layout ≤ word → word < words layout → NumberOf layout word
from_lives layout word h g = elim (cases_lt word (first_row layout)) [ inl k ↦ in_lives layout word h k | inr k ↦ from_rows layout word k g ]

in_claims : (layout : Layout) (word : ℕ) → first_claim layout ≤ word → word < first_life layout → NumberOf layout word
unfolding number
in_claims layout word h g = record { place = Claim (word - first_claim layout); there = grind (arith, nat_tests); numbered = omega arith }

from_claims : (layout : Layout) (word : ℕ) → first_claim layout ≤ word → word < words layout → NumberOf layout word
from_claims layout word h g = elim (cases_lt word (first_life layout)) [ inl k ↦ in_claims layout word h k | inr k ↦ from_lives layout word k g ]

in_head : (layout : Layout) (word : ℕ) → head_number layout ≤ word → word < head_number layout + 1 → NumberOf layout word
unfolding number
in_head layout word h g = record { place = Head; there = refl; numbered = omega arith }

in_tail : (layout : Layout) (word : ℕ) → head_number layout + 1 ≤ word → word < first_claim layout → NumberOf layout word
unfolding number
in_tail layout word h g = record { place = Tail; there = refl; numbered = omega arith }

from_tail : (layout : Layout) (word : ℕ) → head_number layout + 1 ≤ word → word < words layout → NumberOf layout word
from_tail layout word h g = elim (cases_lt word (first_claim layout)) [ inl k ↦ in_tail layout word h k | inr k ↦ from_claims layout word k g ]

from_head : (layout : Layout) (word : ℕ) → head_number layout ≤ word → word < words layout → NumberOf layout word
from_head layout word h g = elim (cases_lt word (head_number layout + 1)) [ inl k ↦ in_head layout word h k | inr k ↦ from_tail layout word k g ]

in_buckets : (layout : Layout) (word : ℕ) → first_bucket layout ≤ word → word < head_number layout → NumberOf layout word
unfolding number
in_buckets layout word h g = record { place = Bucket (word - first_bucket layout); there = grind (arith, nat_tests); numbered = omega arith }

from_buckets : (layout : Layout) (word : ℕ) → first_bucket layout ≤ word → word < words layout → NumberOf layout word
from_buckets layout word h g = elim (cases_lt word (head_number layout)) [ inl k ↦ in_buckets layout word h k | inr k ↦ from_head layout word k g ]

in_requests : (layout : Layout) (word : ℕ) → first_request layout ≤ word → word < first_bucket layout → NumberOf layout word
unfolding number
in_requests layout word h g = record { place = Request (word - first_request layout); there = grind (arith, nat_tests); numbered = omega arith }

from_requests : (layout : Layout) (word : ℕ) → first_request layout ≤ word → word < words layout → NumberOf layout word
from_requests layout word h g = elim (cases_lt word (first_bucket layout)) [ inl k ↦ in_requests layout word h k | inr k ↦ from_buckets layout word k g ]

in_intervals : (layout : Layout) (word : ℕ) → first_interval layout ≤ word → word < first_request layout → NumberOf layout word
unfolding number
in_intervals layout word h g = record { place = Interval (word - first_interval layout); there = grind (arith, nat_tests); numbered = omega arith }

from_intervals : (layout : Layout) (word : ℕ) → first_interval layout ≤ word → word < words layout → NumberOf layout word
from_intervals layout word h g = elim (cases_lt word (first_request layout)) [ inl k ↦ in_intervals layout word h k | inr k ↦ from_requests layout word k g ]

in_indexes : (layout : Layout) (word : ℕ) → first_index layout ≤ word → word < first_interval layout → NumberOf layout word
unfolding number
in_indexes layout word h g = let c = cell_of (word - first_index layout) layout.config.seats layout.config.indexes (omega arith) in
    record { place = Index ((word - first_index layout) / layout.config.indexes) ((word - first_index layout) % layout.config.indexes); there = grind (arith, nat_tests); numbered = omega arith }

from_indexes : (layout : Layout) (word : ℕ) → first_index layout ≤ word → word < words layout → NumberOf layout word
from_indexes layout word h g = elim (cases_lt word (first_interval layout)) [ inl k ↦ in_indexes layout word h k | inr k ↦ from_intervals layout word k g ]

in_helpers : (layout : Layout) (word : ℕ) → 1 ≤ word → word < first_index layout → NumberOf layout word
unfolding number
in_helpers layout word h g = record { place = Helper (word - 1); there = grind (arith, nat_tests); numbered = omega arith }

from_helpers : (layout : Layout) (word : ℕ) → 1 ≤ word → word < words layout → NumberOf layout word
from_helpers layout word h g = elim (cases_lt word (first_index layout)) [ inl k ↦ in_helpers layout word h k | inr k ↦ from_indexes layout word k g ]

in_clock : (layout : Layout) (word : ℕ) → word < 1 → NumberOf layout word
unfolding number
in_clock layout word g = record { place = Clock; there = refl; numbered = omega arith }

of_number : (layout : Layout) (word : ℕ) → word < words layout → NumberOf layout word
of_number layout word g = elim (cases_lt word 1) [ inl k ↦ in_clock layout word k | inr k ↦ from_helpers layout word k g ]

-- the place of a number is the table's, and has that number
pub place_at_there : (layout : Layout) (word : ℕ) → word < words layout → has layout (place_at layout word) ≡ true
place_at_there layout word h = let found = of_number layout word h in
    ap (has layout) (ap (place_at layout) (sym found.numbered) ∙ place_at-number layout found.place found.there) ∙ found.there

pub number-place_at : (layout : Layout) (word : ℕ) → word < words layout → number layout (place_at layout word) ≡ word
number-place_at layout word h = let found = of_number layout word h in
    ap (number layout) (ap (place_at layout) (sym found.numbered) ∙ place_at-number layout found.place found.there) ∙ found.numbered

-- a valid layout has fewer words than a request's word number can say
pub words_few : (layout : Layout) → is_valid layout ≡ true → words layout < 2 ^ 26
unfolding words
words_few layout h = let r = ranges layout h in let a : layout.config.seats * layout.config.indexes ≤ 64 * 8 = grind (arith, rows) in
    let b : (layout.config.slots + 1) * (3 + 2 * layout.config.pairs) ≤ 65537 * 31 = grind (arith, rows) in omega arith
