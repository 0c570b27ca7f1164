-- Which words of the table lie alone, and where each kind of word lies.
use Rattle.std.proofs.Common.{ap, arith, true, ℕ, ◌*◌, ◌+◌, ◌-◌, ◌<◌, ◌∙◌, ◌≡◌, ◌≤◌}
use Rattle.std.proofs.lemmas.Bool.Decides.{nat_tests}
use Rattle.std.proofs.lemmas.Grind.{rows}
use Rattle.std.specs.Prelude.{◌&&◌, nat_lt}
use Rattle.wfe_core.proofs.Ranges.{bounds_of}
use Rattle.wfe_core.specs.declared.op.Op.{Op}
use Rattle.wfe_core.specs.words.Place.Place.{Bucket, Claim, Clock, Head, Helper, Index, Interval, Life, Request, Row, Tail}
use Rattle.wfe_core.specs.words.Place.{first_bucket, first_claim, has, head_number, is_valid, number}
use Rattle.wfe_core.specs.words.declared.layout.Layout.{Layout}
use Rattle.wfe_drive_cells.specs.Operations.{word_in}
use Rattle.wfe_drive_cells.specs.Spots.{IsFor, located, spot, spot_by}
use Rattle.wfe_drive_cells.specs.declared.located.Located.{Located}
use Rattle.wfe_drive_cells.specs.declared.spots.Spots.{Spots}

-- what the spots of a layout hang on
pub is_for : (layout : Layout) (roots head : ℕ) → roots ≡ number layout (Bucket 0) → head ≡ number layout Head → IsFor layout (record { roots = roots; head = head })
unfolding number
is_for layout roots head r h = record { roots = omega (arith, r); head = omega (arith, h) }

pub in_order : (layout : Layout) (own : Spots) → IsFor layout own → own.roots ≤ own.head
in_order layout own for = omega (arith, for.roots, for.head)

pub spot_of : (layout : Layout) (own : Spots) (word n : ℕ) → IsFor layout own → n ≡ spot_by own.roots own.head word → n ≡ spot layout word
spot_of layout own word n for e = e ∙ ap (λ (roots : ℕ). spot_by roots own.head word) for.roots ∙ ap (λ (head : ℕ). spot_by (first_bucket layout) head word) for.head

pub some_root : (layout : Layout) → is_valid layout ≡ true → nat_lt 0 layout.config.buckets ≡ true
some_root layout valid = let b = (bounds_of layout valid).buckets in grind (arith, nat_tests)

-- the spot of each kind of word
alone_by : (roots head word n : ℕ) → word ≡ n → n < roots → roots ≤ head → 8 * word ≡ spot_by roots head n
alone_by roots head word n e low order = omega arith

root_by : (roots head word first n : ℕ) → word ≡ n → first ≡ roots → roots ≤ n → n < head → word + 7 * first ≡ spot_by roots head n
root_by roots head word first n e f from below = omega arith

end_by : (roots head word first top n : ℕ) → word ≡ n → first ≡ roots → top ≡ head → roots ≤ head → head ≤ n → n < head + 2 → word + 7 * (first + 1 + (word - top)) ≡ spot_by roots head n
end_by roots head word first top n e f t order from below = omega arith

dense_by : (roots head word first n : ℕ) → word ≡ n → first ≡ roots → roots ≤ head → head + 2 ≤ n → word + 7 * (first + 3) ≡ spot_by roots head n
dense_by roots head word first n e f order from = omega arith

first_root : (layout : Layout) (n : ℕ) → n ≡ number layout (Bucket 0) → n ≡ first_bucket layout
unfolding number
first_root layout n e = omega (arith, e)

pub first_end : (layout : Layout) (n : ℕ) → n ≡ number layout Head → n ≡ head_number layout
unfolding number
first_end layout n e = e

in_line : (layout : Layout) → first_bucket layout ≤ head_number layout
in_line layout = omega arith

abbrev with_spot : Op → ℕ → Located
with_spot op n = record { op = op; spot = n }

pub alone_is : (layout : Layout) (op : Op) (word : ℕ) → word ≡ word_in op → word_in op < first_bucket layout → with_spot op (8 * word) ≡ located layout op
alone_is layout op word e low = ap (with_spot op) (alone_by (first_bucket layout) (head_number layout) word (word_in op) e low (in_line layout))

pub root_is : (layout : Layout) (op : Op) (word first : ℕ) → word ≡ word_in op → first ≡ number layout (Bucket 0) → first_bucket layout ≤ word_in op → word_in op < head_number layout → with_spot op (word + 7 * first) ≡ located layout op
root_is layout op word first e f from below = ap (with_spot op) (root_by (first_bucket layout) (head_number layout) word first (word_in op) e (first_root layout first f) from below)

pub end_is : (layout : Layout) (op : Op) (word first top : ℕ) → word ≡ word_in op → first ≡ number layout (Bucket 0) → top ≡ number layout Head → head_number layout ≤ word_in op → word_in op < first_claim layout
    → with_spot op (word + 7 * (first + 1 + (word - top))) ≡ located layout op
end_is layout op word first top e f t from below =
    ap (with_spot op) (end_by (first_bucket layout) (head_number layout) word first top (word_in op) e (first_root layout first f) (first_end layout top t) (in_line layout) from below)

pub dense_is : (layout : Layout) (op : Op) (word first : ℕ) → word ≡ word_in op → first ≡ number layout (Bucket 0) → first_claim layout ≤ word_in op → with_spot op (word + 7 * (first + 3)) ≡ located layout op
dense_is layout op word first e f from = ap (with_spot op) (dense_by (first_bucket layout) (head_number layout) word first (word_in op) e (first_root layout first f) (in_line layout) from)

pub any_is : (layout : Layout) (op : Op) (word n : ℕ) → word ≡ word_in op → n ≡ spot layout word → with_spot op n ≡ located layout op
any_is layout op word n e at = ap (with_spot op) (at ∙ ap (spot layout) e)

-- of which kind each place is
pub clock_alone : (layout : Layout) → number layout Clock < first_bucket layout
unfolding number
clock_alone layout = omega arith

pub index_alone : (layout : Layout) (seat index : ℕ) → has layout (Index seat index) ≡ true → number layout (Index seat index) < first_bucket layout
unfolding number
index_alone layout seat index there =
    let a : seat < layout.config.seats = grind (arith, nat_tests) in
    let b : index < layout.config.indexes = grind (arith, nat_tests) in
    let c : seat * layout.config.indexes + index < layout.config.seats * layout.config.indexes = grind (arith, rows) in
    omega (arith, c)

pub interval_alone : (layout : Layout) (seat : ℕ) → has layout (Interval seat) ≡ true → number layout (Interval seat) < first_bucket layout
unfolding number
interval_alone layout seat there = let a : seat < layout.config.seats = grind (arith, nat_tests) in omega (arith, a)

pub bucket_from : (layout : Layout) (bucket : ℕ) → first_bucket layout ≤ number layout (Bucket bucket)
unfolding number
bucket_from layout bucket = omega arith

pub bucket_below : (layout : Layout) (bucket : ℕ) → has layout (Bucket bucket) ≡ true → number layout (Bucket bucket) < head_number layout
unfolding number
bucket_below layout bucket there = let a : bucket < layout.config.buckets = grind (arith, nat_tests) in omega (arith, a)

pub head_from : (layout : Layout) → head_number layout ≤ number layout Head
unfolding number
head_from layout = omega arith

pub head_below : (layout : Layout) → number layout Head < first_claim layout
unfolding number
head_below layout = omega arith

pub tail_from : (layout : Layout) → head_number layout ≤ number layout Tail
unfolding number
tail_from layout = omega arith

pub tail_below : (layout : Layout) → number layout Tail < first_claim layout
unfolding number
tail_below layout = omega arith

pub claim_dense : (layout : Layout) (word : ℕ) → first_claim layout ≤ number layout (Claim word)
unfolding number
claim_dense layout word = omega arith

pub life_dense : (layout : Layout) (slot : ℕ) → first_claim layout ≤ number layout (Life slot)
unfolding number
life_dense layout slot = omega arith

pub row_dense : (layout : Layout) (slot place : ℕ) → first_claim layout ≤ number layout (Row slot place)
unfolding number
row_dense layout slot place = omega arith
