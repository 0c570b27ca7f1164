-- Words keep to 64 bits: the words of a start, what operations answer, and what they leave.
use Rattle.std.proofs.Common.{Bool, List, arith, false, get_or-set_other, get_or-set_same, inl, inr, length, refl, true, ℕ, ◌%◌, ◌<◌, ◌^◌, ◌≡◌, ◌≤◌, ◌⊎◌}
use Rattle.std.proofs.Math.ListN.{get_or-eq_default}
use Rattle.std.proofs.Math.Pow.{pow-sub-lt}
use Rattle.std.proofs.lemmas.Bool.Decides.{nat_tests}
use Rattle.std.proofs.lemmas.Bool.{cases_eq, cases_lt}
use Rattle.std.proofs.lemmas.List.{set_past}
use Rattle.std.proofs.lemmas.Nat.{and_le_l, or_lt, pow_pos}
use Rattle.std.specs.Prelude.{if◌then◌else◌, slice_index, slice_set}
use Rattle.wfe_core.specs.words.Packed.{halves}
use Rattle.wfe_core.specs.words.Place.{Place, claim_mask, claim_start, has, is_valid, number, place_at, same, start_of, words}
use Rattle.wfe_core.specs.words.Place.Place.{Bucket, Claim, Clock, Head, Helper, Index, Interval, Life, PlaceOf, Request, Row, Tail}
use Rattle.wfe_core.specs.words.declared.layout.Layout.{Layout}
use Rattle.wfe_core.proofs.words.Bounds.{slots_few}
use Rattle.wfe_core.specs.Memory.{Move, found, numbered, place_in, put, written}
use Rattle.wfe_core.specs.Memory as moves
use Rattle.wfe_core.specs.declared.op.Op.{Op}
use Rattle.wfe_core.specs.declared.op.Op.TheVariants.{And, Cas, Load, Or, Store}
use Rattle.wfe_drive_cells.specs.Memory.{AreNarrow, HoldsStart, memory}
use Rattle.wfe_drive_cells.specs.Operations.{IsNarrow, answered, changed, performed, word_in, writes_narrow}
use Rattle.wfe_drive_cells.proofs.Bridge.{memory-none, memory-there}

one_birth : halves 1 0 < 2 ^ 64
unfolding halves
one_birth = omega arith

claim_narrow : (layout : Layout) (word : ℕ) → claim_start layout word < 2 ^ 64
unfolding claim_start claim_mask
claim_narrow layout word = grind (arith, nat_tests, pow-sub-lt 64 (pow_pos (layout.config.slots % 64)))

start_narrow : (layout : Layout) → is_valid layout ≡ true → (p : Place) → start_of layout p < 2 ^ 64
start_narrow layout v Clock = omega arith
start_narrow layout v Head = omega (arith, slots_few layout v)
start_narrow layout v Tail = omega (arith, slots_few layout v)
start_narrow layout v (Claim word) = claim_narrow layout word
start_narrow layout v (Life slot) = grind (arith, nat_tests, one_birth)
start_narrow layout v (Helper i) = omega arith
start_narrow layout v (Index i j) = omega arith
start_narrow layout v (Interval i) = omega arith
start_narrow layout v (Request i) = omega arith
start_narrow layout v (Bucket b) = omega arith
start_narrow layout v (Row s p) = omega arith
start_narrow layout v (PlaceOf i) = omega arith

pub start_list-narrow : (layout : Layout) (list : List ℕ) → is_valid layout ≡ true → HoldsStart layout list → IsNarrow list
start_list-narrow layout list v s word = by_count (cases_lt word (words layout))
  where
    by_count : (word < words layout) ⊎ (words layout ≤ word) → slice_index list word < 2 ^ 64
    by_count (inl h) = rw (s.starts word h) (start_narrow layout v (place_at layout word))
    by_count (inr h) = let past : length list ≤ word = omega (arith, s.count) in rw (get_or-eq_default list 0 past) (omega arith)

pub answered-narrow : (list : List ℕ) (op : Op) → IsNarrow list → answered list op < 2 ^ 64
answered-narrow list (Load word) n = n word
answered-narrow list (Store word value) n = omega arith
answered-narrow list (Cas word old new) n = n word
answered-narrow list (Or word bits) n = n word
answered-narrow list (And word bits) n = n word

-- what a word becomes
changed-narrow : (op : Op) (before : ℕ) → before < 2 ^ 64 → writes_narrow op ≡ true → changed op before < 2 ^ 64
changed-narrow (Load word) before b h = b
changed-narrow (Store word value) before b h = grind (arith, nat_tests)
changed-narrow (Cas word old new) before b h = grind (arith, nat_tests)
changed-narrow (Or word bits) before b h = let c : bits < 2 ^ 64 = grind (arith, nat_tests) in or_lt 64 before bits b c
changed-narrow (And word bits) before b h = omega (arith, and_le_l before bits)

set-narrow : (list : List ℕ) (word value : ℕ) → IsNarrow list → value < 2 ^ 64 → IsNarrow (slice_set list word value)
set-narrow list word value n v other = by_number (cases_eq other word) (cases_lt word (length list))
  where
    by_number : (other ≡ word) ⊎ (other ≡ word → ⊥) → (word < length list) ⊎ (length list ≤ word) → slice_index (slice_set list word value) other < 2 ^ 64
    by_number (inl is) (inl h) = rw (is, get_or-set_same list word value 0 h) v
    by_number (inl is) (inr h) = rw (set_past list word value h) (n other)
    by_number (inr apart) h = rw (get_or-set_other list word other value 0 apart) (n other)

pub performed-narrow : (list : List ℕ) (op : Op) → IsNarrow list → writes_narrow op ≡ true → IsNarrow (performed list op)
performed-narrow list op n h = set-narrow list (word_in op) (changed op (slice_index list (word_in op))) n (changed-narrow op (slice_index list (word_in op)) (n (word_in op)) h)

-- the memory
memory_by : (layout : Layout) (list : List ℕ) → IsNarrow list → (p : Place) (there : Bool) → has layout p ≡ there → memory layout list p < 2 ^ 64
memory_by layout list n p true h = rw (memory-there layout list p h) (n (number layout p))
memory_by layout list n p false h = rw (memory-none layout list p h) (omega arith)

pub memory-narrow : (layout : Layout) (list : List ℕ) → IsNarrow list → AreNarrow (memory layout list)
memory-narrow layout list n p = memory_by layout list n p (has layout p) refl

pub found-narrow : (mem : Place → ℕ) (m : Move) → AreNarrow mem → found m (mem (place_in m)) < 2 ^ 64
found-narrow mem (moves.Load p) n = n p
found-narrow mem (moves.Store p value) n = omega arith
found-narrow mem (moves.Cas p old new) n = n p
found-narrow mem (moves.Or p bits) n = n p
found-narrow mem (moves.And p bits) n = n p

put-narrow : (mem : Place → ℕ) (p : Place) (value : ℕ) → AreNarrow mem → value < 2 ^ 64 → AreNarrow (put mem p value)
put-narrow mem p value n v q = by_one (same q p)
  where
    by_one : (one : Bool) → (if one then value else mem q) < 2 ^ 64
    by_one true = v
    by_one false = n q

pub written-narrow : (layout : Layout) (mem : Place → ℕ) (m : Move) → AreNarrow mem → writes_narrow (numbered layout m) ≡ true → AreNarrow (written mem m)
written-narrow layout mem (moves.Load p) n h = n
written-narrow layout mem (moves.Store p value) n h = put-narrow mem p value n (changed-narrow (Store (number layout p) value) (mem p) (n p) h)
written-narrow layout mem (moves.Cas p old new) n h = put-narrow mem p _ n (changed-narrow (Cas (number layout p) old new) (mem p) (n p) h)
written-narrow layout mem (moves.Or p bits) n h = put-narrow mem p _ n (changed-narrow (Or (number layout p) bits) (mem p) (n p) h)
written-narrow layout mem (moves.And p bits) n h = put-narrow mem p _ n (changed-narrow (And (number layout p) bits) (mem p) (n p) h)
