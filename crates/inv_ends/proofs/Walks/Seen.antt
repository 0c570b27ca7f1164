-- A walk has seen taken each slot that it has passed.
use Rattle.std.proofs.Common.{ℕ, zero, suc, ◌≤◌, ◌<◌, Bool, true, false, ◌≡◌, ◌∙◌, sym, refl, ap, subst, arith, ◌⊎◌, inl, inr}
use Rattle.std.proofs.lemmas.Bool.Decides.{nat_tests}
use Rattle.std.proofs.lemmas.Nat.Bits.{bit_at_or, bit_at-zero, bit_at-lt}
use Rattle.std.specs.Int.{bit_at}
use Rattle.std.specs.Prelude.{bit_or, max, Option, Some, None, if◌then◌else◌, ◌==◌, ◌&&◌, ◌||◌}
use Rattle.inv_rows.specs.model.Allocate.{is_claimed, next_slot, shown_of, shown_word, walk_at, walk_from, walk_on, walk_past}
use Rattle.inv_rows.specs.model.Phases.{Walk}
use Rattle.inv_rows.proofs.model.Facts.{number_is, either_true, no_truth_2}
use Rattle.inv_ends.specs.Walks.{WalkSeen, has_passed, placed}
use Rattle.inv_rows.specs.words.Place.{claim_bit, claim_word}
use Rattle.inv_rows.proofs.Shapes.Inside.{next_in}

-- the walk's order
next_placed : (slots start slot left : ℕ) → start ≤ slots → slot ≤ slots → placed slots start slot (suc left) ≡ true → placed slots start (next_slot slots slot) left ≡ true
next_placed slots start slot left a b h = grind (arith, nat_tests)

next_passed : (slots start slot left s : ℕ) → start ≤ slots → slot ≤ slots → s ≤ slots → placed slots start slot (suc left) ≡ true → has_passed start (next_slot slots slot) s ≡ true → (has_passed start slot s || (s == slot)) ≡ true
next_passed slots start slot left s a b c h p = grind (arith, nat_tests)

all_passed : (slots start slot s : ℕ) → start ≤ slots → slot ≤ slots → s ≤ slots → placed slots start slot 0 ≡ true → (has_passed start slot s || (s == slot)) ≡ true
all_passed slots start slot s a b c h = grind (arith, nat_tests)

pub none_passed : (start s : ℕ) → has_passed start start s ≡ true → false ≡ true
none_passed start s h = grind (arith, nat_tests)

pub starts_placed : (slots start : ℕ) → placed slots start start slots ≡ true
starts_placed slots start = grind (arith, nat_tests)

-- bits
or_bits : (a b : ℕ) → a < 2 → b < 2 → (max a b == 1) ≡ true → ((a == 1) ≡ true) ⊎ ((b == 1) ≡ true)
or_bits zero b x y h = inr (grind (arith, nat_tests))
or_bits (suc a) b x y h = inl (grind (arith, nat_tests))

or_claimed : (a b s : ℕ) → is_claimed (bit_or a b) s ≡ true → (is_claimed a s ≡ true) ⊎ (is_claimed b s ≡ true)
or_claimed a b s h = or_bits (bit_at a (claim_bit s)) (bit_at b (claim_bit s)) (bit_at-lt a (claim_bit s)) (bit_at-lt b (claim_bit s)) (sym (ap (λ (n : ℕ). n == 1) (bit_at_or a b (claim_bit s))) ∙ h)

zero_claimed : (s : ℕ) → is_claimed 0 s ≡ false
zero_claimed s = ap (λ (n : ℕ). n == 1) (bit_at-zero (claim_bit s))

-- what a walk remembers of its two claim words was seen
pub record Shows (walk : Walk) (seen : ℕ → Bool) : Type 0 where
  pub first : (s : ℕ) → (claim_word s == claim_word walk.start) ≡ true → is_claimed walk.first s ≡ true → seen s ≡ true
  pub shown : (s : ℕ) → (claim_word s == claim_word walk.slot) ≡ true → is_claimed walk.shown s ≡ true → seen s ≡ true

shown_by : (walk : Walk) (seen : ℕ → Bool) (s : ℕ) (a b : Bool) → (claim_word s == claim_word walk.start) ≡ a → (claim_word s == claim_word walk.slot) ≡ b → Shows walk seen → is_claimed (if a then walk.first else if b then walk.shown else 0) s ≡ true → seen s ≡ true
shown_by walk seen s true b e f x h = x.first s e h
shown_by walk seen s false true e f x h = x.shown s f h
shown_by walk seen s false false e f x h = no_truth_2 (sym (zero_claimed s) ∙ h)

shown_seen : (walk : Walk) (seen : ℕ → Bool) (s : ℕ) → Shows walk seen → is_claimed (shown_of walk s) s ≡ true → seen s ≡ true
shown_seen walk seen s x h = shown_by walk seen s (claim_word s == claim_word walk.start) (claim_word s == claim_word walk.slot) refl refl x h

-- slots of one claim word are shown by the same
shown_same : (walk : Walk) (a b : ℕ) → (claim_word a == claim_word b) ≡ true → shown_of walk a ≡ shown_of walk b
shown_same walk a b h = ap (λ (c : ℕ). if c == claim_word walk.start then walk.first else if c == claim_word walk.slot then walk.shown else 0) (number_is (claim_word a) (claim_word b) h)

near_seen : (walk : Walk) (seen : ℕ → Bool) (s next : ℕ) → Shows walk seen → (claim_word s == claim_word next) ≡ true → is_claimed (shown_of walk next) s ≡ true → seen s ≡ true
near_seen walk seen s next x e h = shown_seen walk seen s x (subst (λ (word : ℕ). is_claimed word s ≡ true) (sym (shown_same walk s next e)) h)

-- after one more claim word was found
abbrev pub more_seen : Walk → ℕ → (ℕ → Bool) → ℕ → Bool
more_seen walk found seen s = seen s || ((claim_word s == claim_word walk.slot) && is_claimed found s)

seen_before : (walk : Walk) (found : ℕ) (seen : ℕ → Bool) (s : ℕ) → seen s ≡ true → more_seen walk found seen s ≡ true
seen_before walk found seen s h = rw h refl

seen_now : (walk : Walk) (found : ℕ) (seen : ℕ → Bool) (s : ℕ) → (claim_word s == claim_word walk.slot) ≡ true → is_claimed found s ≡ true → more_seen walk found seen s ≡ true
seen_now walk found seen s e h = rw (e, h) (by (seen s)) where
  by : (x : Bool) → (x || true) ≡ true
  by true = refl
  by false = refl

first_by : (walk : Walk) (found : ℕ) (seen : ℕ → Bool) (s : ℕ) (same : Bool) → (claim_word walk.slot == claim_word walk.start) ≡ same → Shows walk seen → (claim_word s == claim_word walk.start) ≡ true → is_claimed (if same then bit_or walk.first found else walk.first) s ≡ true → more_seen walk found seen s ≡ true
first_by walk found seen s true e x a h = by (or_claimed walk.first found s h) where
  by : (is_claimed walk.first s ≡ true) ⊎ (is_claimed found s ≡ true) → more_seen walk found seen s ≡ true
  by (inl k) = seen_before walk found seen s (x.first s a k)
  by (inr k) = seen_now walk found seen s (let p = number_is (claim_word s) (claim_word walk.start) a in let q = number_is (claim_word walk.slot) (claim_word walk.start) e in grind (arith, nat_tests, p, q)) k
first_by walk found seen s false e x a h = seen_before walk found seen s (x.first s a h)

word_shown : (walk : Walk) (found : ℕ) (seen : ℕ → Bool) → Shows walk seen → Shows (shown_word walk found) (more_seen walk found seen)
word_shown walk found seen x = record {
  first = λ s a h. first_by walk found seen s (claim_word walk.slot == claim_word walk.start) refl x a h;
  shown = λ s a h. by s a (or_claimed (shown_of walk walk.slot) found s h);
} where
  by : (s : ℕ) → (claim_word s == claim_word walk.slot) ≡ true → (is_claimed (shown_of walk walk.slot) s ≡ true) ⊎ (is_claimed found s ≡ true) → more_seen walk found seen s ≡ true
  by s a (inl k) = seen_before walk found seen s (near_seen walk seen s walk.slot x a k)
  by s a (inr k) = seen_now walk found seen s a k

-- the walk goes on, or all is seen
abbrev pub OnSeen : ℕ → (ℕ → Bool) → Option Walk → Type 0
OnSeen slots seen None = (s : ℕ) → s ≤ slots → seen s ≡ true
OnSeen slots seen (Some walk) = WalkSeen slots walk seen

abbrev pub UpTo : ℕ → Walk → (ℕ → Bool) → ℕ → Type 0
UpTo slots walk seen slot = (s : ℕ) → s ≤ slots → (has_passed walk.start slot s || (s == slot)) ≡ true → seen s ≡ true

next_upto : (slots : ℕ) (walk : Walk) (seen : ℕ → Bool) (left slot : ℕ) → walk.start ≤ slots → Shows walk seen → slot ≤ slots → placed slots walk.start slot (suc left) ≡ true → UpTo slots walk seen slot → is_claimed (shown_of walk (next_slot slots slot)) (next_slot slots slot) ≡ true → UpTo slots walk seen (next_slot slots slot)
next_upto slots walk seen left slot a x b p u t s c h = by (either_true (has_passed walk.start (next_slot slots slot) s) (s == next_slot slots slot) h) where
  by : (has_passed walk.start (next_slot slots slot) s ≡ true) ⊎ ((s == next_slot slots slot) ≡ true) → seen s ≡ true
  by (inl k) = u s c (next_passed slots walk.start slot left s a b c p k)
  by (inr k) = subst (λ (n : ℕ). seen n ≡ true) (sym (number_is s (next_slot slots slot) k)) (shown_seen walk seen (next_slot slots slot) x t)

next_walk : (slots : ℕ) (walk : Walk) (seen : ℕ → Bool) (left slot : ℕ) → walk.start ≤ slots → Shows walk seen → slot ≤ slots → placed slots walk.start slot (suc left) ≡ true → UpTo slots walk seen slot → WalkSeen slots (walk_at walk (next_slot slots slot) left) seen
next_walk slots walk seen left slot a x b p u = record {
  start = a;
  slot = next_in slots slot b;
  at = next_placed slots walk.start slot left a b p;
  passed = λ s c h. u s c (next_passed slots walk.start slot left s a b c p h);
  first = x.first;
  shown = λ s e h. near_seen walk seen s (next_slot slots slot) x e h;
}

on_by : (slots : ℕ) (walk : Walk) (seen : ℕ → Bool) (left slot : ℕ) (claimed : Bool) → is_claimed (shown_of walk (next_slot slots slot)) (next_slot slots slot) ≡ claimed → (claimed ≡ true → OnSeen slots seen (walk_on slots walk left (next_slot slots slot))) → WalkSeen slots (walk_at walk (next_slot slots slot) left) seen
    → OnSeen slots seen (elim claimed [
      | true ↦ walk_on slots walk left (next_slot slots slot)
      | false ↦ Some (walk_at walk (next_slot slots slot) left)
    ])
on_by slots walk seen left slot true e f g = f refl
on_by slots walk seen left slot false e f g = g

walk_on_seen : (slots : ℕ) (walk : Walk) (seen : ℕ → Bool) (left slot : ℕ) → walk.start ≤ slots → Shows walk seen → slot ≤ slots → placed slots walk.start slot left ≡ true → UpTo slots walk seen slot → OnSeen slots seen (walk_on slots walk left slot)
walk_on_seen slots walk seen zero slot a x b p u = λ s c. u s c (all_passed slots walk.start slot s a b c p)
walk_on_seen slots walk seen (suc left) slot a x b p u =
    on_by
    slots
    walk
    seen
    left
    slot
    (is_claimed (shown_of walk (next_slot slots slot)) (next_slot slots slot))
    refl
    (λ t. walk_on_seen slots walk seen left (next_slot slots slot) a x (next_in slots slot b) (next_placed slots walk.start slot left a b p) (next_upto slots walk seen left slot a x b p u t))
    (next_walk slots walk seen left slot a x b p u)

-- a step of a walk whose slot was found taken
pub past_seen : (slots : ℕ) (walk : Walk) (found : ℕ) (seen : ℕ → Bool) → WalkSeen slots walk seen → is_claimed found walk.slot ≡ true → OnSeen slots (more_seen walk found seen) (walk_past slots walk found)
past_seen slots walk found seen x t =
    walk_on_seen slots (shown_word walk found) (more_seen walk found seen) walk.left walk.slot x.start (word_shown walk found seen (record { first = x.first; shown = x.shown })) x.slot x.at (λ s c h. by s c (either_true (has_passed walk.start walk.slot s) (s == walk.slot) h))
  where
    by : (s : ℕ) → s ≤ slots → (has_passed walk.start walk.slot s ≡ true) ⊎ ((s == walk.slot) ≡ true) → more_seen walk found seen s ≡ true
    by s c (inl k) = seen_before walk found seen s (x.passed s c k)
    by s c (inr k) = subst (λ (n : ℕ). more_seen walk found seen n ≡ true) (sym (number_is s walk.slot k)) (seen_now walk found seen walk.slot (grind (arith, nat_tests)) t)

-- a walk that begins
pub begins_seen : (slots start : ℕ) (seen : ℕ → Bool) → start ≤ slots → WalkSeen slots (walk_from slots start) seen
begins_seen slots start seen a = record {
  start = a;
  slot = a;
  at = starts_placed slots start;
  passed = λ s c h. no_truth_2 (none_passed start s h);
  first = λ s e h. no_truth_2 (sym (zero_claimed s) ∙ h);
  shown = λ s e h. no_truth_2 (sym (zero_claimed s) ∙ h);
}
