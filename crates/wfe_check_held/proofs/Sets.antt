-- Sets of rows: what is in them.
use Rattle.std.proofs.Common.{ℕ, ◌≡◌, Bool, true, false, List, [], ◌∷◌, ◌++◌, length, refl, ap, ◌∙◌, arith, cond}
use Rattle.std.proofs.lemmas.Bool.Decides.{nat_tests}
use Rattle.std.specs.List.{list_any, filter}
use Rattle.std.specs.Prelude.{◌==◌, ◌&&◌, ◌||◌, not, if◌then◌else◌}
use Rattle.wfe_defs.proofs.Facts.{same_number, number_is}
use Rattle.laws.specs.StateAt.{is_empty, is_one_of, without_row}
use Rattle.wfe_check_held.specs.Rows.{with_row}

pub turned : (a b : ℕ) → (a == b) ≡ (b == a)
turned a b = grind (arith, nat_tests)

-- the row is among them where one of them is it
pub any_is : (slot : ℕ) (rows : List ℕ) → list_any (λ (y : ℕ). y == slot) rows ≡ is_one_of slot rows
any_is slot [] = refl
any_is slot (row ∷ rows) = rw (turned row slot, any_is slot rows) refl

without_one : (test : Bool) (same : Bool) (row : ℕ) (kept rows : List ℕ) → same ≡ test → rows ≡ kept
    → (if test then rows else row ∷ rows) ≡ cond (not same) (row ∷ kept) kept
without_one true same row kept rows e h = rw e h
without_one false same row kept rows e h = rw e (ap (λ (l : List ℕ). row ∷ l) h)

-- those that are not the row
pub without_is : (slot : ℕ) (rows : List ℕ) → without_row slot rows ≡ filter (λ (y : ℕ). not (y == slot)) rows
without_is slot [] = refl
without_is slot (row ∷ rows) = without_one (slot == row) (row == slot) row (filter (λ (y : ℕ). not (y == slot)) rows) (without_row slot rows) (turned row slot) (without_is slot rows)

pub in_append : (s : ℕ) (rows more : List ℕ) → is_one_of s (rows ++ more) ≡ (is_one_of s rows || is_one_of s more)
in_append s [] more = refl
in_append s (row ∷ rows) more = rw (in_append s rows more) (elim (s == row) as (λ (b : Bool). (b || (is_one_of s rows || is_one_of s more)) ≡ ((b || is_one_of s rows) || is_one_of s more)) [ true ↦ refl | false ↦ refl ])

either : (a b : Bool) → (b || (a || false)) ≡ (a || b)
either true true = refl
either true false = refl
either false true = refl
either false false = refl

there_already : (same : Bool) (b : Bool) → (same ≡ true → b ≡ true) → b ≡ (same || b)
there_already true b h = h refl
there_already false b h = refl

with_one : (there : Bool) (s slot : ℕ) (rows : List ℕ) → is_one_of slot rows ≡ there
    → is_one_of s (if there then rows else rows ++ slot ∷ []) ≡ ((s == slot) || is_one_of s rows)
with_one true s slot rows e = there_already (s == slot) (is_one_of s rows) (λ t. ap (λ (n : ℕ). is_one_of n rows) (number_is s slot t) ∙ e)
with_one false s slot rows e = in_append s rows (slot ∷ []) ∙ either (s == slot) (is_one_of s rows)

-- one more
pub in_with : (s slot : ℕ) (rows : List ℕ) → is_one_of s (with_row slot rows) ≡ ((s == slot) || is_one_of s rows)
in_with s slot rows = with_one (is_one_of slot rows) s slot rows refl

one_less : (test same : Bool) (s slot row : ℕ) (rows : List ℕ) → (slot == row) ≡ test → (s == slot) ≡ same → is_one_of s (without_row slot rows) ≡ (not same && is_one_of s rows)
    → is_one_of s (if test then without_row slot rows else row ∷ without_row slot rows) ≡ (not same && ((s == row) || is_one_of s rows))
one_less true true s slot row rows e f h = h
one_less true false s slot row rows e f h = let other : (s == row) ≡ false = grind (arith, nat_tests) in rw other h
one_less false true s slot row rows e f h = let other : (s == row) ≡ false = grind (arith, nat_tests) in rw other h
one_less false false s slot row rows e f h = ap (λ (b : Bool). (s == row) || b) h

-- one less
pub in_without : (s slot : ℕ) (rows : List ℕ) → is_one_of s (without_row slot rows) ≡ (not (s == slot) && is_one_of s rows)
in_without s slot [] = elim (s == slot) as (λ (b : Bool). false ≡ (not b && false)) [ true ↦ refl | false ↦ refl ]
in_without s slot (row ∷ rows) = one_less (slot == row) (s == slot) s slot row rows refl refl (in_without s slot rows)

-- lists with the same rows are empty together
pub both_empty : (xs ys : List ℕ) → ((s : ℕ) → is_one_of s xs ≡ is_one_of s ys) → is_empty xs ≡ is_empty ys
both_empty [] [] h = refl
both_empty [] (y ∷ ys) h = let e : false ≡ ((y == y) || is_one_of y ys) = h y in let f : (y == y) ≡ true = same_number y in absurd (let g : false ≡ true = rw f at e in (cc))
both_empty (x ∷ xs) [] h = let e : ((x == x) || is_one_of x xs) ≡ false = h x in let f : (x == x) ≡ true = same_number x in absurd (let g : true ≡ false = rw f at e in (cc))
both_empty (x ∷ xs) (y ∷ ys) h = refl

pub empty_is : (xs : List ℕ) → (length xs == 0) ≡ is_empty xs
empty_is [] = refl
empty_is (x ∷ xs) = grind (arith, nat_tests)
