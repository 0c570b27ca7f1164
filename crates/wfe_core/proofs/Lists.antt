-- Retire lists: no row is in one twice, so a list has room for one row more.
use Rattle.std.proofs.Common.{ℕ, zero, suc, ◌≡◌, ◌≤◌, ◌<◌, ◌+◌, ◌-◌, Bool, true, false, ◌||◌, List, [], ◌∷◌, ◌++◌, length, take, slice_set, slice_index_or, refl, ap, sym, arith, ◌∙◌}
use Rattle.std.proofs.Math.Seq.{take-append_seam}
use Rattle.std.proofs.lemmas.Bool.Decides.{nat_tests}
use Rattle.std.proofs.lemmas.Grind.{common_steps}
use Rattle.std.proofs.lemmas.List.Folds.{list_any-append}
use Rattle.std.proofs.lemmas.Map.Steps.{length-le_from_distinct_below}
use Rattle.std.specs.Prelude.{◌==◌}
use Rattle.std.specs.List.{IsDistinct, AllByRecursion, list_any, remove}
use Rattle.wfe_defs.proofs.Facts.{or_more, or_along}
use Rattle.wfe_defs.specs.declared.lifetime.Lifetime.{Lifetime}
use Rattle.wfe_core.specs.CallReady.{slots_of, NotListed}
use Rattle.wfe_core.specs.Held.{ListFits}

same_back : (a b : ℕ) → (a == b) ≡ (b == a)
same_back a b = grind (arith, nat_tests)

pub or_left : (a b : Bool) → (a || b) ≡ false → a ≡ false
or_left true b h = h
or_left false b h = refl

pub or_right : (a b : Bool) → (a || b) ≡ false → b ≡ false
or_right true b h = absurd (grind arith)
or_right false b h = h

apart_push : (x y : ℕ) (xs : List ℕ) → AllByRecursion (λ z. (x == z) ≡ false) xs → (x == y) ≡ false → AllByRecursion (λ z. (x == z) ≡ false) (xs ++ y ∷ [])
apart_push x y [] h e = (e, tt)
apart_push x y (z ∷ xs) h e = (h.0, apart_push x y xs h.1 e)

distinct_push : (xs : List ℕ) (y : ℕ) → IsDistinct ◌==◌ xs → list_any (◌==◌ y) xs ≡ false → IsDistinct ◌==◌ (xs ++ y ∷ [])
unfolding IsDistinct
distinct_push [] y d h = (tt, tt)
distinct_push (x ∷ xs) y d h = (
  apart_push x y xs d.0 (same_back x y ∙ or_left (y == x) (list_any (◌==◌ y) xs) h),
  distinct_push xs y d.1 (or_right (y == x) (list_any (◌==◌ y) xs) h),
)

apart_remove : (x i : ℕ) (xs : List ℕ) → AllByRecursion (λ z. (x == z) ≡ false) xs → AllByRecursion (λ z. (x == z) ≡ false) (remove xs i)
apart_remove x zero [] h = tt
apart_remove x (suc i) [] h = tt
apart_remove x zero (z ∷ xs) h = h.1
apart_remove x (suc i) (z ∷ xs) h = (h.0, apart_remove x i xs h.1)

distinct_remove : (xs : List ℕ) (i : ℕ) → IsDistinct ◌==◌ xs → IsDistinct ◌==◌ (remove xs i)
unfolding IsDistinct
distinct_remove [] zero d = tt
distinct_remove [] (suc i) d = tt
distinct_remove (x ∷ xs) zero d = d.1
distinct_remove (x ∷ xs) (suc i) d = (apart_remove x i xs d.0, distinct_remove xs i d.1)

any_remove : (y : ℕ) (xs : List ℕ) (i : ℕ) → list_any (◌==◌ y) (remove xs i) ≡ true → list_any (◌==◌ y) xs ≡ true
any_remove y [] zero h = h
any_remove y [] (suc i) h = h
any_remove y (x ∷ xs) zero h = or_more (y == x) (list_any (◌==◌ y) xs) h
any_remove y (x ∷ xs) (suc i) h = or_along (y == x) (list_any (◌==◌ y) (remove xs i)) (list_any (◌==◌ y) xs) (λ e. any_remove y xs i e) h

slots_push : (xs : List Lifetime) (y : Lifetime) → slots_of (xs ++ y ∷ []) ≡ slots_of xs ++ y.slot ∷ []
slots_push [] y = refl
slots_push (x ∷ xs) y = ap (λ (zs : List ℕ). x.slot ∷ zs) (slots_push xs y)

slots_remove : (xs : List Lifetime) (i : ℕ) → slots_of (remove xs i) ≡ remove (slots_of xs) i
slots_remove [] zero = refl
slots_remove [] (suc i) = refl
slots_remove (x ∷ xs) zero = refl
slots_remove (x ∷ xs) (suc i) = ap (λ (zs : List ℕ). x.slot ∷ zs) (slots_remove xs i)

pub slots_length : (xs : List Lifetime) → length (slots_of xs) ≡ length xs
slots_length [] = refl
slots_length (x ∷ xs) = ap suc (slots_length xs)

pub fits_empty : (slots capacity : ℕ) → slots + 1 ≤ capacity → ListFits [] slots capacity
unfolding IsDistinct
fits_empty slots capacity h = record { apart = tt; below = λ slot e. absurd (grind arith); room = h }

pub fits_length : (lives : List Lifetime) (slots capacity : ℕ) → ListFits lives slots capacity → length lives ≤ slots + 1
fits_length lives slots capacity h = rw (← slots_length lives) (length-le_from_distinct_below (slots_of lives) (slots + 1) h.apart h.below)

below_push : (slots slot y : ℕ) (xs : List ℕ) → ((q : ℕ) → list_any (◌==◌ q) xs ≡ true → q < slots + 1) → y ≤ slots → list_any (◌==◌ slot) (xs ++ y ∷ []) ≡ true → slot < slots + 1
below_push slots slot y xs h e k = by_any (list_any (◌==◌ slot) xs) refl (sym (list_any-append (◌==◌ slot) xs (y ∷ [])) ∙ k)
  where
    by_any : (b : Bool) → list_any (◌==◌ slot) xs ≡ b → (list_any (◌==◌ slot) xs || ((slot == y) || false)) ≡ true → slot < slots + 1
    by_any true p q = h slot p
    by_any false p q = let r : (false || ((slot == y) || false)) ≡ true = rw p at q in grind (arith, nat_tests)

pub fits_push : (lives : List Lifetime) (life : Lifetime) (slots capacity more : ℕ) → ListFits lives slots capacity → life.slot ≤ slots → NotListed life.slot lives → capacity ≤ more → ListFits (lives ++ life ∷ []) slots more
fits_push lives life slots capacity more h e k m = record {
  apart = rw (slots_push lives life) (distinct_push (slots_of lives) life.slot h.apart k);
  below = λ slot q. below_push slots slot life.slot (slots_of lives) h.below e (sym (ap (list_any (◌==◌ slot)) (slots_push lives life)) ∙ q);
  room = omega (arith, h.room);
}

-- a row that is not in the list has room in it
pub fits_room : (lives : List Lifetime) (life : Lifetime) (slots capacity : ℕ) → ListFits lives slots capacity → life.slot ≤ slots → NotListed life.slot lives → length lives < capacity
fits_room lives life slots capacity h e k = grind (arith, common_steps, fits_length (lives ++ life ∷ []) slots capacity (fits_push lives life slots capacity capacity h e k (omega arith)), h.room)

pub fits_remove : (lives : List Lifetime) (i slots capacity : ℕ) → ListFits lives slots capacity → ListFits (remove lives i) slots capacity
fits_remove lives i slots capacity h = record {
  apart = rw (slots_remove lives i) (distinct_remove (slots_of lives) i h.apart);
  below = λ slot q. h.below slot (any_remove slot (slots_of lives) i (sym (ap (list_any (◌==◌ slot)) (slots_remove lives i)) ∙ q));
  room = h.room;
}

-- a life that is moved one place down leaves its place for the gap
gap_after : (xs : List Lifetime) (i : ℕ) (d : Lifetime) → suc i < length xs → remove (slice_set xs i (slice_index_or xs (suc i) d)) (suc i) ≡ remove xs i
gap_after [] i d h = absurd (omega arith)
gap_after (x ∷ []) zero d h = absurd (omega arith)
gap_after (x ∷ y ∷ xs) zero d h = refl
gap_after (x ∷ xs) (suc i) d h = ap (λ (zs : List Lifetime). x ∷ zs) (gap_after xs i d (omega arith))

pub gap_moved : (xs : List Lifetime) (i : ℕ) (d : Lifetime) → i + 1 < length xs → remove (slice_set xs i (slice_index_or xs (i + 1) d)) (i + 1) ≡ remove xs i
gap_moved xs i d h =
    let next : i + 1 ≡ suc i = omega arith in
    rw next (gap_after xs i d (omega arith))

pub last_removed : (xs : List Lifetime) (i : ℕ) → i + 1 ≡ length xs → remove xs i ≡ take i xs
last_removed [] i h = absurd (omega arith)
last_removed (x ∷ []) zero h = refl
last_removed (x ∷ y ∷ xs) zero h = absurd (omega arith)
last_removed (x ∷ xs) (suc i) h = ap (λ (zs : List Lifetime). x ∷ zs) (last_removed xs i (omega arith))

-- what stands behind the lives of a list is not read where its last life goes
pub last_out : (n : ℕ) (xs ys : List Lifetime) → length xs ≡ n → take (n - 1) (take n (xs ++ ys)) ≡ take (n - 1) xs
last_out n xs ys h = ap (λ (zs : List Lifetime). take (n - 1) zs) (rw (← h) (take-append_seam xs ys))
