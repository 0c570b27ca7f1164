-- Retire lists: one entry more at the end, and one less.
use Rattle.std.proofs.Common.{ℕ, zero, suc, ◌≡◌, Bool, true, false, arith, refl, ap, List, [], ◌∷◌, ◌++◌}
use Rattle.std.proofs.lemmas.Bool.Decides.{nat_tests}
use Rattle.std.specs.Prelude.{◌==◌}
use Rattle.std.specs.List.{remove}
use Rattle.wfe_core.specs.defs.declared.lifetime.Lifetime.{Lifetime}
use Rattle.wfe_core.proofs.Facts.{number_is}
use Rattle.inv_rows.specs.Rows.{with, without, joined}
use Rattle.inv_rows.specs.Hands.{in_list, no_entry, each_once, stands_at}

in_list_tail : (x : Lifetime) (xs : List Lifetime) (s b r : ℕ) → in_list (x ∷ xs) s b r ≡ false → in_list xs s b r ≡ false
in_list_tail x xs s b r h = grind (arith, nat_tests)

no_entry_cons : (x : Lifetime) (xs : List Lifetime) (s : ℕ) → in_list (x ∷ xs) s x.birth x.retire ≡ false → no_entry s xs ≡ true → no_entry s (x ∷ xs) ≡ true
no_entry_cons x xs s h t = grind (arith, nat_tests)

-- a slot that no entry has
pub no_entry_from : (xs : List Lifetime) (s : ℕ) → ((b r : ℕ) → in_list xs s b r ≡ false) → no_entry s xs ≡ true
no_entry_from [] s h = refl
no_entry_from (x ∷ xs) s h = no_entry_cons x xs s (h x.birth x.retire) (no_entry_from xs s (λ b r. in_list_tail x xs s b r (h b r)))

pub in_list_last : (xs : List Lifetime) (x : Lifetime) (s b r : ℕ) → in_list (xs ++ x ∷ []) s b r ≡ with (in_list xs) x.slot x.birth x.retire s b r
in_list_last [] x s b r = grind (arith, nat_tests)
in_list_last (y ∷ xs) x s b r = let h = in_list_last xs x s b r in grind (arith, nat_tests, h)

no_entry_last : (xs : List Lifetime) (x : Lifetime) (s : ℕ) → (s == x.slot) ≡ false → no_entry s xs ≡ true → no_entry s (xs ++ x ∷ []) ≡ true
no_entry_last [] x s n h = grind (arith, nat_tests)
no_entry_last (y ∷ xs) x s n h = let k = no_entry_last xs x s n in grind (arith, nat_tests, k)

pub once_last : (xs : List Lifetime) (x : Lifetime) → each_once xs ≡ true → no_entry x.slot xs ≡ true → each_once (xs ++ x ∷ []) ≡ true
once_last [] x d h = refl
once_last (y ∷ xs) x d h =
    let e : each_once xs ≡ true = grind (arith, nat_tests) in
    let n : no_entry x.slot xs ≡ true = grind (arith, nat_tests) in
    let k = once_last xs x e n in
    let f : no_entry y.slot xs ≡ true = grind (arith, nat_tests) in
    let o : (y.slot == x.slot) ≡ false = grind (arith, nat_tests) in
    let q = no_entry_last xs x y.slot o f in grind (arith, nat_tests, k, q)

pub no_entry_in : (xs : List Lifetime) (s b r : ℕ) → no_entry s xs ≡ true → in_list xs s b r ≡ false
no_entry_in [] s b r h = refl
no_entry_in (x ∷ xs) s b r h = let e : no_entry s xs ≡ true = grind (arith, nat_tests) in let k = no_entry_in xs s b r e in grind (arith, nat_tests, k)

pub no_entry_remove : (xs : List Lifetime) (place s : ℕ) → no_entry s xs ≡ true → no_entry s (remove xs place) ≡ true
no_entry_remove [] zero s h = refl
no_entry_remove [] (suc place) s h = refl
no_entry_remove (x ∷ xs) zero s h = grind (arith, nat_tests)
no_entry_remove (x ∷ xs) (suc place) s h =
    let e : no_entry s xs ≡ true = grind (arith, nat_tests) in
    let o : (s == x.slot) ≡ false = grind (arith, nat_tests) in rw (o, no_entry_remove xs place s e) refl

pub once_remove : (xs : List Lifetime) (place : ℕ) → each_once xs ≡ true → each_once (remove xs place) ≡ true
once_remove [] zero d = refl
once_remove [] (suc place) d = refl
once_remove (x ∷ xs) zero d = grind (arith, nat_tests)
once_remove (x ∷ xs) (suc place) d =
    let e : each_once xs ≡ true = grind (arith, nat_tests) in
    let f : no_entry x.slot xs ≡ true = grind (arith, nat_tests) in rw (no_entry_remove xs place x.slot f, once_remove xs place e) refl

stands_later : (x : Lifetime) (xs : List Lifetime) (slot : ℕ) → no_entry x.slot xs ≡ true → (place : ℕ) → stands_at xs place slot ≡ true → (x.slot == slot) ≡ false
stands_later x [] slot h zero e = cc
stands_later x [] slot h (suc place) e = cc
stands_later x (y ∷ xs) slot h zero e = grind (arith, nat_tests)
stands_later x (y ∷ xs) slot h (suc place) e = let f : no_entry x.slot xs ≡ true = grind (arith, nat_tests) in stands_later x xs slot f place e

-- the entry at a place is taken out
pub in_list_remove : (xs : List Lifetime) (place slot s b r : ℕ) → each_once xs ≡ true → stands_at xs place slot ≡ true → in_list (remove xs place) s b r ≡ without (in_list xs) slot s b r
in_list_remove [] zero slot s b r d e = cc
in_list_remove [] (suc place) slot s b r d e = cc
in_list_remove (x ∷ xs) zero slot s b r d e =
    let f : no_entry x.slot xs ≡ true = grind (arith, nat_tests) in
    let n = no_entry_in xs x.slot b r f in grind (arith, nat_tests, n)
in_list_remove (x ∷ xs) (suc place) slot s b r d e =
    let k : each_once xs ≡ true = grind (arith, nat_tests) in
    let f : no_entry x.slot xs ≡ true = grind (arith, nat_tests) in
    let o = stands_later x xs slot f place e in
    let q = in_list_remove xs place slot s b r k e in rw q (grind (arith, nat_tests, o))

-- the entry at a place is an entry
pub record Entered (xs : List Lifetime) (slot : ℕ) : Type 0 where
  pub birth : ℕ
  pub retire : ℕ
  pub listed : in_list xs slot birth retire ≡ true

more_entered : (x : Lifetime) (xs : List Lifetime) (slot : ℕ) → Entered xs slot → Entered (x ∷ xs) slot
more_entered x xs slot h = record { birth = h.birth; retire = h.retire; listed = grind (arith, nat_tests, h.listed) }

pub stands_entered : (xs : List Lifetime) (place slot : ℕ) → stands_at xs place slot ≡ true → Entered xs slot
stands_entered [] zero slot e = absurd (cc)
stands_entered [] (suc place) slot e = absurd (cc)
stands_entered (x ∷ xs) zero slot e = record { birth = x.birth; retire = x.retire; listed = grind (arith, nat_tests) }
stands_entered (x ∷ xs) (suc place) slot e = more_entered x xs slot (stands_entered xs place slot e)

-- where a test tells two numbers apart, they are not the same
pub apart_by : (f : ℕ → Bool) (s slot : ℕ) (same : Bool) → (s == slot) ≡ same → f s ≡ true → f slot ≡ false → same ≡ false
apart_by f s slot true e y z = let is : f s ≡ f slot = ap f (number_is s slot e) in absurd (cc)
apart_by f s slot false e y z = refl

-- the entries of two lists, one after the other
pub in_list_joined : (xs ys : List Lifetime) (s b r : ℕ) → in_list (xs ++ ys) s b r ≡ joined (in_list xs) (in_list ys) s b r
in_list_joined [] ys s b r = refl
in_list_joined (x ∷ xs) ys s b r = let h = in_list_joined xs ys s b r in grind (arith, nat_tests, h)

no_entry_joined : (xs ys : List Lifetime) (s : ℕ) → no_entry s xs ≡ true → no_entry s ys ≡ true → no_entry s (xs ++ ys) ≡ true
no_entry_joined [] ys s h k = k
no_entry_joined (x ∷ xs) ys s h k =
    let e : no_entry s xs ≡ true = grind (arith, nat_tests) in
    let o : (s == x.slot) ≡ false = grind (arith, nat_tests) in rw (o, no_entry_joined xs ys s e k) refl

-- no slot has an entry in both
pub once_joined : (xs ys : List Lifetime) → ((s b r c q : ℕ) → in_list xs s b r ≡ true → in_list ys s c q ≡ false) → each_once xs ≡ true → each_once ys ≡ true → each_once (xs ++ ys) ≡ true
once_joined [] ys f h k = k
once_joined (x ∷ xs) ys f h k =
    let e : each_once xs ≡ true = grind (arith, nat_tests) in
    let o : no_entry x.slot xs ≡ true = grind (arith, nat_tests) in
    let first : in_list (x ∷ xs) x.slot x.birth x.retire ≡ true = grind (arith, nat_tests) in
    let apart : no_entry x.slot ys ≡ true = no_entry_from ys x.slot (λ c q. f x.slot x.birth x.retire c q first) in
    rw (no_entry_joined xs ys x.slot o apart, once_joined xs ys (λ s b r c q u. f s b r c q (later_in x xs s b r u)) e k) refl
  where
    later_in : (x : Lifetime) (xs : List Lifetime) (s b r : ℕ) → in_list xs s b r ≡ true → in_list (x ∷ xs) s b r ≡ true
    later_in x xs s b r h = grind (arith, nat_tests, h)
