-- Lives of one list added to another, one after the other, where no row is twice in both.
use Rattle.std.proofs.Common.{List, [], ap, arith, drop, false, refl, subst, suc, sym, take, true, zero, ℕ, ◌++◌, ◌+◌, ◌∙◌, ◌∷◌, ◌≡◌, ◌≤◌}
use Rattle.std.proofs.lemmas.Bool.Decides.{nat_tests}
use Rattle.std.proofs.lemmas.List.{append_assoc}
use Rattle.std.specs.List.{IsDistinct, AllByRecursion, list_any}
use Rattle.std.specs.Prelude.{Some, slice_get, ◌==◌}
use Rattle.wfe_core.specs.CallReady.{NotListed, slots_of}
use Rattle.wfe_core.specs.defs.declared.lifetime.Lifetime.{Lifetime}
use Rattle.wfe_core.proofs.Facts.{or_more, same_number}
use Rattle.wfe_drive_rule.specs.inv.rows.Facts.{Listing}

slots_joined : (xs ys : List Lifetime) → slots_of (xs ++ ys) ≡ slots_of xs ++ slots_of ys
slots_joined [] ys = refl
slots_joined (x ∷ xs) ys = ap (λ (l : List ℕ). x.slot ∷ l) (slots_joined xs ys)

turned : (a b : ℕ) → (a == b) ≡ (b == a)
turned a b = grind (arith, nat_tests)

apart_from : (x y : ℕ) (xs ys : List ℕ) → AllByRecursion (λ z. (x == z) ≡ false) (xs ++ y ∷ ys) → (x == y) ≡ false
apart_from x y [] ys h = h.0
apart_from x y (z ∷ xs) ys h = apart_from x y xs ys h.1

apart_before : (xs ys : List ℕ) (y : ℕ) → IsDistinct ◌==◌ (xs ++ y ∷ ys) → list_any (◌==◌ y) xs ≡ false
unfolding IsDistinct
apart_before [] ys y d = refl
apart_before (x ∷ xs) ys y d = let e : (y == x) ≡ false = turned y x ∙ apart_from x y xs ys d.0 in rw (e, apart_before xs ys y d.1) refl

there_after : (xs ys : List ℕ) (y : ℕ) → list_any (◌==◌ y) (xs ++ y ∷ ys) ≡ true
there_after [] ys y = rw (same_number y) refl
there_after (x ∷ xs) ys y = or_more (y == x) (list_any (◌==◌ y) (xs ++ y ∷ ys)) (there_after xs ys y)

-- one life can be added
pub record Adds (slots : ℕ) (before : List Lifetime) (life : Lifetime) : Type 0 where
  pub slot : life.slot ≤ slots
  pub apart : NotListed life.slot before

adds : (slots : ℕ) (before more : List Lifetime) (life : Lifetime) → Listing slots (before ++ life ∷ more) → Adds slots before life
adds slots before more life h =
    let e : slots_of (before ++ life ∷ more) ≡ slots_of before ++ life.slot ∷ slots_of more = slots_joined before (life ∷ more) in
    let b = h.below life.slot (subst (λ (l : List ℕ). list_any (◌==◌ life.slot) l ≡ true) (sym e) (there_after (slots_of before) (slots_of more) life.slot)) in
    record { slot = omega (arith, b); apart = apart_before (slots_of before) (slots_of more) life.slot (subst (λ (l : List ℕ). IsDistinct ◌==◌ l) e h.apart) }

-- a list at one of its places
pub record Cut (list : List Lifetime) (place : ℕ) (life : Lifetime) : Type 0 where
  pub rows : list ≡ take place list ++ life ∷ drop (suc place) list
  pub next : take (suc place) list ≡ take place list ++ life ∷ []

pub cut : (list : List Lifetime) (place : ℕ) (life : Lifetime) → slice_get list place ≡ Some life → Cut list place life
cut [] place life e = absurd (cc)
cut (x ∷ xs) zero life e = let same : x ≡ life = cc in record { rows = ap (λ (y : Lifetime). y ∷ xs) same; next = ap (λ (y : Lifetime). y ∷ []) same }
cut (x ∷ xs) (suc place) life e = let c = cut xs place life e in record { rows = ap (λ (ys : List Lifetime). x ∷ ys) c.rows; next = ap (λ (ys : List Lifetime). x ∷ ys) c.next }

pub adds_at : (slots : ℕ) (old other now : List Lifetime) (place : ℕ) (life : Lifetime) → Listing slots (old ++ other) → now ≡ old ++ take place other → slice_get other place ≡ Some life → Adds slots now life
adds_at slots old other now place life h is e =
    let c = cut other place life e in
    let all : old ++ other ≡ (old ++ take place other) ++ life ∷ drop (suc place) other = ap (λ (ys : List Lifetime). old ++ ys) c.rows ∙ sym (append_assoc old (take place other) (life ∷ drop (suc place) other)) in
    subst (λ (xs : List Lifetime). Adds slots xs life) (sym is) (adds slots (old ++ take place other) (drop (suc place) other) life (subst (Listing slots) all h))

pub more_at : (old other now later : List Lifetime) (place : ℕ) (life : Lifetime) → now ≡ old ++ take place other → slice_get other place ≡ Some life → later ≡ now ++ life ∷ [] → later ≡ old ++ take (place + 1) other
more_at old other now later place life is e more =
    let c = cut other place life e in
    let one : suc place ≡ place + 1 = omega arith in
    more ∙ ap (λ (xs : List Lifetime). xs ++ life ∷ []) is ∙ append_assoc old (take place other) (life ∷ []) ∙ ap (λ (ys : List Lifetime). old ++ ys) (sym c.next ∙ ap (λ (n : ℕ). take n other) one)
