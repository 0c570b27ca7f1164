-- Sums over the views of a table, where one view changes, and tracks that are counted by their seats.
use Rattle.std.proofs.Common.{All, Bool, List, [], ap, arith, cond, false, get_or, length, refl, set, subst, true, ℕ, zero, suc, ◌+◌, ◌<◌, ◌∙◌, ◌∷◌, ◌≡◌, ◌≢◌, ◌≤◌}
use Rattle.std.proofs.lemmas.Bool.Decides.{nat_tests}
use Rattle.std.proofs.lemmas.List.Elements.{All-cons, All-head, All-nil, All-tail}
use Rattle.std.proofs.lemmas.List.Sums.{get_or-le-sum_by, sum_by-cons, sum_by-set}
use Rattle.std.specs.Prelude.{Contains, count_by, if◌then◌else◌, sum_by, ◌==◌}
use mathlib.Core.Option.{some, some-injective}
use lib.ListN.{get_elem?}
use Rattle.atomic_table.proofs.Lists.{set_else}
use Rattle.wfe_drive_rule.specs.Rule.{times}
use Rattle.wfe_drive_rule.specs.Views.{Track, View, seat_of, spent}

-- what stands in a place of a list
pub stands_at : {A : Type 0} (list : List A) (i : ℕ) (a : A) → get_elem? list i ≡ some a → (i < length list) × (get_or list i a ≡ a)
stands_at [] i a e = absurd (cc)
stands_at (x ∷ xs) zero a e = (omega arith, some-injective x a e)
stands_at (x ∷ xs) (suc i) a e = let t = stands_at xs i a e in (omega (arith, t.0), t.1)

-- one view is another
pub sum_set : (f : View → ℕ) (views : List View) (id : ℕ) (v w : View) → get_elem? views id ≡ some v → sum_by f (set views id w) + f v ≡ sum_by f views + f w
sum_set f views id v w e =
    let t = stands_at views id v e in
    subst (λ (z : View). sum_by f (set views id w) + f z ≡ sum_by f views + f w) t.1 (sum_by-set f views id w v t.0)

pub sum_same : (f : View → ℕ) (views : List View) (id : ℕ) (v w : View) → get_elem? views id ≡ some v → f w ≡ f v → sum_by f (set views id w) ≡ sum_by f views
sum_same f views id v w e s = omega (arith, sum_set f views id v w e, s)

-- one view gives no more than all
pub sum_one : (f : View → ℕ) (views : List View) (id : ℕ) (v : View) → get_elem? views id ≡ some v → f v ≤ sum_by f views
sum_one f views id v e = let t = stands_at views id v e in subst (λ (z : View). f z ≤ sum_by f views) t.1 (get_or-le-sum_by f views id v t.0)

-- nor do two
pub sum_two : (f : View → ℕ) (views : List View) (i j : ℕ) (v w : View) → f spent ≡ 0 → get_elem? views i ≡ some v → get_elem? views j ≡ some w → j ≢ i → f v + f w ≤ sum_by f views
sum_two f views i j v w z e g ne = omega (arith, sum_set f views i v spent e, sum_one f (set views i spent) j w (set_else views i j spent ne ∙ g), z)

-- the sum of the others
pub sum_out : (f : View → ℕ) (views : List View) (id : ℕ) (v : View) → f spent ≡ 0 → get_elem? views id ≡ some v → sum_by f (set views id spent) + f v ≡ sum_by f views
sum_out f views id v z e = omega (arith, sum_set f views id v spent e, z)

-- a track more
pub times-cons : (seat : ℕ) (track : Track) (tracks : List Track) → times seat (track ∷ tracks) ≡ (if seat_of track == seat then 1 else 0) + times seat tracks
times-cons seat track tracks = sum_by-cons (λ (x : Track). cond (seat_of x == seat) 1 0) track tracks

-- where none of the tracks is the seat's
apart_head : (seat n m : ℕ) (b : Bool) → n ≡ (if b then 1 else 0) + m → n ≡ 0 → (b ≡ false) × (m ≡ 0)
apart_head seat n m true e z = absurd (omega (arith, e, z))
apart_head seat n m false e z = (refl, omega (arith, e, z))

pub All-apart : (P Q : Track → Type 0) (seat : ℕ) (tracks : List Track) → times seat tracks ≡ 0 → ((track : Track) → (seat_of track == seat) ≡ false → P track → Q track) → All P tracks → All Q tracks
All-apart P Q seat [] z f a = All-nil Q
All-apart P Q seat (x ∷ xs) z f a =
    let t = apart_head seat _ _ (seat_of x == seat) (times-cons seat x xs) z in
    All-cons Q x xs (f x t.0 (All-head P x xs a)) (All-apart P Q seat xs t.1 f (All-tail P x xs a))

-- where one is, it is among them
pub record Among (seat : ℕ) (tracks : List Track) : Type 0 where
  pub track : Track
  pub there : Contains tracks track
  pub seat_is : seat_of track ≡ seat

among_by : (seat : ℕ) (x : Track) (xs : List Track) (b : Bool) → (seat_of x == seat) ≡ b → 1 ≤ (if b then 1 else 0) + times seat xs → (1 ≤ times seat xs → Among seat xs) → Among seat (x ∷ xs)
among_by seat x xs true q h f = record { track = x; there = (0, omega arith, refl); seat_is = grind (arith, nat_tests) }
among_by seat x xs false q h f = let a = f (omega (arith, h)) in record { track = a.track; there = (suc a.there.0, omega (arith, a.there.1), a.there.2); seat_is = a.seat_is }

pub among : (seat : ℕ) (tracks : List Track) → 1 ≤ times seat tracks → Among seat tracks
among seat [] h = absurd (omega (arith, h))
among seat (x ∷ xs) h = among_by seat x xs (seat_of x == seat) refl (omega (arith, h, times-cons seat x xs)) (among seat xs)

-- what follows of each
pub All-each : (P Q : Track → Type 0) (tracks : List Track) → ((track : Track) → P track → Q track) → All P tracks → All Q tracks
All-each P Q [] f a = All-nil Q
All-each P Q (x ∷ xs) f a = All-cons Q x xs (f x (All-head P x xs a)) (All-each P Q xs f (All-tail P x xs a))

-- each view gives none
pub sum_zero : (f : View → ℕ) (views : List View) → ((j : ℕ) (w : View) → get_elem? views j ≡ some w → f w ≡ 0) → sum_by f views ≡ 0
sum_zero f [] h = refl
sum_zero f (x ∷ xs) h = omega (arith, sum_by-cons f x xs, h 0 x refl, sum_zero f xs (λ j w e. h (suc j) w e))

-- nor does any track
pub count_zero : (p : Track → Bool) (tracks : List Track) → All (λ track. p track ≡ false) tracks → count_by p tracks ≡ 0
count_zero p [] h = refl
count_zero p (x ∷ xs) h =
    let one : Bool → ℕ = (λ b. cond b 1 0) in
    let e : count_by p (x ∷ xs) ≡ one (p x) + count_by p xs = sum_by-cons (λ (track : Track). cond (p track) 1 0) x xs in
    let z : one (p x) ≡ 0 = ap one (All-head (λ track. p track ≡ false) x xs h) in
    omega (arith, e, z, count_zero p xs (All-tail (λ track. p track ≡ false) x xs h))
