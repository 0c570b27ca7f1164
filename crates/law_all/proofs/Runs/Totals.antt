-- Sums over the seats of a table: what a record counts is the sum of what the seats' own entries count, and a total over logs is the sum
-- of what the seats' logs weigh.
use Rattle.std.proofs.Common.{ℕ, zero, suc, ◌≡◌, ◌+◌, ◌<◌, ◌≤◌, Bool, true, false, List, map, refl, ap, ◌∙◌, arith}
use Rattle.std.proofs.lemmas.Bool.Decides.{nat_tests}
use Rattle.std.proofs.lemmas.List.FromFn.{sum_by-map-range_with_len_more}
use Rattle.std.specs.List.{range_with_len, sum_by}
use Rattle.std.specs.Prelude.{nat_lt, ◌&&◌, ◌==◌}
use Rattle.law_all.proofs.inv.model.Facts.{number_is}
use Rattle.law_all.specs.inv.model.Locals.{Group}
use Rattle.law_all.specs.inv.model.defs.declared.event.Event.{Event}
use Rattle.law_all.specs.laws.StateAt.{count, one, told}
use Rattle.law_all.specs.inv.history.Record.{Each, Past, Test, own}
use Rattle.law_all.specs.inv.history.Record.Past.{Start, Then}
use Rattle.law_all.specs.RunLaw.{total}

-- over the seats below n
abbrev pub sum_seats : (ℕ → ℕ) → ℕ → ℕ
sum_seats f zero = 0
sum_seats f (suc n) = sum_seats f n + f n

pub sum_same : (f g : ℕ → ℕ) (n : ℕ) → ((k : ℕ) → f k ≡ g k) → sum_seats f n ≡ sum_seats g n
sum_same f g zero h = refl
sum_same f g (suc n) h = omega (arith, sum_same f g n h, h n)

pub sum_most : (f g : ℕ → ℕ) (n : ℕ) → ((k : ℕ) → f k ≤ g k) → sum_seats f n ≤ sum_seats g n
sum_most f g zero h = omega arith
sum_most f g (suc n) h = omega (arith, sum_most f g n h, h n)

sum_none : (n : ℕ) → sum_seats (λ k. 0) n ≡ 0
sum_none zero = refl
sum_none (suc n) = omega (arith, sum_none n)

sum_both : (f g : ℕ → ℕ) (n : ℕ) → sum_seats (λ k. f k + g k) n ≡ sum_seats f n + sum_seats g n
sum_both f g zero = refl
sum_both f g (suc n) = omega (arith, sum_both f g n)

-- of a test that one seat alone can pass
abbrev passed : Bool → ℕ → ℕ → ℕ
passed b i n = sum_seats (λ k. one (b && k == i)) n

passes_not : (b : Bool) (n i : ℕ) → (n == i) ≡ false → one (b && n == i) ≡ 0
passes_not true n i e = rw e refl
passes_not false n i e = refl

passes : (b : Bool) (n i : ℕ) → (n == i) ≡ true → one (b && n == i) ≡ one b
passes true n i e = rw e refl
passes false n i e = refl

below_differs : (n i : ℕ) → n < i → (n == i) ≡ false
below_differs n i h = grind (arith, nat_tests)

passed_before : (b : Bool) (i n : ℕ) → n ≤ i → passed b i n ≡ 0
passed_before b i zero h = refl
passed_before b i (suc n) h =
    let e : one (b && n == i) ≡ 0 = passes_not b n i (below_differs n i (omega arith)) in
    let q : passed b i n ≡ 0 = passed_before b i n (omega arith) in
    omega arith

passed_more : (b : Bool) (i n : ℕ) (same : Bool) → (n == i) ≡ same → i < suc n → (i < n → passed b i n ≡ one b) → passed b i (suc n) ≡ one b
passed_more b i n true e h g =
    let q : passed b i n ≡ 0 = passed_before b i n (let s : n ≡ i = number_is n i e in omega arith) in
    let t : one (b && n == i) ≡ one b = passes b n i e in
    omega arith
passed_more b i n false e h g =
    let q : passed b i n ≡ one b = g (grind (arith, nat_tests)) in
    let t : one (b && n == i) ≡ 0 = passes_not b n i e in
    omega arith

passed_once : (b : Bool) (i n : ℕ) → i < n → passed b i n ≡ one b
passed_once b i zero h = absurd (omega arith)
passed_once b i (suc n) h = passed_more b i n (n == i) refl h (passed_once b i n)

-- each entry is of a seat below n
abbrev pub of_seats : ℕ → Test
of_seats n p i event = nat_lt i n

seat_below : (i n : ℕ) → nat_lt i n ≡ true → i < n
seat_below i n h = grind (arith, nat_tests)

-- how many events of a kind a seat has told in all its calls
abbrev pub own_count : ℕ → (Event → Bool) → Past → ℕ
own_count k kind p = count (own k kind) p

pub told_is : (n : ℕ) (kind : Event → Bool) (p : Past) → Each (of_seats n) p → sum_seats (λ k. own_count k kind p) n ≡ told kind p
told_is n kind Start h = sum_none n
told_is n kind (Then p i event) h =
    let e : sum_seats (λ k. own_count k kind p) n ≡ told kind p = told_is n kind p h.1 in
    let q : passed (kind event) i n ≡ one (kind event) = passed_once (kind event) i n (seat_below i n h.0) in
    let s : sum_seats (λ k. own_count k kind p + one (kind event && k == i)) n ≡ sum_seats (λ k. own_count k kind p) n + passed (kind event) i n =
    sum_both (λ k. own_count k kind p) (λ k. one (kind event && k == i)) n in
    omega arith

-- the logs in number order
pub total_is :
    (weight : Group → ℕ) (log : ℕ → List Group) (n : ℕ)
    → total weight (map log (range_with_len 0 n)) ≡ sum_seats (λ k. sum_by weight (log k)) n
total_is weight log zero = refl
total_is weight log (suc n) =
    let first : ℕ → ℕ = λ m. total weight (map log (range_with_len 0 m)) in
    let next : suc n ≡ n + 1 = omega arith in
    let more : first (n + 1) ≡ first n + sum_by weight (log n) =
    sum_by-map-range_with_len_more (λ (xs : List Group). sum_by weight xs) log 0 n n (omega arith) in
    ap first next ∙ more ∙ ap (λ (x : ℕ). x + sum_by weight (log n)) (total_is weight log n)
