-- How many entries of a record pass a test: sums, parts, and records that go on.
use Rattle.std.proofs.Common.{ℕ, zero, suc, ◌≡◌, ◌≤◌, ◌+◌, Bool, true, false, List, [], ◌∷◌, refl, ap, arith}
use Rattle.std.proofs.lemmas.Bool.Decides.{nat_tests}
use Rattle.std.specs.Prelude.{◌==◌, ◌&&◌, nat_lt}
use Rattle.law_reuse.specs.laws.defs.Entry.{Entry}
use Rattle.law_reuse.specs.laws.defs.declared.event.Event.{Event}
use Rattle.law_reuse.specs.laws.records.Record.{Past, Test, Each, tells}
use Rattle.law_reuse.specs.laws.records.Record.Past.{Start, Then}
use Rattle.law_reuse.specs.laws.StateAt.{one, count, told}

-- a test that is the sum of two
pub count_sum : (t a b : Test) → ((p : Past) (i : ℕ) (event : Event) → one (t p i event) ≡ one (a p i event) + one (b p i event)) → (p : Past) → count t p ≡ count a p + count b p
count_sum t a b h Start = refl
count_sum t a b h (Then p i event) = omega (arith, count_sum t a b h p, h p i event)

-- tests that agree on the entries of a record
pub count_where : (t u ok : Test) → ((p : Past) (i : ℕ) (event : Event) → ok p i event ≡ true → t p i event ≡ u p i event) → (p : Past) → Each ok p → count t p ≡ count u p
count_where t u ok h Start g = refl
count_where t u ok h (Then p i event) g =
    let e : one (t p i event) ≡ one (u p i event) = ap one (h p i event g.0) in
    omega (arith, count_where t u ok h p g.1, e)

-- a test that passes less
pub count_less : (t u : Test) → ((p : Past) (i : ℕ) (event : Event) → one (t p i event) ≤ one (u p i event)) → (p : Past) → count t p ≤ count u p
count_less t u h Start = omega arith
count_less t u h (Then p i event) = omega (arith, count_less t u h p, h p i event)

-- a record that goes on counts no less
pub count_later : (t : Test) (p : Past) (later : List Entry) → count t p ≤ count t (tells p later)
count_later t p [] = omega arith
count_later t p (x ∷ later) = omega (arith, count_later t (Then p x.seat x.event) later)

-- the entries of one seat alone
pub own_part : (kind same : Bool) → same ≡ true → one (kind && same) ≡ one kind
own_part true same e = rw e refl
own_part false same e = refl

pub other_part : (kind same : Bool) → same ≡ false → one (kind && same) ≡ 0
other_part true same e = rw e refl
other_part false same e = refl

-- events of a kind told by one seat, and by seats below a number
abbrev pub by_seat : (Event → Bool) → ℕ → Test
by_seat kind k p i event = kind event && k == i

abbrev pub by_below : (Event → Bool) → ℕ → Test
by_below kind n p i event = kind event && nat_lt i n

pub order_next : (n i : ℕ) → one (nat_lt i (suc n)) ≡ one (nat_lt i n) + one (n == i)
order_next n i = by_order (nat_lt i (suc n)) (nat_lt i n) (n == i) refl refl refl
  where
    by_order : (a b c : Bool) → nat_lt i (suc n) ≡ a → nat_lt i n ≡ b → (n == i) ≡ c → one a ≡ one b + one c
    by_order true true true e f g = absurd (grind (arith, nat_tests))
    by_order true true false e f g = refl
    by_order true false true e f g = refl
    by_order true false false e f g = absurd (grind (arith, nat_tests))
    by_order false true c e f g = absurd (grind (arith, nat_tests))
    by_order false false true e f g = absurd (grind (arith, nat_tests))
    by_order false false false e f g = refl

part_next : (kind : Bool) (n i : ℕ) → one (kind && nat_lt i (suc n)) ≡ one (kind && nat_lt i n) + one (kind && n == i)
part_next false n i = refl
part_next true n i = order_next n i

pub below_next : (kind : Event → Bool) (n : ℕ) (p : Past) → count (by_below kind (suc n)) p ≡ count (by_below kind n) p + count (by_seat kind n) p
below_next kind n p = count_sum (by_below kind (suc n)) (by_below kind n) (by_seat kind n) (λ q i event. part_next (kind event) n i) p

pub none_low : (i : ℕ) → nat_lt i zero ≡ false
none_low i = grind (arith, nat_tests)

none_below : (kind : Bool) (i : ℕ) → one (kind && nat_lt i zero) ≡ 0
none_below false i = refl
none_below true i = ap one (none_low i)

below_none : (kind : Event → Bool) (p : Past) → count (by_below kind zero) p ≡ 0
below_none kind Start = refl
below_none kind (Then p i event) = omega (arith, below_none kind p, none_below (kind event) i)

-- what holds of each seat holds of all below a number
pub below_less : (kind more : Event → Bool) (p : Past) → ((k : ℕ) → count (by_seat kind k) p ≤ count (by_seat more k) p) → (n : ℕ) → count (by_below kind n) p ≤ count (by_below more n) p
below_less kind more p h zero = omega (arith, below_none kind p)
below_less kind more p h (suc n) = omega (arith, below_less kind more p h n, below_next kind n p, below_next more n p, h n)

-- a number above each seat of a record
abbrev above : Past → ℕ
above Start = 0
above (Then p i event) = above p + i + 1

all_below : (kind : Event → Bool) (n : ℕ) (p : Past) → above p ≤ n → count (by_below kind n) p ≡ told kind p
all_below kind n Start h = refl
all_below kind n (Then p i event) h =
    let low : nat_lt i n ≡ true = grind (arith, nat_tests) in
    omega (arith, all_below kind n p (omega arith), own_part (kind event) (nat_lt i n) low)

-- and of all seats
pub told_less : (kind more : Event → Bool) (p : Past) → ((k : ℕ) → count (by_seat kind k) p ≤ count (by_seat more k) p) → told kind p ≤ told more p
told_less kind more p h =
    let n : ℕ = above p in
    omega (arith, below_less kind more p h n, all_below kind n p (omega arith), all_below more n p (omega arith))
