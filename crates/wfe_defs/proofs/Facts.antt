-- Tests of numbers, and of two tests at once.
use Rattle.std.proofs.Common.{ℕ, ◌≡◌, Bool, true, false, refl, arith, List, ◌+◌, ◌≤◌, sym, ◌∙◌, ◌<◌, None, ap, suc, inl, ◌⊎◌, inr, ◌/◌}
use Rattle.std.proofs.lemmas.Bool.Decides.{nat_tests}
use Rattle.std.specs.Prelude.{◌==◌, ◌&&◌, Option, not, ◌||◌, nat_lt, if◌then◌else◌, slice_index, slice_set, length, ◌-◌, is_none, ◌*◌, nat_le}
use Rattle.std.proofs.lemmas.List.{get_or-set_same}

pub same_number : (n : ℕ) → (n == n) ≡ true
same_number n = grind (arith, nat_tests)

pub number_is : (a b : ℕ) → (a == b) ≡ true → a ≡ b
number_is a b h = grind (arith, nat_tests)

pub both : (a b : Bool) → a ≡ true → b ≡ true → (a && b) ≡ true
both true b h k = k
both false b h k = h

pub first_of : (a b : Bool) → (a && b) ≡ true → a ≡ true
first_of true b h = refl
first_of false b h = h

pub rest_of : (a b : Bool) → (a && b) ≡ true → b ≡ true
rest_of true b h = h
rest_of false b h = absurd (cc)

pub by_cases : (b : Bool) (P : Type 0) → (b ≡ true → P) → (b ≡ false → P) → P
by_cases true P f g = f refl
by_cases false P f g = g refl

pub below_unless : (there : Bool) (many room : ℕ) → many ≤ room → (not there && many == room) ≡ false → (there || nat_lt many room) ≡ true
below_unless true many room a h = refl
below_unless false many room a h = grind (arith, nat_tests)

pub both_below : (same : Bool) (a b clock : ℕ) → a ≤ clock → b ≤ clock → (if same then a else b) ≤ clock
both_below true a b clock h k = h
both_below false a b clock h k = k

pub if_implies : (still : Bool) (a b c d : Bool) → (a ≡ true → c ≡ true) → (b ≡ true → d ≡ true) → (if still then a else b) ≡ true → (if still then c else d) ≡ true
if_implies true a b c d f g h = f h
if_implies false a b c d f g h = g h

pub and_false : (x : Bool) → (x && false) ≡ false
and_false true = refl
and_false false = refl

pub or_false : (x : Bool) → (x || false) ≡ x
or_false true = refl
or_false false = refl

pub false_by : (x : Bool) → (x ≡ true → ⊥) → x ≡ false
false_by true h = absurd (h refl)
false_by false h = refl

pub true_of_not : (x : Bool) → not x ≡ false → x ≡ true
true_of_not true y = refl
true_of_not false y = absurd (cc)

pub false_of_not : (b : Bool) → not b ≡ true → b ≡ false
false_of_not true h = absurd (cc)
false_of_not false h = refl

pub zero_either : (b : Bool) → ◌≡◌ {A = ℕ} (if b then 0 else 0) 0
zero_either true = refl
zero_either false = refl

pub not_of_false : (b : Bool) → b ≡ false → not b ≡ true
not_of_false true e = sym e
not_of_false false e = refl

pub false_is_true : (b : Bool) → b ≡ false → b ≡ true → false ≡ true
false_is_true b e h = sym e ∙ h

pub false_not_true : (b : Bool) → b ≡ false → b ≡ true → ⊥
false_not_true b h k = cc

pub or_more : (a b : Bool) → b ≡ true → (a || b) ≡ true
or_more true b h = refl
or_more false b h = h

pub or_along : (a b c : Bool) → (b ≡ true → c ≡ true) → (a || b) ≡ true → (a || c) ≡ true
or_along true b c f h = refl
or_along false b c f h = f h

pub not_or_false : (a b : Bool) → (not a || b) ≡ false → (a ≡ true) × (b ≡ false)
not_or_false true b h = (refl, h)
not_or_false false b h = absurd (cc)

pub and_true : (a : Bool) → a ≡ true → (a && true) ≡ true
and_true true h = refl
and_true false h = absurd (cc)

pub true_not_false : (busy : Bool) → busy ≡ true → busy ≡ false → ⊥
true_not_false busy h k = cc

pub set_there : (tags : List ℕ) (index x : ℕ) → index < length tags → slice_index (slice_set tags index x) index ≡ x
set_there tags index x h = get_or-set_same tags index x 0 h

pub none_by : (x : Option ℕ) → x ≡ None → is_none x ≡ true
none_by x e = ap is_none e

pub same_or : (n : ℕ) (b : Bool) → ((n == n) || b) ≡ true
same_or n b = let e : (n == n) ≡ true = grind (arith, nat_tests) in rw e refl

pub if_same : (word : ℕ) (there : Bool) → word ≡ (if there then word else word)
if_same word true = refl
if_same word false = refl

pub one_less_one_more : (link : ℕ) → (link == 0) ≡ false → link ≡ link - 1 + 1
one_less_one_more link h = grind (arith, nat_tests)

pub zero_of_test : (n : ℕ) → (n == 0) ≡ true → n ≡ 0
zero_of_test n h = grind (arith, nat_tests)

pub one_more_less : (s : ℕ) → s + 1 - 1 ≡ s
one_more_less s = omega arith

pub one_is_suc : (n : ℕ) → n + 1 ≡ suc n
one_is_suc n = omega arith

pub below_none : (n : ℕ) → n < 0 → ⊥
below_none n h = omega arith

pub zero_test : (index : ℕ) → index ≡ 0 → (index == 0) ≡ true
zero_test index e = grind (arith, nat_tests)

pub value_there : (f : ℕ → ℕ) (row number t n : ℕ) → f row ≡ number → (row == t && (number == n)) ≡ true → f t ≡ n
value_there f row number t n h e =
    let here : row ≡ t = grind (arith, nat_tests) in
    let same : number ≡ n = grind (arith, nat_tests) in
    sym (ap f here) ∙ h ∙ same

pub unless_true : (x same : Bool) → (if same then false else x) ≡ true → x ≡ true
unless_true x true h = absurd (cc)
unless_true x false h = h

pub not_right : (x y : Bool) → (x && not y) ≡ true → y ≡ false
not_right true true h = cc
not_right true false h = refl
not_right false y h = cc

pub either_true : (a b : Bool) → (a || b) ≡ true → (a ≡ true) ⊎ (b ≡ true)
either_true true b h = inl refl
either_true false b h = inr h

pub implies_or : (h b : Bool) → (h ≡ true → b ≡ true) → (not h || b) ≡ true
implies_or true b w = w refl
implies_or false b w = refl

pub then_of : (null now : Bool) → null ≡ true → (not null || now) ≡ true → now ≡ true
then_of true now e h = h
then_of false now e h = absurd (cc)

pub or_left_true : (a b : Bool) → a ≡ true → (a || b) ≡ true
or_left_true true b h = refl
or_left_true false b h = absurd (cc)

pub and_right_false : (a b : Bool) → b ≡ false → (a && b) ≡ false
and_right_false true b h = h
and_right_false false b h = refl

pub fits_free : (seat seats : ℕ) (busy may : Bool) → seat < seats → busy ≡ false → may ≡ true → (nat_lt seat seats && (not busy && may)) ≡ true
fits_free seat seats busy may h b m = let low : nat_lt seat seats ≡ true = grind (arith, nat_tests) in rw (low, b, m) refl

pub fits_busy : (seat seats : ℕ) (busy : Bool) → seat < seats → busy ≡ true → (nat_lt seat seats && busy) ≡ true
fits_busy seat seats busy h b = let low : nat_lt seat seats ≡ true = grind (arith, nat_tests) in rw (low, b) refl

pub three_more : (steps x : ℕ) → (steps == 3 * x) ≡ true → (steps + 1 == 3 * x + 1) ≡ true
three_more steps x h = grind (arith, nat_tests)

pub same_both : (x y : ℕ) → (x == x && (y == y)) ≡ true
same_both x y = grind (arith, nat_tests)

pub le_of_test : (n most : ℕ) → nat_le n most ≡ true → n ≤ most
le_of_test n most h = grind (arith, nat_tests)

pub lt_test : (seat seats : ℕ) → seat < seats → nat_lt seat seats ≡ true
lt_test seat seats h = grind (arith, nat_tests)

pub is_one_more : (link slot : ℕ) → link ≡ slot + 1 → (link == slot + 1) ≡ true
is_one_more link slot h = grind (arith, nat_tests)

pub one_before : (r lost : ℕ) → r ≡ lost + 1 → r - 1 ≡ lost
one_before r lost e = omega (arith, e)

pub same_test : (a b : ℕ) → a ≡ b → (a == b) ≡ true
same_test a b h = grind (arith, nat_tests)

pub le_test : (m most : ℕ) → m ≤ most → nat_le m most ≡ true
le_test m most h = grind (arith, nat_tests)

pub words_below : (s slots : ℕ) → s ≤ slots → s / 64 ≤ slots / 64
words_below s slots m = omega arith

pub below_length : (index indexes length : ℕ) → index < indexes → indexes ≤ 8 → length ≡ 8 → index < length
below_length index indexes length a b e = omega arith

pub lt_test_2 : (version count last : ℕ) → version ≤ count → count ≤ last → (version == last) ≡ false → nat_lt version last ≡ true
lt_test_2 version count last a b h = grind (arith, nat_tests)

pub le_one_more : (n made count most : ℕ) → n ≡ made + 1 → most ≡ count + 1 → nat_le made count ≡ true → nat_le n most ≡ true
le_one_more n made count most e f h = rw e (rw f (grind (arith, nat_tests)))

pub no_truth : false ≡ true → ⊥
no_truth h = cc

pub if_false : {X : Type 0} (b : Bool) (x y : X) → b ≡ false → (if b then x else y) ≡ y
if_false true x y e = absurd (cc)
if_false false x y e = refl

pub if_true : {X : Type 0} (b : Bool) (x y : X) → b ≡ true → (if b then x else y) ≡ x
if_true true x y e = refl
if_true false x y e = absurd (cc)

pub if_by : {A : Type 0} → (b : Bool) (x y : A) (P : A → Type 0) → (b ≡ true → P x) → (b ≡ false → P y) → P (if b then x else y)
if_by true x y P f g = f refl
if_by false x y P f g = g refl

pub no_truth_2 : {A : Type 0} → false ≡ true → A
no_truth_2 h = absurd (cc)
