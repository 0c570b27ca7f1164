-- Sums over the calls of all seats, where each number is told by one call: they are sums over what has the numbers.
use Rattle.std.proofs.Common.{Bool, List, Some, [], ap, arith, cond, false, get_or, length, refl, sym, true, ℕ, suc, zero, ◌++◌, ◌+◌, ◌<◌, ◌==◌, ◌∙◌, ◌∷◌, ◌≡◌, ◌≤◌, ◌⊎◌, inl, inr}
use Rattle.std.proofs.lemmas.Bool.{cases_eq}
use Rattle.std.proofs.lemmas.Bool.Decides.{nat_tests}
use Rattle.std.proofs.lemmas.List.{append_assoc}
use Rattle.std.proofs.lemmas.List.Sums.{get_or-le-sum_by, sum_by-append, sum_by-cons}
use Rattle.std.proofs.lemmas.Option.{get_or_from_slice_get, slice_get_within}
use Rattle.std.specs.Prelude.{count_by, slice_get, sum_by}
use Rattle.wfe_core.specs.Locals.{Group}
use Rattle.wfe_table.specs.all.RunLaw.{IsCall, total, total_of}

sum_zero : {X : Type 0} (xs : List X) → sum_by (λ (x : X). 0) xs ≡ 0
sum_zero [] = refl
sum_zero {X = X} (x ∷ xs) = omega (arith, sum_by-cons (λ (y : X). 0) x xs, sum_zero xs)

sum_add : {X : Type 0} (f g : X → ℕ) (xs : List X) → sum_by (λ x. f x + g x) xs ≡ sum_by f xs + sum_by g xs
sum_add f g [] = refl
sum_add {X = X} f g (x ∷ xs) = omega (arith, sum_by-cons (λ (y : X). f y + g y) x xs, sum_by-cons f x xs, sum_by-cons g x xs, sum_add f g xs)

-- what so many weigh, where there are none or one
record Weighs (weight count sum : ℕ) : Type 0 where
  none : count ≡ 0 → sum ≡ 0
  one : count ≡ 1 → sum ≡ weight

weighs_by : (weight n s : ℕ) (b : Bool) → n ≡ cond b 1 0 → s ≡ cond b weight 0 → Weighs weight n s
weighs_by weight n s true en es = record { none = λ e. absurd (omega (arith, e, en)); one = λ e. es }
weighs_by weight n s false en es = record { none = λ e. es; one = λ e. absurd (omega (arith, e, en)) }

weighs_add : (weight n m s t k u : ℕ) → Weighs weight n s → Weighs weight m t → k ≡ n + m → u ≡ s + t → Weighs weight k u
weighs_add weight n m s t k u a b ek eu = record {
  none = λ e.
      let x : n ≡ 0 = omega (arith, e, ek) in
      let y : m ≡ 0 = omega (arith, e, ek) in
      omega (arith, eu, a.none x, b.none y);
  one = λ e. by e (cases_eq n 0);
}
  where
    by : k ≡ 1 → (n ≡ 0) ⊎ (n ≡ 0 → ⊥) → u ≡ weight
    by e (inl z) = let y : m ≡ 1 = omega (arith, e, ek, z) in omega (arith, eu, a.none z, b.one y)
    by e (inr some) =
        let x : n ≡ 1 = omega (arith, e, ek, some) in
        let y : m ≡ 0 = omega (arith, e, ek, x) in
        omega (arith, eu, a.one x, b.none y)

weighs_list : {X : Type 0} (p : X → Bool) (weight : ℕ) (xs : List X) → Weighs weight (count_by p xs) (sum_by (λ x. cond (p x) weight 0) xs)
weighs_list p weight [] = weighs_by weight 0 0 false refl refl
weighs_list {X = X} p weight (x ∷ xs) =
    weighs_add weight (cond (p x) 1 0) (count_by p xs) (cond (p x) weight 0) (sum_by (λ (y : X). cond (p y) weight 0) xs) _ _ (weighs_by weight _ _ (p x) refl refl) (weighs_list p weight xs)
    (sum_by-cons (λ (y : X). cond (p y) 1 0) x xs) (sum_by-cons (λ (y : X). cond (p y) weight 0) x xs)

weighs_all : (p : Group → Bool) (weight : ℕ) (logs : List (List Group)) → Weighs weight (total_of p logs) (total (λ group. cond (p group) weight 0) logs)
weighs_all p weight [] = weighs_by weight 0 0 false refl refl
weighs_all p weight (log ∷ logs) =
    weighs_add weight (count_by p log) (total_of p logs) (sum_by (λ (group : Group). cond (p group) weight 0) log) (total (λ (group : Group). cond (p group) weight 0) logs) _ _
    (weighs_list p weight log) (weighs_all p weight logs)
    (sum_by-cons (λ (l : List Group). count_by p l) log logs) (sum_by-cons (λ (l : List Group). sum_by (λ (group : Group). cond (p group) weight 0) l) log logs)

total_zero : (logs : List (List Group)) → total (λ group. 0) logs ≡ 0
total_zero [] = refl
total_zero (log ∷ logs) = omega (arith, sum_by-cons (λ (l : List Group). sum_by (λ (group : Group). 0) l) log logs, sum_zero log, total_zero logs)

total_add : (f g : Group → ℕ) (logs : List (List Group)) → total (λ group. f group + g group) logs ≡ total f logs + total g logs
total_add f g [] = refl
total_add f g (log ∷ logs) =
    omega (arith, sum_by-cons (λ (l : List Group). sum_by (λ (group : Group). f group + g group) l) log logs, sum_by-cons (λ (l : List Group). sum_by f l) log logs, sum_by-cons (λ (l : List Group). sum_by g l) log logs, sum_add f g log, total_add f g logs)

-- What a call adds, by the number that it tells: of a list whose places count from a number on, the weight of the item with that number.
module _ {X : Type 0} (tells : ℕ → Group → Bool) (weigh : X → ℕ) where
  abbrev pub spread : ℕ → List X → Group → ℕ
  spread before [] group = 0
  spread before (x ∷ xs) group = cond (tells (before + 1) group) (weigh x) 0 + spread (before + 1) xs group

  -- where each number is told by one call
  pub total_spread : (before : ℕ) (xs : List X) (logs : List (List Group)) → ((number : ℕ) → before < number → number ≤ before + length xs → total_of (tells number) logs ≡ 1)
      → total (spread before xs) logs ≡ sum_by weigh xs
  total_spread before [] logs once = total_zero logs
  total_spread before (x ∷ xs) logs once =
      let first : total (λ (group : Group). cond (tells (before + 1) group) (weigh x) 0) logs ≡ weigh x =
      (weighs_all (tells (before + 1)) (weigh x) logs).one (once (before + 1) (omega arith) (omega arith)) in
      let later : total (spread (before + 1) xs) logs ≡ sum_by weigh xs = total_spread (before + 1) xs logs (λ number low high. once number (omega (arith, low)) (omega (arith, high))) in
      let parts : total (spread before (x ∷ xs)) logs ≡ total (λ (group : Group). cond (tells (before + 1) group) (weigh x) 0) logs + total (spread (before + 1) xs) logs =
      total_add (λ (group : Group). cond (tells (before + 1) group) (weigh x) 0) (spread (before + 1) xs) logs in
      omega (arith, parts, first, later, sum_by-cons weigh x xs)

  -- of a call that tells none
  pub spread_none : (before : ℕ) (xs : List X) (group : Group) → ((number : ℕ) → before < number → tells number group ≡ false) → spread before xs group ≡ 0
  spread_none before [] group none = refl
  spread_none before (x ∷ xs) group none =
      let here : cond (tells (before + 1) group) (weigh x) 0 ≡ 0 = ap (λ (b : Bool). cond b (weigh x) 0) (none (before + 1) (omega arith)) in
      omega (arith, here, spread_none (before + 1) xs group (λ number low. none number (omega (arith, low))))

  -- and of one that tells the number of this place
  pub spread_one : (before place : ℕ) (xs : List X) (x : X) (group : Group) → slice_get xs place ≡ Some x → ((number : ℕ) → tells number group ≡ (before + 1 + place == number)) → spread before xs group ≡ weigh x
  spread_one before place [] x group at only = absurd (cc)
  spread_one before zero (y ∷ xs) x group at only =
      let test : tells (before + 1) group ≡ true = only (before + 1) ∙ grind (arith, nat_tests) in
      let here : cond (tells (before + 1) group) (weigh y) 0 ≡ weigh y = ap (λ (b : Bool). cond b (weigh y) 0) test in
      let same : y ≡ x = cc in
      omega (arith, here, ap weigh same, spread_none (before + 1) xs group (λ number low. only number ∙ grind (arith, nat_tests)))
  spread_one before (suc place) (y ∷ xs) x group at only =
      let test : tells (before + 1) group ≡ false = only (before + 1) ∙ grind (arith, nat_tests) in
      let here : cond (tells (before + 1) group) (weigh y) 0 ≡ 0 = ap (λ (b : Bool). cond b (weigh y) 0) test in
      let further : before + 1 + suc place ≡ before + 1 + 1 + place = omega arith in
      let later : spread (before + 1) xs group ≡ weigh x =
      spread_one (before + 1) place xs x group at (λ number. only number ∙ ap (λ (n : ℕ). n == number) further) in
      omega (arith, here, later)

-- the element after the first ones
get_there : {X : Type 0} (before later : List X) (x : X) → slice_get (before ++ x ∷ later) (length before) ≡ Some x
get_there [] later x = refl
get_there (y ∷ before) later x = get_there before later x

-- Two weights that are the same of each call.
same_in : (f g : Group → ℕ) (whole before xs : List Group) → whole ≡ before ++ xs → ((first last : List Group) (group : Group) → whole ≡ first ++ group ∷ last → f group ≡ g group) → sum_by f xs ≡ sum_by g xs
same_in f g whole before [] e same = refl
same_in f g whole before (x ∷ xs) e same =
    omega (arith, sum_by-cons f x xs, sum_by-cons g x xs, same before xs x e, same_in f g whole (before ++ x ∷ []) xs (e ∙ sym (append_assoc before (x ∷ []) xs)) same)

same_from : (f g : Group → ℕ) (whole before logs : List (List Group)) → whole ≡ before ++ logs → ((first : List Group) (group : Group) → IsCall whole first group → f group ≡ g group) → total f logs ≡ total g logs
same_from f g whole before [] e same = refl
same_from f g whole before (log ∷ logs) e same =
    let here : sum_by f log ≡ sum_by g log =
    same_in f g log [] log refl
    (λ first last group split. same first group (record {
      later = last;
      log = record { seat = length before; at = ap (λ (all : List (List Group)). slice_get all (length before)) e ∙ get_there before logs log ∙ ap (λ (l : List Group). Some l) split };
    })) in
    omega (arith, sum_by-cons (λ (l : List Group). sum_by f l) log logs, sum_by-cons (λ (l : List Group). sum_by g l) log logs, here, same_from f g whole (before ++ log ∷ []) logs (e ∙ sym (append_assoc before (log ∷ []) logs)) same)

pub total_same : (f g : Group → ℕ) (logs : List (List Group)) → ((first : List Group) (group : Group) → IsCall logs first group → f group ≡ g group) → total f logs ≡ total g logs
total_same f g logs same = same_from f g logs [] logs refl same

-- A call that passes a test, where there is one.
pub record Found (p : Group → Bool) (logs : List (List Group)) : Type 0 where
  pub first : List Group
  pub group : Group
  pub call : IsCall logs first group
  pub passes : p group ≡ true

record FoundIn (p : Group → Bool) (log : List Group) : Type 0 where
  first : List Group
  group : Group
  last : List Group
  split : log ≡ first ++ group ∷ last
  passes : p group ≡ true

found_in : (p : Group → Bool) (log : List Group) → 1 ≤ count_by p log → FoundIn p log
found_in p [] some = absurd (omega (arith, some))
found_in p (x ∷ log) some = by (p x) refl (omega (arith, some, sum_by-cons (λ (y : Group). cond (p y) 1 0) x log)) (λ later. found_in p log later)
  where
    by : (b : Bool) → p x ≡ b → 1 ≤ cond b 1 0 + count_by p log → (1 ≤ count_by p log → FoundIn p log) → FoundIn p (x ∷ log)
    by true is some later = record { first = []; group = x; last = log; split = refl; passes = is }
    by false is some later =
        let found = later (omega (arith, some)) in
        record { first = x ∷ found.first; group = found.group; last = found.last; split = ap (λ (l : List Group). x ∷ l) found.split; passes = found.passes }

found_from : (p : Group → Bool) (whole before logs : List (List Group)) → whole ≡ before ++ logs → 1 ≤ total_of p logs → Found p whole
found_from p whole before [] e some = absurd (omega (arith, some))
found_from p whole before (log ∷ logs) e some =
    by (cases_eq (count_by p log) 0) (λ later. found_from p whole (before ++ log ∷ []) logs (e ∙ sym (append_assoc before (log ∷ []) logs)) later)
  where
    by : (count_by p log ≡ 0) ⊎ (count_by p log ≡ 0 → ⊥) → (1 ≤ total_of p logs → Found p whole) → Found p whole
    by (inl none) later = later (omega (arith, some, none, sum_by-cons (λ (l : List Group). count_by p l) log logs))
    by (inr any) later =
        let found = found_in p log (omega (arith, any)) in
        record {
          first = found.first;
          group = found.group;
          call = record {
            later = found.last;
            log = record { seat = length before; at = ap (λ (all : List (List Group)). slice_get all (length before)) e ∙ get_there before logs log ∙ ap (λ (l : List Group). Some l) found.split };
          };
          passes = found.passes;
        }

pub found : (p : Group → Bool) (logs : List (List Group)) → 1 ≤ total_of p logs → Found p logs
found p logs some = found_from p logs [] logs refl some

-- a call that passes a test is counted
pub passes_counted : (p : Group → Bool) (logs : List (List Group)) (first : List Group) (group : Group) → IsCall logs first group → p group ≡ true → 1 ≤ total_of p logs
passes_counted p logs first group call passes =
    let log : List Group = first ++ group ∷ call.later in
    let here : get_or logs call.log.seat log ≡ log = get_or_from_slice_get logs call.log.seat log log call.log.at in
    let test : ◌≡◌ {A = ℕ} (cond (p group) 1 0) 1 = ap (λ (b : Bool). cond b 1 0) passes in
    omega (
      arith,
      test,
      ap (λ (l : List Group). count_by p l) here,
      sum_by-append (λ (g : Group). cond (p g) 1 0) first (group ∷ call.later),
      sum_by-cons (λ (g : Group). cond (p g) 1 0) group call.later,
      get_or-le-sum_by (λ (l : List Group). count_by p l) logs call.log.seat log (slice_get_within logs call.log.seat log call.log.at),
    )
