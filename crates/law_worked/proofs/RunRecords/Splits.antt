-- What is so of each call and of each two calls of one seat, a plain reader finds, and the other way.
use Rattle.std.proofs.Common.{Bool, List, Some, [], ap, append-nil, append_assoc, refl, subst, suc, sym, true, zero, ℕ, ◌++◌, ◌<◌, ◌∷◌, ◌≡◌}
use Rattle.std.proofs.lemmas.Bool.Decides.{Decides-below_and}
use Rattle.std.specs.Bool.{Decides}
use Rattle.std.specs.List.{list_all, slice_get}
use Rattle.law_all.proofs.inv.model.Facts.{both, first_of, rest_of}
use Rattle.law_all.specs.inv.model.Locals.{Group}
use Rattle.law_all.specs.RunLaw.{InOrder, IsCall}
use Rattle.law_worked.specs.RunRecords.Readers.{each_below, each_call, each_in, each_pair, each_two}

-- of each call of a log

in_read : (test : List Group → Group → Bool) (before front : List Group) (group : Group) (later : List Group)
    → each_in test before (front ++ group ∷ later) ≡ true → test (before ++ front) group ≡ true
in_read test before [] group later e =
    subst (λ b. test b group ≡ true) (sym (append-nil before)) (first_of (test before group) (each_in test (before ++ group ∷ []) later) e)
in_read test before (x ∷ front) group later e =
    subst (λ b. test b group ≡ true) (append_assoc before (x ∷ []) front)
    (in_read test (before ++ x ∷ []) front group later (rest_of (test before x) (each_in test (before ++ x ∷ []) (front ++ group ∷ later)) e))

in_kept : (test : List Group → Group → Bool) (before log : List Group)
    → ((front : List Group) (group : Group) (later : List Group) → log ≡ front ++ group ∷ later → test (before ++ front) group ≡ true)
    → each_in test before log ≡ true
in_kept test before [] h = refl
in_kept test before (x ∷ log) h =
    both (test before x) (each_in test (before ++ x ∷ []) log) (subst (λ b. test b x ≡ true) (append-nil before) (h [] x log refl))
    (in_kept test (before ++ x ∷ []) log (λ front group later e.
    subst (λ b. test b group ≡ true) (sym (append_assoc before (x ∷ []) front)) (h (x ∷ front) group later (ap (λ l. x ∷ l) e))))

-- of each element

pub get_read : {X : Type 0} (test : X → Bool) (xs : List X) (place : ℕ) (x : X) → list_all test xs ≡ true → slice_get xs place ≡ Some x → test x ≡ true
get_read test [] place x e at = absurd (cc)
get_read test (y ∷ xs) zero x e at = let same : y ≡ x = cc in subst (λ z. test z ≡ true) same (first_of (test y) (list_all test xs) e)
get_read test (y ∷ xs) (suc place) x e at = get_read test xs place x (rest_of (test y) (list_all test xs) e) at

all_read : {X : Type 0} (test : X → Bool) (front : List X) (x : X) (later : List X) → list_all test (front ++ x ∷ later) ≡ true → test x ≡ true
all_read test [] x later e = first_of (test x) (list_all test later) e
all_read test (y ∷ front) x later e = all_read test front x later (rest_of (test y) (list_all test (front ++ x ∷ later)) e)

all_kept : {X : Type 0} (test : X → Bool) (xs : List X)
    → ((front : List X) (x : X) (later : List X) → xs ≡ front ++ x ∷ later → test x ≡ true) → list_all test xs ≡ true
all_kept test [] h = refl
all_kept test (y ∷ xs) h =
    both (test y) (list_all test xs) (h [] y xs refl) (all_kept test xs (λ front x later e. h (y ∷ front) x later (ap (λ l. y ∷ l) e)))

-- of each call of all seats

call_read : (test : List Group → Group → Bool) (logs : List (List Group)) (before : List Group) (group : Group)
    → each_call test logs ≡ true → IsCall logs before group → test before group ≡ true
call_read test logs before group e k =
    in_read test [] before group k.later (get_read (λ log. each_in test [] log) logs k.log.seat (before ++ group ∷ k.later) e k.log.at)

call_kept : (test : List Group → Group → Bool) (logs : List (List Group))
    → ((before : List Group) (group : Group) → IsCall logs before group → test before group ≡ true) → each_call test logs ≡ true
call_kept test [] h = refl
call_kept test (log ∷ logs) h =
    both (each_in test [] log) (each_call test logs)
    (in_kept test [] log (λ front group later e. h front group (record { later = later; log = record { seat = 0; at = ap Some e } })))
    (call_kept test logs (λ before group k. h before group (record { later = k.later; log = record { seat = suc k.log.seat; at = k.log.at } })))

pub decides_call : (test : List Group → Group → Bool) (P : List Group → Group → Type 0)
    → ((before : List Group) (group : Group) → Decides (test before group) (P before group))
    → (logs : List (List Group)) → Decides (each_call test logs) ((before : List Group) (group : Group) → IsCall logs before group → P before group)
decides_call test P each logs = (
  (λ e before group k. (each before group).0 (call_read test logs before group e k)),
  (λ h. call_kept test logs (λ before group k. (each before group).1 (h before group k))),
)

-- of each two calls of one seat

pair_read : (test : Group → Group → Bool) (logs : List (List Group)) (one two : Group) → each_pair test logs ≡ true → InOrder logs one two → test one two ≡ true
pair_read test logs one two e k =
    all_read (λ x. test x two) k.before one k.between
    (call_read (λ before x. list_all (λ y. test y x) before) logs (k.before ++ one ∷ k.between) two e
    (record {
      later = k.later;
      log = record {
        seat = k.log.seat;
        at = subst (λ log. slice_get logs k.log.seat ≡ Some log) (sym (append_assoc k.before (one ∷ k.between) (two ∷ k.later))) k.log.at;
      };
    }))

pair_kept : (test : Group → Group → Bool) (logs : List (List Group))
    → ((one two : Group) → InOrder logs one two → test one two ≡ true) → each_pair test logs ≡ true
pair_kept test logs h =
    call_kept (λ before x. list_all (λ y. test y x) before) logs (λ before two k.
    all_kept (λ y. test y two) before (λ front one between e.
    h one two (record {
      before = front;
      between = between;
      later = k.later;
      log = record {
        seat = k.log.seat;
        at =
            subst (λ log. slice_get logs k.log.seat ≡ Some log) (append_assoc front (one ∷ between) (two ∷ k.later))
            (subst (λ b. slice_get logs k.log.seat ≡ Some (b ++ two ∷ k.later)) e k.log.at);
      };
    })))

pub decides_pair : (test : Group → Group → Bool) (P : Group → Group → Type 0) → ((one two : Group) → Decides (test one two) (P one two))
    → (logs : List (List Group)) → Decides (each_pair test logs) ((one two : Group) → InOrder logs one two → P one two)
decides_pair test P each logs = (
  (λ e one two k. (each one two).0 (pair_read test logs one two e k)),
  (λ h. pair_kept test logs (λ one two k. (each one two).1 (h one two k))),
)

-- of the same two, each with the calls before it

two_read : (test : List Group → Group → List Group → Group → Bool) (logs : List (List Group)) (one two : Group) → each_two test logs ≡ true
    → (k : InOrder logs one two) → test k.before one (k.before ++ one ∷ k.between) two ≡ true
two_read test logs one two e k =
    in_read (λ early x. test early x (k.before ++ one ∷ k.between) two) [] k.before one k.between
    (call_read (λ before x. each_in (λ early y. test early y before x) [] before) logs (k.before ++ one ∷ k.between) two e
    (record {
      later = k.later;
      log = record {
        seat = k.log.seat;
        at = subst (λ log. slice_get logs k.log.seat ≡ Some log) (sym (append_assoc k.before (one ∷ k.between) (two ∷ k.later))) k.log.at;
      };
    }))

two_kept : (test : List Group → Group → List Group → Group → Bool) (logs : List (List Group))
    → ((one two : Group) (k : InOrder logs one two) → test k.before one (k.before ++ one ∷ k.between) two ≡ true) → each_two test logs ≡ true
two_kept test logs h =
    call_kept (λ before x. each_in (λ early y. test early y before x) [] before) logs (λ before two k.
    in_kept (λ early y. test early y before two) [] before (λ front one between e.
    subst (λ b. test front one b two ≡ true) (sym e)
    (h one two (record {
      before = front;
      between = between;
      later = k.later;
      log = record {
        seat = k.log.seat;
        at =
            subst (λ log. slice_get logs k.log.seat ≡ Some log) (append_assoc front (one ∷ between) (two ∷ k.later))
            (subst (λ b. slice_get logs k.log.seat ≡ Some (b ++ two ∷ k.later)) e k.log.at);
      };
    }))))

pub decides_two : (test : List Group → Group → List Group → Group → Bool) (P : List Group → Group → List Group → Group → Type 0)
    → ((early between : List Group) (one two : Group) → Decides (test early one (early ++ one ∷ between) two) (P early one (early ++ one ∷ between) two))
    → (logs : List (List Group))
    → Decides (each_two test logs) ((one two : Group) (k : InOrder logs one two) → P k.before one (k.before ++ one ∷ k.between) two)
decides_two test P each logs = (
  (λ e one two k. (each k.before k.between one two).0 (two_read test logs one two e k)),
  (λ h. two_kept test logs (λ one two k. (each k.before k.between one two).1 (h one two k))),
)

-- of each number below another

pub decides_below : (test : ℕ → Bool) (P : ℕ → Type 0) → ((k : ℕ) → Decides (test k) (P k)) → (n : ℕ) → Decides (each_below n test) ((k : ℕ) → k < n → P k)
decides_below test P each n = Decides-below_and test P (λ m. each_below m test) each refl (λ _. refl) n
