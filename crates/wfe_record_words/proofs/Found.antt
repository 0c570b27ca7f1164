-- Values that are read one after the other are found where their texts stand so.
use Rattle.std.proofs.Common.{◌≡◌, ◌++◌, ℕ, List, Some, ◌∙◌, ◌≤◌}
use Rattle.wfe_record_words.specs.Reader.{Read, one, two, three, four, done, since}
use Rattle.wfe_record_words.proofs.Joined.{Reads, step_found, since_found}

pub one_found : {A B : Type 0} {a : Read A} {ta : A → List (List ℕ)} {Ia : A → Type 0} → Reads a ta Ia → (f : A → B) (x : A) (rest : List (List ℕ)) → Ia x → one a f (ta x ++ rest) ≡ Some (f x, rest)
one_found a f x rest i = step_found a (λ x. done (f x)) x rest i

pub two_found : {A B C : Type 0} {a : Read A} {b : Read B} {ta : A → List (List ℕ)} {tb : B → List (List ℕ)} {Ia : A → Type 0} {Ib : B → Type 0} → Reads a ta Ia → Reads b tb Ib
    → (f : A → B → C) (x : A) (y : B) (rest : List (List ℕ)) → Ia x → Ib y → two a b f (ta x ++ (tb y ++ rest)) ≡ Some (f x y, rest)
two_found {b = b'} {tb = tb} a b f x y rest i j = step_found a (λ x. one b' (f x)) x (tb y ++ rest) i ∙ one_found b (f x) y rest j

pub three_found : {A B C D : Type 0} {a : Read A} {b : Read B} {c : Read C} {ta : A → List (List ℕ)} {tb : B → List (List ℕ)} {tc : C → List (List ℕ)} {Ia : A → Type 0} {Ib : B → Type 0} {Ic : C → Type 0}
    → Reads a ta Ia → Reads b tb Ib → Reads c tc Ic
    → (f : A → B → C → D) (x : A) (y : B) (z : C) (rest : List (List ℕ)) → Ia x → Ib y → Ic z → three a b c f (ta x ++ (tb y ++ (tc z ++ rest))) ≡ Some (f x y z, rest)
three_found {b = b'} {c = c'} {tb = tb} {tc = tc} a b c f x y z rest i j k = step_found a (λ x. two b' c' (f x)) x (tb y ++ (tc z ++ rest)) i ∙ two_found b c (f x) y z rest j k

pub four_found : {A B C D E : Type 0} {a : Read A} {b : Read B} {c : Read C} {d : Read D} {ta : A → List (List ℕ)} {tb : B → List (List ℕ)} {tc : C → List (List ℕ)} {td : D → List (List ℕ)}
    {Ia : A → Type 0} {Ib : B → Type 0} {Ic : C → Type 0} {Id : D → Type 0} → Reads a ta Ia → Reads b tb Ib → Reads c tc Ic → Reads d td Id
    → (f : A → B → C → D → E) (x : A) (y : B) (z : C) (w : D) (rest : List (List ℕ)) → Ia x → Ib y → Ic z → Id w → four a b c d f (ta x ++ (tb y ++ (tc z ++ (td w ++ rest)))) ≡ Some (f x y z w, rest)
four_found {b = b'} {c = c'} {d = d'} {tb = tb} {tc = tc} {td = td} a b c d f x y z w rest i j k l =
    step_found a (λ x. three b' c' d' (f x)) x (tb y ++ (tc z ++ (td w ++ rest))) i ∙ three_found b c d (f x) y z w rest j k l

-- the same, in versions that have it
pub none_since : {B : Type 0} (from version : ℕ) → from ≤ version → (x : B) (rest : List (List ℕ)) → since from version (done x) rest ≡ Some (x, rest)
none_since from version l x rest = since_found from version (done x) rest l

pub one_since : {A B : Type 0} (from version : ℕ) → from ≤ version → {a : Read A} {ta : A → List (List ℕ)} {Ia : A → Type 0} → Reads a ta Ia → (f : A → B) (x : A) (rest : List (List ℕ)) → Ia x
    → since from version (one a f) (ta x ++ rest) ≡ Some (f x, rest)
one_since from version l {a = a'} {ta = ta} a f x rest i = since_found from version (one a' f) (ta x ++ rest) l ∙ one_found a f x rest i

pub two_since : {A B C : Type 0} (from version : ℕ) → from ≤ version → {a : Read A} {b : Read B} {ta : A → List (List ℕ)} {tb : B → List (List ℕ)} {Ia : A → Type 0} {Ib : B → Type 0} → Reads a ta Ia → Reads b tb Ib
    → (f : A → B → C) (x : A) (y : B) (rest : List (List ℕ)) → Ia x → Ib y → since from version (two a b f) (ta x ++ (tb y ++ rest)) ≡ Some (f x y, rest)
two_since from version l {a = a'} {b = b'} {ta = ta} {tb = tb} a b f x y rest i j = since_found from version (two a' b' f) (ta x ++ (tb y ++ rest)) l ∙ two_found a b f x y rest i j

pub three_since : {A B C D : Type 0} (from version : ℕ) → from ≤ version → {a : Read A} {b : Read B} {c : Read C} {ta : A → List (List ℕ)} {tb : B → List (List ℕ)} {tc : C → List (List ℕ)}
    {Ia : A → Type 0} {Ib : B → Type 0} {Ic : C → Type 0} → Reads a ta Ia → Reads b tb Ib → Reads c tc Ic
    → (f : A → B → C → D) (x : A) (y : B) (z : C) (rest : List (List ℕ)) → Ia x → Ib y → Ic z → since from version (three a b c f) (ta x ++ (tb y ++ (tc z ++ rest))) ≡ Some (f x y z, rest)
three_since from version l {a = a'} {b = b'} {c = c'} {ta = ta} {tb = tb} {tc = tc} a b c f x y z rest i j k =
    since_found from version (three a' b' c' f) (ta x ++ (tb y ++ (tc z ++ rest))) l ∙ three_found a b c f x y z rest i j k
